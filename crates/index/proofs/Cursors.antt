-- The definition's walk has come to the program's cursor: what holds there, and what an entry that is read there leads to.
-- Assumes nothing.
use mathlib.Core.List.{List, ◌++◌, map}
use mathlib.Core.Path.{◌≡◌, refl, sym, ap, ◌∙◌}
use Prim.Native.Nat.{ℕ, ◌+◌, ◌*◌, ◌≤◌}
use native.Mathlib.Omega.{arith}
use lib.ListN.{length}
use Rattle.std.proofs.Common.{Ok}
use Rattle.acx.specs.Walk.{Verdict, refused}
use Rattle.answer.specs.declared.Fault.TheVariants.{CutShort}
use Rattle.entries.proofs.Reading.{lies_as}
use Rattle.entries.specs.Entries.{read, Read}
use Rattle.entries.specs.declared.IndexEntry.{IndexEntry}
use Rattle.entries.specs.declared.IndexEntry.TheVariants.{Code, End}
use Rattle.events.proofs.Walks.{walk_goes_on, walk_ends}
use Rattle.events.specs.Events.{Event, marks, blank, placed_in, adjusted_in}
use Rattle.events.specs.Walk.{ends, after, bytes_left}
use Rattle.pieces.specs.Pieces.{Outline, events}
use Rattle.pieces.specs.declared.Bases.{Bases}
use Rattle.records.specs.declared.Entry.{Entry}
use Rattle.index.proofs.Hollow.{hollow}
use Rattle.index.proofs.Standing.{placed_by, adjusted_by, Stands, stands_first, stands_on, counts_after}
use Rattle.index.proofs.Turning.{further, entry_lies, turn_events, turn_on, turn_falls, events_after}
use Rattle.index.proofs.Walking.{Passes}
use Rattle.index.specs.Cursor.{first_cursor, advanced, Lies}
use Rattle.index.specs.Rules.{Onward}
use Rattle.index.specs.Walk.{Progress, begun, entry_at, checked, stepped, turn, entries_from}
use Rattle.index.specs.declared.Cursor.{Cursor}

-- ---- the cursor

-- the program's cursor where a walk stands
abbrev pub cursor_of : Bases → Progress → Cursor
cursor_of b s = record { at = s.at; placed = placed_by b s.outlines; adjusted = adjusted_by b s.outlines }

-- the events of the entries behind it
abbrev pub done_by : Bases → Progress → List Event
done_by b s = events b (map hollow s.outlines)

cursor_same : (at i j k l : ℕ) → i ≡ j → k ≡ l
    → ◌≡◌ {A = Cursor} (record { at = at; placed = i; adjusted = k }) (record { at = at; placed = j; adjusted = l })
cursor_same at i j k l e f = rw (e, f) refl

-- the cursor after an entry is that of the walk after it
advanced_is : (index : List ℕ) (b : Bases) (s : Progress) (e : IndexEntry) → entry_at index s ≡ Ok e → Onward (Ok e) → Passes index b s
    → advanced (cursor_of b s) e ≡ cursor_of b (stepped index s (Ok e))
advanced_is index b s (Code kind address n from count) is o ok =
    let k = counts_after index b s _ kind address n from count is ok in
    cursor_same (from + count) _ _ _ _ (sym k.0) (sym k.1)
advanced_is index b s (End entry next) is o ok = absurd o

-- an entry that is not the end is code
pub onward_else : (e : IndexEntry) → ((entry : Entry) (next : ℕ) → e ≡ End entry next → ⊥) → Onward (Ok e)
onward_else (Code kind address n from count) h = tt
onward_else (End entry next) h = absurd (h entry next refl)

-- ---- where the walk has come to

-- the walk has come to s, where the program's cursor is c
pub record Tracks (index : List ℕ) (b : Bases) (c : Cursor) (s : Progress) : Type 0 where
  pub here : c ≡ cursor_of b s
  pub in_index : s.at ≤ length index
  pub stands : Stands b s
  pub came : entries_from index b begun blank ≡ after (done_by b s) (entries_from index b s (marks (done_by b s) blank))

module _ {index : List ℕ} {b : Bases} where
  -- before the first entry
  pub tracks_first : 1 ≤ length index → Tracks index b first_cursor begun
  unfolding events placed_in adjusted_in marks
  tracks_first l = record { here = refl; in_index = l; stands = stands_first b; came = refl }

  module _ {c : Cursor} {s : Progress} (x : Tracks index b c s) where
    -- the cursor is in the index, and the counts in proportion
    pub tracks_counts : (c.at ≤ length index) × (c.placed ≤ 43 * c.at) × (c.adjusted ≤ c.at)
    tracks_counts =
        let at = ap (λ (k : Cursor). k.at) x.here in (
          omega (arith, at, x.in_index),
          omega (arith, at, ap (λ (k : Cursor). k.placed) x.here, x.stands.placed),
          omega (arith, at, ap (λ (k : Cursor). k.adjusted) x.here, x.stands.adjusted),
        )

    -- what the program reads is the definition's
    pub tracks_found : {found : Read} → found ≡ read index c.at → entry_at index s ≡ found
    tracks_found is = ap (λ (k : Cursor). read index k.at) (sym x.here) ∙ sym is

    -- the turn there ends the walk
    pub tracks_ends : (v : Verdict Outline) → (turn index b s (marks (done_by b s) blank)).answer ≡ ends v
        → entries_from index b begun blank ≡ record { answer = v; events = done_by b s ++ (checked index b s (marks (done_by b s) blank)).events }
    unfolding entries_from
    tracks_ends v e =
        walk_ends (turn index b) (λ z. refused CutShort z.at) (λ z. bytes_left index z.at) (turn_falls index b) _ (done_by b s) s blank x.came v e
        ∙ ap (λ (es : List Event). record { answer = v; events = done_by b s ++ es }) (turn_events index b s _)

    module _ {found : IndexEntry} (is : entry_at index s ≡ Ok found) where
      -- the entry lies in the index
      pub tracks_lies : (limit : ℕ) → length index ≤ limit → Lies limit found
      tracks_lies limit l = entry_lies index s.at limit found (lies_as index s.at (Ok found) is) l

      module _ (on : Onward (Ok found)) (ok : Passes index b s) where
        -- one that passed leads on
        pub tracks_on : Tracks index b (advanced c found) (stepped index s (Ok found))
        unfolding entries_from
        tracks_on =
            let p = marks (done_by b s) blank in
            let es = ap (λ (fs : List Event). done_by b s ++ fs) (turn_events index b s p) ∙ sym (events_after index b s p (Ok found) is on ok) in
            record {
              here = ap (λ (k : Cursor). advanced k found) x.here ∙ advanced_is index b s found is on ok;
              in_index = (further index s (Ok found) is on).1;
              stands = stands_on index b s p (Ok found) x.stands is on ok;
              came =
                  rw es at
                  (walk_goes_on (turn index b) (λ z. refused CutShort z.at) (λ z. bytes_left index z.at) (turn_falls index b) _ (done_by b s) s blank
                  x.came (stepped index s (Ok found)) (turn_on index b s p (Ok found) is on ok));
            }

        -- with the cursor further on
        pub tracks_further : c.at + 6 ≤ (advanced c found).at
        tracks_further = omega (arith, ap (λ (k : Cursor). k.at) x.here, ap (λ (k : Cursor). k.at) tracks_on.here, (further index s (Ok found) is on).0)
