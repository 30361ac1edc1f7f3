-- The program's walk: its cursor and its map at each turn are those of the definition's walk, which has come to the same place.
-- Assumes nothing.
use mathlib.Core.List.{List, ◌++◌, append-nil}
use mathlib.Core.Path.{◌≡◌, refl, sym, ap, ◌∙◌}
use Prim.Native.Nat.{ℕ, ◌+◌, ◌≤◌}
use lib.ListN.{length}
use Rattle.std.proofs.Common.{Ok, Err}
use Rattle.acx.proofs.Going.{counts_stay}
use Rattle.acx.specs.Walk.{reported}
use Rattle.answer.specs.Checks.{failure}
use Rattle.answer.specs.Report.{Outcome, acceptance, refusal, address}
use Rattle.answer.specs.declared.Fault.{Fault}
use Rattle.entries.specs.Entries.{Read, read}
use Rattle.entries.specs.declared.IndexEntry.{IndexEntry}
use Rattle.entries.specs.declared.IndexEntry.TheVariants.{End}
use Rattle.events.proofs.Events.{marks_append}
use Rattle.events.specs.Events.{Event, marks, blank, Ran, Check, failed, Noted}
use Rattle.pieces.proofs.Applying.{ending_passed}
use Rattle.pieces.specs.AtBases.{start_of}
use Rattle.pieces.specs.Pieces.{events}
use Rattle.pieces.specs.declared.Bases.{Bases}
use Rattle.records.specs.declared.Entry.{Entry}
use Rattle.index.proofs.Cursors.{done_by, Tracks, tracks_first, tracks_found, tracks_ends, tracks_lies, tracks_on, tracks_further}
use Rattle.index.proofs.Turning.{turn_is, end_none, events_after}
use Rattle.index.specs.Cursor.{first_cursor, advanced, Lies}
use Rattle.index.specs.Rules.{Onward}
use Rattle.index.specs.Walk.{applied, Progress, begun, entry_at, checked_as, checked, stepped, entries_from}
use Rattle.index.specs.declared.Cursor.{Cursor}

-- the walk began with a clear map, and stands at the cursor c with p
pub record Going (index : List ℕ) (b : Bases) (c : Cursor) (p : List ℕ) : Type 0 where
  pub progress : Progress
  pub came : Tracks index b c progress
  pub map : p ≡ marks (done_by b progress) blank

module _ {index : List ℕ} {b : Bases} where
  -- before the first entry
  pub going_first : {p : List ℕ} → p ≡ blank → 1 ≤ length index → Going index b first_cursor p
  unfolding events marks
  going_first e l = record { progress = begun; came = tracks_first l; map = e }

  module _ {c : Cursor} {p : List ℕ} (x : Going index b c p) where
    -- the definition's progress, its events and what they left in the map
    abbrev here : Progress
    here = x.progress

    abbrev before : List Event
    before = done_by b here

    abbrev there : List ℕ
    there = marks before blank

    -- an entry that cannot be read ends the walk, at its place
    pub going_unread : {fault : Fault} {q : Outcome} → Err fault ≡ read index c.at → q ≡ refusal fault c.at 0
        → Noted Outcome (reported b (entries_from index b begun blank)) blank q p
    unfolding checked
    going_unread {fault} e eq =
        let w : checked index b here there ≡ failed fault here.at =
        ap (λ (q : Read). checked_as index b here q there) (tracks_found x.came e) in
        let o = tracks_ends x.came _ (turn_is index b here there (failure fault here.at) _ (ap (λ (o : Ran Check). o.answer) w) refl) in
        rw o
        (record {
          answer = eq ∙ ap (λ (k : Cursor). refusal fault k.at 0) x.came.here;
          map =
              x.map
              ∙ ap (λ (es : List Event). marks es blank) (sym (append-nil before))
              ∙ ap (λ (o : Ran Check). marks (before ++ o.events) blank) (sym w);
        })

    module _ {found : IndexEntry} (is : Ok found ≡ read index c.at) where
      found_is : entry_at index here ≡ Ok found
      found_is = tracks_found x.came is

      -- the entry lies in the index
      pub going_lies : (limit : ℕ) → length index ≤ limit → Lies limit found
      going_lies limit l = tracks_lies x.came found_is limit l

      module _ {r : Check} {p' : List ℕ} (d : Noted Check (applied index c.at b found p) p r p') where
        checked_is : checked index b here there ≡ applied index c.at b found p
        unfolding checked
        checked_is =
            ap (λ (q : Read). checked_as index b here q there) found_is
            ∙ ap (λ (k : Cursor). applied index k.at b found there) (sym x.came.here)
            ∙ ap (λ (l : List ℕ). applied index c.at b found l) (sym x.map)

        answer_is : (checked index b here there).answer ≡ r
        answer_is = ap (λ (o : Ran Check). o.answer) checked_is ∙ sym d.answer

        now : p' ≡ marks (before ++ (checked index b here there).events) blank
        now =
            d.map
            ∙ ap (λ (o : Ran Check). marks o.events p) (sym checked_is)
            ∙ ap (marks (checked index b here there).events) x.map
            ∙ sym (marks_append before (checked index b here there).events blank)

        -- a fault ends the walk, at the entry
        pub going_fails : {fault : Fault} {offset : ℕ} {q : Outcome} → r ≡ failure fault offset → q ≡ refusal fault c.at 0
            → Noted Outcome (reported b (entries_from index b begun blank)) blank q p'
        going_fails {fault} {offset} e eq =
            let o = tracks_ends x.came _ (turn_is index b here there (failure fault offset) _ (answer_is ∙ e) refl) in
            rw o (record { answer = eq ∙ ap (λ (k : Cursor). refusal fault k.at 0) x.came.here; map = now })

        -- the start of an end entry that passed is an address
        pub going_start : {entry : Entry} {next : ℕ} → r ≡ Ok tt → found ≡ End entry next → address (start_of b entry) ≤ 65535
        unfolding applied
        going_start {entry} {next} e f =
            let a : (applied index c.at b (End entry next) p).answer ≡ Ok tt =
            ap (λ (q : IndexEntry). (applied index c.at b q p).answer) (sym f) ∙ sym d.answer ∙ e in
            (ending_passed c.at b entry next (length index) a).0

        -- such an entry ends the walk with an acceptance
        pub going_ends : {entry : Entry} {next : ℕ} → r ≡ Ok tt → found ≡ End entry next
            → Noted Outcome (reported b (entries_from index b begun blank)) blank (acceptance (start_of b entry) c.placed c.adjusted 0 0) p'
        going_ends {entry} {next} e f =
            let end : entry_at index here ≡ Ok (End entry next) = found_is ∙ ap (λ (q : IndexEntry). Ok q) f in
            let o = tracks_ends x.came _ (turn_is index b here there (Ok tt) (Ok (End entry next)) (answer_is ∙ e) end) in
            let counts = ap (λ (k : Cursor). acceptance (start_of b entry) k.placed k.adjusted 0 0) x.came.here in
            rw o (record { answer = counts ∙ counts_stay _ before (end_none index b here there entry next end); map = now })

        module _ (e : r ≡ Ok tt) (on : Onward (Ok found)) where
          -- an entry that passed and is code leads on
          pub going_on : Going index b (advanced c found) p'
          going_on =
              let ok : (checked index b here there).answer ≡ Ok tt = answer_is ∙ e in
              record {
                progress = stepped index here (Ok found);
                came = tracks_on x.came found_is on ok;
                map = now ∙ ap (λ (es : List Event). marks es blank) (sym (events_after index b here there (Ok found) found_is on ok));
              }

          -- with the cursor further on
          pub going_further : c.at + 6 ≤ (advanced c found).at
          going_further = tracks_further x.came found_is on (answer_is ∙ e)
