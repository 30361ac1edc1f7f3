-- An index that holds outlines, with sound fields, is accepted wherever they and its start fit, and refused where they do not: specs/Where.antt.
-- Assumes nothing.
use mathlib.Core.Bool.{true, false≢true}
use mathlib.Core.List.{List, ◌∷◌, map}
use mathlib.Core.Path.{◌≡◌, refl, sym, ap, ◌∙◌, subst}
use Prim.Native.Nat.{ℕ, ◌+◌, ◌≤◌}
use native.Mathlib.Omega.{arith}
use lib.ListN.{length, replicate}
use Rattle.answer.specs.Checks.{failure}
use Rattle.std.proofs.Common.{Ok, Err}
use Rattle.acx.proofs.Settling.{Settles, fits, unfit, settled_where}
use Rattle.acx.specs.Call.{in_range}
use Rattle.acx.specs.Walk.{Verdict, accepted, refused}
use Rattle.acx.specs.Where.{PiecesUnfit, earlier, too_high, overlaps, HandlerUnfit, of_pieces, of_start, AcceptedWhere}
use Rattle.answer.specs.declared.Fault.{Fault}
use Rattle.entries.specs.Entries.{fields_to, all_suit, Read}
use Rattle.entries.specs.declared.IndexEntry.TheVariants.{Code, End}
use Rattle.events.proofs.Checks.{passed_is}
use Rattle.events.proofs.Events.{length_marks, length_blank, length_run}
use Rattle.events.specs.Events.{Event, marks, blank, Ran, Check}
use Rattle.events.specs.Lists.{Each}
use Rattle.events.specs.Trace.{Trace, at_start, after_step}
use Rattle.pieces.proofs.Applying.{ending_passed}
use Rattle.pieces.proofs.Checks.{placing_passed, limit_le}
use Rattle.pieces.proofs.Passing.{Unplaced, ends_above, taken, placing_failed, apart_clear, ending_failed}
use Rattle.pieces.specs.AtBases.{placing}
use Rattle.pieces.specs.Pieces.{Outline, place_of, limit_of, events}
use Rattle.pieces.specs.Places.{PiecesApart, PiecesFit, FieldsSound}
use Rattle.pieces.specs.declared.Bases.{Bases}
use Rattle.records.specs.declared.Entry.{Entry}
use Rattle.records.specs.declared.Kind.{Kind}
use Rattle.words.specs.Runs.{part}
use Rattle.index.proofs.Coding.{code_fails, code_passes, placed_adjusts}
use Rattle.index.proofs.Holding.{Readable, Leads, at_first, and_then, Holds}
use Rattle.index.proofs.Hollow.{hollow, hollow_outlines}
use Rattle.index.proofs.Indexed.{hollow_inside, outline_fits, index_accepted}
use Rattle.index.proofs.Rules.{trace_entries, judged_entries, indexed_judged, by_rules}
use Rattle.index.proofs.Turning.{checked_code, turn_is, end_answers, passed_code, events_after}
use Rattle.index.proofs.Walking.{Passes}
use Rattle.index.specs.Rules.{Onward, NextEntry, Follows, Accepts, Refuses}
use Rattle.index.specs.Walk.{Progress, begun, entry_at, checked, stepped, entries_from, judged, formless, indexed}
use Rattle.index.specs.Where.{WhereClaim}

-- ---- an index that follows the rules holds its outlines

-- every entry that passes can be read
passes_readable : (index : List ℕ) (b : Bases) (s : Progress) (map : List ℕ) (e : Read) → entry_at index s ≡ e → Onward e
    → (checked index b s map).answer ≡ Ok tt
    → Readable index e
passes_readable index b s map (Ok (Code kind address n from count)) is o c = (passed_code index b s map kind address n from count is c).suited
passes_readable index b s map (Ok (End entry next)) is o c = absurd o
passes_readable index b s map (Err fault) is o c = absurd o

trace_leads : (index : List ℕ) (b : Bases) (s : Progress) (es : List Event) → Trace (NextEntry index b) begun s es → Leads index s
trace_leads index b s es at_start = at_first
trace_leads index b s es (after_step {y = y} {es = fs} t x) =
    let c = ap (λ (o : Ran Check). o.answer) x.passes in
    subst (Leads index) (sym x.leads_to)
    (and_then (trace_leads index b y fs t) (passes_readable index b y (marks fs blank) (entry_at index y) refl x.onward c))

follows_holds : (index : List ℕ) (b : Bases) (os : List Outline) (entry : Entry) → Follows index b os entry → Holds index os entry
follows_holds index b os entry h =
    record {
      there = h.there;
      versioned = h.versioned;
      last = h.last;
      entries = trace_leads index b h.last h.events h.entries;
      end = h.end.is;
      outlines = h.end.outlines;
    }

-- so does every index that is accepted at some bases, and its fields are sound
pub accepted_holds : (index : List ℕ) (b : Bases) (os : List Outline) (entry : Entry) → (indexed b index).answer ≡ accepted os entry
    → Holds index os entry × FieldsSound os
accepted_holds index b os entry e = (
  follows_holds index b os entry ((by_rules b index).accepts_only os entry e).follows,
  (index_accepted b index os entry e).well_placed.sound,
)

-- ---- the walk at a pair of bases

-- the fields before an entry are sound too
sound_before : (index : List ℕ) (s : Progress) (e : Read) → FieldsSound (stepped index s e).outlines → FieldsSound s.outlines
sound_before index s (Ok (Code kind address n from count)) h = record { inside = h.inside.1; distinct = h.distinct.1 }
sound_before index s (Ok (End entry next)) h = h
sound_before index s (Err fault) h = h

module _ (index : List ℕ) (b : Bases) where
  -- the map of the outlines so far
  abbrev left : Progress → List ℕ
  left s = marks (events b (map hollow s.outlines)) blank

  -- the walk comes to where the entries lead, where the outlines fit so far; else it has ended with their fault
  data Comes (s : Progress) : Type 0 where
    so_far : PiecesFit b s.outlines → Trace (NextEntry index b) begun s (events b (map hollow s.outlines)) → Comes s
    ended : {fault : Fault} {offset : ℕ} → PiecesUnfit b s.outlines fault → (entries_from index b begun blank).answer ≡ refused fault offset → Comes s

  -- an entry that passes is a step further
  goes_on : (s : Progress) (e : Read) → entry_at index s ≡ e → Onward e → Passes index b s
      → Trace (NextEntry index b) begun s (events b (map hollow s.outlines))
      → Trace (NextEntry index b) begun (stepped index s e) (events b (map hollow (stepped index s e).outlines))
  goes_on s e is o ok t =
      subst (Trace (NextEntry index b) begun (stepped index s e)) (sym (events_after index b s (left s) e is o ok))
      (after_step t
      (record {
        onward = subst Onward (sym is) o;
        passes = passed_is (checked index b s (left s)) ok refl;
        leads_to = ap (stepped index s) (sym is);
      }))

  -- one that fails ends the walk
  stops : (s : Progress) (fault : Fault) (offset : ℕ) → Trace (NextEntry index b) begun s (events b (map hollow s.outlines))
      → (checked index b s (left s)).answer ≡ failure fault offset
      → (entries_from index b begun blank).answer ≡ refused fault s.at
  stops s fault offset t e =
      trace_entries index b s (events b (map hollow s.outlines)) (refused fault s.at) t (turn_is index b s (left s) (failure fault offset) _ e refl)

  -- a code entry
  module _ (s : Progress) (kind : Kind) (address n from count : ℕ) (is : entry_at index s ≡ Ok (Code kind address n from count))
      (suits : all_suit kind (part index from count) ≡ true) (h : FieldsSound (stepped index s (Ok (Code kind address n from count))).outlines)
      (f : PiecesFit b s.outlines) (t : Trace (NextEntry index b) begun s (events b (map hollow s.outlines))) where
    abbrev o : Outline
    o = record { kind = kind; address = address; size = n; fields = fields_to kind (part index from count) }

    abbrev zeros : List ℕ
    zeros = replicate n 0

    -- refused code does not fit
    unplaced : (fault : Fault) → Unplaced (place_of b o) n (limit_of kind) (left s) fault → PiecesUnfit b (o ∷ s.outlines) fault
    unplaced fault (ends_above l) = too_high f l
    unplaced fault (taken l z) =
        let low : place_of b o + n ≤ 65536 = omega (arith, l, limit_le kind) in
        overlaps f l
        (λ d.
        let d' = subst (λ (qs : List Outline). Each (PiecesApart b o) qs) (sym (hollow_outlines s.outlines)) d in
        false≢true (sym z ∙ apart_clear b o (map hollow s.outlines) (hollow_inside s.outlines h.inside.1) low d'))

    comes_code : (v : Check) → (placing s.at (place_of b o) (limit_of kind) zeros (left s)).answer ≡ v
        → Comes (stepped index s (Ok (Code kind address n from count)))
    comes_code (Ok done) e =
        let k : length zeros ≡ n = length_run n 0 in
        let x = placing_passed _ _ _ _ _ e in
        let low : place_of b o + n ≤ limit_of kind = rw k at x.0 in
        let room : place_of b o + n ≤ length (left s) =
        omega (arith, low, limit_le kind, length_marks (events b (map hollow s.outlines)) blank, length_blank) in
        let adjusts = placed_adjusts s.at b (place_of b o) n o.fields (left s) room h.inside.0 h.distinct.0 in
        let ok : Passes index b s =
        ap (λ (q : Ran Check). q.answer) (checked_code index b s (left s) kind address n from count is)
        ∙ code_passes s.at b kind address n (part index from count) (left s) e adjusts suits in
        so_far (outline_fits b o s.outlines (sound_before index s (Ok (Code kind address n from count)) h) f low (rw k at x.1)) (goes_on s _ is tt ok t)
    comes_code (Err g) e =
        let k : length zeros ≡ n = length_run n 0 in
        let x : Unplaced (place_of b o) n (limit_of kind) (left s) g.fault = rw k at (placing_failed _ _ _ _ _ g.fault g.offset e) in
        ended (unplaced g.fault x)
        (stops s g.fault g.offset t
        (ap (λ (q : Ran Check). q.answer) (checked_code index b s (left s) kind address n from count is)
        ∙ code_fails s.at b kind address n (part index from count) (left s) g.fault g.offset e))

  -- every entry that is read
  comes_on : (s : Progress) (e : Read) → entry_at index s ≡ e → Readable index e → FieldsSound (stepped index s e).outlines → Comes s
      → Comes (stepped index s e)
  comes_on s (Ok (Code kind address n from count)) is r h (so_far f t) =
      comes_code s kind address n from count is r h f t (placing s.at _ (limit_of kind) (replicate n 0) (left s)).answer refl
  comes_on s (Ok (Code kind address n from count)) is r h (ended m e) = ended (earlier m) e
  comes_on s (Ok (End entry next)) is r h x = absurd r
  comes_on s (Err fault) is r h x = absurd r

  -- all of them
  comes : (s : Progress) → Leads index s → FieldsSound s.outlines → Comes s
  unfolding events
  comes s at_first h = so_far (record { below = tt; apart = tt }) at_start
  comes z (and_then {s = s} x r) h = comes_on s (entry_at index s) refl r h (comes s x (sound_before index s (entry_at index s) h))

  -- ---- the whole index

  -- at the end entry the start decides
  ends_at : (s : Progress) (entry : Entry) → entry_at index s ≡ Ok (End entry (length index)) → Comes s
      → Settles b s.outlines s.outlines entry (entries_from index b begun blank).answer
  ends_at s entry is (ended m e) = subst (Settles b s.outlines s.outlines entry) (sym e) (unfit (of_pieces m))
  ends_at s entry is (so_far f t) = by (checked index b s (left s)).answer refl
    where
      by : (v : Check) → (checked index b s (left s)).answer ≡ v → Settles b s.outlines s.outlines entry (entries_from index b begun blank).answer
      by (Ok done) e =
          let x = ending_passed _ b entry (length index) (length index) (end_answers index b s _ entry (length index) is e) in
          let v = trace_entries index b s _ (accepted s.outlines entry) t (turn_is index b s (left s) (Ok tt) _ e is) in
          subst (Settles b s.outlines s.outlines entry) (sym v) (fits (record { pieces = f; start = x.0 }))
      by (Err g) e =
          let x = ending_failed _ b entry (length index) g.fault g.offset (end_answers index b s _ entry (length index) is e) in
          subst (Settles b s.outlines s.outlines entry) (sym (stops s g.fault g.offset t e))
          (unfit (subst (HandlerUnfit b s.outlines entry) (sym x.0) (of_start f x.1)))

  -- an index that holds sound outlines
  pub settles : (os : List Outline) (entry : Entry) → Holds index os entry → FieldsSound os → Settles b os os entry (judged index b).answer
  settles os entry h s =
      let e = ap (λ (o : Ran (Verdict Outline)). o.answer) (judged_entries index b h.there h.versioned) in
      let sound : FieldsSound h.last.outlines = subst FieldsSound h.outlines s in
      subst (Settles b os os entry) (sym e)
      (subst (λ (qs : List Outline). Settles b qs qs entry (entries_from index b begun blank).answer) (sym h.outlines)
      (ends_at h.last entry h.end (comes h.last h.entries sound)))

-- so it is accepted exactly where they and its start fit, if it is not too long
pub holds_where : (index : List ℕ) (os : List Outline) (entry : Entry) → Holds index os entry → FieldsSound os → length index ≤ 65536 → (b : Bases)
    → in_range formless b ≡ true
    → AcceptedWhere (Accepts b index) (Refuses b index) os os entry b
holds_where index os entry h s short b r =
    let judged_here = ap (λ (o : Ran (Verdict Outline)). o.answer) (indexed_judged b index r short) in
    settled_where (subst (Settles b os os entry) (sym judged_here) (settles index b os entry h s)) (by_rules b index)

-- as is every index that is accepted at some bases
pub accepted_where_fits : WhereClaim
accepted_where_fits index a os entry h b r =
    let x = accepted_holds index a os entry ((by_rules a index).accepts os entry h) in
    holds_where index os entry x.0 x.1 h.fits b r
