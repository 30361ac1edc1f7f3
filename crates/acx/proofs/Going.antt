-- The program's walk: its cursor, memory and map at each turn are those of the definition's walk, which has come to the same place.
-- Assumes nothing.
use mathlib.Core.Bool.{Bool}
use mathlib.Core.List.{List, [], ◌++◌, append-nil}
use mathlib.Core.Path.{◌≡◌, refl, sym, ap, ◌∙◌}
use Prim.Native.Nat.{ℕ, ◌+◌, ◌≤◌}
use lib.ListN.{length}
use Rattle.std.proofs.Common.{Option, Ok}
use Rattle.answer.specs.Checks.{failure}
use Rattle.answer.specs.Report.{address, Outcome, acceptance, refusal}
use Rattle.answer.specs.declared.Fault.{Fault}
use Rattle.events.proofs.Checks.{failed_passed}
use Rattle.events.proofs.Events.{reached_none, reached_more}
use Rattle.events.proofs.Faults.{check_within}
use Rattle.events.specs.Events.{Event, marks, blank, placed_in, adjusted_in, Ran, Check, Reached, Did}
use Rattle.records.proofs.Reading.{lies_as}
use Rattle.records.specs.Records.{read, Read}
use Rattle.records.specs.declared.Entry.{Entry}
use Rattle.records.specs.declared.Record.TheVariants.{End}
use Rattle.acx.proofs.Cursors.{Tracks, tracks_first, tracks_found, tracks_ends, tracks_on, tracks_further, tracks_ends_by, onward_else}
use Rattle.acx.proofs.Turning.{turn_is, end_none, events_after}
use Rattle.pieces.proofs.Applying.{ending_passed}
use Rattle.pieces.proofs.Faults.{applied_faults}
use Rattle.pieces.specs.AtBases.{start_of, applied, EndsBy}
use Rattle.acx.specs.Rules.{Onward}
use Rattle.acx.specs.Cursor.{first_cursor, advanced}
use Rattle.pieces.specs.Pieces.{events}
use Rattle.acx.specs.Walk.{Progress, begun, record_at, checked, stepped, records_of, reported}
use Rattle.pieces.specs.declared.Bases.{Bases}
use Rattle.acx.specs.declared.Cursor.{Cursor}

-- what does nothing leaves the counts as they are
pub counts_stay : (start : Option ℕ) (es : List Event) {fs : List Event} → fs ≡ []
    → acceptance start (placed_in es) (adjusted_in es) 0 0 ≡ acceptance start (placed_in (es ++ fs)) (adjusted_in (es ++ fs)) 0 0
counts_stay start es e = rw (e, append-nil es) refl

-- ---- a turn of the loop

-- the walk began at an offset with memory m₀ and a clear map, and stands at the cursor c with m and p
pub record Going (file : List ℕ) (b : Bases) (first : ℕ) (write : Bool) (m₀ : List ℕ) (c : Cursor) (m p : List ℕ) : Type 0 where
  pub progress : Progress
  pub came : Tracks file b first c progress
  pub reached : Reached (events b progress.pieces) write m₀ blank m p

module _ {file : List ℕ} {b : Bases} {first : ℕ} {write : Bool} {m₀ : List ℕ} where
  -- before the first record
  pub going_first : {p : List ℕ} → p ≡ blank → first ≤ length file → Going file b first write m₀ (first_cursor first) m₀ p
  unfolding events
  going_first e l = record { progress = begun first; came = tracks_first l; reached = rw e (reached_none write m₀ blank) }

  module _ {c : Cursor} {m p : List ℕ} (x : Going file b first write m₀ c m p) where
    module _ {found : Read} {r : Check} {m' p' : List ℕ} (is : found ≡ read file c.at c.last)
        (d : Did Check (applied file c.at b c.place c.size found p) write m p r m' p') where
      -- the definition's progress, its events and what they left in the map
      abbrev here : Progress
      here = x.progress

      abbrev before : List Event
      before = events b here.pieces

      abbrev there : List ℕ
      there = marks before blank

      found_is : record_at file here ≡ found
      found_is = tracks_found x.came is

      checked_is : checked file b here there ≡ applied file c.at b c.place c.size found p
      unfolding checked
      checked_is =
          ap (λ (k : Cursor). applied file k.at b k.place k.size (record_at file here) there) (sym x.came.here)
          ∙ ap (λ (q : Read). applied file c.at b c.place c.size q there) found_is
          ∙ ap (λ (l : List ℕ). applied file c.at b c.place c.size found l) (sym x.reached.map)

      answer_is : (checked file b here there).answer ≡ r
      answer_is = ap (λ (o : Ran Check). o.answer) checked_is ∙ sym d.answer

      now : Reached (before ++ (checked file b here there).events) write m₀ blank m' p'
      now = rw checked_is (reached_more before write m₀ blank m p m' p' _ r x.reached d)

      -- a fault ends the walk
      pub going_fails : {fault : Fault} {offset : ℕ} {q : Outcome} → r ≡ failure fault offset → q ≡ refusal fault offset 0
          → Did Outcome (reported b (records_of file b first)) write m₀ blank q m' p'
      going_fails {fault} {offset} e eq =
          let o = tracks_ends x.came _ (turn_is file b here there (failure fault offset) _ (answer_is ∙ e) refl) in
          rw o (record { answer = eq; reached = now })

      -- at an offset in the file, or at its end
      pub going_offset : {fault : Fault} {offset : ℕ} → r ≡ failure fault offset → offset ≤ length file
      going_offset e =
          check_within (applied_faults file c.at b c.place c.size found p (lies_as file c.at c.last found (sym is))) (sym d.answer ∙ e)

      -- the start of an end record that passed is an address
      pub going_start : {entry : Entry} {next : ℕ} → r ≡ Ok tt → found ≡ Ok (End entry next) → address (start_of b entry) ≤ 65535
      unfolding applied
      going_start {entry} {next} e f =
          let a : (applied file c.at b c.place c.size (Ok (End entry next)) p).answer ≡ Ok tt =
          ap (λ (q : Read). (applied file c.at b c.place c.size q p).answer) (sym f) ∙ sym d.answer ∙ e in
          (ending_passed (c.at + 2) b entry next (length file) a).0

      -- such a record ends the walk with an acceptance
      pub going_ends : {entry : Entry} {next : ℕ} → r ≡ Ok tt → found ≡ Ok (End entry next)
          → Did Outcome (reported b (records_of file b first)) write m₀ blank (acceptance (start_of b entry) c.placed c.adjusted 0 0) m' p'
      going_ends {entry} {next} e f =
          let o = tracks_ends x.came _ (turn_is file b here there (Ok tt) (Ok (End entry next)) (answer_is ∙ e) (found_is ∙ f)) in
          let counts = ap (λ (k : Cursor). acceptance (start_of b entry) k.placed k.adjusted 0 0) x.came.here in
          rw o (record { answer = counts ∙ counts_stay _ before (end_none file b here there entry next (found_is ∙ f)); reached = now })

      -- any other leads on
      pub going_on : r ≡ Ok tt → Onward found → Going file b first write m₀ (advanced b c found) m' p'
      going_on e o =
          let ok : (checked file b here there).answer ≡ Ok tt = answer_is ∙ e in
          record {
            progress = stepped file here found;
            came = tracks_on x.came found_is o ok;
            reached = rw (events_after file b here there found found_is o ok) now;
          }

      -- with its cursor further on, in a record that lies in the file
      pub going_further : Onward found → c.at + 2 ≤ (advanced b c found).at
      going_further o = tracks_further x.came found_is o

      pub going_ends_by : length file ≤ 65536 → EndsBy 65536 found
      going_ends_by l = tracks_ends_by x.came found_is 65536 l

      -- a record that passed and is not the end leads onward
      pub going_onward : r ≡ Ok tt → ((entry : Entry) (next : ℕ) → found ≡ Ok (End entry next) → ⊥) → Onward found
      unfolding applied
      going_onward e h =
          onward_else found h
          (λ f k. failed_passed (sym (ap (λ (q : Read). (applied file c.at b c.place c.size q p).answer) k) ∙ sym d.answer ∙ e))
