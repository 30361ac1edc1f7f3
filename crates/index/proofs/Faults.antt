-- What an index is refused with, and where: at its front, or at an entry. specs/Rules.antt.
-- Assumes nothing.
use mathlib.Core.List.{List, [], ◌∷◌}
use mathlib.Core.Path.{◌≡◌, refl, ap, subst}
use Prim.Native.Nat.{ℕ, ◌+◌, ◌≤◌, ◌<◌}
use native.Mathlib.Omega.{arith}
use lib.ListN.{length, replicate}
use Rattle.answer.specs.Checks.{failure}
use Rattle.std.proofs.Common.{Ok, Err}
use Rattle.answer.proofs.Checks.{on_need}
use Rattle.answer.specs.Report.{number_of}
use Rattle.answer.specs.declared.Fault.{Fault}
use Rattle.answer.specs.declared.Fault.TheVariants.{WrongVersion}
use Rattle.entries.proofs.Reading.{EntryFault, Where, lies_as, word_there}
use Rattle.entries.specs.Entries.{fields_to, Read}
use Rattle.entries.specs.declared.IndexEntry.TheVariants.{Code, End}
use Rattle.events.specs.Events.{Event, marks, blank, Ran, failed, Check}
use Rattle.events.specs.Trace.{Trace, at_start, after_step}
use Rattle.fields.specs.declared.Field.{Field}
use Rattle.pieces.specs.AtBases.{placing, adjusting, ending}
use Rattle.pieces.specs.Pieces.{place_at, limit_of}
use Rattle.pieces.specs.declared.Bases.{Bases}
use Rattle.records.specs.declared.Entry.{Entry}
use Rattle.records.specs.declared.Kind.{Kind}
use Rattle.words.specs.Runs.{part}
use Rattle.index.proofs.Turning.{further}
use Rattle.index.specs.Rules.{NextEntry, Fails, empty, of_version, in_entry, out_of_range, too_long, by_index, LocatedEntry, LocatedClaim}
use Rattle.events.specs.Walk.{and_then}
use Rattle.index.specs.Walk.{fixing, coding, applied, Progress, begun, entry_at, checked_as, checked}

-- ---- what an entry is refused with

-- a check of the entry at an offset passed, or failed with a fault of it
abbrev CheckFaults : ℕ → ℕ → Check → Type 0
CheckFaults len at (Ok done) = Unit {0}
CheckFaults len at (Err e) = EntryFault len at e.fault

-- (the same as a record)
record Checks (len at : ℕ) (c : Check) : Type 0 where
  faults : CheckFaults len at c

-- of a part of the work, by its answer
abbrev Faults : ℕ → ℕ → Ran Check → Type 0
Faults len at o = Checks len at o.answer

passes : {len at : ℕ} → Checks len at (Ok tt)
passes = record { faults = tt }

-- a fault other than 1 to 5 and 24, of an entry that has its length word
fails : {len at : ℕ} {fault : Fault} {offset : ℕ} → at + 2 ≤ len → 4 < number_of fault → number_of fault < 24 → Checks len at (failure fault offset)
fails h l k = record { faults = record { late = l; known = k; there = λ _. h } }

-- two parts of the work, one after the other
both_fault : (len at : ℕ) (map : List ℕ) (c : Check) (es : List Event) (next : List ℕ → Ran Check) → Checks len at c
    → Faults len at (next (marks es map)) → Faults len at (and_then map c es next)
both_fault len at map (Ok done) es next h k = record { faults = k.faults }
both_fault len at map (Err e) es next h k = h

module _ (len at : ℕ) (there : at + 2 ≤ len) where
  -- code
  placing_faults : (a limit : ℕ) (code map : List ℕ) → Faults len at (placing at a limit code map)
  unfolding placing
  placing_faults a limit code map =
      let P = Faults len at in
      on_need failed P _ _ _ _ (fails there (omega arith) (omega arith))
      (λ _. on_need failed P _ _ _ _ (fails there (omega arith) (omega arith)) (λ _. passes))

  -- fields
  adjusting_faults : (i step : ℕ) (b : Bases) (a n : ℕ) (fs : List Field) (map : List ℕ) → Faults len at (adjusting i step b a n fs map)
  unfolding adjusting
  adjusting_faults i step b a n [] map = passes
  adjusting_faults i step b a n (f ∷ fs) map =
      let P = Faults len at in
      on_need failed P _ _ _ _ (fails there (omega arith) (omega arith))
      (λ _. on_need failed P _ _ _ _ (fails there (omega arith) (omega arith))
      (λ _. record { faults = (adjusting_faults (i + step) step b a n fs _).faults }))

  -- a code entry
  fixing_faults : (b : Bases) (kind : Kind) (a n : ℕ) (items map : List ℕ) → Faults len at (fixing at b kind a n items map)
  unfolding fixing
  fixing_faults b kind a n items map =
      let o = adjusting at 0 b a n (fields_to kind items) map in
      both_fault len at map o.answer o.events _ (adjusting_faults at 0 b a n (fields_to kind items) map)
      (on_need failed (Faults len at) _ _ _ _ (fails there (omega arith) (omega arith)) (λ _. passes))

  coding_faults : (b : Bases) (kind : Kind) (address n : ℕ) (items map : List ℕ) → Faults len at (coding at b kind address n items map)
  unfolding coding
  coding_faults b kind address n items map =
      let o = placing at (place_at b kind address) (limit_of kind) (replicate n 0) map in
      both_fault len at map o.answer o.events _ (placing_faults (place_at b kind address) (limit_of kind) (replicate n 0) map)
      (fixing_faults b kind (place_at b kind address) n items (marks o.events map))

  -- the end entry
  ending_faults : (b : Bases) (entry : Entry) (next : ℕ) → Faults len at (ending at b entry next len)
  unfolding ending
  ending_faults b entry next =
      let P = Faults len at in
      on_need failed P _ _ _ _ (fails there (omega arith) (omega arith))
      (λ _. on_need failed P _ _ _ _ (fails there (omega arith) (omega arith)) (λ _. passes))

-- an entry that lies in the index
applied_faults : (index : List ℕ) (b : Bases) (s : Progress) (e : Read) (map : List ℕ) → Where (length index) s.at e
    → Faults (length index) s.at (checked_as index b s e map)
unfolding applied
applied_faults index b s (Ok (Code kind address n from count)) map w =
    coding_faults (length index) s.at (word_there _ s.at (Ok (Code kind address n from count)) w tt) b kind address n (part index from count) map
applied_faults index b s (Ok (End entry next)) map w = ending_faults (length index) s.at (word_there _ s.at (Ok (End entry next)) w tt) b entry next
applied_faults index b s (Err fault) map w = record { faults = w }

pub checked_fault : (index : List ℕ) (b : Bases) (s : Progress) (map : List ℕ) (fault : Fault) (offset : ℕ)
    → (checked index b s map).answer ≡ failure fault offset → EntryFault (length index) s.at fault
unfolding checked
checked_fault index b s map fault offset e =
    let h = applied_faults index b s (entry_at index s) map (lies_as index s.at _ refl) in
    let k : Checks (length index) s.at (failure fault offset) = subst (Checks (length index) s.at) e h in
    k.faults

-- ---- where

-- entries begin in the index, or at its end
trace_inside : (index : List ℕ) (b : Bases) (s : Progress) (es : List Event) → 1 ≤ length index → Trace (NextEntry index b) begun s es → s.at ≤ length index
trace_inside index b s es h at_start = h
trace_inside index b s es h (after_step {y = y} t x) =
    let k = (further index y (entry_at index y) refl x.onward).1 in
    omega (arith, k, ap (λ (z : Progress). z.at) x.leads_to)

-- a fault at the front
front : (len : ℕ) (fault : Fault) → (5 < number_of fault → fault ≡ WrongVersion) → LocatedEntry len fault 0
front len fault h = record { at_front = λ _. refl; of_version = λ _. refl; within = omega arith; at_entry = λ k n. absurd (n (h k)) }

-- a fault of an entry
at_entry : (len at : ℕ) (fault : Fault) → at ≤ len → EntryFault len at fault → LocatedEntry len fault at
at_entry len at fault l h =
    record {
      at_front = λ k. absurd (omega (arith, k, h.late));
      of_version = λ e. absurd (omega (arith, ap number_of e, h.known));
      within = l;
      at_entry = λ k _. h.there k;
    }

fails_located : (index : List ℕ) (b : Bases) (fault : Fault) (offset : ℕ) → Fails index b fault offset → LocatedEntry (length index) fault offset
fails_located index b fault offset (empty h) = front _ _ (λ k. absurd (omega arith))
fails_located index b fault offset (of_version h k) = front _ _ (λ _. refl)
fails_located index b fault at (in_entry {offset = offset} {s = s} {es = es} h k t c) =
    at_entry _ s.at fault (trace_inside index b s es h t) (checked_fault index b s (marks es blank) fault offset c)

-- of every index that is refused
pub refusals_located : LocatedClaim
refusals_located b index fault offset (out_of_range h) = front _ _ (λ k. absurd (omega arith))
refusals_located b index fault offset (too_long h k) = front _ _ (λ k. absurd (omega arith))
refusals_located b index fault offset (by_index h k f) = fails_located index b fault offset f
