-- What a record is refused with at its bases: not 1, 2 or 3, which are left to lengths and settings, and in the file, or at its end (`answer`,
-- proofs/Faults.antt).
-- Assumes nothing.
use mathlib.Core.Bool.{Bool, true, false}
use mathlib.Core.List.{List, [], ◌∷◌}
use mathlib.Core.Path.{◌≡◌, refl}
use Prim.Native.Nat.{ℕ, ◌+◌, ◌*◌, ◌≤◌, ◌<◌}
use native.Mathlib.Nat.{suc-mul}
use native.Mathlib.Omega.{arith}
use borrow.Author.Tests.{leb-false}
use lib.Dec.{leb}
use lib.ListN.{length}
use Rattle.std.proofs.Common.{Ok, Err}
use Rattle.answer.proofs.Checks.{on_need}
use Rattle.answer.specs.Checks.{need}
use Rattle.answer.specs.declared.Fault.TheVariants.{BytesAfterEnd}
use Rattle.events.proofs.Faults.{Checks, Faults, fails}
use Rattle.events.specs.Events.{failed, passed}
use Rattle.fields.proofs.Listing.{item_some, items_fit}
use Rattle.fields.specs.declared.Field.{Field}
use Rattle.records.proofs.Reading.{Where}
use Rattle.records.specs.declared.Entry.{Entry}
use Rattle.records.specs.Records.{Read}
use Rattle.records.specs.declared.Record.TheVariants.{Code, Fixups, End}
use Rattle.words.proofs.Runs.{length_part}
use Rattle.words.specs.Runs.{part}
use Rattle.pieces.specs.AtBases.{placing, adjusting, ending, applied}
use Rattle.pieces.specs.declared.Bases.{Bases}

-- code
placing_faults : (len at a limit : ℕ) (code map : List ℕ) → at < len → Faults len (placing at a limit code map)
unfolding placing
placing_faults len at a limit code map h =
    on_need failed (Faults len) _ _ _ _ (fails refl h) (λ _. on_need failed (Faults len) _ _ _ _ (fails refl h) (λ _. record { faults = tt }))

-- fields, whose items all end in the file
adjusting_faults : (len at step : ℕ) (b : Bases) (a n : ℕ) (fs : List Field) (map : List ℕ) → 1 ≤ step → at + length fs * step ≤ len
    → Faults len (adjusting at step b a n fs map)
unfolding adjusting
adjusting_faults len at step b a n [] map s h = record { faults = tt }
adjusting_faults len at step b a n (f ∷ fs) map s h =
    let e = suc-mul (length fs) step in
    let here : at < len = omega (arith, e) in
    let more : at + step + length fs * step ≤ len = omega (arith, e) in
    on_need failed (Faults len) _ _ _ _ (fails refl here)
    (λ _. on_need failed (Faults len) _ _ _ _ (fails refl here)
    (λ _. record { faults = (adjusting_faults len (at + step) step b a n fs _ s more).faults }))

-- the end record: where bytes follow it, the first of them is in the file
nothing_after : (len next : ℕ) (t : Bool) → leb len next ≡ t → Faults len (need failed t BytesAfterEnd next (passed []))
unfolding need
nothing_after len next true e = record { faults = tt }
nothing_after len next false e = fails refl (leb-false _ _ e)

ending_faults : (len at : ℕ) (b : Bases) (entry : Entry) (next : ℕ) → at < len → Faults len (ending at b entry next len)
unfolding ending
ending_faults len at b entry next h =
    on_need failed (Faults len) _ _ _ _ (fails refl h) (λ _. nothing_after len next (leb len next) refl)

-- what was read: a record that lies in the file, or its fault
pub applied_faults : (file : List ℕ) (at : ℕ) (b : Bases) (a k : ℕ) (r : Read) (map : List ℕ) → Where (length file) at r
    → Checks (length file) (applied file at b a k r map).answer
unfolding applied
applied_faults file at b a k (Ok (Code kind address from n)) map w = placing_faults _ (at + 2) _ _ _ _ (omega (arith, w))
applied_faults file at b a k (Ok (Fixups fixup from n)) map w =
    let e = length_part file from n w.1 in
    let i = items_fit fixup (part file from n) in
    adjusting_faults _ from _ b a k _ map (item_some fixup) (omega (arith, w, e, i))
applied_faults file at b a k (Ok (End entry next)) map w = ending_faults _ (at + 2) b entry next (omega (arith, w))
applied_faults file at b a k (Err e) map w = record { faults = w }
