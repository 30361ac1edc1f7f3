-- Why a call is refused with 1, 2 or 3, as specs/Causes.antt states it.
-- Assumes nothing.
use mathlib.Core.Bool.{Bool, true, false}
use mathlib.Core.Path.{◌≡◌, refl, sym, ap, ◌∙◌}
use Prim.Native.Nat.{ℕ}
use native.Mathlib.Omega.{arith}
use Rattle.answer.proofs.Faults.{ByFile, late_not}
use Rattle.answer.proofs.Outcomes.{fault_in}
use Rattle.answer.specs.Causes.{Causes}
use Rattle.answer.specs.Report.{Outcome, refusal, number_of}
use Rattle.answer.specs.declared.Fault.{Fault}
use Rattle.answer.specs.declared.Fault.TheVariants.{WrongBuffer, SettingOutOfRange, FileTooLong}

-- a call has one fault, by its number
one_number : {r : Outcome} {f g : Fault} {i j k l : ℕ} → r ≡ refusal f i j → r ≡ refusal g k l → number_of f ≡ number_of g
one_number e h = ap (λ (o : Outcome). number_of (fault_in o)) (sym e ∙ h)

-- a call that answers 1, 2, 3 by their checks, in that order, and as its file decides where all hold, is refused with each exactly for its cause
pub causes_of : (len : ℕ) (l s f : Bool) {r : Outcome} → (l ≡ false → r ≡ refusal WrongBuffer 0 0)
    → (l ≡ true → s ≡ false → r ≡ refusal SettingOutOfRange 0 0)
    → (l ≡ true → s ≡ true → f ≡ false → r ≡ refusal FileTooLong 0 0)
    → (l ≡ true → s ≡ true → f ≡ true → ByFile len r)
    → Causes l s f r
causes_of len l s f {r} one two three late =
    record {
      wrong_buffer = one;
      wrong_buffer_only = λ offset side e. lengths l s f refl refl refl e;
      out_of_range = two;
      out_of_range_only = λ offset side e. settings l s f refl refl refl e;
      too_long = three;
      too_long_only = λ offset side e. fits l s f refl refl refl e;
    }
  where
    lengths : (x y z : Bool) → l ≡ x → s ≡ y → f ≡ z → {offset side : ℕ} → r ≡ refusal WrongBuffer offset side → l ≡ false
    lengths false y z h i j e = h
    lengths true false z h i j e = absurd (omega (arith, one_number (two h i) e))
    lengths true true false h i j e = absurd (omega (arith, one_number (three h i j) e))
    lengths true true true h i j e = absurd (late_not (late h i j) e refl)

    settings : (x y z : Bool) → l ≡ x → s ≡ y → f ≡ z → {offset side : ℕ} → r ≡ refusal SettingOutOfRange offset side
        → (l ≡ true) × (s ≡ false)
    settings false y z h i j e = absurd (omega (arith, one_number (one h) e))
    settings true false z h i j e = (h, i)
    settings true true false h i j e = absurd (omega (arith, one_number (three h i j) e))
    settings true true true h i j e = absurd (late_not (late h i j) e refl)

    fits : (x y z : Bool) → l ≡ x → s ≡ y → f ≡ z → {offset side : ℕ} → r ≡ refusal FileTooLong offset side
        → (l ≡ true) × (s ≡ true) × (f ≡ false)
    fits false y z h i j e = absurd (omega (arith, one_number (one h) e))
    fits true false z h i j e = absurd (omega (arith, one_number (two h i) e))
    fits true true false h i j e = (h, i, j)
    fits true true true h i j e = absurd (late_not (late h i j) e refl)
