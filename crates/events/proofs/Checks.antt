-- A check that was passed, and one that was not.
-- Assumes nothing.
use mathlib.Core.Bool.{Bool, true, false}
use mathlib.Core.List.{List, []}
use mathlib.Core.Path.{◌≡◌, refl, sym, ap, ◌∙◌}
use Prim.Native.Nat.{ℕ}
use native.Mathlib.Omega.{arith}
use Rattle.std.proofs.Common.{Ok}
use Rattle.answer.specs.Checks.{need, failure}
use Rattle.answer.specs.declared.Fault.{Fault}
use Rattle.events.specs.Events.{Event, Ran, Check, failed, passed}

-- a check that failed did not pass
pub failed_passed : {fault : Fault} {offset : ℕ} → ◌≡◌ {A = Check} (failure fault offset) (Ok tt) → ⊥
failed_passed e = let n : ◌≡◌ {A = ℕ} 0 1 = cc in omega arith

-- a part of the work that passed, by its answer and its events
pub passed_is : (o : Ran Check) {es : List Event} → o.answer ≡ Ok tt → o.events ≡ es → o ≡ passed es
passed_is o e f = ap (λ (c : Check). record { answer = c; events = o.events }) e ∙ ap passed f

-- what passes a check holds it, and the rest decides
pub check_passed : (c : Bool) (fault : Fault) (offset : ℕ) (rest : Check) → need failure c fault offset rest ≡ Ok tt
    → (c ≡ true) × (rest ≡ Ok tt)
unfolding need
check_passed true fault offset rest e = (refl, e)
check_passed false fault offset rest e = absurd (failed_passed e)

-- the same of a part of the work
pub need_passed : (c : Bool) (fault : Fault) (offset : ℕ) (o : Ran Check) → (need failed c fault offset o).answer ≡ Ok tt
    → (c ≡ true) × (need failed c fault offset o ≡ o)
unfolding need
need_passed true fault offset o e = (refl, refl)
need_passed false fault offset o e = absurd (failed_passed e)

-- what does nothing where it is refused does nothing with a check before it either
pub need_refused : {fault : Fault} {offset : ℕ} (c : Bool) (f : Fault) (i : ℕ) (o : Ran Check)
    → (o.answer ≡ failure fault offset → o.events ≡ [])
    → (need failed c f i o).answer ≡ failure fault offset
    → (need failed c f i o).events ≡ []
unfolding need
need_refused true f i o h e = h e
need_refused false f i o h e = refl

-- and what passes is not refused
pub passed_refused : {fault : Fault} {offset : ℕ} (es : List Event) → (passed es).answer ≡ failure fault offset → (passed es).events ≡ []
passed_refused es e = absurd (failed_passed (sym e))
