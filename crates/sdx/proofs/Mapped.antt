-- What a failure comes to that `map_err` made a refusal of.
-- Assumes nothing.
use mathlib.Core.Path.{◌≡◌, refl}
use Prim.Native.Nat.{ℕ}
use native.Mathlib.Omega.{arith}
use Rattle.std.proofs.Common.{Ok, Err, Result}
use Rattle.std.specs.Result.{MatchResult, IsErrAnd}
use Rattle.answer.specs.Report.{refused_by}
use Rattle.answer.specs.declared.Failure.{Failure}
use Rattle.answer.specs.declared.Refusal.{Refusal}

-- the failure that was refused
pub mapped : {A : Type 0} (r : Result A Failure) (q : Result A Refusal)
    → MatchResult r (λ x. q ≡ Ok x) (λ e. IsErrAnd q (λ k. k ≡ refused_by e)) → {k : Refusal} → q ≡ Err k
    → (e : Failure) × (r ≡ Err e) × (k ≡ refused_by e)
mapped (Ok x) q h f = absurd (let n : ◌≡◌ {A = ℕ} 0 1 = cc in omega arith)
mapped {A} (Err e) q h {k} f = let g : IsErrAnd {T = A} (Err k) (λ k. k ≡ refused_by e) = rw f at h in (e, refl, g)
