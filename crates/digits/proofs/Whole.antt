-- Characters that are all digits, and the bytes that they make.
-- Assumes nothing.
use mathlib.Core.Bool.{Bool, true, false}
use mathlib.Core.List.{List, [], ◌∷◌}
use mathlib.Core.Path.{◌≡◌, refl, sym, ap, ◌∙◌}
use Prim.Native.Nat.{ℕ, zero, suc, ◌+◌, ◌≤◌, ◌<◌}
use native.Mathlib.Omega.{arith}
use lib.ListN.{get_or}
use Rattle.answer.specs.Checks.{pick}
use Rattle.words.proofs.Runs.{part_at}
use Rattle.words.specs.Runs.{part}
use Rattle.digits.proofs.Digits.{byte_below}
use Rattle.digits.specs.Digits.{is_digit, byte_at, leading, past_digits}

-- what leads passes the test
leading_holds : (test : ℕ → Bool) (l : List ℕ) (k : ℕ) → k < leading test l → test (get_or l k 0) ≡ true
unfolding leading pick
leading_holds test [] k h = absurd (omega arith)
leading_holds test (c ∷ cs) k h = by (test c) refl k h (λ j. leading_holds test cs j)
  where
    by : (b : Bool) → test c ≡ b → (k : ℕ) → k < pick b (suc (leading test cs)) 0 → ((j : ℕ) → j < leading test cs → test (get_or cs j 0) ≡ true)
        → test (get_or (c ∷ cs) k 0) ≡ true
    by true e zero h more = e
    by true e (suc k) h more = more k (omega arith)
    by false e k h more = absurd (omega arith)

module _ (file : List ℕ) (at n : ℕ) (whole : at + n ≤ past_digits file at n) where
  -- where the digits go on to the last of n characters, each is one
  all_digits : (k : ℕ) → k < n → is_digit (get_or file (at + k) 0) ≡ true
  unfolding past_digits
  all_digits k h =
      ap (λ (c : ℕ). is_digit c) (sym (part_at file at n k h))
      ∙ leading_holds is_digit (part file at n) k (omega arith)

  -- so each two of them make a byte
  pub whole_byte : (k : ℕ) → k + 2 ≤ n → byte_at file (at + k) < 256
  whole_byte k h =
      byte_below file (at + k) (all_digits k (omega arith))
      (ap (λ (x : ℕ). is_digit (get_or file x 0)) (omega arith) ∙ all_digits (k + 1) (omega arith))
