-- Where blanks and digits end: within the file, behind as many as the library counts.
-- Assumes nothing.
use mathlib.Core.Bool.{Bool, true, false, cond}
use mathlib.Core.List.{List, [], ◌∷◌}
use mathlib.Core.Path.{◌≡◌, refl}
use Prim.Native.Nat.{ℕ, suc, ◌+◌, ◌-◌, ◌≤◌}
use native.Mathlib.Omega.{arith}
use lib.ListN.{length, take, drop, length-take, length-drop}
use Rattle.std.specs.List.{prefix_len}
use Rattle.answer.proofs.Checks.{on_pick}
use Rattle.answer.specs.Checks.{pick}
use Rattle.words.specs.Runs.{part}
use Rattle.digits.specs.Digits.{is_digit, is_blank, leading, past_blanks, past_digits}

-- no more characters pass a test than there are
leading_most : (test : ℕ → Bool) (l : List ℕ) → leading test l ≤ length l
unfolding leading
leading_most test [] = omega arith
leading_most test (c ∷ cs) =
    let P : ℕ → Type 0 = λ n. n ≤ suc (length cs) in
    on_pick P (test c) _ _ (λ _. omega (arith, leading_most test cs)) (λ _. omega arith)

-- so many does the library count
pub leading_is : (test : ℕ → Bool) (l : List ℕ) → prefix_len test l ≡ leading test l
unfolding leading pick
leading_is test [] = refl
leading_is test (c ∷ cs) = by (test c) (leading_is test cs)
  where
    by : (b : Bool) → prefix_len test cs ≡ leading test cs → cond b (1 + prefix_len test cs) 0 ≡ pick b (suc (leading test cs)) 0
    by true e = omega arith
    by false e = refl

-- ---- blanks

-- they end within the file
pub past_blanks_lem : (file : List ℕ) (at : ℕ) → at ≤ length file → (at ≤ past_blanks file at) × (past_blanks file at ≤ length file)
unfolding past_blanks
past_blanks_lem file at h =
    let m : leading is_blank (drop at file) ≤ length file - at = rw (← length-drop at file) (leading_most is_blank (drop at file)) in
    (omega arith, omega arith)

-- ---- digits

-- they end within the file, and within as many characters as are looked at
pub past_digits_lem : (file : List ℕ) (at n : ℕ) → at ≤ length file
    → (at ≤ past_digits file at n) × (past_digits file at n ≤ length file) × (past_digits file at n ≤ at + n)
unfolding past_digits part
past_digits_lem file at n h =
    let m = leading_most is_digit (take n (drop at file)) in
    let a : leading is_digit (take n (drop at file)) ≤ length file - at = omega (arith, m, length-take n (drop at file), length-drop at file) in
    let b : leading is_digit (take n (drop at file)) ≤ n = omega (arith, m, length-take n (drop at file)) in
    (omega arith, omega arith, omega arith)
