-- The value of a digit of each kind; how great a digit, a byte and a word can be, whatever the characters; and one byte more in a sum.
-- Assumes nothing.
use mathlib.Core.Bool.{true, false, ◌&&◌}
use mathlib.Core.List.{List, map}
use mathlib.Core.Path.{◌≡◌, refl, ap, ◌∙◌}
use Prim.Native.Nat.{ℕ, zero, suc, ◌+◌, ◌-◌, ◌*◌, ◌≤◌, ◌<◌}
use native.Mathlib.Decide.{dec_le}
use native.Mathlib.Numerals.{add-one}
use native.Mathlib.Omega.{arith}
use borrow.Author.Tests.{le-leb, lt-leb, leb-true, ltb-true}
use lib.Dec.{leb}
use lib.ListN.{get_or}
use Rattle.std.specs.List.{sum, sum_by, range_with_len}
use Rattle.std.proofs.lemmas.List.Sums.{sum-map, sum_by-cons}
use Rattle.answer.proofs.Checks.{on_pick, and_true, and_false}
use Rattle.answer.specs.Checks.{pick}
use Rattle.digits.specs.Digits.{digit_of, is_digit, byte_at, word_at, sum_at}

-- ---- digits

-- a character from one to another
inside : (low high c : ℕ) → low ≤ c → c ≤ high → leb low c && leb c high ≡ true
inside low high c h k = simp (le-leb low c h, le-leb c high k)

-- and one that is not
outside : (low high c : ℕ) → ¬ ((low ≤ c) × (c ≤ high)) → leb low c && leb c high ≡ false
outside low high c h = by (dec_le low c)
  where
    by : Dec (low ≤ c) → leb low c && leb c high ≡ false
    by (yes l) =
        let k : ¬ (c ≤ high) = λ q. h (l, q) in
        and_false (leb low c) (leb c high) (lt-leb c high (omega arith))
    by (no n) = simp (lt-leb low c (omega arith))

-- 0 to 9
pub digit_decimal : (c : ℕ) → 48 ≤ c → c ≤ 57 → digit_of c ≡ c - 48
unfolding digit_of pick
digit_decimal c h k = rw (inside 48 57 c h k) refl

-- A to F
pub digit_upper : (c : ℕ) → 65 ≤ c → c ≤ 70 → digit_of c ≡ c - 55
unfolding digit_of pick
digit_upper c h k = rw (outside 48 57 c (λ w. omega arith), inside 65 70 c h k) refl

-- a to f
pub digit_lower : (c : ℕ) → 97 ≤ c → c ≤ 102 → digit_of c ≡ c - 87
unfolding digit_of pick
digit_lower c h k = rw (outside 48 57 c (λ w. omega arith), outside 65 70 c (λ w. omega arith), inside 97 102 c h k) refl

-- any other character
pub digit_none : (c : ℕ) → ¬ ((48 ≤ c) × (c ≤ 57)) → ¬ ((65 ≤ c) × (c ≤ 70)) → ¬ ((97 ≤ c) × (c ≤ 102)) → digit_of c ≡ 16
unfolding digit_of pick
digit_none c h k l = rw (outside 48 57 c h, outside 65 70 c k, outside 97 102 c l) refl

-- a digit is below 16, and any other character counts as 16
pub digit_most : (c : ℕ) → digit_of c ≤ 16
unfolding digit_of
digit_most c =
    let P : ℕ → Type 0 = λ v. v ≤ 16 in
    on_pick P _ _ _ (λ h. omega (arith, leb-true c 57 (and_true (leb 48 c) _ h).1))
    (λ _. on_pick P _ _ _ (λ h. omega (arith, leb-true c 70 (and_true (leb 65 c) _ h).1))
    (λ _. on_pick P _ _ _ (λ h. omega (arith, leb-true c 102 (and_true (leb 97 c) _ h).1)) (λ _. omega arith)))

-- ---- bytes and words

-- a byte is at most 272
pub byte_most : (file : List ℕ) (at : ℕ) → byte_at file at ≤ 272
unfolding byte_at
byte_most file at = omega (arith, digit_most (get_or file at 0), digit_most (get_or file (at + 1) 0))

-- below 256 if both its characters are digits
pub byte_below : (file : List ℕ) (at : ℕ) → is_digit (get_or file at 0) ≡ true → is_digit (get_or file (at + 1) 0) ≡ true → byte_at file at < 256
unfolding byte_at
byte_below file at h k = omega (arith, ltb-true (digit_of (get_or file at 0)) 16 h, ltb-true (digit_of (get_or file (at + 1) 0)) 16 k)

-- a word is at most 69,904
pub word_most : (file : List ℕ) (at : ℕ) → word_at file at ≤ 69904
unfolding word_at
word_most file at = omega (arith, byte_most file at, byte_most file (at + 2))

-- the sum of one byte more
pub sum_more : (file : List ℕ) (at i : ℕ) → sum_at file at (i + 1) ≡ sum_at file at i + byte_at file (at + 2 * i)
unfolding sum_at
sum_more file at i = rw add-one refl

-- a sum of n bytes is at most n times 272
pub sum_most : (file : List ℕ) (at n : ℕ) → sum_at file at n ≤ 272 * n
unfolding sum_at
sum_most file at zero = omega arith
sum_most file at (suc n) = omega (arith, sum_most file at n, byte_most file (at + 2 * n))

-- the bytes before byte a and the n from there on, in one list, are the first a + n
sum_from : (file : List ℕ) (at a n : ℕ) → sum_at file at a + sum_by (λ i. byte_at file (at + 2 * i)) (range_with_len a n) ≡ sum_at file at (a + n)
sum_from file at a zero =
    let e : sum_at file at (a + 0) ≡ sum_at file at a = ap (sum_at file at) (omega arith) in
    omega arith
sum_from file at a (suc n) =
    let e : sum_at file at (a + suc n) ≡ sum_at file at (a + 1 + n) = ap (sum_at file at) (omega arith) in
    omega (arith, sum_by-cons (λ i. byte_at file (at + 2 * i)) a (range_with_len (a + 1) n), sum_from file at (a + 1) n, sum_more file at a)

-- as the library adds them
pub sum_is : (file : List ℕ) (at n : ℕ) → sum (map (λ i. byte_at file (at + 2 * i)) (range_with_len 0 n)) ≡ sum_at file at n
unfolding sum_at
sum_is file at n =
    let e : sum_at file at (0 + n) ≡ sum_at file at n = ap (sum_at file at) (omega arith) in
    sum-map (λ i. byte_at file (at + 2 * i)) (range_with_len 0 n) ∙ omega (arith, sum_from file at 0 n)
