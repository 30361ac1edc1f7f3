-- Numbers and their bytes are one another's inverse, and so are an amount on and off. Each law once, over the width.
-- Assumes nothing.
use Rattle.std.proofs.Common.{◌≡◌, ℕ, zero, suc, ◌+◌, ◌-◌, ◌*◌, ◌/◌, ◌%◌, ◌^◌, ◌<◌, ◌≤◌, List, [], ◌∷◌, ◌++◌, length, get_or, take, drop, sym, refl, ap, ◌∙◌, ap₂, le_of_suc-le-suc, not-suc-le-zero, mod-lt, mod-eq_of_lt, add_comm, pow-suc, mul-zero, mul-suc, add-one, arith, length-append, drop_of_length-le, drop-cons, take-suc, take_at}
use Rattle.std.proofs.Common.{w32}
use Rattle.std.specs.Int.{to_le_bytes}
use native.Mathlib.Decide.{dec_lt}
use native.Mathlib.Nat.{mod-mod, mod-add-mod, add-mod-mod, div-add-mod, add-mul-mod_self_left, one-le-pow}
use lib.ListN.{get_or-eq_default}
use lib.Seq.{take-nil, take-length, drop-append-add}
use Rattle.words.specs.Numbers.{number, digits, value, on, off, encoded, decoded}
use Rattle.words.specs.Runs.{Bytes, part}

-- ---- a number and its bytes

-- the k low bytes of a number are k in number, and bytes
pub length_digits : (k v : ℕ) → length (digits k v) ≡ k
unfolding digits
length_digits zero v = refl
length_digits (suc k) v = ap suc (length_digits k (v / 256))

pub bytes_digits : (k v : ℕ) → Bytes (digits k v)
unfolding digits
bytes_digits zero v x = omega arith
bytes_digits (suc k) v zero = omega arith
bytes_digits (suc k) v (suc x) = bytes_digits k (v / 256) x

-- the bytes that the library makes of a number of the answer are its digits
pub digits_four : (v : ℕ) → to_le_bytes w32 v ≡ digits 4 v
unfolding digits
digits_four v = ap₂ (λ (x y : ℕ). v % 256 ∷ v / 256 % 256 ∷ x % 256 ∷ y % 256 ∷ []) (omega arith) (omega arith)

-- a number that k bytes can hold is read back from them
pub number_digits : (k v : ℕ) → v < 256 ^ k → number (digits k v) ≡ v
unfolding number digits
number_digits zero v h = omega arith
number_digits (suc k) v h =
    let ih : number (digits k (v / 256)) ≡ v / 256 = number_digits k (v / 256) (omega (arith, pow-suc 256 k)) in
    omega arith

-- bytes hold a number below 256 to the number of bytes
pub number_lt : (l : List ℕ) → Bytes l → number l < 256 ^ length l
unfolding number
number_lt [] h = omega arith
number_lt (b ∷ bs) h = omega (arith, pow-suc 256 (length bs), h 0, number_lt bs (λ x. h (suc x)))

-- bytes are the low bytes of the number that they hold
pub digits_number : (l : List ℕ) → Bytes l → digits (length l) (number l) ≡ l
unfolding number digits
digits_number [] h = refl
digits_number (b ∷ bs) h =
    let low : (b + 256 * number bs) % 256 ≡ b = omega (arith, h 0) in
    let high : (b + 256 * number bs) / 256 ≡ number bs = omega (arith, h 0) in
    ap₂ (λ (x y : ℕ). x ∷ digits (length bs) y) low high
    ∙ ap (λ (r : List ℕ). b ∷ r) (digits_number bs (λ x. h (suc x)))

-- the number at i by its first byte and the number after it; past the end both are 0
pub value_suc : (k : ℕ) (l : List ℕ) (i : ℕ) → value (suc k) l i ≡ get_or l i 0 + 256 * value k l (suc i)
unfolding value number part
value_suc k l i = by (dec_lt i (length l))
  where
    by : Dec (i < length l) → value (suc k) l i ≡ get_or l i 0 + 256 * value k l (suc i)
    by (yes h) = rw (drop-cons l i 0 h)
    by (no h) =
        let past : length l ≤ i = omega arith in
        let further : length l ≤ suc i = omega arith in
        rw (drop_of_length-le l past, drop_of_length-le l further, take-nil k, get_or-eq_default l 0 past)

-- a byte, and a word, as code reads them
pub value_byte : (l : List ℕ) (i : ℕ) → value 1 l i ≡ get_or l i 0
unfolding value number part
value_byte l i = omega (arith, value_suc 0 l i)

pub value_word : (l : List ℕ) (i : ℕ) → value 2 l i ≡ get_or l i 0 + 256 * get_or l (i + 1) 0
value_word l i = rw (add-one) (value_suc 1 l i ∙ ap (λ (v : ℕ). get_or l i 0 + 256 * v) (value_byte l (suc i)))

-- ---- an amount on and off

size_pos : (k : ℕ) → 0 < 256 ^ k
size_pos k = one-le-pow k 256 (omega arith)

module _ (k a v : ℕ) where
  -- with an amount on or off, k bytes can hold the number
  pub on_lt : on k a v < 256 ^ k
  unfolding on
  on_lt = mod-lt _ (size_pos k)

  pub off_lt : off k a v < 256 ^ k
  unfolding off
  off_lt = mod-lt _ (size_pos k)

  -- v and a whole number of times the size
  round : v < 256 ^ k → (x : ℕ) → x ≡ v + 256 ^ k * suc (a / 256 ^ k) → x % 256 ^ k ≡ v
  round h x e = ap (λ (y : ℕ). y % 256 ^ k) e ∙ add-mul-mod_self_left v (256 ^ k) (suc (a / 256 ^ k)) ∙ mod-eq_of_lt h

  -- each undoes the other
  pub off_on : v < 256 ^ k → off k a (on k a v) ≡ v
  unfolding on off
  off_on h =
      mod-add-mod (v + a) (256 ^ k) (256 ^ k - a % 256 ^ k)
      ∙ round h (v + a + (256 ^ k - a % 256 ^ k)) (omega (arith, div-add-mod a (256 ^ k), mod-lt a (size_pos k)))

  pub on_off : v < 256 ^ k → on k a (off k a v) ≡ v
  unfolding on off
  on_off h =
      mod-add-mod (v + (256 ^ k - a % 256 ^ k)) (256 ^ k) a
      ∙ round h (v + (256 ^ k - a % 256 ^ k) + a) (omega (arith, div-add-mod a (256 ^ k), mod-lt a (size_pos k)))

  -- an amount counts only by its remainder
  pub on_mod : on k (a % 256 ^ k) v ≡ on k a v
  unfolding on
  on_mod = add-mod-mod v a (256 ^ k)

  pub off_mod : off k (a % 256 ^ k) v ≡ off k a v
  unfolding off
  off_mod = ap (λ (r : ℕ). (v + (256 ^ k - r)) % 256 ^ k) (mod-mod a (256 ^ k))

-- a number that the amount brings to v is v with the amount off
pub off_is : (k a v r : ℕ) → r < 256 ^ k → (r + a) % 256 ^ k ≡ v → r ≡ off k a v
unfolding on
off_is k a v r h e = sym (off_on k a r h) ∙ ap (off k a) e

-- of a byte and of a word: what makes 65,536 or nothing of the amount, put on, is the amount off
pub on_rest : (k a r v : ℕ) → 1 ≤ k → k ≤ 2 → (r + a) % 65536 ≡ 0 → on k r v ≡ off k a v
unfolding on off
on_rest zero a r v h g e = absurd (omega arith)
on_rest (suc zero) a r v h g e = omega arith
on_rest (suc (suc zero)) a r v h g e = omega arith
on_rest (suc (suc (suc k))) a r v h g e = absurd (omega arith)

-- ---- numbers in a row

-- each number takes k bytes
pub length_encoded : (k : ℕ) (vs : List ℕ) → length (encoded k vs) ≡ k * length vs
unfolding encoded
length_encoded k [] = sym (mul-zero k)
length_encoded k (v ∷ vs) = rw (length-append, length_digits, length_encoded k vs, mul-suc) (add_comm k (k * length vs))

-- as many numbers are read as asked for, however short the run
pub length_decoded : (k n : ℕ) (l : List ℕ) → length (decoded k n l) ≡ n
unfolding decoded
length_decoded k zero l = refl
length_decoded k (suc n) l = rw (length-append, length_decoded k n l) (add-one n)

-- ---- and read back

-- a number that has room in its k bytes
value_encoded : (k : ℕ) (vs : List ℕ) (n : ℕ) → n < length vs → get_or vs n 0 < 256 ^ k → value k (encoded k vs) (k * n) ≡ get_or vs n 0
unfolding encoded value part
value_encoded k [] n h f = absurd (not-suc-le-zero h)
value_encoded k (v ∷ vs) zero h f =
    ap (λ (i : ℕ). number (take k (drop i (digits k v ++ encoded k vs)))) (mul-zero k)
    ∙ ap number (take_at (digits k v) (encoded k vs) k (length_digits k v))
    ∙ number_digits k v f
value_encoded k (v ∷ vs) (suc n) h f =
    let e : k * suc n ≡ length (digits k v) + k * n = omega (arith, mul-suc k n, length_digits k v) in
    ap (λ (i : ℕ). number (take k (drop i (digits k v ++ encoded k vs)))) e
    ∙ ap (λ (l : List ℕ). number (take k l)) (drop-append-add (digits k v) (encoded k vs) (k * n))
    ∙ value_encoded k vs n (le_of_suc-le-suc h) f

-- the first n of some that all have
decoded_encoded : (k : ℕ) (vs : List ℕ) → ((j : ℕ) → j < length vs → get_or vs j 0 < 256 ^ k) → (n : ℕ) → n ≤ length vs
    → decoded k n (encoded k vs) ≡ take n vs
unfolding decoded
decoded_encoded k vs f zero h = refl
decoded_encoded k vs f (suc n) h =
    ap (λ (l : List ℕ). l ++ (value k (encoded k vs) (k * n) ∷ [])) (decoded_encoded k vs f n (omega arith))
    ∙ ap (λ (v : ℕ). take n vs ++ (v ∷ [])) (value_encoded k vs n h (f n h))
    ∙ sym (take-suc vs n 0 h)

-- and all of them
pub reads_back : (k : ℕ) (vs l : List ℕ) → l ≡ encoded k vs → ((j : ℕ) → j < length vs → get_or vs j 0 < 256 ^ k) → decoded k (length vs) l ≡ vs
reads_back k vs l e f = ap (decoded k (length vs)) e ∙ decoded_encoded k vs f (length vs) (omega arith) ∙ take-length vs
