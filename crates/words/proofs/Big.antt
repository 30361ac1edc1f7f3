-- Numbers of k bytes, high byte first: their bytes are those of the same numbers low byte first, in reverse.
-- Assumes nothing.
use Rattle.std.proofs.Common.{◌≡◌, ℕ, zero, suc, ◌+◌, ◌*◌, ◌/◌, ◌%◌, ◌^◌, ◌<◌, ◌≤◌, List, [], ◌∷◌, ◌++◌, reverse, length, get_or, take, drop, refl, ap, ◌∙◌, arith, take_at}
use mathlib.Core.List.{reverse_aux, reverse-reverse}
use lib.ListN.{length-reverse}
use Rattle.words.proofs.Numbers.{length_digits, bytes_digits, number_digits}
use Rattle.words.proofs.Runs.{length_put, part_put_long, part_two}
use Rattle.words.specs.Numbers.{number, digits, big_digits, big_value, big_store}
use Rattle.words.specs.Runs.{Bytes, part}

-- ---- the bytes of a number

-- they are k in number, and bytes
pub length_big_digits : (k v : ℕ) → length (big_digits k v) ≡ k
unfolding big_digits
length_big_digits k v = length-reverse (digits k v) ∙ length_digits k v

bytes_reverse : (l r : List ℕ) → Bytes l → Bytes r → Bytes (reverse_aux l r)
bytes_reverse [] r h g = g
bytes_reverse (b ∷ l) r h g = bytes_reverse l (b ∷ r) (λ x. h (suc x)) first
  where
    first : Bytes (b ∷ r)
    first zero = h 0
    first (suc x) = g x

pub bytes_big_digits : (k v : ℕ) → Bytes (big_digits k v)
unfolding big_digits
bytes_big_digits k v = bytes_reverse (digits k v) [] (bytes_digits k v) (λ x. omega arith)

-- those of a word, as code stores them
pub big_digits_word : (v : ℕ) → big_digits 2 v ≡ v / 256 % 256 ∷ v % 256 ∷ []
unfolding big_digits digits
big_digits_word v = refl

-- ---- a number read and stored

-- a store keeps the length
pub length_big_store : (k : ℕ) (l : List ℕ) (i v : ℕ) → length (big_store k l i v) ≡ length l
unfolding big_store
length_big_store k l i v = length_put l i (big_digits k v)

-- what was stored is read back, where k bytes can hold it
pub big_value_store : (k : ℕ) (l : List ℕ) (i v : ℕ) → i + k ≤ length l → v < 256 ^ k → big_value k (big_store k l i v) i ≡ v
unfolding big_value big_store big_digits
big_value_store k l i v f h =
    ap (λ (r : List ℕ). number (reverse r)) (part_put_long l i (reverse (digits k v)) k (length_big_digits k v) f)
    ∙ ap number (reverse-reverse (digits k v))
    ∙ number_digits k v h

-- so is one whose bytes stand there, whatever comes after them
pub big_value_there : (k : ℕ) (l : List ℕ) (i v : ℕ) (rest : List ℕ) → drop i l ≡ big_digits k v ++ rest → v < 256 ^ k → big_value k l i ≡ v
unfolding big_value big_digits part
big_value_there k l i v rest e h =
    ap (λ (r : List ℕ). number (reverse (take k r))) e
    ∙ ap (λ (r : List ℕ). number (reverse r)) (take_at (big_digits k v) rest k (length_big_digits k v))
    ∙ ap number (reverse-reverse (digits k v))
    ∙ number_digits k v h

-- a word, as code reads it (of a word cut off by the end, the byte that is left would be the low one)
pub big_value_word : (l : List ℕ) (i : ℕ) → i + 2 ≤ length l → big_value 2 l i ≡ 256 * get_or l i 0 + get_or l (i + 1) 0
unfolding big_value number
big_value_word l i h = ap (λ (r : List ℕ). number (reverse r)) (part_two l i h) ∙ omega arith
