-- Numbers of k bytes, low byte first ("two-byte numbers in files are low byte first"), or high byte first; and adjusting one.
-- Everything is said over the width k: a byte is k = 1, a word k = 2, a number of the answer k = 4.
-- Assumes nothing.
use Rattle.std.specs.Prelude.{ℕ, zero, suc, ◌+◌, ◌-◌, ◌*◌, ◌/◌, ◌%◌, ◌^◌, List, [], ◌∷◌, ◌++◌, reverse}
use Rattle.words.specs.Runs.{part, put}

-- the number that a run of bytes holds
unfoldable pub number : List ℕ → ℕ
number [] = 0
number (b ∷ bs) = b + 256 * number bs

-- the k low bytes of v
unfoldable pub digits : ℕ → ℕ → List ℕ
digits zero v = []
digits (suc k) v = v % 256 ∷ digits k (v / 256)

-- the number in the k bytes of l from i on
unfoldable pub value : ℕ → List ℕ → ℕ → ℕ
value k l i = number (part l i k)

-- l with v in those k bytes
unfoldable pub store : ℕ → List ℕ → ℕ → ℕ → List ℕ
store k l i v = put l i (digits k v)

-- the k low bytes of v, high byte first
unfoldable pub big_digits : ℕ → ℕ → List ℕ
big_digits k v = reverse (digits k v)

-- the number in the k bytes of l from i on, high byte first
unfoldable pub big_value : ℕ → List ℕ → ℕ → ℕ
big_value k l i = number (reverse (part l i k))

-- l with v in those k bytes, high byte first
unfoldable pub big_store : ℕ → List ℕ → ℕ → ℕ → List ℕ
big_store k l i v = put l i (big_digits k v)

-- v with the amount a on, "modulo 65,536 for words, 256 for bytes"
unfoldable pub on : ℕ → ℕ → ℕ → ℕ
on k a v = (v + a) % 256 ^ k

-- v with the amount a off, modulo the same size: each undoes the other (`on_off`, `off_on`)
unfoldable pub off : ℕ → ℕ → ℕ → ℕ
off k a v = (v + (256 ^ k - a % 256 ^ k)) % 256 ^ k

-- l with the number v in its k bytes from i on replaced by g v
unfoldable pub change : ℕ → (ℕ → ℕ) → List ℕ → ℕ → List ℕ
change k g l i = store k l i (g (value k l i))

-- the numbers vs, k bytes each
unfoldable pub encoded : ℕ → List ℕ → List ℕ
encoded k [] = []
encoded k (v ∷ vs) = digits k v ++ encoded k vs

-- the first n numbers in l, k bytes each
unfoldable pub decoded : ℕ → ℕ → List ℕ → List ℕ
decoded k zero l = []
decoded k (suc n) l = decoded k n l ++ (value k l (k * n) ∷ [])
