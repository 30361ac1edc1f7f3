-- Runs of bytes in a buffer, which is a list of numbers: what stands at a place, and what is written there.
-- Assumes nothing.
use Rattle.std.specs.Prelude.{ℕ, ◌+◌, ◌<◌, ◌≤◌, Bool, true, false, ◌&&◌, ◌||◌, List, [], ◌∷◌, take, drop, ◌==◌, slice_index}
use Rattle.std.proofs.lemmas.List.Edits.{sets}

-- every element is a byte (past the end `slice_index` gives 0, so no index is out of range)
abbrev pub Bytes : List ℕ → Type 0
Bytes l = (x : ℕ) → slice_index l x < 256

-- the address x is one of the n from a on
abbrev pub Within : ℕ → ℕ → ℕ → Type 0
Within a n x = (a ≤ x) × (x < a + n)

-- no address is both one of the n from a on and one of the k from c on
abbrev pub Apart : ℕ → ℕ → ℕ → ℕ → Type 0
Apart a n c k = (x : ℕ) → Within a n x → Within c k x → ⊥

-- the n bytes of l from a on
unfoldable pub part : List ℕ → ℕ → ℕ → List ℕ
part l a n = take n (drop a l)

-- l with the bytes bs from a on
unfoldable pub put : List ℕ → ℕ → List ℕ → List ℕ
put l a bs = sets l a bs

-- whether every byte is zero
unfoldable pub all_zero : List ℕ → Bool
all_zero [] = true
all_zero (b ∷ bs) = b == 0 && all_zero bs

-- whether one of the bytes is v
unfoldable pub contains : ℕ → List ℕ → Bool
contains v [] = false
contains v (b ∷ bs) = b == v || contains v bs
