-- A move by an index and one by its file: document 02, wish 5, "A move by a built index must give the same memory, map and answer as one by its file; .. and
-- refusal offsets are those of its entries". Proved in proofs/Same.antt (`moves_same : SameMoveClaim`).
-- Assumes nothing.
use Rattle.std.specs.Prelude.{true, List, ◌≡◌, ℕ}
use Rattle.answer.specs.declared.Fault.{Fault}
use Rattle.answer.specs.Report.{Outcome, refusal}
use Rattle.index.specs.Built.{BuiltFrom}
use Rattle.words.specs.Runs.{Bytes}
use Rattle.moves.specs.Call.{Call, sized, Moved}
use Rattle.moves.specs.Sources.{file_in, the_index}

-- one answer, but for the offset of a refusal (where that lies: `RefusesMove` in Outcomes.antt)
pub data SameAnswer : Outcome → Outcome → Type 0 where
  same : {r : Outcome} → SameAnswer r r
  elsewhere : {fault : Fault} {offset other side : ℕ} → SameAnswer (refusal fault offset side) (refusal fault other side)

-- Two calls in memories that were alike: they answered r and t, and left the memories m and n, the maps p and q and the scratches s and u.
pub record SameMove (r t : Outcome) (m n p q s u : List ℕ) : Type 0 where
  pub answer : SameAnswer r t
  pub memory : m ≡ n
  pub map : p ≡ q
  pub scratch : s ≡ u

-- of every index built from a file of bytes, and every two calls that keep the mover's contract, one by the file and one by the index, from the same bases to
-- the same bases in the same memory, and are lent buffers of the right lengths
abbrev pub SameMoveClaim : Type 0
SameMoveClaim =
    (form : ℕ) (file index : List ℕ) → Bytes file → BuiltFrom form file index
    → (c d : Call) (m : List ℕ) → c.source ≡ file_in form file → d.source ≡ the_index index → c.old ≡ d.old → c.new ≡ d.new
    → sized c m ≡ true → sized d m ≡ true
    → (r t : Outcome) (m' n' p' q' s' u' : List ℕ) → Moved c m r m' p' s' → Moved d m t n' q' u' → SameMove r t m' n' p' q' s' u'
