-- Demand 1 for ACX files: which calls are refused, with which fault, and what a refused call leaves. Proved in proofs/Refusals.antt
-- (`call_refusals : RefusalsClaim`).
-- Assumes nothing.
use Rattle.std.specs.Prelude.{Bool, ◌&&◌, List, ◌≡◌, ℕ, leb, length}
use Rattle.answer.specs.Report.{Outcome}
use Rattle.answer.specs.Causes.{RefusedExactly}
use Rattle.answer.specs.declared.Fault.{Fault}
use Rattle.answer.specs.declared.Fault.TheVariants.{WrongBuffer}
use Rattle.events.specs.Events.{blank}
use Rattle.events.specs.Sizes.{file_limit}
use Rattle.pieces.specs.declared.Bases.{Bases}
use Rattle.acx.specs.Call.{in_range, sized, Loaded}
use Rattle.acx.specs.Rules.{Refuses}

-- "A refusal leaves program memory untouched, and the other buffers hold what document 01 names": a call that was refused found memory m
-- and the map p, and left m' and p'
pub record RefusedCall (fault : Fault) (m p m' p' : List ℕ) : Type 0 where
  pub memory : m' ≡ m
  -- "Refusal 1 changes nothing"
  pub wrong_buffer : fault ≡ WrongBuffer → p' ≡ p
  -- "Every other refusal leaves .. the map all zero"
  pub other : ¬ (fault ≡ WrongBuffer) → p' ≡ blank

-- A call that answered r, where the lengths of all that is lent are right or not.
abbrev pub Refusals : ℕ → Bases → List ℕ → Bool → List ℕ → List ℕ → Outcome → List ℕ → List ℕ → Type 0
Refusals form b file right m p r m' p' =
    RefusedExactly right (in_range form b) (leb (length file) file_limit) (length file) (Refuses form b file) (λ fault. RefusedCall fault m p m' p') r

-- The claim: of every file, all settings, whatever is lent, and every call that keeps the loader's contract.
abbrev pub RefusalsClaim : Type 0
RefusalsClaim =
    (form : ℕ) (b : Bases) (file : List ℕ) (answer_sized : Bool) (m p : List ℕ) (r : Outcome) (m' p' : List ℕ)
    → Loaded form b file (answer_sized && sized m p) m p r m' p'
    → Refusals form b file (answer_sized && sized m p) m p r m' p'
