-- Demand 1 for SDX files: which calls are refused, with which fault, and what a refused call leaves. Proved in proofs/Refusals.antt
-- (`call_refusals : RefusalsClaim`).
-- Assumes nothing.
use Rattle.std.specs.Prelude.{Bool, ◌&&◌, List, ◌≡◌, ℕ, leb, length}
use Rattle.answer.specs.Causes.{RefusedExactly}
use Rattle.answer.specs.Report.{Outcome}
use Rattle.answer.specs.declared.Fault.{Fault}
use Rattle.answer.specs.declared.Fault.TheVariants.{WrongBuffer}
use Rattle.events.specs.Events.{blank}
use Rattle.events.specs.Sizes.{file_limit}
use Rattle.passes.specs.Buffers.{Buffers}
use Rattle.passes.specs.Walk.{Inputs, Progress}
use Rattle.sdx.specs.Call.{in_range, sized, Loaded}
use Rattle.sdx.specs.Rules.{Refuses}

-- "A refusal leaves program memory untouched, and the other buffers hold what document 01 names": a call that was refused with a fault found
-- the buffers b, and left b'
pub record RefusedCall (fault : Fault) (b b' : Buffers) : Type 0 where
  pub memory : b'.memory ≡ b.memory
  pub names : b'.names ≡ b.names
  pub addresses : b'.addresses ≡ b.addresses
  -- "Refusal 1 changes nothing"
  pub wrong_buffer : fault ≡ WrongBuffer → b'.map ≡ b.map
  -- "Every other refusal leaves .. the map all zero"
  pub other : ¬ (fault ≡ WrongBuffer) → b'.map ≡ blank

-- the rules refuse a load with a fault at an offset, wherever its walk stands
abbrev pub RefusesAt : List ℕ → Inputs → Fault → ℕ → Type 0
RefusesAt file g fault offset = (y : Progress) × Refuses file g fault offset y

-- A call that answered r, where the lengths of all that is lent are right or not.
abbrev pub Refusals : List ℕ → Inputs → Bool → Buffers → Outcome → Buffers → Type 0
Refusals file g right b r b' =
    RefusedExactly right (in_range g) (leb (length file) file_limit) (length file) (RefusesAt file g) (λ fault. RefusedCall fault b b') r

-- The claim: of every file, whatever the inputs and the buffers, and of every call that keeps the loader's contract.
abbrev pub RefusalsClaim : Type 0
RefusalsClaim =
    (file : List ℕ) (g : Inputs) (others : Bool) (b b' : Buffers) (r : Outcome) → Loaded file g (others && sized g b) b r b'
    → Refusals file g (others && sized g b) b r b'
