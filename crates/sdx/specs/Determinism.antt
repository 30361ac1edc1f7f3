-- One file, one program: of every two calls that keep the loader's contract. Proved in proofs/Determinism.antt (`same_program : SameClaim`).
-- Assumes nothing.
use Rattle.std.specs.Prelude.{Bool, true, ◌&&◌, List, ◌≡◌, ℕ, get_or}
use Rattle.answer.specs.Report.{Outcome}
use Rattle.events.specs.Events.{Event}
use Rattle.words.specs.Runs.{Bytes}
use Rattle.passes.specs.Buffers.{Buffers}
use Rattle.passes.specs.Walk.{Inputs, Progress}
use Rattle.sdx.specs.Call.{sized, Loaded}
use Rattle.sdx.specs.Demand2.{Places, Among}
use Rattle.sdx.specs.Rules.{Accepts}

-- "Two benches with the same settings must never hold two different programs from one file": two calls of a file, whatever their buffers held
-- before, answer r and t, and leave the buffers b and d. (A file that is refused, for its settings or its length too, leaves no program.)
pub record SameProgram (file : List ℕ) (g : Inputs) (r t : Outcome) (b d : Buffers) : Type 0 where
  pub outcome : r ≡ t
  pub map : b.map ≡ d.map
  -- where it was accepted, every byte that a block placed, and the new names
  pub program : (z : Progress) (es : List Event) → Accepts file g z es → (before after : List Event) (e : Event) (x : ℕ)
      → Among es before e after → Places x e → get_or b.memory x 0 ≡ get_or d.memory x 0
  pub names : (z : Progress) (es : List Event) → Accepts file g z es → b.names ≡ d.names
  pub addresses : (z : Progress) (es : List Event) → Accepts file g z es → b.addresses ≡ d.addresses

-- The claim: of every file, whatever the inputs, and of every two calls that keep the loader's contract, with buffers of the right lengths (x and y:
-- all else that is lent too).
abbrev pub SameClaim : Type 0
SameClaim =
    (file : List ℕ) → Bytes file → (g : Inputs) (x y : Bool) (b₁ b₂ b d : Buffers) (r t : Outcome) → x && sized g b₁ ≡ true → y && sized g b₂ ≡ true
    → Loaded file g (x && sized g b₁) b₁ r b
    → Loaded file g (y && sized g b₂) b₂ t d
    → SameProgram file g r t b d
