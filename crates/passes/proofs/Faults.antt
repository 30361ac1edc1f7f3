-- What a walk is refused with: not 1, 2 or 3, and in the file, or at its end (`answer`, proofs/Faults.antt).
-- Assumes nothing.
use mathlib.Core.List.{List}
use mathlib.Core.Path.{refl}
use Prim.Native.Nat.{ℕ, ◌≤◌}
use native.Mathlib.Omega.{arith}
use lib.Dec.{eqb}
use lib.ListN.{length}
use Rattle.std.proofs.Common.{Result, Ok, Err}
use Rattle.answer.proofs.Checks.{on_pick}
use Rattle.answer.proofs.Faults.{OfFile}
use Rattle.answer.specs.declared.Failure.{Failure}
use Rattle.blocks.proofs.Lying.{BlockFaults}
use Rattle.blocks.specs.declared.Block.{Block}
use Rattle.events.proofs.Faults.{Ending, from_ends}
use Rattle.events.specs.Events.{Event, blank, Ran}
use Rattle.events.specs.Walk.{Turn}
use Rattle.updates.proofs.Faults.{StopFaults}
use Rattle.updates.specs.Bodies.{Stop, broken, done}
use Rattle.passes.proofs.Turning.{read_faulty, block_faults}
use Rattle.passes.specs.Walk.{Inputs, Progress, Verdict, finished, refused, judge, block_at, applied_at, carried, turn, blocks_from, blocks_of}

-- a file ends, or is refused with a fault of its own
abbrev pub VerdictFaults : ℕ → Verdict → Type 0
VerdictFaults len (finished z) = Unit {0}
VerdictFaults len (refused fault offset z) = OfFile len fault offset

-- (the same as a record)
pub record Verdicts (len : ℕ) (v : Verdict) : Type 0 where
  pub faults : VerdictFaults len v

-- where a block leads
judge_faults : (len : ℕ) (file : List ℕ) (z : Progress) (b : Block) (es : List Event) (s : Stop) → StopFaults len s
    → Ending (Verdicts len) (judge file z b es s)
judge_faults len file z b es (broken fault offset) h = record { faults = h }
judge_faults len file z b es (done next) h = tt

carried_faults : (file : List ℕ) (g : Inputs) (z : Progress) (read : Result Block Failure) (map : List ℕ) → BlockFaults (length file) read
    → Ending (Verdicts (length file)) (carried file g z read map).answer
carried_faults file g z (Err e) map h = record { faults = h }
carried_faults file g z (Ok found) map h = judge_faults (length file) file z found _ (applied_at file g z (Ok found) map).answer (block_faults file g z (Ok found) map h).faults

-- so every turn, and all blocks
turn_faults : (file : List ℕ) (g : Inputs) → g.high ≤ 65535 → (z : Progress) (map : List ℕ) → Ending (Verdicts (length file)) (turn file g z map).answer
unfolding turn
turn_faults file g top z map =
    on_pick (λ (o : Ran (Turn Progress Verdict)). Ending (Verdicts (length file)) o.answer) (eqb z.cursor.at (length file)) _ _
    (λ _. record { faults = tt })
    (λ _. carried_faults file g z (block_at file g z) map (read_faulty file g top z))

pub blocks_faults : (file : List ℕ) (g : Inputs) → g.high ≤ 65535 → Verdicts (length file) (blocks_of file g).answer
unfolding blocks_from
blocks_faults file g top =
    from_ends (Verdicts (length file)) (turn file g) _ (λ z. record { faults = record { late = refl; place = omega arith } }) (turn_faults file g top) _ _
    blank
