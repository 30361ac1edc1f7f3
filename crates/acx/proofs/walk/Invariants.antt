-- `acx::walk` meets its contract: the definition's walk has come to the cursor, with the memory and the map of its events (`Going`).
-- Assumes nothing.
use Prim.Native.Nat.{◌-◌}
use lib.ListN.{length}
use Rattle.acx.proofs.Going.{Going}
use Rattle.acx.proofs.walk.Given as goal

abbrev pub invariant-loop-entry : goal.invariant-loop-entry
invariant-loop-entry l = Going l.file l.bases l.at l.write l.initial.memory l.cursor l.memory l.map

abbrev pub decreases-loop-entry : goal.decreases-loop-entry
decreases-loop-entry l = length l.file - l.cursor.at
