-- `updates::body` meets its contract: the definition's walk has come to the cursor, with the memory and the map of its events (`Going`).
-- Assumes nothing.
use Prim.Native.Nat.{◌-◌}
use lib.ListN.{length}
use Rattle.updates.proofs.Going.{Going}
use Rattle.updates.proofs.body.Given as goal

abbrev pub invariant-loop-item : goal.invariant-loop-item
invariant-loop-item l = Going l.file l.table l.amount l.at l.write l.initial.memory l.initial.map l.cursor l.memory l.map

abbrev pub decreases-loop-item : goal.decreases-loop-item
decreases-loop-item l = length l.file - l.cursor.at
