-- `builder::write_index` meets its contract: the definition's walk has come to the cursor, and the room holds its pieces so far (`Filling`).
-- Assumes nothing.
use Prim.Native.Nat.{◌-◌}
use lib.ListN.{length}
use Rattle.builder.proofs.Filling.{Filling}
use Rattle.builder.proofs.Walking.{Walkable}
use Rattle.builder.proofs.write_index.Given as goal

abbrev pub invariant-loop-entry : goal.invariant-loop-entry
invariant-loop-entry l = Walkable l.form l.bases l.file l.at × Filling l.file l.bases l.at l.cursor l.front l.index

abbrev pub decreases-loop-entry : goal.decreases-loop-entry
decreases-loop-entry l = length l.file - l.cursor.at
