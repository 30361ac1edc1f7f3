-- `builder::index_length` meets its contract: the definition's walk has come to the cursor, and the bytes of its pieces so far are counted
-- (`Counting`).
-- Assumes nothing.
use Prim.Native.Nat.{◌-◌}
use lib.ListN.{length}
use Rattle.builder.proofs.Walking.{Walkable, Counting}
use Rattle.builder.proofs.index_length.Given as goal

abbrev pub invariant-loop-cursor : goal.invariant-loop-cursor
invariant-loop-cursor l = Walkable l.form l.bases l.file l.at × Counting l.file l.bases l.at l.cursor l.used

abbrev pub decreases-loop-cursor : goal.decreases-loop-cursor
decreases-loop-cursor l = length l.file - l.cursor.at
