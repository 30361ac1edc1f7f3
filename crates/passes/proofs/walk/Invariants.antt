-- `passes::walk` meets its contract: the definition's walk has come to the cursor, with the buffers as what it did left them (`Going`).
-- Assumes nothing.
use Prim.Native.Nat.{◌-◌}
use lib.ListN.{length}
use Rattle.passes.proofs.Going.{Going}
use Rattle.passes.specs.Walk.{inputs}
use Rattle.passes.specs.Buffers.{buffers}
use Rattle.passes.proofs.walk.Given as goal

abbrev pub invariant-loop-cursor : goal.invariant-loop-cursor
invariant-loop-cursor l =
    Going l.file (inputs l.lent-inside.names.now l.lent-inside.addresses.now l.lent-inside.low l.lent-inside.high) l.write (buffers l.initial.memory l.initial.map l.initial.new_names l.initial.new_addresses) l.cursor l.bytes l.fields
    (buffers l.memory l.map l.new_names l.new_addresses)

abbrev pub decreases-loop-cursor : goal.decreases-loop-cursor
decreases-loop-cursor l =
    length l.file - l.cursor.at
