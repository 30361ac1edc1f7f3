-- `pieces::adjust_fields` meets its contract: the definition's list of fields has come to the field at hand, with the memory and the map that
-- the fields before it left (`Adjusting`).
-- Assumes nothing.
use mathlib.Core.Path.{◌≡◌}
use Prim.Native.Nat.{◌+◌, ◌*◌, ◌≤◌}
use lib.ListN.{length}
use Rattle.fields.specs.Fields.{item_size, fields_of}
use Rattle.pieces.proofs.Fields.{Adjusting}
use Rattle.pieces.proofs.adjust_fields.Given as goal

abbrev pub invariant-loop-i : goal.invariant-loop-i
invariant-loop-i l = (l.i-iterator.iter.size ≡ item_size l.fixup)
    × (l.from + l.i-iterator.count * item_size l.fixup + length l.i-iterator.iter.rest.now ≤ 65536)
    × Adjusting l.from (item_size l.fixup) l.bases l.place l.size l.write (fields_of l.fixup l.items) l.initial.memory l.initial.map (l.from + l.i-iterator.count * item_size l.fixup) (fields_of l.fixup l.i-iterator.iter.rest.now) l.memory l.map
