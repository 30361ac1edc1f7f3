-- `builder::write_items` meets its contract: the definition's list of fields has come to the field at hand, and the room holds those before it
-- (`Listing`).
-- Assumes nothing.
use Rattle.std.proofs.Common.{◌≡◌, ◌+◌, ◌*◌}
use Rattle.fields.specs.Fields.{item_size, fields_of}
use Rattle.builder.proofs.Writing.{Listing}
use Rattle.builder.proofs.write_items.Given as goal

abbrev pub invariant-loop-i : goal.invariant-loop-i
invariant-loop-i l = (l.i-iterator.iter.size ≡ item_size l.fixup)
    × Listing l.kind (fields_of l.fixup l.items) l.at l.initial.index (fields_of l.fixup l.i-iterator.iter.rest.now) (l.at + 3 * l.i-iterator.count) l.index
