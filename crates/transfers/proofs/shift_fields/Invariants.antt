-- `transfers::shift_fields` meets its contract: the definition's list of fields has come to the field at hand (`Shifting`).
-- Assumes nothing.
use mathlib.Core.Path.{◌≡◌}
use Rattle.fields.specs.Fields.{item_size, fields_of}
use Rattle.transfers.proofs.Shifting.{Shifting}
use Rattle.transfers.proofs.shift_fields.Given as goal

abbrev pub invariant-loop-item : goal.invariant-loop-item
invariant-loop-item l = (l.item-iterator.size ≡ item_size l.fixup)
    × Shifting l.old l.new (fields_of l.fixup l.items) l.initial.code (fields_of l.fixup l.item-iterator.rest.now) l.code
