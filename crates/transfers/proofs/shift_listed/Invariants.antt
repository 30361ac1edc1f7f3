-- `transfers::shift_listed` meets its contract: the definition's list of fields has come to the fixup at hand (`Shifting`), or ends at a bad kind.
-- Assumes nothing.
use mathlib.Core.Path.{◌≡◌}
use Rattle.entries.specs.Entries.{fields_to}
use Rattle.transfers.proofs.Shifting.{Shifting}
use Rattle.transfers.proofs.shift_listed.Given as goal

abbrev pub invariant-loop-item : goal.invariant-loop-item
invariant-loop-item l = (l.item-iterator.size ≡ 3)
    × Shifting l.old l.new (fields_to l.kind l.items) l.initial.code (fields_to l.kind l.item-iterator.rest.now) l.code
