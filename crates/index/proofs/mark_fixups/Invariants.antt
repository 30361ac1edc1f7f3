-- `index::mark_fixups` meets its contract: the definition's fixups have come to the one at hand, with the map that those before it left (`Fixing`), at
-- whatever bases.
-- Assumes nothing.
use Rattle.std.proofs.Common.{◌≡◌, ◌%◌, length}
use Rattle.pieces.specs.declared.Bases.{Bases}
use Rattle.index.proofs.Fixing.{Fixing}
use Rattle.index.proofs.mark_fixups.Given as goal

abbrev pub invariant-loop-item : goal.invariant-loop-item
invariant-loop-item l = (l.item-iterator.size ≡ 3) × (length l.item-iterator.rest.now % 3 ≡ 0)
    × ((b : Bases) → Fixing l.at b l.kind l.place l.size l.items l.initial.map l.item-iterator.rest.now l.map)
