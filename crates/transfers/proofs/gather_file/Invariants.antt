-- `transfers::gather_file` meets its contract: the definition's walks at both pairs of bases have come to the cursors, and the scratch holds the pieces so
-- far (`Gathering`).
-- Assumes nothing.
use Prim.Native.Nat.{◌-◌}
use lib.ListN.{length}
use Rattle.transfers.proofs.Gathering.{Walkable, Gathering}
use Rattle.transfers.proofs.gather_file.Given as goal

abbrev pub invariant-loop-found : goal.invariant-loop-found
invariant-loop-found l = Walkable l.form l.old l.new l.file l.at
    × Gathering l.file l.old l.new l.at l.memory l.initial.scratch l.source l.target l.scratch

abbrev pub decreases-loop-found : goal.decreases-loop-found
decreases-loop-found l = length l.file - l.source.at
