-- `transfers::gather_index` meets its contract: the entries have led to the offset, and the scratch holds the pieces so far (`Gathering`).
-- Assumes nothing.
use Prim.Native.Nat.{◌-◌}
use lib.ListN.{length}
use Rattle.transfers.proofs.Entries.{Gathering}
use Rattle.transfers.proofs.gather_index.Given as goal

abbrev pub invariant-loop-kind : goal.invariant-loop-kind
invariant-loop-kind l = Gathering l.index l.old l.new l.memory l.initial.scratch l.at l.scratch

abbrev pub decreases-loop-kind : goal.decreases-loop-kind
decreases-loop-kind l = length l.index - l.at
