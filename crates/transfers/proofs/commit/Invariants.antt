-- `transfers::commit` meets its contract: up to `x` the bytes are chosen by the map, and from there on they are as they were (`Overlaying`).
-- Assumes nothing.
use mathlib.Core.Path.{◌≡◌}
use lib.ListN.{length}
use Rattle.transfers.proofs.Overlay.{Overlaying}
use Rattle.transfers.proofs.commit.Given as goal

abbrev pub invariant-loop-x : goal.invariant-loop-x
invariant-loop-x l = (length l.memory ≡ length l.initial.memory) × Overlaying l.map l.scratch l.initial.memory l.x l.memory
