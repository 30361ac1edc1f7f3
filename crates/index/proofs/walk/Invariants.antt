-- `index::walk` meets its contract: its entries decide, and the definition's walk over them has come to the cursor, with the map of its events (`Going`).
-- Assumes nothing.
use mathlib.Core.Path.{◌≡◌}
use Prim.Native.Nat.{◌-◌}
use lib.ListN.{length}
use Rattle.events.specs.Events.{blank}
use Rattle.index.proofs.Going.{Going}
use Rattle.index.proofs.walk.Given as goal
use Rattle.index.specs.Walk.{begun, entries_from, judged}

abbrev pub invariant-loop-found : goal.invariant-loop-found
invariant-loop-found l = (judged l.index l.bases ≡ entries_from l.index l.bases begun blank) × Going l.index l.bases l.cursor l.map

abbrev pub decreases-loop-found : goal.decreases-loop-found
decreases-loop-found l = length l.index - l.cursor.at
