-- `builder::open_index` meets its contract: its store is the version in a room that is cleared.
-- Assumes nothing.
use native.Mathlib.Omega.{arith}
use Rattle.builder.proofs.Writing.{opened}
use Rattle.builder.proofs.open_index.Goals as goal

pub returns : goal.returns
returns c =
    opened c.fill.ensures (omega arith)
