-- `builder::build_checked` meets its contract: an index that does not fit is refused before the room is touched, and one that fits is written.
-- Assumes nothing.
use native.Mathlib.Omega.{arith}
use Rattle.events.proofs.Events.{cleared}
use Rattle.builder.proofs.Building.{built_long, built_short}
use Rattle.builder.proofs.build_checked.Goals as goal

pub returns-then-length-gt-MEMORY : goal.returns-then-length-gt-MEMORY
returns-then-length-gt-MEMORY c =
    built_long c.requires.0 c.index_length-length.ensures.0 (omega (arith, c.if-length-gt-MEMORY.true)) c.refused.ensures
    (cleared _ _ (omega arith) c.fill.ensures)

pub returns : goal.returns
returns c =
    built_short c.requires.0 c.index_length-length.ensures.0 c.if-length-gt-MEMORY.false c.requires.1 c.with_low.ensures c.requires.2 c.write_index.ensures
