-- `acx::load_sized` meets its contract: the first walk left memory alone; where it refused, the map is cleared, and where it did not, the
-- second walk does what it said.
-- Assumes nothing.
use mathlib.Core.Path.{sym}
use native.Mathlib.Omega.{arith}
use Rattle.events.proofs.Events.{cleared}
use Rattle.acx.proofs.Calling.{loaded_refused, loaded_accepted}
use Rattle.acx.proofs.load_sized.Goals as goal

pub returns-then-is_err : goal.returns-then-is_err
returns-then-is_err c =
    loaded_refused c.walk_call-checked.ensures (sym c.if-is_err.ensures.value)
    (cleared _ _ (omega arith) c.fill.ensures)

pub returns : goal.returns
returns c =
    loaded_accepted c.walk_call-checked.ensures (sym c.if-is_err.ensures.value) c.walk_call.ensures
