-- `sdx::load_blocks` meets its contract: the first walk left memory and the new-name buffers alone; where it stopped, that is the refusal, and where
-- it did not, the second walk does what it said.
-- Assumes nothing.
use mathlib.Core.Path.{◌≡◌, ap}
use native.Mathlib.Omega.{arith}
use Rattle.std.proofs.Common.{rules, Ok, Err}
use Rattle.std.proofs.lemmas.Result.{err_from_is_err_and}
use Rattle.sdx.proofs.Calling.{blocks_refused, blocks_accepted}
use Rattle.sdx.proofs.Mapped.{mapped}
use Rattle.sdx.proofs.load_blocks.Goals as goal

pub returns-in_err-totals : goal.returns-in_err-totals
returns-in_err-totals c =
    let p = err_from_is_err_and c.from_residual.result c.from_residual.ensures.1 in
    let k = mapped c.check.result c.map_err.result c.map_err.ensures.cases c.in_err-totals.was in
    blocks_refused _ _ c.requires.1 c.check.ensures k.1 (rw (p.1, p.2) (ap Err k.2))

pub returns : goal.returns
returns c =
    let done : c.check.result ≡ Ok c.in_ok-totals.totals = search rules in
    blocks_accepted _ _ c.requires.1 c.check.ensures done (omega arith) (omega arith) c.walk-again.ensures c.finish.ensures
