-- `edges::load_sdx` meets its contract: its buffers are zeros of their lengths, so the loader promises the outcome whose numbers go out.
-- Assumes nothing.
use Rattle.events.specs.Events.{blank}
use Rattle.edges.proofs.Numbers.{numbers_sdx}
use Rattle.edges.proofs.load_sdx.Goals as goal

pub returns : goal.returns
unfolding blank
returns g c = rw (numbers_sdx _ _ _ c.load-outcome.ensures) at c.print_outcome.ensures
