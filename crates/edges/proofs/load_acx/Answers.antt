-- `edges::load_acx` meets its contract: memory and map are zeros of their lengths, so the loader promises the outcome whose numbers go out.
-- Assumes nothing.
use Rattle.events.specs.Events.{blank}
use Rattle.edges.proofs.Numbers.{numbers_acx}
use Rattle.edges.proofs.load_acx.Goals as goal

pub returns : goal.returns
unfolding blank
returns g c = rw (numbers_acx _ _ c.load-outcome.ensures) at c.print_outcome.ensures
