-- `index::mark_fixup` meets its contract: the field that is listed is marked, at whatever bases.
-- Assumes nothing.
use Rattle.std.proofs.Common.{rules}
use Rattle.index.proofs.Fixing.{item_marked}
use Rattle.index.proofs.mark_fixup.Goals as goal

pub returns : goal.returns
returns c = λ b. item_marked _ b _ _ _ _ _ c.requires.0 c.listed_at.ensures.0 c.in-Some.is (search rules)
