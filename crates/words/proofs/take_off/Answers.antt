-- `words::take_off` meets its contract: what makes 65,536 of the amount, put on, is the amount off.
-- Assumes nothing.
use Rattle.std.proofs.Common.{◌∙◌, arith}
use Rattle.words.proofs.Changes.{change_same}
use Rattle.words.proofs.Numbers.{on_rest}
use Rattle.words.specs.Numbers.{on, off}
use Rattle.words.proofs.take_off.Goals as goal

pub returns : goal.returns
returns c =
    let s = c.args in
    c.add.ensures
    ∙ change_same s.width (on s.width _) s.bytes.now s.at (off s.width s.amount) (on_rest s.width s.amount _ _ (omega arith) (omega arith) (grind arith))
