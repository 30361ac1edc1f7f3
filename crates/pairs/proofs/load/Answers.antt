-- `pairs::load` meets its contract: the lengths of the address lists decide, then the words in them.
-- Assumes nothing.
use Rattle.pairs.proofs.Pairs.{loads_odd, loads_many, loads_other}
use Rattle.pairs.proofs.load.Goals as goal

pub returns-then-size-ne0 : goal.returns-then-size-ne0
returns-then-size-ne0 c = loads_odd c.refused.ensures c.if-size-ne0.true

pub returns-then-size : goal.returns-then-size
returns-then-size c = loads_many c.refused-then-size.ensures c.if-size-ne0.false c.if-size.true

pub returns-in_default : goal.returns-in_default
returns-in_default c = loads_other c.refused-in_default.ensures c.in_default.ensures.cases

pub returns : goal.returns
returns c = rw c.in-Some.ensures.cases.same at c.load_words.ensures
