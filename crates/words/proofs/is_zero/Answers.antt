-- `words::is_zero` meets its contract: the library's test asks of each byte what the definition asks.
-- Assumes nothing.
use Rattle.std.proofs.Common.{◌∙◌, rules, tests}
use Rattle.std.proofs.lemmas.Iterator.{YieldsList-from_slice}
use Rattle.std.proofs.lemmas.Iterator.Search.{all_from_yields_List}
use Rattle.std.specs.Prelude.{◌==◌}
use Rattle.words.proofs.Turns.{all_is}
use Rattle.words.proofs.is_zero.Goals as goal

pub returns : goal.returns
returns c =
    let s = c.args.bytes.now in
    all_from_yields_List (λ b. b == 0) _ _ _ c.all.ensures.ran (YieldsList-from_slice s cc) (λ x b q k. search (rules, tests)) ∙ all_is s
