-- `digits::past_digits` meets its contract: it counts the digits that lead, of as many characters as are looked at.
-- Assumes nothing.
use Rattle.std.proofs.Common.{◌≡◌, ◌∙◌, ◌-◌, drop, take, length, length-drop, arith, rules, tests}
use lib.Seq.{take-length}
use Rattle.std.proofs.lemmas.Iterator.{YieldsList-from_slice, YieldsList-from_take}
use Rattle.std.proofs.lemmas.Iterator.Consumers.{count_from_yields_List, YieldsList-at}
use Rattle.std.proofs.lemmas.Iterator.Search.{YieldsList-from_take_while}
use Rattle.std.proofs.lemmas.List.Folds.{length-prefix_len}
use Rattle.digits.proofs.Ends.{leading_is}
use Rattle.digits.specs.Digits.{is_digit, leading, past_digits}
use Rattle.words.specs.Runs.{part}
use Rattle.digits.proofs.past_digits.Goals as goal

pub returns : goal.returns
unfolding past_digits part
returns c =
    let file = c.args.file.now in
    let rest = drop c.args.at file in
    let whole : take (length file - c.args.at) rest ≡ rest = rw (← length-drop c.args.at file) (take-length rest) in
    let some = take c.args.count rest in
    let counted : c.count.result ≡ leading is_digit some =
    count_from_yields_List c.take_while.result _ c.count.ensures.ran
    (YieldsList-from_take_while _ is_digit
    (YieldsList-at c.take_while.ensures.source
    (YieldsList-from_take c.args.count
    (YieldsList-at c.take.ensures.source (YieldsList-from_slice rest (c.iter.ensures.rest ∙ whole)))
    (search rules)))
    c.take_while.ensures.closure c.take_while.ensures.done (λ x b q k. search (rules, tests)))
    ∙ length-prefix_len is_digit some
    ∙ leading_is is_digit some in
    omega arith
