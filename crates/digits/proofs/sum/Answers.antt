-- `digits::sum` meets its contract: the bytes are those of the definition, each at most 272.
-- Assumes nothing.
use Rattle.std.proofs.Common.{◌+◌, ◌*◌, ◌<◌, ◌^◌, ◌∙◌, map, arith, rules}
use Rattle.std.specs.List.{sum, range_with_len}
use Rattle.std.proofs.lemmas.Iterator.{YieldsList-from_range, YieldsList-from_map}
use Rattle.std.proofs.lemmas.Iterator.Consumers.{YieldsList-at, sum_from_yields_List, fits_from_yields_list}
use Rattle.digits.proofs.Digits.{sum_is, sum_most}
use Rattle.digits.specs.Digits.{byte_at}
use Rattle.digits.proofs.sum.Goals as goal

pub sum-requires-clause-fits : goal.sum-requires-clause-fits
sum-requires-clause-fits c =
    let s = c.args in
    let file = s.file.now in
    let most : sum (map (λ i. byte_at file (s.at + 2 * i)) (range_with_len 0 s.count)) < 2 ^ 64 =
    omega (arith, sum_is file s.at s.count, sum_most file s.at s.count) in
    fits_from_yields_list c.map.result _
    (YieldsList-from_map _ (λ i. byte_at file (s.at + 2 * i))
    (YieldsList-at c.map.ensures.source (YieldsList-from_range 0 s.count s.count (search rules) (omega arith)))
    c.map.ensures.closure (λ x r q k. search rules))
    most

pub returns : goal.returns
returns c =
    let s = c.args in
    let file = s.file.now in
    sum_from_yields_List c.map.result _ c.sum.ensures.ran
    (YieldsList-from_map _ (λ i. byte_at file (s.at + 2 * i))
    (YieldsList-at c.map.ensures.source (YieldsList-from_range 0 s.count s.count (search rules) (omega arith)))
    c.map.ensures.closure (λ x r q k. search rules))
    ∙ sum_is file s.at s.count
