-- `names::find` meets its contract: the names come from the newest on, and the closure compares each with the one that is asked for.
-- Assumes nothing.
use Rattle.std.proofs.Common.{rules, ◌≡◌, ap, length, ◌∙◌}
use borrow.Author.Tests.{tests}
use Rattle.names.proofs.FromTheBack.{whole_name, finds_newest}
use Rattle.names.specs.Names.{newest}
use Rattle.names.proofs.find.Goals as goal

pub returns : goal.returns
returns c =
    let asked : c.unwrap-name.result.now ≡ c.args.name.now = whole_name _ _ _ c.requires c.first_chunk.ensures.cases c.unwrap-name.ensures in
    let is : c.rposition.result ≡ newest c.args.names.now c.unwrap-name.result.now =
    finds_newest _ _ _ _ (λ x q k. search (rules, tests)) (λ x q k. search (rules, tests)) _ _ _ _ c.rposition.ensures.ran
    (c.iter.ensures.rest ∙ c.as_chunks.ensures.front) (ap length c.iter.ensures.rest ∙ c.as_chunks.ensures.front_len)
    in
    let all : c.rposition.result ≡ newest c.args.names.now c.args.name.now = is ∙ ap (newest c.args.names.now) asked in
    search rules
