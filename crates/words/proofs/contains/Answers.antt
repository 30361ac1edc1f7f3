-- `words::contains` meets its contract: the library's search asks of each byte what the definition asks.
-- Assumes nothing.
use Rattle.std.proofs.Common.{◌≡◌, ◌∙◌, rules}
use Rattle.std.specs.List.{list_any}
use Rattle.std.specs.Prelude.{◌==◌}
use Rattle.words.proofs.Turns.{any_is}
use Rattle.words.proofs.contains.Goals as goal

pub returns : goal.returns
returns c =
    let s = c.args in
    let each : c.contains.result ≡ list_any (λ b. b == s.byte) s.bytes.now = search rules in
    each ∙ any_is s.byte s.bytes.now
