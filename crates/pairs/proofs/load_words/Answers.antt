-- `pairs::load_words` meets its contract: the words of the pairs are what the loader gets, and what it writes goes back as pairs.
-- Assumes nothing.
use mathlib.Core.Path.{refl, sym, ◌∙◌}
use native.Mathlib.Omega.{arith}
use Rattle.passes.specs.Buffers.{buffers}
use Rattle.passes.specs.Walk.{inputs}
use Rattle.pairs.proofs.Pairs.{known_front, loads_accepted, loads_refused}
use Rattle.pairs.proofs.load_words.Goals as goal

pub returns-else-is_ok : goal.returns-else-is_ok
returns-else-is_ok c =
    let a = c.args in
    let k = c.decode_words in
    loads_refused a.file.now (inputs c.args.known_names.now c.args.known_addresses.now a.low a.high)
    (buffers a.memory.now a.map.now a.new_names.now a.new_addresses.now) _ _ _ _ c.requires.0 (omega arith)
    (known_front c.args.known_addresses.now k.new.words _ k.ensures (omega (arith, c.requires.1))) c.load-outcome.ensures
    (sym c.is_ok.ensures.value ∙ c.if-is_ok.false) refl

pub returns-then-is_ok : goal.returns-then-is_ok
returns-then-is_ok c =
    let a = c.args in
    let k = c.decode_words in
    loads_accepted a.file.now (inputs c.args.known_names.now c.args.known_addresses.now a.low a.high)
    (buffers a.memory.now a.map.now a.new_names.now a.new_addresses.now) _ _ _ _ c.requires.0 (omega arith)
    (known_front c.args.known_addresses.now k.new.words _ k.ensures (omega (arith, c.requires.1))) c.load-outcome.ensures
    (sym c.is_ok.ensures.value ∙ c.if-is_ok.true) c.encode_words.ensures.0 c.encode_words.ensures.1
