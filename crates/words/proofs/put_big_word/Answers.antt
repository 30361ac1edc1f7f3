-- `words::put_big_word` meets its contract: the bytes that the library makes are the digits of the word, high byte first.
-- Assumes nothing.
use Rattle.std.proofs.Common.{◌≡◌, ap, ◌∙◌, length, arith, rules}
use Rattle.words.proofs.Lent.{back_is}
use Rattle.words.specs.Numbers.{big_store, big_digits, digits}
use Rattle.words.specs.Runs.{put}
use Rattle.words.proofs.put_big_word.Goals as goal

pub returns : goal.returns
unfolding big_store big_digits digits
returns c =
    let s = c.args in
    let made : c.copy_from_slice.new.self ≡ big_digits 2 s.word = search rules in
    (back_is s.at 2 s.bytes.now _ c.requires (ap length made) ∙ ap (put s.bytes.now s.at) made, omega arith)
