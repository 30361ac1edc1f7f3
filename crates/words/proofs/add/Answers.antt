-- `words::add` meets its contract: a width of 1 or 2 is that of a byte or of a word, read, changed and stored.
-- Assumes nothing.
use Rattle.std.proofs.Common.{◌≡◌, arith}
use Rattle.words.proofs.Changes.{byte_changed, read_and_stored}
use Rattle.words.specs.Numbers.{on}
use Rattle.words.proofs.add.Goals as goal

pub returns-then-width-eq1 : goal.returns-then-width-eq1
unfolding on
returns-then-width-eq1 c =
    let s = c.args in
    let one : s.width ≡ 1 = omega arith in
    rw one (byte_changed (on 1 s.amount) s.bytes.now s.at _ (omega arith) (omega arith))

pub returns : goal.returns
unfolding on
returns c =
    let s = c.args in
    let two : s.width ≡ 2 = omega arith in
    rw two (read_and_stored 2 (on 2 s.amount) s.bytes.now s.at _ _ _ c.word_at-word.ensures (omega arith) c.put_word.ensures.0)
