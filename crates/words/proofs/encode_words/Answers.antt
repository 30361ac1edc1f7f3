-- `words::encode_words` meets its contract: at the end all words stand in the buffer, and each has room in its bytes.
-- Assumes nothing.
use Rattle.std.proofs.Common.{◌≡◌, ◌*◌, ◌++◌, length, take, drop, ◌∙◌, arith}
use Rattle.words.proofs.Numbers.{reads_back}
use Rattle.words.proofs.Turns.{encode_all}
use Rattle.words.specs.Numbers.{encoded}
use Rattle.words.proofs.encode_words.Goals as goal

pub returns : goal.returns
returns c =
    let s = c.args in
    let e : c.loop-i.i ≡ length s.words.now = omega arith in
    let end : encoded 2 (take c.loop-i.i s.words.now) ++ drop (2 * c.loop-i.i) s.bytes.now ≡ encoded 2 s.words.now =
    rw e (encode_all 2 s.words.now s.bytes.now (omega arith)) in
    let all = c.loop-i.invariant ∙ end in
    (all, reads_back 2 s.words.now _ all (λ j h. omega (arith, c.type_inv.words j)))
