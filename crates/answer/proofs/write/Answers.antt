-- `answer::write` meets its contract: at the end all nine numbers stand in the buffer, each with room in its bytes.
-- Assumes nothing.
use Rattle.std.proofs.Common.{◌≡◌, ◌*◌, ◌++◌, length, take, drop, ap, ◌∙◌, arith}
use Rattle.answer.proofs.Lengths.{length_numbers, written}
use Rattle.words.proofs.Turns.{encode_all}
use Rattle.words.specs.Numbers.{encoded}
use Rattle.answer.proofs.write.Goals as goal

pub returns : goal.returns
returns c =
    let n = c.numbers-all in
    let nine : length n.result ≡ 9 = ap length n.ensures ∙ length_numbers c.args.outcome in
    let e : c.loop-i.i ≡ length n.result = omega (arith, nine) in
    let end : encoded 4 (take c.loop-i.i n.result) ++ drop (4 * c.loop-i.i) c.args.answer.now ≡ encoded 4 n.result =
    rw e (encode_all 4 n.result c.args.answer.now (omega (arith, c.requires, nine))) in
    written c.args.outcome _ _ n.ensures (c.loop-i.invariant.0 ∙ end) (λ j h. c.loop-i.invariant.1 j (omega (arith, nine)))
