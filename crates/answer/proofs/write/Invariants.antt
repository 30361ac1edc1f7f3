-- `answer::write` meets its contract: up to number `i` the buffer holds the answer, and from there on what it held; and each number so far has
-- room in its bytes.
-- Assumes nothing.
use Rattle.std.proofs.Common.{◌≡◌, ℕ, ◌<◌, ◌*◌, ◌^◌, ◌++◌, take, drop, get_or}
use Rattle.words.specs.Numbers.{encoded}
use Rattle.answer.proofs.write.Given as goal

abbrev pub invariant-loop-i : goal.invariant-loop-i
invariant-loop-i l =
    (l.answer ≡ encoded 4 (take l.i l.number-items) ++ drop (4 * l.i) l.initial.answer)
    × ((j : ℕ) → j < l.i → get_or l.number-items j 0 < 256 ^ 4)
