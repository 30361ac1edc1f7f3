-- `words::encode_words` meets its contract: up to word `i` the buffer holds the words, and from there on what it held.
-- Assumes nothing.
use Rattle.std.proofs.Common.{◌≡◌, ◌*◌, ◌++◌, take, drop}
use Rattle.words.specs.Numbers.{encoded}
use Rattle.words.proofs.encode_words.Given as goal

abbrev pub invariant-loop-i : goal.invariant-loop-i
invariant-loop-i l = l.bytes ≡ encoded 2 (take l.i l.words) ++ drop (2 * l.i) l.initial.bytes
