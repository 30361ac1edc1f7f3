-- `words::decode_words` meets its contract: up to `i` the list holds the words of the bytes, and from there on what it held.
-- Assumes nothing.
use Rattle.std.proofs.Common.{◌≡◌}
use Rattle.words.specs.Numbers.{decoded}
use Rattle.words.specs.Runs.{put}
use Rattle.words.proofs.decode_words.Given as goal

abbrev pub invariant-loop-i : goal.invariant-loop-i
invariant-loop-i l = l.words ≡ put l.initial.words 0 (decoded 2 l.i l.bytes)
