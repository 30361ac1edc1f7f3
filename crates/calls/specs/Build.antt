-- What `tkw_index_build` promises, for every length of every buffer.
-- Assumes nothing.
use Rattle.answer.specs.Report.{Outcome}
use Rattle.std.specs.Prelude.{◌&&◌, List, ℕ}
use Rattle.builder.specs.Build.{sized, Built}
use Rattle.pieces.specs.declared.Bases.{Bases}
use Rattle.calls.specs.Answer.{answer_sized, Answered}

-- What a call promises: it found the map p, the room q and the answer a, and returns r and leaves p', q' and a'. (The claims of `builder` are about `Built`, so
-- they hold of calls from C.)
pub record Called (form : ℕ) (b : Bases) (file p q a : List ℕ) (r : ℕ) (p' q' a' : List ℕ) : Type 0 where
  pub outcome : Outcome
  pub built : Built form b file (answer_sized a && sized p q) p q outcome p' q'
  pub answered : Answered outcome a r a'
