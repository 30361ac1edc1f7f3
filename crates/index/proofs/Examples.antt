-- The indexes by hand come to their verdicts: the definitions are computed.
-- Assumes nothing.
use mathlib.Core.Path.{refl}
use Rattle.answer.specs.Checks.{need, pick}
use Rattle.entries.specs.Entries.{read_code, read_end, read, fields_to, all_suit}
use Rattle.events.specs.Events.{marks, blank}
use Rattle.events.specs.Walk.{walk, from}
use Rattle.pieces.specs.AtBases.{placing, adjusting, ending}
use Rattle.words.specs.Numbers.{number, big_value}
use Rattle.words.specs.Runs.{part, put, all_zero, contains}
use Rattle.index.specs.Examples.{ExamplesHold}
use Rattle.index.specs.Walk.{fixing, coding, applied, checked, turn, entries_from, judged, indexed}

pub examples_hold : ExamplesHold
unfolding need pick marks blank walk from placing adjusting ending number big_value part put all_zero contains read_code read_end read fields_to all_suit fixing coding applied checked turn entries_from judged indexed
examples_hold = refl
