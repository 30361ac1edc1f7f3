-- `builder::build` meets its contract where a buffer has another length: nothing is changed.
-- Assumes nothing.
use Rattle.std.proofs.Common.{rules}
use Rattle.builder.proofs.Building.{wrong_map, wrong_room}
use Rattle.builder.proofs.build.Goals as goal

pub returns-in_default : goal.returns-in_default
returns-in_default c = wrong_map c.in_default.ensures.cases c.refused.ensures

pub returns-in_default-as_mut_array : goal.returns-in_default-as_mut_array
returns-in_default-as_mut_array c =
    wrong_room (search rules) c.in_default-as_mut_array.ensures.cases c.refused-in_default-as_mut_array.ensures (search rules)
