-- `acx::load` meets its contract where a buffer has another length: nothing is changed.
-- Assumes nothing.
use Rattle.std.proofs.Common.{rules}
use Rattle.acx.proofs.Calling.{loaded_memory, loaded_map_lem}
use Rattle.acx.proofs.load.Goals as goal

pub returns-in_default : goal.returns-in_default
returns-in_default c = loaded_memory c.in_default.ensures.cases c.refused.ensures

pub returns-in_default-as_mut_array : goal.returns-in_default-as_mut_array
returns-in_default-as_mut_array c =
    loaded_map_lem (search rules) c.in_default-as_mut_array.ensures.cases c.refused-in_default-as_mut_array.ensures (search rules)
