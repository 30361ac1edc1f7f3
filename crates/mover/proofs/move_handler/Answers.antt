-- `mover::move_handler` meets its contract: where a buffer has another length nothing is changed, else the move is done.
-- Assumes nothing.
use mathlib.Core.Path.{◌≡◌, refl}
use Rattle.std.proofs.Common.{rules}
use Rattle.mover.proofs.Judging.{moved_memory, moved_map, moved_scratch, moved_sized}
use Rattle.mover.proofs.move_handler.Goals as goal

pub returns-in_default : goal.returns-in_default
returns-in_default c = moved_memory c.in_default.ensures.cases c.refused.ensures

pub returns-in_default-as_mut_array : goal.returns-in_default-as_mut_array
returns-in_default-as_mut_array c =
    let memory_is : c.in-Some.memory.now ≡ c.args.memory.now = search rules in
    rw memory_is (moved_map (search rules) c.in_default-as_mut_array.ensures.cases c.refused-in_default-as_mut_array.ensures)

pub returns-in_default-as_mut_array-2 : goal.returns-in_default-as_mut_array-2
returns-in_default-as_mut_array-2 c =
    let memory_is : c.in-Some.memory.now ≡ c.args.memory.now = search rules in
    let map_is : c.in-Some-as_mut_array.map.now ≡ c.args.map.now = search rules in
    rw (memory_is, map_is)
    (moved_scratch (search rules) (search rules) c.in_default-as_mut_array-2.ensures.cases c.refused-in_default-as_mut_array-2.ensures)

pub returns : goal.returns
returns c = moved_sized refl (search rules) (search rules) (search rules) c.move_sized.ensures (search rules)
