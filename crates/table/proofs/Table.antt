-- The bench table holds: the definitions are computed, every row and every byte of it in one.
-- Assumes nothing.
use mathlib.Core.Path.{refl}
use Rattle.acx.specs.Call.{load, call}
use Rattle.acx.specs.Walk.{checked, turn as turn_record, records_from, opening, judged}
use Rattle.answer.specs.Checks.{need, pick}
use Rattle.blocks.specs.Blocks.{read_plain, read_room, read_relocatable, read_update, read_names, read_address, read_new_name, read as read_block}
use Rattle.events.specs.Events.{play, marks, blank, placed_in, adjusted_in}
use Rattle.events.specs.Walk.{walk, from}
use Rattle.items.specs.Items.{setting, setting_to_block, read as read_item}
use Rattle.moves.specs.Call.{ruling, outcome_of, memory_after, map_after, scratch_after}
use Rattle.moves.specs.Move.{carried, transfer, moved}
use Rattle.names.specs.Names.{same, newest_of, newest, look_up}
use Rattle.passes.specs.Buffers.{start_in}
use Rattle.passes.specs.Walk.{applied_at, turn, blocks_from}
use Rattle.pieces.specs.AtBases.{placing, adjusting, ending, applied}
use Rattle.pieces.specs.Pieces.{amount_of, edited, adjustments, events}
use Rattle.fields.specs.Fields.{fields_of}
use Rattle.records.specs.Records.{read_code, read_items, read_fixups, read_end, read}
use Rattle.sdx.specs.Call.{opening as opening_sdx, admitting, load as load_sdx, call as call_sdx}
use Rattle.updates.specs.Bodies.{adjusting as adjusting_word, turn as turn_item, items}
use Rattle.words.specs.Numbers.{number, value, digits, store, on, off, change}
use Rattle.words.specs.Runs.{part, put, all_zero, contains}
use Rattle.table.specs.Table.{TableHolds}

pub table_holds : TableHolds
unfolding number value digits store on off change part put all_zero contains need pick play marks blank placed_in adjusted_in fields_of read_code read_items read_fixups read_end read amount_of edited adjustments events placing adjusting ending applied checked turn_record records_from walk from opening judged load call carried transfer moved ruling outcome_of memory_after map_after scratch_after same newest_of newest look_up setting setting_to_block read_item adjusting_word turn_item items read_plain read_room read_relocatable read_update read_names read_address read_new_name read_block applied_at turn blocks_from opening_sdx admitting load_sdx call_sdx start_in
table_holds = record { ten = refl; rows = refl }
