-- The blocks of an SDX file as document 01 reads them, "SDX blocks, checks in order": what stands at an offset of a file, with no map in mind.
-- Cited by `blocks::read`; what is left to check stands in `items` (the items of a body) and in `updates` (against the map).
-- Each check names its offset by document 02, wish 6: "for 5 the file's length, for 9 the end word .., for 10 .. in SDX, the length word, for 14 and 15
-- the name"; of 6, 7, 8 and 16 the number, the id or the offset word is "the field .. at fault".
-- Assumes nothing.
use Rattle.std.specs.Prelude.{ℕ, ◌+◌, ◌-◌, Bool, true, false, ◌&&◌, ◌||◌, List, length, ◌==◌, nat_le, nat_lt, slice_index, slice_index_or, Option, Some, None, is_some, is_none, Result, Ok}
use Rattle.answer.specs.Checks.{failure, need, pick}
use Rattle.answer.specs.declared.Failure.{Failure}
use Rattle.answer.specs.declared.Fault.TheVariants.{CutShort, NotKnown, BlockTaken, BlockMissing, LengthNotAllowed, DoesNotFit, NameUnknown, TooManyNames, NameOutsideBlock}
use Rattle.items.specs.Items.{slot_at, last_number}
use Rattle.items.specs.declared.Slot.{Slot}
use Rattle.names.specs.Names.{name_size, look_up}
use Rattle.names.specs.declared.Definition.{Definition}
use Rattle.names.specs.declared.Definition.TheVariants.{Own, Lent}
use Rattle.words.specs.Numbers.{value, off}
use Rattle.words.specs.Runs.{part}
use Rattle.blocks.specs.declared.Block.{Block}
use Rattle.blocks.specs.declared.Block.TheVariants.{Plain, Relocatable, Update, NewName}
use Rattle.blocks.specs.declared.Cursor.{Cursor}
use Rattle.blocks.specs.declared.Source.{Source}
use Rattle.blocks.specs.declared.Source.TheVariants.{Number, LentName, OwnName}

-- "FFFF or FFFA, or no marker: plain. Start and end present (5); end ≥ start (9); end − start + 1 bytes present (5)."
-- (the start stands at an offset of its own: after the marker, or in its place)
unfoldable pub read_plain : List ℕ → ℕ → Result Block Failure
read_plain file at =
    let start = value 2 file at in
    let size = value 2 file (at + 2) - start + 1 in
    need failure (nat_le (at + 4) (length file)) CutShort (length file)
    (need failure (nat_le start (value 2 file (at + 2))) LengthNotAllowed (at + 2)
    (need failure (nat_le (at + 4 + size) (length file)) CutShort (length file)
    (Ok (Plain start (at + 4) size))))

-- the data of a relocatable block: "80 for reserve only" has none
abbrev pub data_size : Bool → ℕ → ℕ
data_size true size = 0
data_size false size = size

-- "id hex 00, or 80 for reserve only"
abbrev pub is_id : ℕ → Bool
is_id id = id == 0 || id == 0x80

-- "80 for reserve only"
abbrev pub reserve_only : ℕ → Bool
reserve_only id = id == 0x80

-- "fewer than seven blocks so far"
abbrev pub most_blocks : ℕ
most_blocks = 7

-- "number new and fewer than seven blocks so far (7); unless reserving, data present (5); low + length ≤ high (10)"
unfoldable pub read_room : List ℕ → ℕ → Cursor → ℕ → Bool → Result Block Failure
read_room file high c number reserves =
    let size = value 2 file (c.at + 6) in
    need failure (is_none (slot_at c.table number) && nat_lt c.count most_blocks) BlockTaken (c.at + 2)
    (need failure (nat_le (c.at + 8 + data_size reserves size) (length file)) CutShort (length file)
    (need failure (nat_le (c.low + size) high) DoesNotFit (c.at + 6)
    (Ok (Relocatable reserves number (value 2 file (c.at + 4)) (c.at + 8) size))))

-- "FFFE: relocatable. Number, id, offset word, length word present (5); number ≤ 7 (6); id hex 00, or 80 for reserve only (6)", then its room
unfoldable pub read_relocatable : List ℕ → ℕ → Cursor → Result Block Failure
read_relocatable file high c =
    let number = slice_index_or file (c.at + 2) 0 in
    let id = slice_index_or file (c.at + 3) 0 in
    need failure (nat_le (c.at + 8) (length file)) CutShort (length file)
    (need failure (nat_le number last_number) NotKnown (c.at + 2)
    (need failure (is_id id) NotKnown (c.at + 3)
    (read_room file high c number (reserve_only id))))

-- "FFFD: update. Number and length word present (5); number ≤ 7 (6); block there (8). The length is ignored."
unfoldable pub read_update : List ℕ → Cursor → Result Block Failure
read_update file c =
    let number = slice_index_or file (c.at + 2) 0 in
    need failure (nat_le (c.at + 5) (length file)) CutShort (length file)
    (need failure (nat_le number last_number) NotKnown (c.at + 2)
    (need failure (is_some (slot_at c.table number)) BlockMissing (c.at + 2)
    (Ok (Update (Number number) (c.at + 5)))))

-- a body whose words grow by the address of a name, by the definition that holds: "name known (14)"
abbrev pub by_definition : ℕ → Option Definition → Result Block Failure
by_definition at None = failure NameUnknown (at + 2)
by_definition at (Some (Own i)) = Ok (Update (OwnName i) (at + 12))
by_definition at (Some (Lent i)) = Ok (Update (LentName i) (at + 12))

-- "FFFB: names. Eight-byte name and length word present (5); name known (14)."
unfoldable pub read_names : List ℕ → List ℕ → List ℕ → Cursor → Result Block Failure
read_names file lent own c =
    need failure (nat_le (c.at + 12) (length file)) CutShort (length file)
    (by_definition c.at (look_up own lent (part file (c.at + 2) name_size)))

-- "0 ≤ offset − block offset < length"
abbrev pub is_inside : Slot → ℕ → Bool
is_inside slot offset = nat_le slot.offset offset && nat_lt (offset - slot.offset) slot.size

-- "at most 32"
abbrev pub most_names : ℕ
most_names = 32

-- "0 ≤ offset − block offset < length (16); at most 32 (15). Its address is block address + offset − block offset."
unfoldable pub read_address : List ℕ → Cursor → Slot → Result Block Failure
read_address file c slot =
    let offset = value 2 file (c.at + 3) in
    need failure (is_inside slot offset) NameOutsideBlock (c.at + 3)
    (need failure (nat_lt c.named most_names) TooManyNames (c.at + 5)
    (Ok (NewName (c.at + 5) (slot.address + (offset - slot.offset)))))

-- in the block of a number: "block there (8)", then the name's address
abbrev pub read_inside : List ℕ → Cursor → Option Slot → Result Block Failure
read_inside file c None = failure BlockMissing (c.at + 2)
read_inside file c (Some slot) = read_address file c slot

-- "FFFC: new name. Number, offset word, name present (5); number ≤ 7 (6); block there (8)", then its address
unfoldable pub read_new_name : List ℕ → Cursor → Result Block Failure
read_new_name file c =
    let number = slice_index_or file (c.at + 2) 0 in
    need failure (nat_le (c.at + 13) (length file)) CutShort (length file)
    (need failure (nat_le number last_number) NotKnown (c.at + 2)
    (read_inside file c (slot_at c.table number)))

-- "Later, a word below FFFA is the start address of a plain block without marker; from FFFA it is a marker"
abbrev pub first_marker : ℕ
first_marker = 0xFFFA

-- the block at the cursor, with the lent names and the file's own so far: "One leftover byte .. is 5", and then as its first word says (FFFA and
-- FFFF come last: a plain block after its marker)
unfoldable pub read : List ℕ → ℕ → List ℕ → List ℕ → Cursor → Result Block Failure
read file high lent own c =
    let word = value 2 file c.at in
    need failure (nat_le (c.at + 2) (length file)) CutShort (length file)
    (pick (nat_lt word first_marker) (read_plain file c.at)
    (pick (word == 0xFFFB) (read_names file lent own c)
    (pick (word == 0xFFFC) (read_new_name file c)
    (pick (word == 0xFFFD) (read_update file c)
    (pick (word == 0xFFFE) (read_relocatable file high c)
    (read_plain file (c.at + 2)))))))

-- "block address − block offset, modulo 65,536" (a number that no block has adds nothing)
abbrev pub amount_by : Option Slot → ℕ
amount_by None = 0
amount_by (Some slot) = off 2 slot.offset slot.address

-- what each listed word grows by: "by block address − block offset, modulo 65,536"; "by its address" for a name
abbrev pub amount_of : List (Option Slot) → List ℕ → List ℕ → Source → ℕ
amount_of table lent own (Number n) = amount_by (slot_at table n)
amount_of table lent own (LentName i) = slice_index lent i
amount_of table lent own (OwnName i) = slice_index own i
