-- One item of an update body, with no map in mind: "00 to FB adds that amount, then adjusts the word at the counter. FC ends. FD with a word
-- sets the counter there and adjusts. FE with a number sets it to that block's address and adjusts nothing. FF adds 250 and adjusts nothing."
-- A fault has the offset of its item, 5 that of the file's end: document 02, wish 6, "in update bodies .. the item, for 5 the file's length".
-- Assumes nothing.
use Rattle.std.specs.Prelude.{List, ℕ, ◌+◌, ltb, leb, eqb, length, get_or, Option, Some, None, Result, Ok}
use Rattle.answer.specs.Checks.{failure, need, pick}
use Rattle.answer.specs.declared.Failure.{Failure}
use Rattle.answer.specs.declared.Fault.TheVariants.{CutShort, NotKnown, BlockMissing, CounterUnusable}
use Rattle.words.specs.Numbers.{value}
use Rattle.items.specs.declared.Item.{Item}
use Rattle.items.specs.declared.Item.TheVariants.{End, Move, Adjust}
use Rattle.items.specs.declared.Slot.{Slot}

-- the slot of a number, if it is taken: the relocatable blocks so far stand in a table of eight slots, by their numbers
abbrev pub slot_at : List (Option Slot) → ℕ → Option Slot
slot_at table number = get_or table number None

-- the address of a block, zero where it is not taken
abbrev pub address_of : Option Slot → ℕ
address_of None = 0
address_of (Some slot) = slot.address

-- "number ≤ 7"
abbrev pub last_number : ℕ
last_number = 7

-- 00 to FB: "counter set where one is added (11); counter at most .. 65,534 to adjust (11)"
abbrev pub adding : ℕ → ℕ → Option ℕ → Result Item Failure
adding at amount None = failure CounterUnusable at
adding at amount (Some counter) = need failure (leb (counter + amount) 65534) CounterUnusable at (Ok (Adjust (counter + amount) (at + 1)))

-- FD: "present (5)", then "at most .. 65,534 to adjust (11)"
unfoldable pub setting : List ℕ → ℕ → Result Item Failure
setting file at =
    need failure (leb (at + 3) (length file)) CutShort (length file)
    (need failure (leb (value 2 file (at + 1)) 65534) CounterUnusable at
    (Ok (Adjust (value 2 file (at + 1)) (at + 3))))

-- to the address of a block: "block there (8)"
abbrev pub moving_to : ℕ → Option Slot → Result Item Failure
moving_to at None = failure BlockMissing at
moving_to at (Some slot) = Ok (Move slot.address (at + 2))

-- FE: "present (5); for FE, number (6), block there (8)"
unfoldable pub setting_to_block : List ℕ → List (Option Slot) → ℕ → Result Item Failure
setting_to_block file table at =
    need failure (leb (at + 2) (length file)) CutShort (length file)
    (need failure (leb (get_or file (at + 1) 0) last_number) NotKnown at
    (moving_to at (slot_at table (get_or file (at + 1) 0))))

-- "FF adds 250"
abbrev pub skipped : ℕ
skipped = 250

-- FF: "counter set where one is added (11); counter at most 65,535"
abbrev pub skipping : ℕ → Option ℕ → Result Item Failure
skipping at None = failure CounterUnusable at
skipping at (Some counter) = need failure (leb (counter + skipped) 65535) CounterUnusable at (Ok (Move (counter + skipped) (at + 1)))

-- the item at an offset, with the counter as the items before it left it: "Each item: present (5)", and then as its byte says
unfoldable pub read : List ℕ → List (Option Slot) → ℕ → Option ℕ → Result Item Failure
read file table at counter =
    let byte = get_or file at 0 in
    need failure (ltb at (length file)) CutShort (length file)
    (pick (leb byte 0xFB) (adding at byte counter)
    (pick (eqb byte 0xFC) (Ok (End (at + 1)))
    (pick (eqb byte 0xFD) (setting file at)
    (pick (eqb byte 0xFE) (setting_to_block file table at)
    (skipping at counter)))))
