-- Bounds that the contracts of `blocks` ask for and give: where what a block says lies. They follow from the definitions and the widths of the
-- numbers.
-- Assumes nothing.
use Rattle.std.specs.Prelude.{◌≡◌, ℕ, ◌+◌, ◌<◌, ◌≤◌, List, Option, Some}
use Rattle.events.specs.Sizes.{memory_size}
use Rattle.items.specs.Items.{slot_at}
use Rattle.items.specs.declared.Slot.{Slot}
use Rattle.names.specs.Names.{name_size}
use Rattle.blocks.specs.Blocks.{data_size, most_blocks, most_names}
use Rattle.blocks.specs.declared.Block.{Block}
use Rattle.blocks.specs.declared.Block.TheVariants.{Plain, Relocatable, Update, NewName}
use Rattle.blocks.specs.declared.Cursor.{Cursor}
use Rattle.blocks.specs.declared.Source.{Source}
use Rattle.blocks.specs.declared.Source.TheVariants.{Number, LentName, OwnName}

-- every block of a table ends at an address
pub record Packed (table : List (Option Slot)) : Type 0 where
  pub packed : (number : ℕ) (slot : Slot) → slot_at table number ≡ Some slot → slot.address + slot.size ≤ 65535

-- a source is in the table, or in its list of so many names
abbrev pub Listed : ℕ → ℕ → Source → Type 0
Listed lent own (Number number) = number < 8
Listed lent own (LentName i) = i < lent
Listed lent own (OwnName i) = i < own

-- what a plain block places lies in memory, since its last byte has an address
pub record InMemory (b : Block) : Type 0 where
  pub ends : (address from size : ℕ) → b ≡ Plain address from size → address + size ≤ memory_size

-- what a block at a cursor says begins past its offset and lies in a file of so many bytes, below 65,536, in the lists of so many names; and
-- there is a block or a name left for it
abbrev pub Lies : ℕ → Cursor → ℕ → ℕ → Block → Type 0
Lies len c lent own (Plain address from size) = (c.at < from) × (from + size ≤ len)
Lies len c lent own (Relocatable reserves number offset from size) =
    (c.at < from) × (from + data_size reserves size ≤ len) × (c.low + size ≤ 65535) × (number < 8) × (c.count < most_blocks)
Lies len c lent own (Update source from) = (c.at < from) × (from ≤ len) × Listed lent own source
Lies len c lent own (NewName from address) = (c.at < from) × (from + name_size ≤ len) × (c.named < most_names)

-- (the same as a record)
pub record Fits (len : ℕ) (c : Cursor) (lent own : ℕ) (b : Block) : Type 0 where
  pub lies : Lies len c lent own b
