-- What a block that is read says of memory: a plain block lies there. And what the words of a body grow by.
-- Assumes nothing.
use Rattle.std.proofs.Common.{◌≡◌, ℕ, ◌+◌, ◌-◌, ◌%◌, ◌<◌, ◌≤◌, Bool, List, Option, Some, None, Result, ap, arith}
use Rattle.answer.proofs.Checks.{on_need}
use Rattle.std.specs.Prelude.{IfOk}
use Rattle.answer.specs.Checks.{failure, need}
use Rattle.answer.specs.declared.Failure.{Failure}
use Rattle.answer.specs.declared.Fault.{Fault}
use Rattle.items.specs.Items.{slot_at}
use Rattle.items.specs.declared.Slot.{Slot}
use Rattle.names.specs.Names.{look_up}
use Rattle.names.specs.declared.Definition.{Definition}
use Rattle.names.specs.declared.Definition.TheVariants.{Own, Lent}
use Rattle.words.specs.Numbers.{off}
use Rattle.blocks.specs.Blocks.{read_room, read_relocatable, read_update, by_definition, read_names, read_address, read_inside, read_new_name}
use Rattle.blocks.specs.Bounds.{InMemory}
use Rattle.blocks.specs.declared.Block.{Block}
use Rattle.blocks.specs.declared.Block.TheVariants.{Plain, Relocatable, Update, NewName}
use Rattle.blocks.specs.declared.Cursor.{Cursor}

-- ---- what is in memory

-- where a plain block ends
abbrev plain_end : Block → ℕ
plain_end (Plain address from size) = address + size
plain_end (Relocatable reserves number offset from size) = 0
plain_end (Update source from) = 0
plain_end (NewName from address) = 0

-- a plain block is in memory if it ends there; of any other block nothing is asked
pub in_memory : (b : Block) → plain_end b ≤ 65536 → InMemory b
in_memory b h = record { ends = λ address from size e. rw (← ap plain_end e) h }

in_need : (check : Bool) (fault : Fault) (offset : ℕ) (r : Result Block Failure) → IfOk r InMemory → IfOk (need failure check fault offset r) InMemory
in_need check fault offset r h = on_need failure (λ q. IfOk q InMemory) check fault offset r tt (λ e. h)

-- no other block is plain
room_in_memory : (file : List ℕ) (high : ℕ) (c : Cursor) (number : ℕ) (reserves : Bool) → IfOk (read_room file high c number reserves) InMemory
unfolding read_room
room_in_memory file high c number reserves = in_need _ _ _ _ (in_need _ _ _ _ (in_need _ _ _ _ (in_memory _ (omega arith))))

pub relocatable_in_memory : (file : List ℕ) (high : ℕ) (c : Cursor) → IfOk (read_relocatable file high c) InMemory
unfolding read_relocatable
relocatable_in_memory file high c = in_need _ _ _ _ (in_need _ _ _ _ (in_need _ _ _ _ (room_in_memory file high c _ _)))

pub update_in_memory : (file : List ℕ) (c : Cursor) → IfOk (read_update file c) InMemory
unfolding read_update
update_in_memory file c = in_need _ _ _ _ (in_need _ _ _ _ (in_need _ _ _ _ (in_memory _ (omega arith))))

pub names_in_memory : (file lent own : List ℕ) (c : Cursor) → IfOk (read_names file lent own c) InMemory
unfolding read_names
names_in_memory file lent own c = in_need _ _ _ _ (by (look_up own lent _))
  where
    by : (d : Option Definition) → IfOk (by_definition c.at d) InMemory
    by None = tt
    by (Some (Own i)) = in_memory _ (omega arith)
    by (Some (Lent i)) = in_memory _ (omega arith)

pub new_name_in_memory : (file : List ℕ) (c : Cursor) → IfOk (read_new_name file c) InMemory
unfolding read_new_name read_address
new_name_in_memory file c = in_need _ _ _ _ (in_need _ _ _ _ (by (slot_at c.table _)))
  where
    by : (slot : Option Slot) → IfOk (read_inside file c slot) InMemory
    by None = tt
    by (Some slot) = in_need _ _ _ _ (in_need _ _ _ _ (in_memory _ (omega arith)))

-- ---- what words grow by

-- a word's address less its offset, modulo 65,536
pub less_offset : (address offset : ℕ) → offset < 65536 → (address + (65536 - offset)) % 65536 ≡ off 2 offset address
unfolding off
less_offset address offset h = omega arith
