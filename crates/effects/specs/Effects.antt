-- What was read of an SDX file, a block or the fault for which it is none, carried out: what it does, where it ends, the cursor after it, and the name
-- that it brings.
-- Assumes nothing.
use Rattle.std.specs.Prelude.{Bool, true, false, List, [], ◌∷◌, ℕ, ◌+◌, set, replicate, Some, None, Result, Ok, Err}
use Rattle.answer.specs.declared.Failure.{Failure}
use Rattle.blocks.specs.Blocks.{data_size, amount_of}
use Rattle.blocks.specs.declared.Block.{Block}
use Rattle.blocks.specs.declared.Block.TheVariants.{Plain, Relocatable, Update, NewName}
use Rattle.blocks.specs.declared.Cursor.{Cursor}
use Rattle.events.specs.Events.{Event, place, reserve, Ran}
use Rattle.names.specs.Names.{name_size}
use Rattle.updates.specs.Bodies.{Stop, broken, done, body}
use Rattle.words.specs.Runs.{part}

-- "Placed there."
abbrev pub placing : List ℕ → ℕ → ℕ → ℕ → Ran Stop
placing file address from size = record { answer = done (from + size); events = place address (part file from size) ∷ [] }

-- "It gets address low .. Reserving marks 2 and writes nothing."
abbrev pub placing_relocatable : Bool → List ℕ → ℕ → ℕ → ℕ → Ran Stop
placing_relocatable true file low from size = record { answer = done from; events = reserve low size ∷ [] }
placing_relocatable false file low from size = placing file low from size

-- what a block does, with the lent addresses and those of the file's own names, over the map as the blocks before it left it; and where it ends. What
-- is no block is refused with its fault.
abbrev pub applied : List ℕ → List ℕ → List ℕ → Cursor → Result Block Failure → List ℕ → Ran Stop
applied file lent own c (Ok (Plain address from size)) map = placing file address from size
applied file lent own c (Ok (Relocatable reserves number offset from size)) map = placing_relocatable reserves file c.low from size
applied file lent own c (Ok (Update source from)) map = body file c.table (amount_of c.table lent own source) from map
applied file lent own c (Ok (NewName from address)) map = record { answer = done (from + name_size); events = [] }
applied file lent own c (Err e) map = record { answer = broken e.fault e.offset; events = [] }

-- what a block did: where it begins, what it says (a body with what its words grow by: a block, a lent name, a name of the file), its events
pub record Effect : Type 0 where
  pub at : ℕ
  pub block : Block
  pub events : List Event

-- the cursor before the first block
abbrev pub first_cursor : ℕ → Cursor
first_cursor low = record { at = 0; low = low; count = 0; named = 0; table = replicate 8 None }

-- the cursor at another offset, with so many new names
abbrev pub moved_on : Cursor → ℕ → ℕ → Cursor
moved_on c next named = record { at = next; low = c.low; count = c.count; named = named; table = c.table }

-- the cursor with a block more: "It gets address low; low rises by the length."
abbrev pub with_block : Cursor → ℕ → ℕ → ℕ → ℕ → Cursor
with_block c number offset size next =
    record {
      at = next;
      low = c.low + size;
      count = c.count + 1;
      named = c.named;
      table = set c.table number (Some (record { address = c.low; offset = offset; size = size }));
    }

-- the cursor after a block that ends at an offset; as it was, after what is no block
abbrev pub advanced : Cursor → Result Block Failure → ℕ → Cursor
advanced c (Ok (Plain address from size)) next = moved_on c next c.named
advanced c (Ok (Relocatable reserves number offset from size)) next = with_block c number offset size next
advanced c (Ok (Update source from)) next = moved_on c next c.named
advanced c (Ok (NewName from address)) next = moved_on c next (c.named + 1)
advanced c (Err e) next = c

-- the name that a block brings
abbrev pub name_in : List ℕ → Result Block Failure → List ℕ
name_in file (Ok (Plain address from size)) = []
name_in file (Ok (Relocatable reserves number offset from size)) = []
name_in file (Ok (Update source from)) = []
name_in file (Ok (NewName from address)) = part file from name_size
name_in file (Err e) = []

-- and the address of that name
abbrev pub address_in : Result Block Failure → List ℕ
address_in (Ok (Plain address from size)) = []
address_in (Ok (Relocatable reserves number offset from size)) = []
address_in (Ok (Update source from)) = []
address_in (Ok (NewName from address)) = address ∷ []
address_in (Err e) = []

-- the bytes that a block places
abbrev pub placed_by : Result Block Failure → ℕ
placed_by (Ok (Plain address from size)) = size
placed_by (Ok (Relocatable reserves number offset from size)) = data_size reserves size
placed_by (Ok (Update source from)) = 0
placed_by (Ok (NewName from address)) = 0
placed_by (Err e) = 0
