-- What the functions of `effects` ask of what was read, and what `store_name` leaves.
-- Assumes nothing.
use Rattle.std.specs.Prelude.{Bool, List, ◌≡◌, ℕ, ◌+◌, ◌*◌, ◌≤◌, ◌<◌, Result, Ok}
use Rattle.answer.specs.declared.Failure.{Failure}
use Rattle.blocks.specs.Blocks.{most_names}
use Rattle.blocks.specs.declared.Block.{Block}
use Rattle.blocks.specs.declared.Block.TheVariants.{Relocatable, NewName}
use Rattle.names.specs.Names.{name_size}
use Rattle.words.specs.Runs.{put}
use Rattle.effects.specs.Effects.{name_in, address_in}

-- a new name stands in a file of so many bytes, and there is room for it
pub record NameFits (len named : ℕ) (found : Result Block Failure) : Type 0 where
  pub ends : (from address : ℕ) → found ≡ Ok (NewName from address) → (from + name_size ≤ len) × (named < most_names)

-- a relocatable block has a slot, and ends at an address
pub record RoomFits (low : ℕ) (found : Result Block Failure) : Type 0 where
  pub ends : (reserves : Bool) (number offset from size : ℕ) → found ≡ Ok (Relocatable reserves number offset from size)
      → (low + size ≤ 65535) × (number < 8)

-- The name that a block brings stands behind those before it. What is no block brings none.
pub record NameStored (file : List ℕ) (found : Result Block Failure) (named : ℕ) (ns ads ns' ads' : List ℕ) : Type 0 where
  pub names : ns' ≡ put ns (name_size * named) (name_in file found)
  pub addresses : ads' ≡ put ads named (address_in found)
