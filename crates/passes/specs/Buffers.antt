-- The buffers that a call may write, and what an acceptance leaves in the buffers for new names and reports as the start.
-- Assumes nothing.
use Rattle.std.specs.Prelude.{List, ◌++◌, ℕ, ◌-◌, length, replicate, Option, Some, None}
use Rattle.answer.specs.Checks.{pick}
use Rattle.blocks.specs.Blocks.{most_names}
use Rattle.updates.specs.Bodies.{word_loaded}
use Rattle.words.specs.Numbers.{value}

-- the buffers of a call that it may write: memory, the map, the new names and their addresses
pub record Buffers : Type 0 where
  pub memory : List ℕ
  pub map : List ℕ
  pub names : List ℕ
  pub addresses : List ℕ

-- these four
abbrev pub buffers : List ℕ → List ℕ → List ℕ → List ℕ → Buffers
buffers memory map names addresses = record { memory = memory; map = map; names = names; addresses = addresses }

-- "room for new names, 256 bytes"
abbrev pub new_names_length : ℕ
new_names_length = 256

-- "beside 32 addresses of 16 bits"
abbrev pub new_addresses_length : ℕ
new_addresses_length = most_names

-- "The unfilled rest of any room lent for output is zero after an acceptance"
abbrev pub filled_up : ℕ → List ℕ → List ℕ
filled_up room written = written ++ replicate (room - length written) 0

-- "the word at 02E0"
abbrev pub start_place : ℕ
start_place = 0x02E0

-- "The start is the word at 02E0 if both its bytes end marked 1 or 3, else absent."
unfoldable pub start_in : List ℕ → List ℕ → Option ℕ
start_in map memory = pick (word_loaded map start_place) (Some (value 2 memory start_place)) None
