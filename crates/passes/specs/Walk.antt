-- A file, block by block: "A file is blocks until its end."
-- Assumes nothing.
use Rattle.std.specs.Prelude.{List, [], ◌∷◌, ◌++◌, ℕ, eqb, length, Result, Ok, Err}
use Rattle.answer.specs.Checks.{pick}
use Rattle.answer.specs.declared.Failure.{Failure}
use Rattle.answer.specs.declared.Fault.{Fault}
use Rattle.answer.specs.declared.Fault.TheVariants.{CutShort}
use Rattle.blocks.specs.Blocks.{read}
use Rattle.blocks.specs.declared.Block.{Block}
use Rattle.blocks.specs.declared.Cursor.{Cursor}
use Rattle.effects.specs.Effects.{Effect, applied, first_cursor, advanced, name_in, address_in}
use Rattle.events.specs.Events.{Event, blank, Ran}
use Rattle.events.specs.Walk.{Turn, ends, leads, from, bytes_left}
use Rattle.updates.specs.Bodies.{Stop, broken, done}

-- "SDX: known names .., beside a list of as many 16-bit addresses ..; low and high"
pub record Inputs : Type 0 where
  pub names : List ℕ
  pub addresses : List ℕ
  pub low : ℕ
  pub high : ℕ

-- these four
abbrev pub inputs : List ℕ → List ℕ → ℕ → ℕ → Inputs
inputs names addresses low high = record { names = names; addresses = addresses; low = low; high = high }

-- how far a load has come: the cursor; "New names and addresses stand in file order"; what the blocks did, the latest first
pub record Progress : Type 0 where
  pub cursor : Cursor
  pub names : List ℕ
  pub addresses : List ℕ
  pub effects : List Effect

-- how a file ends: at its end, or at its first fault and the offset of the first byte at fault
pub data Verdict : Type 0 where
  finished : Progress → Verdict
  refused : Fault → ℕ → Progress → Verdict

-- the progress after a block that ends at an offset
abbrev pub stepped : List ℕ → Progress → Block → List Event → ℕ → Progress
stepped file z found es next =
    record {
      cursor = advanced z.cursor (Ok found) next;
      names = z.names ++ name_in file (Ok found);
      addresses = z.addresses ++ address_in (Ok found);
      effects = record { at = z.cursor.at; block = found; events = es } ∷ z.effects;
    }

-- where a block leads: on, or at its fault to the end
abbrev pub judge : List ℕ → Progress → Block → List Event → Stop → Turn Progress Verdict
judge file z found es (broken fault offset) = ends (refused fault offset z)
judge file z found es (done next) = leads (stepped file z found es next)

-- the next block, or the fault for which it is none
abbrev pub block_at : List ℕ → Inputs → Progress → Result Block Failure
block_at file g z = read file g.high g.names z.names z.cursor

-- what was read, carried out
unfoldable pub applied_at : List ℕ → Inputs → Progress → Result Block Failure → List ℕ → Ran Stop
applied_at file g z found map = applied file g.addresses z.addresses z.cursor found map

-- and where that leads
abbrev pub carried : List ℕ → Inputs → Progress → Result Block Failure → List ℕ → Ran (Turn Progress Verdict)
carried file g z (Err e) map = record { answer = ends (refused e.fault e.offset z); events = [] }
carried file g z (Ok found) map =
    let o = applied_at file g z (Ok found) map in
    record { answer = judge file z found o.events o.answer; events = o.events }

-- one turn: the file's end, or the next block
unfoldable pub turn : List ℕ → Inputs → Progress → List ℕ → Ran (Turn Progress Verdict)
turn file g z map =
    pick (eqb z.cursor.at (length file))
    (record { answer = ends (finished z); events = [] })
    (carried file g z (block_at file g z) map)

-- the blocks from some progress on
unfoldable pub blocks_from : List ℕ → Inputs → Progress → List ℕ → Ran Verdict
blocks_from file g z map = from (turn file g) (λ y. refused CutShort (length file) y) (λ y. bytes_left file y.cursor.at) z map

-- before the first block
abbrev pub begun : Inputs → Progress
begun g = record { cursor = first_cursor g.low; names = []; addresses = []; effects = [] }

-- all blocks
abbrev pub blocks_of : List ℕ → Inputs → Ran Verdict
blocks_of file g = blocks_from file g (begun g) blank
