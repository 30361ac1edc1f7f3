-- A call of the loader, whatever comes in: "1, 2, 3 come in that order, then the file from its front".
-- Offsets: "0 for 1 to 4"; document 02, wish 6, "for 5 the file's length".
-- Assumes nothing.
use Rattle.std.specs.Prelude.{Bool, ◌&&◌, List, [], ◌≡◌, ℕ, ◌*◌, ◌≤◌, leb, eqb, length, Ok, Err}
use Rattle.answer.specs.Checks.{failure, need, pick}
use Rattle.answer.specs.Report.{Outcome, acceptance, refusal, placed_of, adjusted_of}
use Rattle.answer.specs.declared.Fault.{Fault}
use Rattle.answer.specs.declared.Fault.TheVariants.{WrongBuffer, SettingOutOfRange, FileTooLong, CutShort, WrongOpening}
use Rattle.blocks.specs.Blocks.{first_marker}
use Rattle.events.specs.Events.{Event, play, marks, blank, placed_in, adjusted_in, Ran, Check}
use Rattle.events.specs.Sizes.{memory_size, file_limit}
use Rattle.names.specs.Names.{name_size}
use Rattle.passes.specs.Buffers.{Buffers, new_names_length, new_addresses_length, filled_up, start_in}
use Rattle.passes.specs.Walk.{Inputs, Verdict, finished, refused, begun, blocks_of}
use Rattle.words.specs.Numbers.{value}

-- "low and high, with low ≤ high ≤ 65,535"
abbrev pub in_range : Inputs → Bool
in_range g = leb g.low g.high && leb g.high 65535

-- "at most 256"
abbrev pub most_known : ℕ
most_known = 256

-- "known names, eight bytes each, beside a list of as many 16-bit addresses, at most 256"
abbrev pub listed : Inputs → Bool
listed g = leb (length g.addresses) most_known && eqb (length g.names) (name_size * length g.addresses)

-- the lengths of all that is lent
abbrev pub sized : Inputs → Buffers → Bool
sized g b =
    eqb (length b.memory) memory_size
    && (eqb (length b.map) memory_size
    && (eqb (length b.names) new_names_length && (eqb (length b.addresses) new_addresses_length && listed g)))

-- a refusal before the first block
abbrev pub at_once : Inputs → Fault → ℕ → Ran Verdict
at_once g fault offset = record { answer = refused fault offset (begun g); events = [] }

-- "One leftover byte, or an empty file, is 5. The first word must be FFFA to FFFF, else 4."
unfoldable pub opening : List ℕ → Check
opening file =
    need failure (leb 2 (length file)) CutShort (length file)
    (need failure (leb first_marker (value 2 file 0)) WrongOpening 0
    (Ok tt))

-- where the checks before the first block have passed, the rest decides
abbrev pub opened : Inputs → Check → Ran Verdict → Ran Verdict
opened g (Ok passed) rest = rest
opened g (Err e) rest = at_once g e.fault e.offset

-- what a load with the right buffers checks before the first block: 2, then 3, then the opening
unfoldable pub admitting : List ℕ → Inputs → Check
admitting file g =
    need failure (in_range g) SettingOutOfRange 0
    (need failure (leb (length file) file_limit) FileTooLong 0
    (opening file))

-- a load with the right buffers
unfoldable pub load : List ℕ → Inputs → Ran Verdict
load file g = opened g (admitting file g) (blocks_of file g)

-- and whatever the buffers: 1 first
unfoldable pub call : List ℕ → Inputs → Bool → Ran Verdict
call file g right = need (at_once g) right WrongBuffer 0 (load file g)

-- what is reported of a load into a memory: the start, the counts of its events, the number of new names and low afterwards; or a fault and
-- its offset
abbrev pub report : List ℕ → Verdict → List Event → Outcome
report memory (finished z) es =
    acceptance (start_in (marks es blank) (play es memory)) (placed_in es) (adjusted_in es) (length z.addresses) z.cursor.low
report memory (refused fault offset z) es = refusal fault offset 0

-- memory after a load: an acceptance plays its events, "A refusal leaves program memory untouched"
abbrev pub memory_after : Verdict → List Event → List ℕ → List ℕ
memory_after (finished z) es memory = play es memory
memory_after (refused fault offset z) es memory = memory

-- the map after a load: "The map holds the marks"; "Every other refusal leaves .. the map all zero"
abbrev pub map_after : Verdict → List Event → List ℕ
map_after (finished z) es = marks es blank
map_after (refused fault offset z) es = blank

-- the new names after a load: "Every other refusal leaves .. new-name buffers .. as they were"
abbrev pub names_after : Verdict → List ℕ → List ℕ
names_after (finished z) names = filled_up new_names_length z.names
names_after (refused fault offset z) names = names

-- and their addresses
abbrev pub addresses_after : Verdict → List ℕ → List ℕ
addresses_after (finished z) addresses = filled_up new_addresses_length z.addresses
addresses_after (refused fault offset z) addresses = addresses

-- What a call promises: it found the buffers b, of the right lengths or not, and answers r and leaves b'.
pub record Loaded (file : List ℕ) (g : Inputs) (right : Bool) (b : Buffers) (r : Outcome) (b' : Buffers) : Type 0 where
  pub outcome : r ≡ report b.memory (call file g right).answer (call file g right).events
  pub memory : b'.memory ≡ memory_after (call file g right).answer (call file g right).events b.memory
  -- ("Refusal 1 changes nothing")
  pub map : b'.map ≡ pick right (map_after (call file g right).answer (call file g right).events) b.map
  pub names : b'.names ≡ names_after (call file g right).answer b.names
  pub addresses : b'.addresses ≡ addresses_after (call file g right).answer b.addresses
  -- "neither exceeds the file's length"
  pub placed_fits : placed_of r ≤ length file
  pub adjusted_fits : adjusted_of r ≤ length file
