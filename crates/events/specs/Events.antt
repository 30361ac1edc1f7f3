-- What a load does, as a list of events in their order; and what they leave in memory, in the map and in the counts.
-- Assumes nothing.
use Rattle.std.specs.Prelude.{Bool, true, false, List, [], ◌∷◌, ◌≡◌, ℕ, ◌+◌, length, replicate, Result, Ok}
use Rattle.answer.specs.Checks.{failure}
use Rattle.answer.specs.declared.Failure.{Failure}
use Rattle.answer.specs.declared.Fault.{Fault}
use Rattle.words.specs.Numbers.{on, change}
use Rattle.words.specs.Runs.{put}
use Rattle.events.specs.Sizes.{memory_size}

-- "these events": bytes placed from an address on; so many addresses reserved; a field of so many bytes at an address adjusted by an amount
pub data Event : Type 0 where
  place : ℕ → List ℕ → Event
  reserve : ℕ → ℕ → Event
  adjust : ℕ → ℕ → ℕ → Event

-- memory after one event (what is reserved keeps its bytes: "Reserving marks 2 and writes nothing")
abbrev pub play_one : Event → List ℕ → List ℕ
play_one (place a bytes) memory = put memory a bytes
play_one (reserve a n) memory = memory
play_one (adjust width a amount) memory = change width (on width amount) memory a

-- memory after the events: "each loaded byte as its last block put it, fields listed after that adjusted as the rules say"
unfoldable pub play : List Event → List ℕ → List ℕ
play [] memory = memory
play (e ∷ es) memory = play es (play_one e memory)

-- "1 placed, 2 reserved, 3 adjusted"
abbrev pub placed_mark : ℕ
placed_mark = 1

abbrev pub reserved_mark : ℕ
reserved_mark = 2

abbrev pub adjusted_mark : ℕ
adjusted_mark = 3

-- the map after one event
abbrev pub mark_one : Event → List ℕ → List ℕ
mark_one (place a bytes) map = put map a (replicate (length bytes) placed_mark)
mark_one (reserve a n) map = put map a (replicate n reserved_mark)
mark_one (adjust width a amount) map = put map a (replicate width adjusted_mark)

-- the map after the events: "The last event at an address decides"
unfoldable pub marks : List Event → List ℕ → List ℕ
marks [] map = map
marks (e ∷ es) map = marks es (mark_one e map)

-- "0 untouched"
unfoldable pub blank : List ℕ
blank = replicate memory_size 0

-- "Bytes placed is the sum of all data lengths"
unfoldable pub placed_in : List Event → ℕ
placed_in [] = 0
placed_in (place a bytes ∷ es) = length bytes + placed_in es
placed_in (reserve a n ∷ es) = placed_in es
placed_in (adjust width a amount ∷ es) = placed_in es

-- the number "of fields adjusted"
unfoldable pub adjusted_in : List Event → ℕ
adjusted_in [] = 0
adjusted_in (place a bytes ∷ es) = adjusted_in es
adjusted_in (reserve a n ∷ es) = adjusted_in es
adjusted_in (adjust width a amount ∷ es) = 1 + adjusted_in es

-- what a part of the work comes to: its answer, and the events up to it
pub record Ran (A : Type 0) : Type 0 where
  pub answer : A
  pub events : List Event

-- what became of a check: it passed, or failed with a fault at an offset of the file
abbrev pub Check : Type 0
Check = Result (Unit {0}) Failure

-- a check that failed, with no event; one that passed, with its events
abbrev pub failed : Fault → ℕ → Ran Check
failed fault offset = record { answer = failure fault offset; events = [] }

abbrev pub passed : List Event → Ran Check
passed es = record { answer = Ok tt; events = es }

-- memory after the events where they are carried out, and as it was where the file is only checked
abbrev pub play_if : Bool → List Event → List ℕ → List ℕ
play_if true es memory = play es memory
play_if false es memory = memory

-- The contract of a function that carries out events: it found memory m and the map p, and leaves m' and p' with the events done.
pub record Reached (es : List Event) (write : Bool) (m p m' p' : List ℕ) : Type 0 where
  pub memory : m' ≡ play_if write es m
  pub map : p' ≡ marks es p

-- The contract of a function that does a part of the work in the map alone: where it found the map p, it answers r and leaves p' as o says.
pub record Noted (A : Type 0) (o : Ran A) (p : List ℕ) (r : A) (p' : List ℕ) : Type 0 where
  pub answer : r ≡ o.answer
  pub map : p' ≡ marks o.events p

-- The contract of every function that does a part of the work: where it found memory m and the map p, it answers r and leaves m' and p' as
-- o says.
pub record Did (A : Type 0) (o : Ran A) (write : Bool) (m p : List ℕ) (r : A) (m' p' : List ℕ) : Type 0 where
  pub answer : r ≡ o.answer
  pub reached : Reached o.events write m p m' p'
