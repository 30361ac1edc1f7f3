-- An update body, item by item, each over the map as the items before it left it. Offsets: document 02, wish 6, "in update bodies .. the item".
-- Assumes nothing.
use Rattle.std.specs.Prelude.{Bool, not, ◌&&◌, ◌||◌, List, [], ◌∷◌, ℕ, ◌+◌, eqb, length, get_or, Option, Some, None, Result, Ok, Err}
use Rattle.answer.specs.Checks.{need, failure}
use Rattle.answer.specs.declared.Failure.{Failure}
use Rattle.answer.specs.declared.Fault.{Fault}
use Rattle.answer.specs.declared.Fault.TheVariants.{CutShort, FieldNotLoaded, AdjustedTwice}
use Rattle.events.specs.Events.{Event, adjust, placed_mark, adjusted_mark, adjusted_in, Ran, Check, failed, passed}
use Rattle.events.specs.Walk.{Turn, ends, leads, from, bytes_left}
use Rattle.items.specs.Items.{read}
use Rattle.items.specs.declared.Item.{Item}
use Rattle.items.specs.declared.Item.TheVariants.{End, Move, Adjust}
use Rattle.items.specs.declared.Slot.{Slot}
use Rattle.words.specs.Runs.{part, contains}
use Rattle.updates.specs.declared.Done.{Done}

-- "marked 1 or 3"
abbrev pub is_loaded : ℕ → Bool
is_loaded mark = eqb mark placed_mark || eqb mark adjusted_mark

-- both bytes of the word at an address are
abbrev pub word_loaded : List ℕ → ℕ → Bool
word_loaded map a = is_loaded (get_or map a 0) && is_loaded (get_or map (a + 1) 0)

-- the word at an address, listed by the item at an offset: "both bytes marked 1 or 3 (12); neither marked 3 (13)"
unfoldable pub adjusting : ℕ → ℕ → ℕ → List ℕ → Ran Check
adjusting at amount a map =
    need failed (word_loaded map a) FieldNotLoaded at
    (need failed (not (contains adjusted_mark (part map a 2))) AdjustedTwice at
    (passed (adjust 2 a amount ∷ [])))

-- the item at an offset carried out: each listed word grows by one amount
abbrev pub applied : ℕ → ℕ → Item → List ℕ → Ran Check
applied at amount (End next) map = passed []
applied at amount (Move counter next) map = passed []
applied at amount (Adjust counter next) map = adjusting at amount counter map

-- the same of what was read there: an item, or the fault for which it is none
abbrev pub carried : ℕ → ℕ → Result Item Failure → List ℕ → Ran Check
carried at amount (Ok item) map = applied at amount item map
carried at amount (Err e) map = failed e.fault e.offset

-- where a body stands: the next item's offset, and the counter
pub record BodyState : Type 0 where
  pub at : ℕ
  pub counter : Option ℕ

-- how a body ends: at a fault, or after its FC
pub data Stop : Type 0 where
  broken : Fault → ℕ → Stop
  done : ℕ → Stop

-- where an item leads: on, after its FC to the end, or there at its fault
abbrev pub judge : Check → Result Item Failure → Turn BodyState Stop
judge (Err e) item = ends (broken e.fault e.offset)
judge (Ok passed) (Err e) = ends (broken e.fault e.offset)
judge (Ok passed) (Ok (End next)) = ends (done next)
judge (Ok passed) (Ok (Move counter next)) = leads (record { at = next; counter = Some counter })
judge (Ok passed) (Ok (Adjust counter next)) = leads (record { at = next; counter = Some counter })

-- one item: read, carried out, and where that leads
unfoldable pub turn : List ℕ → List (Option Slot) → ℕ → BodyState → List ℕ → Ran (Turn BodyState Stop)
turn file table amount s map =
    let item = read file table s.at s.counter in
    record { answer = judge (carried s.at amount item map).answer item; events = (carried s.at amount item map).events }

-- the items from some state on
unfoldable pub items : List ℕ → List (Option Slot) → ℕ → BodyState → List ℕ → Ran Stop
items file table amount s map = from (turn file table amount) (λ z. broken CutShort (length file)) (λ z. bytes_left file z.at) s map

-- "the counter is unset at each body's start"
abbrev pub begun : ℕ → BodyState
begun at = record { at = at; counter = None }

-- a body from its first item
abbrev pub body : List ℕ → List (Option Slot) → ℕ → ℕ → List ℕ → Ran Stop
body file table amount at map = items file table amount (begun at) map

-- how a body ends in the program's terms: at a fault, or after its FC with so many fields adjusted
abbrev pub Ended : Type 0
Ended = Result Done Failure

abbrev pub ended_at : ℕ → ℕ → Ended
ended_at next adjusted = Ok (record { next = next; adjusted = adjusted })

-- the same of a stop and the events before it
abbrev pub counted : Stop → List Event → Ended
counted (broken fault offset) es = failure fault offset
counted (done next) es = ended_at next (adjusted_in es)

-- and all that it comes to
abbrev pub ended : Ran Stop → Ran Ended
ended o = record { answer = counted o.answer o.events; events = o.events }
