-- A walk: turn after turn, each over the map as the turns before it left it, until one of them ends it.
-- The turns are counted down, so that there is an end in any case; `from_turn` (proofs/Walks.antt) is the equation to read where each turn
-- brings its state's measure down, and nothing after it looks at the count.
-- Assumes nothing.
use Rattle.std.specs.Prelude.{List, [], ◌++◌, ℕ, zero, suc, ◌-◌, length, Ok, Err}
use Rattle.events.specs.Events.{Event, marks, Ran, Check}

-- what a turn comes to: it ends the walk with an answer, or leads to another state
pub data Turn (S A : Type 0) : Type 0 where
  ends : A → Turn S A
  leads : S → Turn S A

-- what is done after these events: theirs stand first
abbrev pub after : {A : Type 0} → List Event → Ran A → Ran A
after es rest = record { answer = rest.answer; events = es ++ rest.events }

-- a part of the work, and another after it where it passed, over the map as it left it
abbrev pub and_then : List ℕ → Check → List Event → (List ℕ → Ran Check) → Ran Check
and_then map (Ok done) es next = after es (next (marks es map))
and_then map (Err failure) es next = record { answer = Err failure; events = es }

-- how a walk goes on after a turn with these events
abbrev pub onward : {S A : Type 0} → (S → List ℕ → Ran A) → List ℕ → List Event → Turn S A → Ran A
onward go map es (ends a) = record { answer = a; events = es }
onward go map es (leads s) = after es (go s (marks es map))

-- at most so many turns from a state (`last` is the answer if they run out, which by `from_turn` they never do)
unfoldable pub walk : {S A : Type 0} → (S → List ℕ → Ran (Turn S A)) → (S → A) → ℕ → S → List ℕ → Ran A
walk turn last zero s map = record { answer = last s; events = [] }
walk turn last (suc k) s map = onward (λ z p. walk turn last k z p) map (turn s map).events (turn s map).answer

-- all turns from a state, of which there are no more than its measure says
unfoldable pub from : {S A : Type 0} → (S → List ℕ → Ran (Turn S A)) → (S → A) → (S → ℕ) → S → List ℕ → Ran A
from turn last measure s map = walk turn last (suc (measure s)) s map

-- the bytes of a file from an offset on, by which the turns of a walk over it are counted down (nothing is read past the file's end)
abbrev pub bytes_left : List ℕ → ℕ → ℕ
bytes_left file at = length file - at
