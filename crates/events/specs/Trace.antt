-- How a file is gone through, step by step: the words in which a format says that a file follows its rules. No count of turns is in it.
-- Assumes nothing.
use Rattle.std.specs.Prelude.{List, [], ◌++◌, ◌≡◌, ℕ}
use Rattle.events.specs.Events.{Event, marks, blank, Ran, Check, passed}

-- Steps from a first state on, each after the events of those before it: `Step y es z fs` says that the step at y, after the events es, leads on
-- to z by the events fs.
pub data Trace {S : Type 0} (Step : S → List Event → S → List Event → Type 0) (first : S) : S → List Event → Type 0 where
  at_start : Trace Step first first []
  after_step : {y z : S} {es fs : List Event} → Trace Step first y es → Step y es z fs → Trace Step first z (es ++ fs)

-- One step of a format, by what stands at a state (`there`), whether that is neither the last nor a fault (`Onward`), its check over a map (`checked`) and
-- where it leads (`stepped`): what stands at s passes, over the map as the events es left it, and leads on to z by the events fs.
pub record NextStep {S R : Type 0} (Onward : R → Type 0) (there : S → R) (checked : S → List ℕ → Ran Check) (stepped : S → R → S)
    (s : S) (es : List Event) (z : S) (fs : List Event) : Type 0 where
  pub onward : Onward (there s)
  pub passes : checked s (marks es blank) ≡ passed fs
  pub leads_to : z ≡ stepped s (there s)
