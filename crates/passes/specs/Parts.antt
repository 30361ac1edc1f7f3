-- What the functions of `passes` promise.
-- Assumes nothing.
use Rattle.std.specs.Prelude.{Bool, List, ◌≡◌, ℕ, ◌*◌, ◌≤◌, length, Result, Ok}
use Rattle.answer.specs.Checks.{failure}
use Rattle.answer.specs.Report.{Outcome, acceptance}
use Rattle.answer.specs.declared.Failure.{Failure}
use Rattle.answer.specs.declared.Fault.{Fault}
use Rattle.blocks.specs.Blocks.{most_names}
use Rattle.events.specs.Events.{Event, blank, placed_in, adjusted_in, Ran, Did}
use Rattle.events.specs.Sizes.{file_limit}
use Rattle.names.specs.Names.{name_size}
use Rattle.words.specs.Runs.{part, put}
use Rattle.passes.specs.Buffers.{Buffers, start_in, filled_up, new_names_length, new_addresses_length}
use Rattle.passes.specs.Walk.{Progress, Verdict, finished, refused}
use Rattle.passes.specs.declared.Totals.{Totals}

-- what a walk to the file's end comes to
abbrev pub totals : ℕ → ℕ → ℕ → ℕ → Totals
totals low named placed adjusted = record { low = low; named = named; placed = placed; adjusted = adjusted }

-- how a walk ends, in the program's terms: at the file's end, or with a fault at an offset
abbrev pub WalkEnd : Type 0
WalkEnd = Result Totals Failure

-- the same of a verdict and the events before it
abbrev pub walk_end : Verdict → List Event → WalkEnd
walk_end (finished z) es = Ok (totals z.cursor.low (length z.addresses) (placed_in es) (adjusted_in es))
walk_end (refused fault offset z) es = failure fault offset

-- and all that it comes to
abbrev pub walk_end_of : Ran Verdict → Ran WalkEnd
walk_end_of o = record { answer = walk_end o.answer o.events; events = o.events }

-- how far it came
abbrev pub progress_of : Verdict → Progress
progress_of (finished z) = z
progress_of (refused fault offset z) = z

-- the numbers of a walk's answer are within their bounds
pub record Bounded (r : WalkEnd) : Type 0 where
  pub offset : (fault : Fault) (offset : ℕ) → r ≡ failure fault offset → offset ≤ file_limit
  pub counts : (t : Totals) → r ≡ Ok t → (t.named ≤ most_names) × (t.placed ≤ file_limit) × (t.adjusted ≤ file_limit)

-- What a walk does: it found the buffers b, and answers r and leaves b', as o says. The new names so far stand at the front of the new-name buffers.
pub record Walked (o : Ran Verdict) (write : Bool) (b : Buffers) (r : WalkEnd) (b' : Buffers) : Type 0 where
  pub did : Did WalkEnd (walk_end_of o) write b.memory b.map r b'.memory b'.map
  pub names : b'.names ≡ put b.names 0 (progress_of o.answer).names
  pub addresses : b'.addresses ≡ put b.addresses 0 (progress_of o.answer).addresses
  -- each new name has its eight bytes
  pub eights : length (progress_of o.answer).names ≡ name_size * length (progress_of o.answer).addresses
  pub bounded : Bounded r

-- What the walk does that only checks: it found memory m, and answers r and leaves m' and the map p'.
pub record Checked (o : Ran Verdict) (m : List ℕ) (r : WalkEnd) (m' p' : List ℕ) : Type 0 where
  pub answer : r ≡ (walk_end_of o).answer
  pub memory : m' ≡ m
  pub map : p' ≡ blank
  pub bounded : Bounded r

-- An acceptance: the start, the numbers of the walk, and new-name buffers whose rest is zero.
pub record Reported (t : Totals) (b : Buffers) (r : Outcome) (ns' ads' : List ℕ) : Type 0 where
  pub outcome : r ≡ acceptance (start_in b.map b.memory) t.placed t.adjusted t.named t.low
  pub names : ns' ≡ filled_up new_names_length (part b.names 0 (name_size * t.named))
  pub addresses : ads' ≡ filled_up new_addresses_length (part b.addresses 0 t.named)
