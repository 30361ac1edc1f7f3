-- What a check and a walk are refused with (`answer`, proofs/Faults.antt).
-- Assumes nothing.
use mathlib.Core.Bool.{false}
use mathlib.Core.List.{List}
use mathlib.Core.Path.{◌≡◌}
use Prim.Native.Nat.{ℕ, zero, suc, ◌≤◌}
use Rattle.std.proofs.Common.{Ok, Err}
use Rattle.answer.proofs.Faults.{is_early, PlaceOf, OfFile, of_file_located}
use Rattle.answer.specs.declared.Fault.{Fault}
use Rattle.answer.specs.Checks.{failure}
use Rattle.events.specs.Events.{Event, marks, Ran, Check}
use Rattle.events.specs.Walk.{Turn, ends, leads, onward, walk, from}

-- a check passed, or failed with a fault of the file
abbrev pub CheckFaults : ℕ → Check → Type 0
CheckFaults len (Ok done) = Unit {0}
CheckFaults len (Err e) = OfFile len e.fault e.offset

-- (the same as a record)
pub record Checks (len : ℕ) (c : Check) : Type 0 where
  pub faults : CheckFaults len c

-- of a part of the work, by its answer
abbrev pub Faults : ℕ → Ran Check → Type 0
Faults len o = Checks len o.answer

-- a check failed with a fault that is not 1, 2 or 3, at its place
pub fails : {len : ℕ} {fault : Fault} {offset : ℕ} → is_early fault ≡ false → PlaceOf len fault offset → Checks len (failure fault offset)
fails l w = record { faults = record { late = l; place = w } }

-- so where it failed, the offset is one of the file's, or its length
pub check_within : {len : ℕ} {c : Check} {fault : Fault} {offset : ℕ} → Checks len c → c ≡ failure fault offset → offset ≤ len
check_within {len} {c} {fault} {offset} h e = let g : CheckFaults len (failure fault offset) = rw e at h.faults in (of_file_located g).within

-- what holds of the answer with which a turn ends its walk, if it does
abbrev pub Ending : {S A : Type 0} → (A → Type 0) → Turn S A → Type 0
Ending P (ends a) = P a
Ending P (leads s) = Unit {0}

module _ {S A : Type 0} (P : A → Type 0) (turn : S → List ℕ → Ran (Turn S A)) (last : S → A) (lasts : (s : S) → P (last s))
    (turns : (s : S) (map : List ℕ) → Ending P (turn s map).answer) where
  -- how it goes on after a turn
  onward_ends : (go : S → List ℕ → Ran A) → ((s : S) (map : List ℕ) → P (go s map).answer) → (map : List ℕ) (es : List Event) (t : Turn S A)
      → Ending P t → P (onward go map es t).answer
  onward_ends go goes map es (ends a) h = h
  onward_ends go goes map es (leads s) h = goes s (marks es map)

  -- at most so many turns
  walk_ends_by : (k : ℕ) (s : S) (map : List ℕ) → P (walk turn last k s map).answer
  unfolding walk
  walk_ends_by zero s map = lasts s
  walk_ends_by (suc k) s map =
      onward_ends (λ z p. walk turn last k z p) (λ z p. walk_ends_by k z p) map (turn s map).events (turn s map).answer (turns s map)

  -- what holds of each answer that a turn gives (and of what the walk would answer if its turns ran out) holds of the walk's
  pub from_ends : (measure : S → ℕ) (s : S) (map : List ℕ) → P (from turn last measure s map).answer
  unfolding from
  from_ends measure s map = walk_ends_by (suc (measure s)) s map
