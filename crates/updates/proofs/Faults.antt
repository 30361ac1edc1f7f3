-- What a body is refused with: not 1, 2 or 3, and in the file, or at its end (`answer`, proofs/Faults.antt).
-- Assumes nothing.
use mathlib.Core.List.{List}
use mathlib.Core.Path.{◌≡◌, refl}
use Prim.Native.Nat.{ℕ, ◌≤◌, ◌<◌}
use native.Mathlib.Omega.{arith}
use lib.ListN.{length}
use Rattle.std.proofs.Common.{Option, Result, Ok, Err}
use Rattle.answer.proofs.Checks.{on_need}
use Rattle.answer.proofs.Faults.{OfFile, of_file_located}
use Rattle.answer.specs.declared.Failure.{Failure}
use Rattle.answer.specs.declared.Fault.{Fault}
use Rattle.events.proofs.Faults.{CheckFaults, Checks, Faults, fails, Ending, from_ends}
use Rattle.events.specs.Events.{Check, failed}
use Rattle.items.proofs.Reading.{Where, lies_as}
use Rattle.items.specs.Items.{read}
use Rattle.items.specs.declared.Item.{Item}
use Rattle.items.specs.declared.Item.TheVariants.{End, Move, Adjust}
use Rattle.items.specs.declared.Slot.{Slot}
use Rattle.updates.specs.Bodies.{adjusting, carried, BodyState, Stop, broken, done, judge, turn, items, body}

-- a body is done, or ends with a fault of the file
abbrev pub StopFaults : ℕ → Stop → Type 0
StopFaults len (broken fault offset) = OfFile len fault offset
StopFaults len (done next) = Unit {0}

-- (the same as a record)
pub record Stops (len : ℕ) (s : Stop) : Type 0 where
  pub faults : StopFaults len s

-- so where it broke, the offset is one of the file's, or its length
pub stop_within : {len : ℕ} {s : Stop} {fault : Fault} {offset : ℕ} → Stops len s → s ≡ broken fault offset → offset ≤ len
stop_within {len} {s} {fault} {offset} h e = let g : StopFaults len (broken fault offset) = rw e at h.faults in (of_file_located g).within

-- a word, whose item stands in the file
adjusting_faults : (len at amount a : ℕ) (map : List ℕ) → at < len → Faults len (adjusting at amount a map)
unfolding adjusting
adjusting_faults len at amount a map h =
    on_need failed (Faults len) _ _ _ _ (fails refl h) (λ _. on_need failed (Faults len) _ _ _ _ (fails refl h) (λ _. record { faults = tt }))

-- an item carried out
carried_faults : (len at amount : ℕ) (item : Result Item Failure) (map : List ℕ) → Where len at item → Checks len (carried at amount item map).answer
carried_faults len at amount (Err e) map w = record { faults = w }
carried_faults len at amount (Ok (End next)) map w = record { faults = tt }
carried_faults len at amount (Ok (Move counter next)) map w = record { faults = tt }
carried_faults len at amount (Ok (Adjust counter next)) map w = adjusting_faults len at amount counter map (omega (arith, w))

-- and where it leads
judge_faults : (len at : ℕ) (c : Check) (item : Result Item Failure) → CheckFaults len c → Where len at item → Ending (Stops len) (judge c item)
judge_faults len at (Err e) item h w = record { faults = h }
judge_faults len at (Ok passed) (Err e) h w = record { faults = w }
judge_faults len at (Ok passed) (Ok (End next)) h w = record { faults = tt }
judge_faults len at (Ok passed) (Ok (Move counter next)) h w = tt
judge_faults len at (Ok passed) (Ok (Adjust counter next)) h w = tt

-- so every turn of a body, and the body
turn_faults : (file : List ℕ) (table : List (Option Slot)) (amount : ℕ) (s : BodyState) (map : List ℕ)
    → Ending (Stops (length file)) (turn file table amount s map).answer
unfolding turn
turn_faults file table amount s map =
    let item = read file table s.at s.counter in
    let w = lies_as file table s.at s.counter item refl in
    judge_faults _ s.at (carried s.at amount item map).answer item (carried_faults _ s.at amount item map w).faults w

pub body_faults : (file : List ℕ) (table : List (Option Slot)) (amount at : ℕ) (map : List ℕ) → Stops (length file) (body file table amount at map).answer
unfolding items
body_faults file table amount at map =
    from_ends (Stops (length file)) (turn file table amount) _ (λ s. record { faults = record { late = refl; place = omega arith } })
    (turn_faults file table amount) _ _ map
