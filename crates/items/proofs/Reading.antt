-- Where an item that was read ends in its file, and where the word that it adjusts lies.
-- Assumes nothing.
use mathlib.Core.Bool.{false}
use mathlib.Core.List.{List}
use mathlib.Core.Path.{◌≡◌, refl}
use Prim.Native.Nat.{ℕ, ◌+◌, ◌<◌, ◌≤◌}
use native.Mathlib.Omega.{arith}
use borrow.Author.Tests.{leb-true, ltb-true}
use lib.ListN.{length}
use Rattle.std.proofs.Common.{Option, Some, None, Result, Ok, Err}
use Rattle.answer.proofs.Checks.{on_need, on_pick}
use Rattle.answer.proofs.Faults.{is_early, PlaceOf, OfFile}
use Rattle.answer.specs.Checks.{failure}
use Rattle.answer.specs.declared.Failure.{Failure}
use Rattle.answer.specs.declared.Fault.{Fault}
use Rattle.items.specs.Items.{slot_at, adding, setting, moving_to, setting_to_block, skipping, read}
use Rattle.items.specs.declared.Item.{Item}
use Rattle.items.specs.declared.Item.TheVariants.{End, Move, Adjust}
use Rattle.items.specs.declared.Slot.{Slot}

-- ---- an item lies in its file, and the word that it adjusts in memory

-- where an item that begins at `at` ends, in a file of `len` bytes, and the counter of a word to adjust; a fault is one that such a file may be
-- refused with
abbrev pub Where : ℕ → ℕ → Result Item Failure → Type 0
Where len at (Err e) = OfFile len e.fault e.offset
Where len at (Ok (End next)) = (at < next) × (next ≤ len)
Where len at (Ok (Move counter next)) = (at < next) × (next ≤ len)
Where len at (Ok (Adjust counter next)) = (at < next) × (next ≤ len) × (counter ≤ 65534)

-- the same as a record, whose arguments antt finds by itself
pub record Lies (len at : ℕ) (item : Result Item Failure) : Type 0 where
  pub lies : Where len at item

-- a fault of an item, at its place
bad : {len at : ℕ} {fault : Fault} {offset : ℕ} → is_early fault ≡ false → PlaceOf len fault offset → Lies len at (failure fault offset)
bad l w = record { lies = record { late = l; place = w } }

-- 00 to FB
adding_lies : (len at amount : ℕ) (counter : Option ℕ) → at < len → Lies len at (adding at amount counter)
adding_lies len at amount None h = bad refl (omega arith)
adding_lies len at amount (Some from) h =
    on_need failure (Lies len at) _ _ _ _ (bad refl (omega arith)) (λ i. record { lies = (omega arith, omega arith, leb-true _ _ i) })

-- FD
setting_lies : (file : List ℕ) (at : ℕ) → Lies (length file) at (setting file at)
unfolding setting
setting_lies file at =
    let P = Lies (length file) at in
    on_need failure P _ _ _ _ (bad refl (omega arith))
    (λ h. let present : at + 3 ≤ length file = leb-true _ _ h in
    on_need failure P _ _ _ _ (bad refl (omega arith))
    (λ i. record { lies = (omega arith, present, leb-true _ _ i) }))

-- FE
to_block_lies : (file : List ℕ) (table : List (Option Slot)) (at : ℕ) → Lies (length file) at (setting_to_block file table at)
unfolding setting_to_block
to_block_lies file table at =
    let P = Lies (length file) at in
    on_need failure P _ _ _ _ (bad refl (omega arith))
    (λ h. let present : at + 2 ≤ length file = leb-true _ _ h in
    on_need failure P _ _ _ _ (bad refl (omega arith))
    (λ _. there (slot_at table _) present))
  where
    there : (slot : Option Slot) → at + 2 ≤ length file → Lies (length file) at (moving_to at slot)
    there None h = bad refl (omega arith)
    there (Some slot) h = record { lies = (omega arith, h) }

-- FF
skipping_lies : (len at : ℕ) (counter : Option ℕ) → at < len → Lies len at (skipping at counter)
skipping_lies len at None h = bad refl (omega arith)
skipping_lies len at (Some from) h =
    on_need failure (Lies len at) _ _ _ _ (bad refl (omega arith)) (λ _. record { lies = (omega arith, omega arith) })

-- the item at an offset lies in the file, whatever its byte
pub read_lies : (file : List ℕ) (table : List (Option Slot)) (at : ℕ) (counter : Option ℕ) → Lies (length file) at (read file table at counter)
unfolding read
read_lies file table at counter =
    let P = Lies (length file) at in
    on_need failure P _ _ _ _ (bad refl (omega arith))
    (λ h. on_pick P _ _ _ (λ _. adding_lies (length file) at _ counter (ltb-true _ _ h))
    (λ _. on_pick P _ _ _ (λ _. end_lies (ltb-true _ _ h))
    (λ _. on_pick P _ _ _ (λ _. setting_lies file at)
    (λ _. on_pick P _ _ _ (λ _. to_block_lies file table at)
    (λ _. skipping_lies (length file) at counter (ltb-true _ _ h))))))
  where
    end_lies : at < length file → Lies (length file) at (Ok (End (at + 1)))
    end_lies h = record { lies = (omega arith, omega arith) }

-- the same of an item known to be what is read
pub lies_as : (file : List ℕ) (table : List (Option Slot)) (at : ℕ) (counter : Option ℕ) (item : Result Item Failure) → read file table at counter ≡ item
    → Where (length file) at item
lies_as file table at counter item e =
    let h : Lies (length file) at item = rw (← e) (read_lies file table at counter) in
    h.lies
