-- Where what a block says lies, whatever the file: past the block's offset and in the file, in memory, in the table or in a list of names. A fault is
-- one that the file may be refused with (`answer`, proofs/Faults.antt).
-- Assumes nothing.
use Rattle.std.proofs.Common.{◌≡◌, ℕ, ◌+◌, ◌*◌, ◌/◌, ◌<◌, ◌≤◌, Bool, true, false, ltb, List, Option, Some, None, Result, Ok, Err, length, get_or, refl, arith, ltb-true, leb-true}
use Rattle.answer.proofs.Checks.{on_need, on_pick, and_true}
use Rattle.answer.proofs.Faults.{is_early, PlaceOf, OfFile}
use Rattle.std.specs.Prelude.{IfOk, is_none}
use Rattle.answer.specs.Checks.{failure, need}
use Rattle.answer.specs.declared.Failure.{Failure}
use Rattle.answer.specs.declared.Fault.{Fault}
use Rattle.items.specs.Items.{slot_at}
use Rattle.items.specs.declared.Slot.{Slot}
use Rattle.names.proofs.Searching.{own_inside, lent_inside}
use Rattle.names.specs.Names.{look_up}
use Rattle.names.specs.declared.Definition.{Definition}
use Rattle.names.specs.declared.Definition.TheVariants.{Own, Lent}
use Rattle.words.specs.Numbers.{value}
use Rattle.words.specs.Runs.{part}
use Rattle.blocks.specs.Blocks.{read_plain, most_blocks, read_room, read_relocatable, read_update, by_definition, read_names, read_address, read_inside, read_new_name, read}
use Rattle.blocks.specs.Bounds.{Fits}
use Rattle.blocks.specs.declared.Block.{Block}
use Rattle.blocks.specs.declared.Cursor.{Cursor}

-- a block says something, or is refused with a fault of the file
abbrev pub BlockFaults : ℕ → Result Block Failure → Type 0
BlockFaults len (Ok b) = Unit {0}
BlockFaults len (Err e) = OfFile len e.fault e.offset

module _ (file : List ℕ) (high : ℕ) (lent own : List ℕ) (c : Cursor) where
  -- it lies so, and its fault is one of the file
  record Lain (r : Result Block Failure) : Type 0 where
    fits : IfOk r (Fits (length file) c (length lent / 8) (length own / 8))
    faults : BlockFaults (length file) r

  -- so it does behind a check, whose own fault is one of the file
  checked : (check : Bool) (fault : Fault) (offset : ℕ) (r : Result Block Failure) → is_early fault ≡ false → PlaceOf (length file) fault offset
      → (check ≡ true → Lain r)
      → Lain (need failure check fault offset r)
  checked check fault offset r l w h =
      on_need failure Lain check fault offset r (record { fits = tt; faults = record { late = l; place = w } }) h

  plain_lies : (at : ℕ) → c.at ≤ at → Lain (read_plain file at)
  unfolding read_plain
  plain_lies at l =
      checked _ _ _ _ refl (omega arith)
      (λ h. let header : at + 4 ≤ length file = leb-true _ _ h in
      checked _ _ _ _ refl (omega arith)
      (λ i. checked _ _ _ _ refl (omega arith)
      (λ j. record { fits = record { lies = (omega arith, leb-true _ _ j) }; faults = tt })))

  room_lies : (number : ℕ) (reserves : Bool) → high ≤ 65535 → number ≤ 7 → c.at + 8 ≤ length file → Lain (read_room file high c number reserves)
  unfolding read_room
  room_lies number reserves h n header =
      checked _ _ _ _ refl (omega arith)
      (λ i. checked _ _ _ _ refl (omega arith)
      (λ j. checked _ _ _ _ refl (omega arith)
      (λ k. let below : c.low + value 2 file (c.at + 6) ≤ high = leb-true _ _ k in
      let left = (and_true (is_none (slot_at c.table number)) (ltb c.count most_blocks) i).1 in
      record { fits = record { lies = (omega arith, leb-true _ _ j, omega arith, omega arith, ltb-true _ _ left) }; faults = tt })))

  relocatable_lies : high ≤ 65535 → Lain (read_relocatable file high c)
  unfolding read_relocatable
  relocatable_lies h =
      checked _ _ _ _ refl (omega arith)
      (λ i. let header : c.at + 8 ≤ length file = leb-true _ _ i in
      checked _ _ _ _ refl (omega arith)
      (λ j. checked _ _ _ _ refl (omega arith) (λ k. room_lies _ _ h (leb-true _ _ j) header)))

  update_lies : Lain (read_update file c)
  unfolding read_update
  update_lies =
      checked _ _ _ _ refl (omega arith)
      (λ i. let header : c.at + 5 ≤ length file = leb-true _ _ i in
      checked _ _ _ _ refl (omega arith)
      (λ j. checked _ _ _ _ refl (omega arith)
      (λ k. let number : get_or file (c.at + 2) 0 ≤ 7 = leb-true _ _ j in
      record { fits = record { lies = (omega arith, header, omega arith) }; faults = tt })))

  -- an eight-byte name that ends in the list is one of its names
  listed : (i n : ℕ) → 8 * i + 8 ≤ n → i < n / 8
  listed i n h = omega arith

  names_lies : Lain (read_names file lent own c)
  unfolding read_names
  names_lies = checked _ _ _ _ refl (omega arith) (λ i. by (look_up own lent (part file (c.at + 2) 8)) refl (leb-true _ _ i))
    where
      by : (d : Option Definition) → look_up own lent (part file (c.at + 2) 8) ≡ d → c.at + 12 ≤ length file → Lain (by_definition c.at d)
      by None e l = record { fits = tt; faults = record { late = refl; place = omega arith } }
      by (Some (Own i)) e l = record { fits = record { lies = (omega arith, l, listed i (length own) (own_inside own lent _ i e)) }; faults = tt }
      by (Some (Lent i)) e l = record { fits = record { lies = (omega arith, l, listed i (length lent) (lent_inside own lent _ i e)) }; faults = tt }

  new_name_lies : Lain (read_new_name file c)
  unfolding read_new_name read_address
  new_name_lies =
      checked _ _ _ _ refl (omega arith)
      (λ h. let header : c.at + 13 ≤ length file = leb-true _ _ h in
      checked _ _ _ _ refl (omega arith)
      (λ i. by header (slot_at c.table _)))
    where
      by : c.at + 13 ≤ length file → (slot : Option Slot) → Lain (read_inside file c slot)
      by h None = record { fits = tt; faults = record { late = refl; place = omega arith } }
      by h (Some slot) =
          checked _ _ _ _ refl (omega arith)
          (λ i. checked _ _ _ _ refl (omega arith)
          (λ j. record { fits = record { lies = (omega arith, omega arith, ltb-true _ _ j) }; faults = tt }))

  -- so it is for the block that is read, of whatever kind
  read_lain : high ≤ 65535 → Lain (read file high lent own c)
  unfolding read
  read_lain h =
      checked _ _ _ _ refl (omega arith)
      (λ i. on_pick Lain _ _ _ (λ j. plain_lies c.at (omega arith))
      (λ j. on_pick Lain _ _ _ (λ k. names_lies)
      (λ k. on_pick Lain _ _ _ (λ l. new_name_lies)
      (λ l. on_pick Lain _ _ _ (λ m. update_lies)
      (λ m. on_pick Lain _ _ _ (λ n. relocatable_lies h) (λ n. plain_lies (c.at + 2) (omega arith)))))))

  pub read_lies : high ≤ 65535 → IfOk (read file high lent own c) (Fits (length file) c (length lent / 8) (length own / 8))
  read_lies h = (read_lain h).fits

  pub read_faults : high ≤ 65535 → BlockFaults (length file) (read file high lent own c)
  read_faults h = (read_lain h).faults
