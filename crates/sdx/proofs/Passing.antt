-- What a block has passed that was read, and that the events of a body are lawful: the checks of document 01 that demand 2 rests on.
-- Assumes nothing.
use mathlib.Core.Bool.{Bool, true, false, ◌||◌, false≢true}
use mathlib.Core.List.{List}
use mathlib.Core.Path.{◌≡◌, refl, ap, ◌∙◌}
use Prim.Native.Nat.{ℕ, ◌+◌, ◌≤◌, ◌<◌}
use native.Mathlib.Omega.{arith}
use borrow.Author.Tests.{leb-true, eqb-true, not-true}
use lib.Dec.{eqb, ltb}
use lib.ListN.{length, get_or}
use Rattle.std.proofs.Common.{Option, Some, None, Result, Ok, Err, is_some, is_none, IfOk}
use Rattle.answer.proofs.Checks.{on_need, on_pick, and_true}
use Rattle.answer.specs.Checks.{failure, need}
use Rattle.answer.specs.declared.Failure.{Failure}
use Rattle.answer.specs.declared.Fault.{Fault}
use Rattle.answer.specs.declared.Fault.TheVariants.{CutShort}
use Rattle.blocks.specs.Blocks.{most_blocks, read_plain, read_room, read_relocatable, read_update, by_definition, read_names, read_address, read_inside, read_new_name, read}
use Rattle.blocks.specs.declared.Block.{Block}
use Rattle.blocks.specs.declared.Block.TheVariants.{Plain, Relocatable, Update, NewName}
use Rattle.blocks.specs.declared.Cursor.{Cursor}
use Rattle.blocks.specs.declared.Source.TheVariants.{Number, LentName, OwnName}
use Rattle.events.proofs.Events.{length_marks}
use Rattle.events.proofs.Walks.{walk_keeps}
use Rattle.events.specs.Events.{Event, marks, failed}
use Rattle.events.specs.Walk.{bytes_left}
use Rattle.items.proofs.Reading.{Where, lies_as}
use Rattle.items.specs.Items.{slot_at, read as read_item_lem}
use Rattle.items.specs.declared.Item.{Item}
use Rattle.items.specs.declared.Item.TheVariants.{End, Move, Adjust}
use Rattle.items.specs.declared.Slot.{Slot}
use Rattle.names.specs.Names.{look_up}
use Rattle.names.specs.declared.Definition.{Definition}
use Rattle.names.specs.declared.Definition.TheVariants.{Own, Lent}
use Rattle.updates.proofs.Turning.{turn_falls}
use Rattle.updates.specs.Bodies.{is_loaded, word_loaded, adjusting, carried as carried_item, BodyState, broken, turn, items, begun, body}
use Rattle.words.proofs.Changes.{value_lt}
use Rattle.words.proofs.Runs.{length_part, part_at, contains_not}
use Rattle.words.specs.Numbers.{value}
use Rattle.words.specs.Runs.{Bytes, part, contains}
use Rattle.sdx.proofs.Lawful.{Lawful, lawful_append}

-- ---- a block

-- a plain block ends in memory; a relocatable one has a number that is new, a body one that is there
abbrev pub Passes : Cursor → Block → Type 0
Passes c (Plain address from size) = address + size ≤ 65536
Passes c (Relocatable reserves number offset from size) = is_none (slot_at c.table number) ≡ true
Passes c (Update (Number number) from) = is_some (slot_at c.table number) ≡ true
Passes c (Update (LentName i) from) = Unit {0}
Passes c (Update (OwnName i) from) = Unit {0}
Passes c (NewName from address) = Unit {0}

-- (the same as a record)
pub record Granted (c : Cursor) (b : Block) : Type 0 where
  pub passes : Passes c b

module _ (file : List ℕ) (high : ℕ) (lent own : List ℕ) (c : Cursor) where
  -- a block that was read has passed them; a fault has nothing to pass
  record Grants (r : Result Block Failure) : Type 0 where
    grants : IfOk r (Granted c)

  grants_block : {b : Block} → Passes c b → Grants (Ok b)
  grants_block p = record { grants = record { passes = p } }

  checked : (check : Bool) (fault : Fault) (offset : ℕ) (r : Result Block Failure) → (check ≡ true → Grants r)
      → Grants (need failure check fault offset r)
  checked check fault offset r h = on_need failure Grants check fault offset r (record { grants = tt }) h

  -- a plain block's last byte has an address
  plain_granted : Bytes file → (at : ℕ) → Grants (read_plain file at)
  unfolding read_plain
  plain_granted bytes at =
      checked _ _ _ _
      (λ h. checked _ _ _ _
      (λ i. checked _ _ _ _
      (λ j. let header : at + 4 ≤ length file = leb-true _ _ h in
      let order : value 2 file at ≤ value 2 file (at + 2) = leb-true _ _ i in
      let last : value 2 file (at + 2) < 65536 = value_lt 2 file (at + 2) (omega arith) bytes in
      grants_block (omega arith))))

  -- a relocatable one's number is not taken
  room_granted : (number : ℕ) (reserves : Bool) → Grants (read_room file high c number reserves)
  unfolding read_room
  room_granted number reserves =
      checked _ _ _ _
      (λ h. checked _ _ _ _
      (λ i. checked _ _ _ _
      (λ j. grants_block (and_true (is_none (slot_at c.table number)) (ltb c.count most_blocks) h).0)))

  relocatable_granted : Grants (read_relocatable file high c)
  unfolding read_relocatable
  relocatable_granted = checked _ _ _ _ (λ h. checked _ _ _ _ (λ i. checked _ _ _ _ (λ j. room_granted _ _)))

  -- the block of a body is there
  update_granted : Grants (read_update file c)
  unfolding read_update
  update_granted = checked _ _ _ _ (λ h. checked _ _ _ _ (λ i. checked _ _ _ _ (λ j. grants_block j)))

  -- (a name has no slot)
  names_granted : Grants (read_names file lent own c)
  unfolding read_names
  names_granted = checked _ _ _ _ (λ h. by (look_up own lent (part file (c.at + 2) 8)))
    where
      by : (d : Option Definition) → Grants (by_definition c.at d)
      by None = record { grants = tt }
      by (Some (Own i)) = grants_block tt
      by (Some (Lent i)) = grants_block tt

  -- (nor has a new name)
  new_name_granted : Grants (read_new_name file c)
  unfolding read_new_name read_address
  new_name_granted = checked _ _ _ _ (λ h. checked _ _ _ _ (λ i. by (slot_at c.table _)))
    where
      by : (s : Option Slot) → Grants (read_inside file c s)
      by None = record { grants = tt }
      by (Some slot) = checked _ _ _ _ (λ j. checked _ _ _ _ (λ k. grants_block tt))

  -- so every block has passed that is read
  read_grants : Bytes file → Grants (read file high lent own c)
  unfolding read
  read_grants bytes =
      checked _ _ _ _
      (λ h. on_pick Grants _ _ _ (λ i. plain_granted bytes c.at)
      (λ i. on_pick Grants _ _ _ (λ j. names_granted)
      (λ j. on_pick Grants _ _ _ (λ k. new_name_granted)
      (λ k. on_pick Grants _ _ _ (λ l. update_granted)
      (λ l. on_pick Grants _ _ _ (λ m. relocatable_granted) (λ m. plain_granted bytes (c.at + 2)))))))

  pub read_granted : Bytes file → IfOk (read file high lent own c) (Granted c)
  read_granted bytes = (read_grants bytes).grants

-- ---- a body

-- a mark that is 1 or 3, but not 3
loaded_placed : (mark : ℕ) → is_loaded mark ≡ true → (mark ≡ 3 → ⊥) → mark ≡ 1
loaded_placed mark e n = by (eqb mark 1) (eqb mark 3) refl refl e
  where
    by : (s t : Bool) → eqb mark 1 ≡ s → eqb mark 3 ≡ t → s || t ≡ true → mark ≡ 1
    by true t f g h = eqb-true mark 1 f
    by false true f g h = absurd (n (eqb-true mark 3 g))
    by false false f g h = absurd (false≢true h)

-- "both bytes marked 1 or 3 (12); neither marked 3 (13)": both are marked 1
word_placed : (map : List ℕ) (a : ℕ) → a + 2 ≤ length map → word_loaded map a ≡ true → contains 3 (part map a 2) ≡ false
    → (get_or map a 0 ≡ 1) × (get_or map (a + 1) 0 ≡ 1)
word_placed map a l e f =
    let x = and_true (is_loaded (get_or map a 0)) (is_loaded (get_or map (a + 1) 0)) e in
    let n = length_part map a 2 l in
    let z : get_or (part map a 2) 0 0 ≡ get_or map a 0 = part_at map a 2 0 (omega arith) ∙ ap (λ (y : ℕ). get_or map y 0) (omega arith) in (
      loaded_placed (get_or map a 0) x.0 (λ g. contains_not 3 (part map a 2) f 0 (omega (arith, n)) (z ∙ g)),
      loaded_placed (get_or map (a + 1) 0) x.1
          (λ g. contains_not 3 (part map a 2) f 1 (omega (arith, n)) (part_at map a 2 1 (omega arith) ∙ g)),
    )

-- so a word that is adjusted may be
adjusting_lawful : (at amount a : ℕ) (map : List ℕ) → length map ≡ 65536 → a ≤ 65534 → Lawful map (adjusting at amount a map).events
unfolding adjusting
adjusting_lawful at amount a map l h =
    on_need failed (λ o. Lawful map o.events) _ _ _ _ tt
    (λ i. on_need failed (λ o. Lawful map o.events) _ _ _ _ tt
    (λ j. let w = word_placed map a (omega arith) i (not-true _ j) in ((refl, omega arith, w.0, w.1), tt)))

-- an item, and a turn
carried_item_lawful : (len at amount : ℕ) (item : Result Item Failure) (map : List ℕ) → length map ≡ 65536 → Where len at item
    → Lawful map (carried_item at amount item map).events
carried_item_lawful len at amount (Err e) map l w = tt
carried_item_lawful len at amount (Ok (End next)) map l w = tt
carried_item_lawful len at amount (Ok (Move counter next)) map l w = tt
carried_item_lawful len at amount (Ok (Adjust counter next)) map l w = adjusting_lawful at amount counter map l w.2

turn_lawful : (file : List ℕ) (table : List (Option Slot)) (amount : ℕ) (s : BodyState) (map : List ℕ) → length map ≡ 65536
    → Lawful map (turn file table amount s map).events
unfolding turn
turn_lawful file table amount s map l =
    carried_item_lawful (length file) s.at amount (read_item_lem file table s.at s.counter) map l (lies_as file table s.at s.counter _ refl)

-- the events of a body are lawful, however it ends
pub body_lawful : (file : List ℕ) (table : List (Option Slot)) (amount at : ℕ) (map : List ℕ) → length map ≡ 65536
    → Lawful map (body file table amount at map).events
unfolding items
body_lawful file table amount at map l =
    let each : (s : BodyState) (es : List Event) → Lawful (marks es map) (turn file table amount s (marks es map)).events =
    λ s es. turn_lawful file table amount s (marks es map) (length_marks es map ∙ l) in
    let x = walk_keeps (turn file table amount) (λ z. broken CutShort (length file)) (λ s. bytes_left file s.at) (turn_falls file table amount) (λ s es. Lawful map es) map
    (λ s z es h e. lawful_append map es _ h (each s es)) (begun at) tt in
    rw x.events (lawful_append map x.before _ x.held (each x.state x.before))
