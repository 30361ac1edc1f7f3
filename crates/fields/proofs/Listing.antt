-- The fields that a fixup record lists, one item after the other, and how many they are.
-- Assumes nothing.
use mathlib.Core.List.{List, [], ◌∷◌, ◌++◌}
use mathlib.Core.Path.{◌≡◌, refl, sym, ap, ◌∙◌}
use Prim.Native.Nat.{ℕ, suc, ◌+◌, ◌*◌, ◌/◌, ◌≤◌, ◌<◌}
use native.Mathlib.Omega.{arith}
use lib.ListN.{length, get_or, drop, length-drop, drop_of_length-le}
use lib.Seq.{drop-cons, drop-append_seam, take-append_seam, take-length}
use Rattle.std.proofs.lemmas.List.{length-append}
use Rattle.words.proofs.Runs.{part_one, part_two}
use Rattle.words.specs.Runs.{part}
use Rattle.fields.specs.Fields.{item_size, singles, pairs, fields_of}
use Rattle.fields.specs.declared.Field.{Field}
use Rattle.fields.specs.declared.Fixup.{Fixup}
use Rattle.fields.specs.declared.Fixup.TheVariants.{LowByte, ZeroPageByte, Word, HighByte}

-- an item has a byte at least
pub item_some : (fixup : Fixup) → 1 ≤ item_size fixup
item_some LowByte = omega arith
item_some ZeroPageByte = omega arith
item_some Word = omega arith
item_some HighByte = omega arith

-- an item has two bytes at most
pub item_le : (fixup : Fixup) → item_size fixup ≤ 2
item_le LowByte = omega arith
item_le ZeroPageByte = omega arith
item_le Word = omega arith
item_le HighByte = omega arith

-- a byte, and the bytes after it
drop_next : (items : List ℕ) (i : ℕ) → i + 1 ≤ length items → drop i items ≡ get_or items i 0 ∷ drop (i + 1) items
drop_next items i h =
    let e : suc i ≡ i + 1 = omega arith in
    drop-cons items i 0 (omega arith) ∙ ap (λ (k : ℕ). get_or items i 0 ∷ drop k items) e

-- a pair, and the bytes after it
drop_pair : (items : List ℕ) (i : ℕ) → i + 2 ≤ length items → drop i items ≡ get_or items i 0 ∷ get_or items (i + 1) 0 ∷ drop (i + 2) items
drop_pair items i h =
    let e : i + 1 + 1 ≡ i + 2 = omega arith in
    drop_next items i (omega arith)
    ∙ ap (λ (l : List ℕ). get_or items i 0 ∷ l) (drop_next items (i + 1) (omega arith))
    ∙ ap (λ (k : ℕ). get_or items i 0 ∷ get_or items (i + 1) 0 ∷ drop k items) e

-- an item of one byte lists the field at that index
pub single_listed : (fixup : Fixup) (items : List ℕ) (i lsb : ℕ) → (fixup ≡ HighByte → ⊥) → i + item_size fixup ≤ length items → lsb ≡ 0
    → record { fixup = fixup; index = get_or items i 0; lsb = lsb } ∷ [] ≡ fields_of fixup (part items i (item_size fixup))
unfolding fields_of
single_listed LowByte items i lsb n h e = rw e (ap (singles LowByte) (sym (part_one items i h)))
single_listed ZeroPageByte items i lsb n h e = rw e (ap (singles ZeroPageByte) (sym (part_one items i h)))
single_listed Word items i lsb n h e = rw e (ap (singles Word) (sym (part_one items i h)))
single_listed HighByte items i lsb n h e = absurd (n refl)

-- a pair lists the high byte at its index, with its LSB
pub pair_listed : (fixup : Fixup) (items : List ℕ) (i lsb : ℕ) → fixup ≡ HighByte → i + item_size fixup ≤ length items → lsb ≡ get_or items (i + 1) 0
    → record { fixup = fixup; index = get_or items i 0; lsb = lsb } ∷ [] ≡ fields_of fixup (part items i (item_size fixup))
unfolding fields_of
pair_listed fixup items i lsb e h q =
    let two : i + 2 ≤ length items = rw e at h in
    rw (e, q) (ap pairs (sym (part_two items i two)))

-- the fields from an item on are that item's, and those after it
singles_first : (fixup : Fixup) (items : List ℕ) (i : ℕ) → i + 1 ≤ length items
    → singles fixup (drop i items) ≡ singles fixup (part items i 1) ++ singles fixup (drop (i + 1) items)
singles_first fixup items i h =
    ap (singles fixup) (drop_next items i h)
    ∙ ap (λ (l : List ℕ). singles fixup l ++ singles fixup (drop (i + 1) items)) (sym (part_one items i h))

item_first : (fixup : Fixup) (items : List ℕ) (i : ℕ) → i + item_size fixup ≤ length items
    → fields_of fixup (drop i items) ≡ fields_of fixup (part items i (item_size fixup)) ++ fields_of fixup (drop (i + item_size fixup) items)
unfolding fields_of
item_first LowByte items i h = singles_first LowByte items i h
item_first ZeroPageByte items i h = singles_first ZeroPageByte items i h
item_first Word items i h = singles_first Word items i h
item_first HighByte items i h =
    ap pairs (drop_pair items i h)
    ∙ ap (λ (l : List ℕ). pairs l ++ pairs (drop (i + 2) items)) (sym (part_two items i h))

-- where an item stands, it lists the next field
fields_more : (fixup : Fixup) (items : List ℕ) (i : ℕ) (f : Field) → i + item_size fixup ≤ length items
    → f ∷ [] ≡ fields_of fixup (part items i (item_size fixup))
    → fields_of fixup (drop i items) ≡ f ∷ fields_of fixup (drop (i + item_size fixup) items)
fields_more fixup items i f h e =
    item_first fixup items i h ∙ ap (λ (l : List Field). l ++ fields_of fixup (drop (i + item_size fixup) items)) (sym e)

-- fewer than two bytes are no pair
pairs_none : (items : List ℕ) → length items < 2 → pairs items ≡ []
pairs_none [] h = refl
pairs_none (index ∷ []) h = refl
pairs_none (index ∷ lsb ∷ items) h = absurd (omega arith)

-- where no item stands, no field is left
fields_none : (fixup : Fixup) (items : List ℕ) (i : ℕ) → length items < i + item_size fixup → fields_of fixup (drop i items) ≡ []
unfolding fields_of
fields_none LowByte items i h = ap (singles LowByte) (drop_of_length-le items {i = i} (omega arith))
fields_none ZeroPageByte items i h = ap (singles ZeroPageByte) (drop_of_length-le items {i = i} (omega arith))
fields_none Word items i h = ap (singles Word) (drop_of_length-le items {i = i} (omega arith))
fields_none HighByte items i h = pairs_none (drop i items) (rw length-drop (omega arith))

-- the same of items that are taken one after another: the first of them lists the next field
pub item_next : (fixup : Fixup) (items item rest : List ℕ) {f : Field} → items ≡ item ++ rest → length item ≡ item_size fixup
    → f ∷ [] ≡ fields_of fixup (part item 0 (item_size fixup))
    → fields_of fixup items ≡ f ∷ fields_of fixup rest
unfolding part
item_next fixup items item rest {f} s l e =
    let k = item_size fixup in
    let whole : part item 0 k ≡ part (item ++ rest) 0 k = rw (← l) (take-length item ∙ sym (take-append_seam item rest)) in
    let n : 0 + k ≡ length item = omega (arith, l) in
    ap (fields_of fixup) s
    ∙ fields_more fixup (item ++ rest) 0 f (omega (arith, l, length-append item rest)) (e ∙ ap (fields_of fixup) whole)
    ∙ ap (λ (i : ℕ). f ∷ fields_of fixup (drop i (item ++ rest))) n
    ∙ ap (λ (xs : List ℕ). f ∷ fields_of fixup xs) (drop-append_seam item rest)

-- and fewer bytes list none
pub item_none : (fixup : Fixup) (rest : List ℕ) → length rest < item_size fixup → fields_of fixup rest ≡ []
item_none fixup rest h = fields_none fixup rest 0 (omega (arith, h))

-- an index is a field
length_singles : (fixup : Fixup) (items : List ℕ) → length (singles fixup items) ≡ length items
length_singles fixup [] = refl
length_singles fixup (index ∷ items) = ap suc (length_singles fixup items)

-- a pair is a field, and an odd byte at the end none
length_pairs : (items : List ℕ) → length (pairs items) ≡ length items / 2
length_pairs [] = refl
length_pairs (index ∷ []) = refl
length_pairs (index ∷ lsb ∷ items) = let e = length_pairs items in omega arith

-- there are as many fields as whole items
pub length_fields : (fixup : Fixup) (items : List ℕ) → length (fields_of fixup items) ≡ length items / item_size fixup
unfolding fields_of
length_fields LowByte items = let e = length_singles LowByte items in omega arith
length_fields ZeroPageByte items = let e = length_singles ZeroPageByte items in omega arith
length_fields Word items = let e = length_singles Word items in omega arith
length_fields HighByte items = length_pairs items

-- whose items are no more than the bytes
pub items_fit : (fixup : Fixup) (items : List ℕ) → length (fields_of fixup items) * item_size fixup ≤ length items
unfolding fields_of
items_fit LowByte items = let e = length_singles LowByte items in omega arith
items_fit ZeroPageByte items = let e = length_singles ZeroPageByte items in omega arith
items_fit Word items = let e = length_singles Word items in omega arith
items_fit HighByte items = let e = length_pairs items in omega arith

-- there are at most as many fields as bytes
pub fields_fit : (fixup : Fixup) (items : List ℕ) → length (fields_of fixup items) ≤ length items
unfolding fields_of
fields_fit LowByte items = let e = length_singles LowByte items in omega arith
fields_fit ZeroPageByte items = let e = length_singles ZeroPageByte items in omega arith
fields_fit Word items = let e = length_singles Word items in omega arith
fields_fit HighByte items = let e = length_pairs items in omega arith
