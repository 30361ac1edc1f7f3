-- What a walk keeps beside memory and the map: the buffers for new names, at whose front the names so far stand, and the table of blocks.
-- Assumes nothing.
use mathlib.Core.Bool.{Bool, true, false}
use mathlib.Core.List.{List, [], ◌∷◌, ◌++◌}
use mathlib.Core.Path.{◌≡◌, refl, sym, ap, ◌∙◌}
use Prim.Native.Nat.{ℕ, zero, suc, ◌+◌, ◌-◌, ◌*◌, ◌≤◌, ◌<◌}
use native.Mathlib.Omega.{arith}
use borrow.Author.Tests.{eqb-true, eqb-false}
use borrow.Rule.Slice.PartMut.{mid_of}
use lib.Dec.{eqb}
use lib.ListN.{length, set, replicate, length-set, length-append}
use lib.Seq.{get_or-set_same, get_or-set_other}
use Rattle.blocks.specs.Bounds.{Packed, Fits}
use Rattle.blocks.specs.declared.Block.{Block}
use Rattle.blocks.specs.declared.Block.TheVariants.{Plain, Relocatable, Update, NewName}
use Rattle.blocks.specs.declared.Cursor.{Cursor}
use Rattle.std.proofs.Common.{Option, Some, None, Result, Ok, Err}
use Rattle.std.proofs.lemmas.Option.{none-some, same_Some}
use Rattle.std.specs.Prelude.{IfOk}
use Rattle.answer.specs.declared.Failure.{Failure}
use Rattle.items.specs.Items.{slot_at}
use Rattle.items.specs.declared.Slot.{Slot}
use Rattle.words.proofs.Lent.{lent_is}
use Rattle.words.proofs.Runs.{put_append, length_part}
use Rattle.words.specs.Runs.{part, put}
use Rattle.effects.specs.Effects.{advanced, name_in, address_in, first_cursor}

-- the front of a room that is lent
pub front_is : (n : ℕ) (l : List ℕ) → mid_of 0 (n - 0) l ≡ part l 0 n
front_is n l = let e : n - 0 ≡ 0 + n - 0 = omega arith in ap (λ (k : ℕ). mid_of 0 k l) e ∙ lent_is 0 n l

-- a block's name behind those before it
pub behind : (room written l l' name : List ℕ) (n : ℕ) → l ≡ put room 0 written → length written ≡ n → l' ≡ put l n name
    → l' ≡ put room 0 (written ++ name)
behind room written l l' name n e f g =
    let at : n ≡ 0 + length written = omega (arith, f) in
    g ∙ ap (λ (k : List ℕ). put k n name) e ∙ ap (λ (i : ℕ). put (put room 0 written) i name) at ∙ put_append room 0 written name

-- the names of a cursor are counted, each has its eight bytes and its address, and there are at most 32
pub record Counted (c : Cursor) (names addresses : List ℕ) : Type 0 where
  pub bytes : length names ≡ 8 * c.named
  pub each : length addresses ≡ c.named
  pub few : c.named ≤ 32

-- before the first block there are none
pub counted_first : (low : ℕ) → Counted (first_cursor low) [] []
counted_first low = record { bytes = omega arith; each = refl; few = omega arith }

-- a block without a name leaves them
counted_same : (c d : Cursor) (names addresses : List ℕ) → d.named ≡ c.named → Counted c names addresses
    → Counted d (names ++ []) (addresses ++ [])
counted_same c d names addresses e h =
    record {
      bytes = length-append names [] ∙ omega (arith, h.bytes, e);
      each = length-append addresses [] ∙ omega (arith, h.each, e);
      few = omega (arith, h.few, e);
    }

-- after a block it holds with the name that the block brings, if any
pub counted_on : (file : List ℕ) (c : Cursor) (found : Result Block Failure) (next lent own : ℕ) (names addresses : List ℕ)
    → IfOk found (Fits (length file) c lent own)
    → Counted c names addresses → Counted (advanced c found next) (names ++ name_in file found) (addresses ++ address_in found)
counted_on file c (Ok (Plain address from size)) next lent own names addresses f h = counted_same c _ names addresses refl h
counted_on file c (Ok (Relocatable reserves number offset from size)) next lent own names addresses f h = counted_same c _ names addresses refl h
counted_on file c (Ok (Update source from)) next lent own names addresses f h = counted_same c _ names addresses refl h
counted_on file c (Ok (NewName from address)) next lent own names addresses f h =
    let l = f.lies in
    let e : length (part file from 8) ≡ 8 = length_part file from 8 l.1 in
    record {
      bytes = length-append names (part file from 8) ∙ omega (arith, h.bytes, e);
      each = length-append addresses (address ∷ []) ∙ omega (arith, h.each);
      few = omega (arith, l.2);
    }
counted_on file c (Err e) next lent own names addresses f h = counted_same c _ names addresses refl h

-- ---- the table

-- a table of eight slots, in which every block ends at an address
pub record Tabled (c : Cursor) : Type 0 where
  pub slots : length c.table ≡ 8
  pub packed : Packed c.table
  pub few : c.count ≤ 7

packed_set : (table : List (Option Slot)) (number : ℕ) (slot : Slot) → number < length table → slot.address + slot.size ≤ 65535 → Packed table
    → Packed (set table number (Some slot))
packed_set table number slot h i p = record { packed = λ n s e. by n s (eqb n number) refl e }
  where
    by : (n : ℕ) (s : Slot) (t : Bool) → eqb n number ≡ t → slot_at (set table number (Some slot)) n ≡ Some s → s.address + s.size ≤ 65535
    by n s true e f =
        let same : Some slot ≡ Some s =
        sym (get_or-set_same table number (Some slot) None h) ∙ ap (λ (k : ℕ). slot_at (set table number (Some slot)) k) (sym (eqb-true n number e)) ∙ f in
        rw (← same_Some _ _ same) i
    by n s false e f = p.packed n s (sym (get_or-set_other table number n (Some slot) None (eqb-false n number e)) ∙ f)

-- before the first block no slot is taken
pub tabled_first : (low : ℕ) → Tabled (first_cursor low)
tabled_first low = record { slots = refl; packed = record { packed = λ n s e. absurd (empty 8 n s e) }; few = omega arith }
  where
    empty : (k n : ℕ) (s : Slot) → slot_at (replicate k None) n ≡ Some s → ⊥
    empty zero n s e = none-some s e
    empty (suc k) zero s e = none-some s e
    empty (suc k) (suc n) s e = empty k n s e

-- after a block it holds with the slot that the block takes, if any
pub tabled_on : (c : Cursor) (found : Result Block Failure) (next len lent own : ℕ) → IfOk found (Fits len c lent own) → Tabled c
    → Tabled (advanced c found next)
tabled_on c (Ok (Plain address from size)) next len lent own f h = record { slots = h.slots; packed = h.packed; few = h.few }
tabled_on c (Ok (Relocatable reserves number offset from size)) next len lent own f h =
    let l = f.lies in
    record {
      slots = length-set c.table number _ ∙ h.slots;
      packed = packed_set c.table number _ (rw h.slots l.3) l.2 h.packed;
      few = omega (arith, l.4);
    }
tabled_on c (Ok (Update source from)) next len lent own f h = record { slots = h.slots; packed = h.packed; few = h.few }
tabled_on c (Ok (NewName from address)) next len lent own f h = record { slots = h.slots; packed = h.packed; few = h.few }
tabled_on c (Err e) next len lent own f h = h
