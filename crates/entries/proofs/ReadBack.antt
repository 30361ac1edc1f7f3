-- An entry that was written is read back: which outlines an entry can hold, how long it is, and what is read where it stands.
-- Assumes nothing.
use mathlib.Core.Bool.{true}
use mathlib.Core.List.{List, [], ◌∷◌, ◌++◌, append_assoc}
use mathlib.Core.Path.{◌≡◌, refl, sym, ap, ◌∙◌}
use Prim.Native.Nat.{ℕ, ◌+◌, ◌-◌, ◌*◌, ◌%◌, ◌≤◌, ◌<◌}
use native.Mathlib.Nat.{div-add-mod, mod-lt}
use native.Mathlib.Omega.{arith}
use borrow.Author.Tests.{le-leb, eq-eqb}
use lib.ListN.{length, get_or, take, drop, length-append, length-drop}
use lib.Seq.{take_at, drop-drop, drop-append_seam, get_or-drop}
use Rattle.std.proofs.Common.{Option, Some, Ok}
use Rattle.answer.specs.Checks.{need, pick}
use Rattle.events.specs.Lists.{Each}
use Rattle.fields.specs.declared.Field.{Field}
use Rattle.pieces.specs.Pieces.{Outline}
use Rattle.records.proofs.Types.{code_type_back, fixups_suit, fixup_type_back}
use Rattle.records.specs.Records.{type_of}
use Rattle.records.specs.declared.Entry.{Entry}
use Rattle.records.specs.declared.Entry.TheVariants.{Nowhere, Fixed, Relative}
use Rattle.records.specs.declared.Kind.{Kind}
use Rattle.words.proofs.Big.{length_big_digits, big_value_there}
use Rattle.words.specs.Numbers.{digits, big_digits, big_value}
use Rattle.words.specs.Runs.{part}
use Rattle.entries.proofs.Reading.{FieldBytes}
use Rattle.entries.specs.Bytes.{fixup_bytes, code_bytes, end_bytes, with_length}
use Rattle.records.specs.Types.{code_type, fixup_type, flag_of, address_in}
use Rattle.entries.specs.Entries.{read_code, read_end, read_as, read, lsb_for, listed, joined, fields_to, all_suit}
use Rattle.entries.specs.declared.IndexEntry.TheVariants.{Code, End}

-- ---- what an entry can hold

-- a field: its index and its LSB are bytes, and the LSB is 0 where it is not used
pub record Listable (f : Field) : Type 0 where
  pub bytes : FieldBytes f
  pub unused : lsb_for f.fixup f.lsb ≡ f.lsb

-- an outline: its address has two bytes, and its code is not too long
pub record Encodable (o : Outline) : Type 0 where
  pub address : o.address < 65536
  pub size : o.size ≤ 253
  pub fields : Each Listable o.fields

-- ---- its fixups

-- a fixup has three bytes
pub length_fixup_bytes : (kind : Kind) (fs : List Field) → length (fixup_bytes kind fs) ≡ 3 * length fs
unfolding fixup_bytes
length_fixup_bytes kind [] = refl
length_fixup_bytes kind (f ∷ fs) = omega (arith, length_fixup_bytes kind fs)

-- a fixup lists the field that it was written for
listed_back : (kind : Kind) (f : Field) → Listable f → listed kind (type_of (fixup_type kind f.fixup)) f.index f.lsb ≡ Some f
unfolding pick
listed_back kind f y = rw (fixup_type_back kind f.fixup, fixups_suit kind, y.unused) refl

-- so do all of them
pub fields_back : (kind : Kind) (fs : List Field) → Each Listable fs → fields_to kind (fixup_bytes kind fs) ≡ fs
unfolding fields_to fixup_bytes
fields_back kind [] y = refl
fields_back kind (f ∷ fs) y =
    ap (λ (l : Option Field). joined l (fields_to kind (fixup_bytes kind fs))) (listed_back kind f y.0)
    ∙ ap (λ (gs : List Field). f ∷ gs) (fields_back kind fs y.1)

-- and none has a bad kind
pub all_suit_lem : (kind : Kind) (fs : List Field) → Each Listable fs → all_suit kind (fixup_bytes kind fs) ≡ true
unfolding all_suit
all_suit_lem kind fs y = eq-eqb _ _ (ap (λ (gs : List Field). 3 * length gs) (fields_back kind fs y) ∙ sym (length_fixup_bytes kind fs))

-- ---- how long it is

-- what a code record's entry holds: the type, the address and the code length, then its fixups
pub length_code_bytes : (o : Outline) → length (code_bytes o) ≡ 4 + 3 * length o.fields
unfolding code_bytes big_digits digits
length_code_bytes o = omega (arith, length_fixup_bytes o.kind o.fields)

-- what the end entry holds
pub length_end_bytes : (entry : Entry) → length (end_bytes entry) ≡ 4
unfolding end_bytes big_digits digits
length_end_bytes entry = refl

-- with its length word
pub length_entry : (bytes : List ℕ) → length (with_length bytes) ≡ 2 + length bytes
unfolding with_length big_digits digits
length_entry bytes = omega arith

-- ---- an entry where it stands

module _ (index : List ℕ) (at : ℕ) (bytes rest : List ℕ) (is : drop at index ≡ with_length bytes ++ rest) where
  -- it ends in the index
  pub entry_ends : length index ≡ at + 2 + length bytes + length rest
  entry_ends =
      let e : length index - at ≡ length (with_length bytes) + length rest = sym (length-drop at index) ∙ ap length is ∙ length-append (with_length bytes) rest in
      omega (arith, e, length_entry bytes)

  -- its length word and its bytes
  entry_word : drop at index ≡ big_digits 2 (length bytes) ++ (bytes ++ rest)
  unfolding with_length
  entry_word = is ∙ append_assoc (big_digits 2 (length bytes)) bytes rest

  -- the bytes from some byte of it on
  entry_from : (j i : ℕ) → j ≡ at + 2 + i → drop j index ≡ drop i (bytes ++ rest)
  entry_from j i e =
      let two = length_big_digits 2 (length bytes) in
      ap (λ (k : ℕ). drop k index) e
      ∙ sym (drop-drop i (at + 2) index)
      ∙ ap (drop i)
      (sym (drop-drop 2 at index)
      ∙ ap (drop 2) entry_word
      ∙ ap (λ (k : ℕ). drop k (big_digits 2 (length bytes) ++ (bytes ++ rest))) (sym two)
      ∙ drop-append_seam (big_digits 2 (length bytes)) (bytes ++ rest))

  -- a byte of it
  entry_byte : (j i : ℕ) → j ≡ at + 2 + i → get_or index j 0 ≡ get_or (drop i (bytes ++ rest)) 0 0
  entry_byte j i e =
      let z : j ≡ j + 0 = omega arith in
      ap (λ (k : ℕ). get_or index k 0) z ∙ sym (get_or-drop j index 0 0) ∙ ap (λ (l : List ℕ). get_or l 0 0) (entry_from j i e)

  -- it is read as its type says, where its length word can hold its length
  entry_read : 1 ≤ length bytes → length bytes < 65536 → read index at ≡ read_as index at (length bytes) (type_of (get_or (bytes ++ rest) 0 0))
  unfolding read need
  entry_read some short =
      let number : big_value 2 index at ≡ length bytes = big_value_there 2 index at (length bytes) (bytes ++ rest) entry_word short in
      let type : get_or index (at + 2) 0 ≡ get_or (bytes ++ rest) 0 0 = entry_byte (at + 2) 0 (omega arith) in
      rw (
        number,
        le-leb (at + 2) (length index) (omega (arith, entry_ends)),
        le-leb (at + 2 + length bytes) (length index) (omega (arith, entry_ends)),
        le-leb 1 (length bytes) some,
        type,
      ) refl

-- ---- a code record's

module _ (index : List ℕ) (at : ℕ) (o : Outline) (rest : List ℕ) (is : drop at index ≡ with_length (code_bytes o) ++ rest) where
  -- where it ends
  pub code_ends : length index ≡ at + 6 + 3 * length o.fields + length rest
  code_ends = omega (arith, entry_ends index at (code_bytes o) rest is, length_code_bytes o)

  -- its fixups
  pub fixups_there : part index (at + 6) (3 * length o.fields) ≡ fixup_bytes o.kind o.fields
  unfolding part code_bytes big_digits digits
  fixups_there =
      ap (take (3 * length o.fields)) (entry_from index at (code_bytes o) rest is (at + 6) 4 (omega arith))
      ∙ take_at (fixup_bytes o.kind o.fields) rest (3 * length o.fields) (length_fixup_bytes o.kind o.fields)

  -- its address and its code length
  its_address : o.address < 65536 → big_value 2 index (at + 3) ≡ o.address
  unfolding code_bytes
  its_address h =
      big_value_there 2 index (at + 3) o.address ((o.size ∷ fixup_bytes o.kind o.fields) ++ rest)
      (entry_from index at (code_bytes o) rest is (at + 3) 1 (omega arith)
      ∙ append_assoc (big_digits 2 o.address) (o.size ∷ fixup_bytes o.kind o.fields) rest) h

  its_size : get_or index (at + 5) 0 ≡ o.size
  unfolding code_bytes big_digits digits
  its_size = entry_byte index at (code_bytes o) rest is (at + 5) 3 (omega arith)

  its_type : type_of (get_or (code_bytes o ++ rest) 0 0) ≡ type_of (code_type o.kind)
  unfolding code_bytes
  its_type = refl

  -- read as code
  read_code_lem : (n : ℕ) → n ≡ 4 + 3 * length o.fields → Encodable o
      → read_code index at n o.kind ≡ Ok (Code o.kind o.address o.size (at + 6) (3 * length o.fields))
  unfolding read_code need
  read_code_lem n e y =
      let k : ℕ = 3 * length o.fields in
      let pos : 0 < 3 = omega arith in
      let third : n % 3 ≡ 1 = omega (arith, div-add-mod n 3, mod-lt n pos) in
      let left : n - 4 ≡ k = omega arith in
      rw (le-leb 4 n (omega arith), eq-eqb (n % 3) 1 third, its_size, le-leb o.size 253 y.size, its_address y.address, left) refl

  -- it is read back
  pub code_back : Encodable o → length (code_bytes o) < 65536 → read index at ≡ Ok (Code o.kind o.address o.size (at + 6) (3 * length o.fields))
  code_back y short =
      entry_read index at (code_bytes o) rest is (omega (arith, length_code_bytes o)) short
      ∙ ap (read_as index at (length (code_bytes o))) (its_type ∙ code_type_back o.kind)
      ∙ read_code_lem (length (code_bytes o)) (length_code_bytes o) y

-- ---- the end entry

-- its flag and its address stand for the entry
read_end_lem : (index : List ℕ) (at : ℕ) (entry : Entry) → get_or index (at + 3) 0 ≡ flag_of entry → big_value 2 index (at + 4) ≡ address_in entry
    → read_end index at 4 ≡ Ok (End entry (at + 6))
unfolding read_end need
read_end_lem index at Nowhere f a = rw f refl
read_end_lem index at (Fixed address) f a = rw (f, a) refl
read_end_lem index at (Relative address) f a = rw (f, a) refl

module _ (index : List ℕ) (at : ℕ) (entry : Entry) (rest : List ℕ) (is : drop at index ≡ with_length (end_bytes entry) ++ rest) where
  -- where it ends
  pub end_ends : length index ≡ at + 6 + length rest
  end_ends = omega (arith, entry_ends index at (end_bytes entry) rest is, length_end_bytes entry)

  end_flag : get_or index (at + 3) 0 ≡ flag_of entry
  unfolding end_bytes
  end_flag = entry_byte index at (end_bytes entry) rest is (at + 3) 1 (omega arith)

  end_address : address_in entry < 65536 → big_value 2 index (at + 4) ≡ address_in entry
  unfolding end_bytes
  end_address h =
      big_value_there 2 index (at + 4) (address_in entry) rest (entry_from index at (end_bytes entry) rest is (at + 4) 2 (omega arith)) h

  -- it is read back
  pub end_back : address_in entry < 65536 → read index at ≡ Ok (End entry (at + 6))
  unfolding end_bytes big_digits digits
  end_back h = entry_read index at (end_bytes entry) rest is (omega arith) (omega arith) ∙ read_end_lem index at entry end_flag (end_address h)
