-- Where the entry that is read lies in its index, and what it is at fault with.
-- Assumes nothing.
use mathlib.Core.Bool.{true}
use mathlib.Core.List.{List, [], ◌∷◌}
use mathlib.Core.Path.{◌≡◌, refl}
use Prim.Native.Nat.{ℕ, zero, suc, ◌+◌, ◌-◌, ◌*◌, ◌%◌, ◌<◌, ◌≤◌}
use native.Mathlib.Omega.{arith}
use borrow.Author.Tests.{leb-true, eqb-true}
use lib.ListN.{length, get_or}
use Rattle.std.proofs.Common.{Option, Some, None, Ok, Err}
use Rattle.answer.proofs.Checks.{on_need, on_pick, and_true}
use Rattle.answer.specs.Report.{number_of}
use Rattle.answer.specs.declared.Fault.{Fault}
use Rattle.answer.specs.declared.Fault.TheVariants.{CutShort, NotKnown, LengthNotAllowed}
use Rattle.events.specs.Lists.{Each}
use Rattle.fields.specs.declared.Field.{Field}
use Rattle.fields.specs.declared.Fixup.{Fixup}
use Rattle.fields.specs.declared.Fixup.TheVariants.{LowByte, ZeroPageByte, Word, HighByte}
use Rattle.records.specs.Records.{type_of, entries}
use Rattle.records.specs.declared.Entry.TheVariants.{Nowhere}
use Rattle.records.specs.declared.Kind.{Kind}
use Rattle.records.specs.declared.RecordType.{RecordType}
use Rattle.records.specs.declared.RecordType.TheVariants.{Code as code, Fixups as fixups, End as end}
use Rattle.words.proofs.Big.{big_value_word}
use Rattle.words.specs.Numbers.{big_value}
use Rattle.words.specs.Runs.{Bytes}
use Rattle.records.specs.Types.{address_in}
use Rattle.entries.specs.Entries.{Read, faulty, read_code, read_end, read_as, read, lsb_for, listed, InBytes, joined, fields_to, all_suit}
use Rattle.entries.specs.declared.IndexEntry.TheVariants.{Code, End}

-- ---- where it lies

-- A fault of the entry at an offset, in an index of so many bytes.
pub record EntryFault (len at : ℕ) (fault : Fault) : Type 0 where
  -- 1 to 4 are left to lengths and settings, and 24 to the version
  pub late : 4 < number_of fault
  pub known : number_of fault < 24
  -- an entry that is not cut has its length word there
  pub there : 5 < number_of fault → at + 2 ≤ len

-- where an entry that begins at `at` has its bytes, in an index of `len` bytes
abbrev pub Where : ℕ → ℕ → Read → Type 0
Where len at (Ok (Code kind address size from count)) = (from ≡ at + 6) × (from + count ≤ len) × (size ≤ 253) × (count % 3 ≡ 0)
Where len at (Ok (End entry next)) = (next ≡ at + 6) × (next ≤ len)
Where len at (Err fault) = EntryFault len at fault

-- the same as a record, whose arguments antt finds by itself
pub record Lies (len at : ℕ) (e : Read) : Type 0 where
  pub lies : Where len at e

-- an entry that is cut
cut : {len at : ℕ} → Lies len at (Err CutShort)
cut = record { lies = record { late = omega arith; known = omega arith; there = λ l. absurd (omega arith) } }

-- one whose length is wrong, or its type or flag is not known
wrong : {len at : ℕ} → at + 2 ≤ len → Lies len at (Err LengthNotAllowed)
wrong h = record { lies = record { late = omega arith; known = omega arith; there = λ l. h } }

strange : {len at : ℕ} → at + 2 ≤ len → Lies len at (Err NotKnown)
strange h = record { lies = record { late = omega arith; known = omega arith; there = λ l. h } }

-- what is left of an entry's length is fixups
fixups_left : (n : ℕ) → 4 ≤ n → n % 3 ≡ 1 → (n - 4) % 3 ≡ 0
fixups_left n l e = omega arith

-- a code entry
code_lies : (index : List ℕ) (at n : ℕ) (kind : Kind) → at + 2 + n ≤ length index → Lies (length index) at (read_code index at n kind)
unfolding read_code
code_lies index at n kind l =
    let P = Lies (length index) at in
    let header : at + 2 ≤ length index = omega arith in
    on_need faulty P _ _ _ _ (wrong header)
    (λ h₁. on_need faulty P _ _ _ _ (wrong header)
    (λ h₂. let w = and_true _ _ h₁ in
    let four : 4 ≤ n = leb-true 4 n w.0 in
    record { lies = (refl, omega arith, leb-true _ _ h₂, fixups_left n four (eqb-true _ _ w.1)) }))

-- the end entry
end_lies : (index : List ℕ) (at n : ℕ) → at + 2 + n ≤ length index → Lies (length index) at (read_end index at n)
unfolding read_end
end_lies index at n l =
    let P = Lies (length index) at in
    let header : at + 2 ≤ length index = omega arith in
    on_need faulty P _ _ _ _ (wrong header)
    (λ h₁. on_need faulty P _ _ _ _ (strange header)
    (λ h₂. let four : n ≡ 4 = eqb-true _ _ h₁ in record { lies = (refl, omega arith) }))

-- the entry at an offset, whatever its type
pub read_lies : (index : List ℕ) (at : ℕ) → Lies (length index) at (read index at)
unfolding read
read_lies index at =
    let n = big_value 2 index at in
    let P = Lies (length index) at in
    on_need faulty P _ _ _ _ cut
    (λ h₁. let header : at + 2 ≤ length index = leb-true _ _ h₁ in
    on_need faulty P _ _ _ _ cut
    (λ h₂. on_need faulty P _ _ _ _ (wrong header)
    (λ h₃. typed header (leb-true _ _ h₂) (type_of (get_or index (at + 2) 0)))))
  where
    typed : at + 2 ≤ length index → at + 2 + big_value 2 index at ≤ length index → (t : Option RecordType)
        → Lies (length index) at (read_as index at (big_value 2 index at) t)
    typed h l (Some (code kind)) = code_lies index at _ kind l
    typed h l (Some (fixups kind fixup)) = strange h
    typed h l (Some end) = end_lies index at _ l
    typed h l None = strange h

-- the same of an entry known to be what is read
pub lies_as : (index : List ℕ) (at : ℕ) (e : Read) → read index at ≡ e → Where (length index) at e
lies_as index at e is =
    let h : Lies (length index) at e = rw (← is) (read_lies index at) in
    h.lies

-- what is not cut
abbrev pub Whole : Read → Type 0
Whole (Ok (Code kind address size from count)) = Unit {0}
Whole (Ok (End entry next)) = Unit {0}
Whole (Err fault) = 5 < number_of fault

-- has its length word in the index
pub word_there : (len at : ℕ) (e : Read) → Where len at e → Whole e → at + 2 ≤ len
word_there len at (Ok (Code kind address size from count)) w h = omega (arith, w.0, w.1)
word_there len at (Ok (End entry next)) w h = omega (arith, w.0, w.1)
word_there len at (Err fault) w h = w.there h

-- ---- its fixups

-- where no kind is bad, each has its field
pub fixups_all : (kind : Kind) (items : List ℕ) → all_suit kind items ≡ true → 3 * length (fields_to kind items) ≡ length items
unfolding all_suit
fixups_all kind items e = eqb-true _ _ e

-- ---- in an index of bytes

-- the addresses of an entry
abbrev pub Addressed : Read → Type 0
Addressed (Ok (Code kind address size from count)) = address < 65536
Addressed (Ok (End entry next)) = address_in entry < 65536
Addressed (Err fault) = Unit {0}

-- (the same as a record)
record Words (e : Read) : Type 0 where
  words : Addressed e

-- a fault has none
none : {fault : Fault} → Words (Err fault)
none = record { words = tt }

-- a word of bytes
word_below : (l : List ℕ) (i : ℕ) → Bytes l → i + 2 ≤ length l → big_value 2 l i < 65536
word_below l i b h = omega (arith, big_value_word l i h, b i, b (i + 1))

-- an entry by its flag
pub flag_below : (v flag : ℕ) → v < 65536 → address_in (get_or (entries v) flag Nowhere) < 65536
flag_below v zero h = omega arith
flag_below v (suc zero) h = h
flag_below v (suc (suc zero)) h = h
flag_below v (suc (suc (suc n))) h = omega arith

read_words : (index : List ℕ) (at : ℕ) → Bytes index → Words (read index at)
unfolding read read_code read_end
read_words index at b =
    on_need faulty Words _ _ _ _ none
    (λ h₁. on_need faulty Words _ _ _ _ none
    (λ h₂. on_need faulty Words _ _ _ _ none
    (λ h₃. typed (leb-true _ _ h₂) (type_of (get_or index (at + 2) 0)))))
  where
    typed : at + 2 + big_value 2 index at ≤ length index → (t : Option RecordType) → Words (read_as index at (big_value 2 index at) t)
    typed l (Some (code kind)) =
        on_need faulty Words _ _ _ _ none
        (λ h₁. let four = leb-true 4 (big_value 2 index at) (and_true _ _ h₁).0 in
        on_need faulty Words _ _ _ _ none (λ h₂. record { words = word_below index (at + 3) b (omega (arith, four, l)) }))
    typed l (Some (fixups kind fixup)) = none
    typed l (Some end) =
        on_need faulty Words _ _ _ _ none
        (λ h₁. let four = eqb-true (big_value 2 index at) 4 h₁ in
        on_need faulty Words _ _ _ _ none
        (λ h₂. record { words = flag_below _ (get_or index (at + 3) 0) (word_below index (at + 4) b (omega (arith, four, l))) }))
    typed l None = none

pub addressed_as : (index : List ℕ) (at : ℕ) (e : Read) → Bytes index → read index at ≡ e → Addressed e
addressed_as index at e b is =
    let h : Words e = rw (← is) (read_words index at b) in
    h.words

-- the index and the LSB of a field
abbrev pub FieldBytes : Field → Type 0
FieldBytes f = (f.index < 256) × (f.lsb < 256)

pub lsb_below : (fixup : Fixup) (lsb : ℕ) → lsb < 256 → lsb_for fixup lsb < 256
lsb_below LowByte lsb h = omega arith
lsb_below ZeroPageByte lsb h = omega arith
lsb_below Word lsb h = omega arith
lsb_below HighByte lsb h = omega arith

listed_bytes : (kind : Kind) (t : Option RecordType) (i lsb : ℕ) → i < 256 → lsb < 256 → InBytes (listed kind t i lsb)
listed_bytes kind (Some (code before)) i lsb h k = tt
listed_bytes kind (Some (fixups of fixup)) i lsb h k = on_pick InBytes _ _ _ (λ _. (h, lsb_below fixup lsb k)) (λ _. tt)
listed_bytes kind (Some end) i lsb h k = tt
listed_bytes kind None i lsb h k = tt

joined_bytes : (x : Option Field) (fs : List Field) → InBytes x → Each FieldBytes fs → Each FieldBytes (joined x fs)
joined_bytes (Some f) fs h k = (h, k)
joined_bytes None fs h k = tt

pub fields_bytes : (kind : Kind) (items : List ℕ) → Bytes items → Each FieldBytes (fields_to kind items)
unfolding fields_to
fields_bytes kind [] b = tt
fields_bytes kind (t ∷ []) b = tt
fields_bytes kind (t ∷ i ∷ []) b = tt
fields_bytes kind (t ∷ i ∷ lsb ∷ items) b =
    joined_bytes (listed kind (type_of t) i lsb) _ (listed_bytes kind (type_of t) i lsb (b 1) (b 2)) (fields_bytes kind items (λ x. b (suc (suc (suc x)))))
