-- An entry of an index, read with no base in mind: document 02, wish 5, "per entry 5 if cut, 9 if empty, 6, 9 where its length is wrong or its code
-- passes 253". A fault has no offset here: "refusal offsets are those of its entries".
-- Assumes nothing.
use Rattle.std.specs.Prelude.{Bool, ◌&&◌, List, [], ◌∷◌, ℕ, ◌+◌, ◌-◌, ◌*◌, ◌%◌, ◌<◌, leb, eqb, length, get_or, Option, Some, None, Result, Ok, Err}
use Rattle.answer.specs.Checks.{need, pick}
use Rattle.answer.specs.declared.Fault.{Fault}
use Rattle.answer.specs.declared.Fault.TheVariants.{CutShort, NotKnown, LengthNotAllowed}
use Rattle.fields.specs.declared.Field.{Field}
use Rattle.fields.specs.declared.Fixup.{Fixup}
use Rattle.fields.specs.declared.Fixup.TheVariants.{LowByte, ZeroPageByte, Word, HighByte}
use Rattle.records.specs.Records.{type_of, suits, entry_of}
use Rattle.records.specs.declared.Kind.{Kind}
use Rattle.records.specs.declared.RecordType.{RecordType}
use Rattle.records.specs.declared.RecordType.TheVariants.{Code as code, Fixups as fixups, End as end}
use Rattle.words.specs.Numbers.{big_value}
use Rattle.entries.specs.declared.IndexEntry.{IndexEntry}
use Rattle.entries.specs.declared.IndexEntry.TheVariants.{Code, End}

-- what reading an entry comes to: the entry, or its fault
abbrev pub Read : Type 0
Read = Result IndexEntry Fault

-- a fault of an entry
abbrev pub faulty : Fault → ℕ → Read
faulty fault offset = Err fault

-- a code record whose entry has n bytes after its length: "9 where its length is wrong or its code passes 253". The type, the address and the code length
-- are four bytes, each fixup three.
unfoldable pub read_code : List ℕ → ℕ → ℕ → Kind → Read
read_code index at n kind =
    let size = get_or index (at + 5) 0 in
    need faulty (leb 4 n && eqb (n % 3) 1) LengthNotAllowed at
    (need faulty (leb size 253) LengthNotAllowed at
    (Ok (Code kind (big_value 2 index (at + 3)) size (at + 6) (n - 4))))

-- the end record, "type, flag, big-endian address": a wrong length (9), then as for records "flag .. (6)"
unfoldable pub read_end : List ℕ → ℕ → ℕ → Read
read_end index at n =
    let flag = get_or index (at + 3) 0 in
    need faulty (eqb n 4) LengthNotAllowed at
    (need faulty (leb flag 2) NotKnown at
    (Ok (End (entry_of flag (big_value 2 index (at + 4))) (at + 6))))

-- an entry as its type says: code records and the end record have entries, nothing else (6)
abbrev pub read_as : List ℕ → ℕ → ℕ → Option RecordType → Read
read_as index at n (Some (code kind)) = read_code index at n kind
read_as index at n (Some (fixups kind fixup)) = Err NotKnown
read_as index at n (Some end) = read_end index at n
read_as index at n None = Err NotKnown

-- the entry at an offset: "5 if cut, 9 if empty, 6, .."
unfoldable pub read : List ℕ → ℕ → Read
read index at =
    let n = big_value 2 index at in
    need faulty (leb (at + 2) (length index)) CutShort at
    (need faulty (leb (at + 2 + n) (length index)) CutShort at
    (need faulty (leb 1 n) LengthNotAllowed at
    (read_as index at n (type_of (get_or index (at + 2) 0)))))

-- ---- its fixups

-- "unused LSBs ignored"
abbrev pub lsb_for : Fixup → ℕ → ℕ
lsb_for LowByte lsb = 0
lsb_for ZeroPageByte lsb = 0
lsb_for Word lsb = 0
lsb_for HighByte lsb = lsb

-- what a fixup of the kind t lists after code of a kind: a field, or none for "any bad kind", by the rule for records
abbrev pub listed : Kind → Option RecordType → ℕ → ℕ → Option Field
listed before (Some (code kind)) index lsb = None
listed before (Some (fixups kind fixup)) index lsb =
    pick (suits kind (Some before)) (Some (record { fixup = fixup; index = index; lsb = lsb_for fixup lsb })) None
listed before (Some end) index lsb = None
listed before None index lsb = None

-- a field before others; a bad kind ends the list
abbrev pub joined : Option Field → List Field → List Field
joined (Some f) fs = f ∷ fs
joined None fs = []

-- the fields that the fixups after code of a kind list, three bytes each, up to the first bad kind
unfoldable pub fields_to : Kind → List ℕ → List Field
fields_to kind (t ∷ index ∷ lsb ∷ items) = joined (listed kind (type_of t) index lsb) (fields_to kind items)
fields_to kind [] = []
fields_to kind (t ∷ []) = []
fields_to kind (t ∷ index ∷ []) = []

-- whether no kind is bad: each fixup lists its field
unfoldable pub all_suit : Kind → List ℕ → Bool
all_suit kind items = eqb (3 * length (fields_to kind items)) (length items)

-- for the contract of `listed_at` alone: the index and the LSB of what is listed are bytes
abbrev pub InBytes : Option Field → Type 0
InBytes (Some f) = (f.index < 256) × (f.lsb < 256)
InBytes None = Unit {0}
