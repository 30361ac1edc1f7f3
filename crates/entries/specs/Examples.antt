-- Indexes as they are written, and entries and fixups by hand as they are read. The theorems speak of what was written; how anything else is read stands in
-- the definition alone, so here it is held to the words of document 02, wish 5. `ExamplesHold` is the statement, proved in proofs/Examples.antt.
-- (Whole indexes by hand: crates/index, specs/Examples.antt.)
-- Assumes nothing.
use Rattle.std.specs.Prelude.{Bool, true, false, List, [], ◌∷◌, map, ◌≡◌, ℕ, Ok, Err}
use Rattle.answer.specs.declared.Fault.TheVariants.{CutShort, NotKnown, LengthNotAllowed}
use Rattle.fields.specs.declared.Field.{Field}
use Rattle.fields.specs.declared.Fixup.{Fixup}
use Rattle.fields.specs.declared.Fixup.TheVariants.{LowByte, ZeroPageByte, Word, HighByte}
use Rattle.pieces.specs.Pieces.{Outline}
use Rattle.records.specs.declared.Entry.{Entry}
use Rattle.records.specs.declared.Entry.TheVariants.{Nowhere, Fixed, Relative}
use Rattle.records.specs.declared.Kind.{Kind}
use Rattle.records.specs.declared.Kind.TheVariants.{Main, ZeroPage, Absolute}
use Rattle.entries.specs.Bytes.{index_bytes}
use Rattle.entries.specs.Entries.{Read, read, fields_to, all_suit}
use Rattle.entries.specs.declared.IndexEntry.TheVariants.{Code, End}

abbrev pub piece : Kind → ℕ → ℕ → List Field → Outline
piece kind address size fields = record { kind = kind; address = address; size = size; fields = fields }

abbrev pub field : Fixup → ℕ → ℕ → Field
field fixup index lsb = record { fixup = fixup; index = index; lsb = lsb }

-- ---- P1

-- the outline of P1's file: `00 05 00 00 4C 03 00` is three bytes of main code at 0, `06 01 01` a word in it at 1
abbrev pub P1Outlines : List Outline
P1Outlines = piece Main 0 3 (field Word 1 0 ∷ []) ∷ []

-- its entry: `0B 02 00 00`
abbrev pub P1Entry : Entry
P1Entry = Relative 0

-- its index
abbrev pub P1Index : List ℕ
P1Index =
    0x01
    ∷ 0x00 ∷ 0x07 ∷ 0x00 ∷ 0x00 ∷ 0x00 ∷ 0x03 ∷ 0x06 ∷ 0x01 ∷ 0x00
    ∷ 0x00 ∷ 0x04 ∷ 0x0B ∷ 0x02 ∷ 0x00 ∷ 0x00
    ∷ []

-- ---- another handler: every kind of code and every fixup

-- outlines stand latest first, entries "in file order"
abbrev pub many_outlines : List Outline
many_outlines =
    piece Absolute 0x0403 2 (field LowByte 0 0 ∷ field ZeroPageByte 1 0 ∷ [])
    ∷ piece ZeroPage 0x0002 5 (field LowByte 0 0 ∷ field ZeroPageByte 1 0 ∷ field Word 2 0 ∷ field HighByte 4 0x77 ∷ [])
    ∷ piece Main 0x0102 253 (field HighByte 252 0x99 ∷ field Word 250 0 ∷ [])
    ∷ []

abbrev pub many_entry : Entry
many_entry = Fixed 0x0506

abbrev pub many_index : List ℕ
many_index =
    0x01
    ∷ 0x00 ∷ 0x0A ∷ 0x00 ∷ 0x01 ∷ 0x02 ∷ 0xFD ∷ 0x08 ∷ 0xFC ∷ 0x99 ∷ 0x06 ∷ 0xFA ∷ 0x00
    ∷ 0x00 ∷ 0x10 ∷ 0x0A ∷ 0x00 ∷ 0x02 ∷ 0x05 ∷ 0x03 ∷ 0x00 ∷ 0x00 ∷ 0x05 ∷ 0x01 ∷ 0x00 ∷ 0x07 ∷ 0x02 ∷ 0x00 ∷ 0x09 ∷ 0x04 ∷ 0x77
    ∷ 0x00 ∷ 0x0A ∷ 0x01 ∷ 0x04 ∷ 0x03 ∷ 0x02 ∷ 0x02 ∷ 0x00 ∷ 0x00 ∷ 0x04 ∷ 0x01 ∷ 0x00
    ∷ 0x00 ∷ 0x04 ∷ 0x0B ∷ 0x01 ∷ 0x05 ∷ 0x06
    ∷ []

-- ---- entries by hand

-- the bytes of an index from an entry on, and what is read there
pub record EntryExample : Type 0 where
  pub bytes : List ℕ
  pub entry : Read

abbrev pub reads : List ℕ → Read → EntryExample
reads bytes entry = record { bytes = bytes; entry = entry }

abbrev pub entry_examples : List EntryExample
entry_examples =
    -- code of 253 bytes is the longest: "9 where .. its code passes 253"
    reads (0x00 ∷ 0x04 ∷ 0x00 ∷ 0x01 ∷ 0x02 ∷ 0xFD ∷ []) (Ok (Code Main 0x0102 253 6 0))
    ∷ reads (0x00 ∷ 0x04 ∷ 0x00 ∷ 0x01 ∷ 0x02 ∷ 0xFE ∷ []) (Err LengthNotAllowed)
    -- with a fixup, which is not looked at yet
    ∷ reads (0x00 ∷ 0x07 ∷ 0x0A ∷ 0x00 ∷ 0x00 ∷ 0x01 ∷ 0x0C ∷ 0xFF ∷ 0xFF ∷ []) (Ok (Code ZeroPage 0 1 6 3))
    -- less than a fixup more: "9 where its length is wrong"
    ∷ reads (0x00 ∷ 0x06 ∷ 0x01 ∷ 0x00 ∷ 0x00 ∷ 0x01 ∷ 0x02 ∷ 0x00 ∷ []) (Err LengthNotAllowed)
    -- the end entry by its flag: "flag 0 none, 1 absolute, 2 plus main base (6)"
    ∷ reads (0x00 ∷ 0x04 ∷ 0x0B ∷ 0x00 ∷ 0x12 ∷ 0x34 ∷ []) (Ok (End Nowhere 6))
    ∷ reads (0x00 ∷ 0x04 ∷ 0x0B ∷ 0x01 ∷ 0x12 ∷ 0x34 ∷ []) (Ok (End (Fixed 0x1234) 6))
    ∷ reads (0x00 ∷ 0x04 ∷ 0x0B ∷ 0x02 ∷ 0x12 ∷ 0x34 ∷ []) (Ok (End (Relative 0x1234) 6))
    ∷ reads (0x00 ∷ 0x04 ∷ 0x0B ∷ 0x03 ∷ 0x12 ∷ 0x34 ∷ []) (Err NotKnown)
    -- no other type has an entry (6): a fixup's, an unknown one
    ∷ reads (0x00 ∷ 0x01 ∷ 0x06 ∷ []) (Err NotKnown)
    ∷ reads (0x00 ∷ 0x01 ∷ 0x0C ∷ []) (Err NotKnown)
    -- "5 if cut, 9 if empty": the length word, its bytes, and no byte
    ∷ reads (0x00 ∷ []) (Err CutShort)
    ∷ reads (0x00 ∷ 0x04 ∷ 0x0C ∷ 0x00 ∷ 0x00 ∷ []) (Err CutShort)
    ∷ reads (0x00 ∷ 0x00 ∷ []) (Err LengthNotAllowed)
    ∷ []

-- ---- fixups by hand

-- the types 00 to 0B, and 0C, which is none
abbrev pub type_bytes : List ℕ
type_bytes =
    0x00 ∷ 0x01 ∷ 0x02 ∷ 0x03 ∷ 0x04 ∷ 0x05 ∷ 0x06 ∷ 0x07 ∷ 0x08 ∷ 0x09 ∷ 0x0A ∷ 0x0B ∷ 0x0C ∷ []

-- whether a fixup of each of them suits code of a kind
abbrev pub suited_after : Kind → List Bool
suited_after kind = map (λ (t : ℕ). all_suit kind (t ∷ 0 ∷ 0 ∷ [])) type_bytes

-- ---- the statement

pub record ExamplesHold : Type 0 where
  -- what is written
  pub P1 : index_bytes P1Outlines P1Entry ≡ P1Index
  pub many : index_bytes many_outlines many_entry ≡ many_index
  -- what is read
  pub entries : map (λ (e : EntryExample). read e.bytes 0) entry_examples ≡ map (λ (e : EntryExample). e.entry) entry_examples
  -- "02, 04, 06, 08 after 00; 03, 05, 07, 09 after 0A", and the first four after 01
  pub after_00 :
      suited_after Main
      ≡ false ∷ false ∷ true ∷ false ∷ true ∷ false ∷ true ∷ false ∷ true ∷ false ∷ false ∷ false ∷ false ∷ []
  pub after_0_a :
      suited_after ZeroPage
      ≡ false ∷ false ∷ false ∷ true ∷ false ∷ true ∷ false ∷ true ∷ false ∷ true ∷ false ∷ false ∷ false ∷ []
  pub after_01 :
      suited_after Absolute
      ≡ false ∷ false ∷ true ∷ false ∷ true ∷ false ∷ true ∷ false ∷ true ∷ false ∷ false ∷ false ∷ false ∷ []
  -- "unused LSBs ignored"; the fields end before a bad kind
  pub unused_lsb :
      fields_to Main (0x06 ∷ 0x01 ∷ 0x63 ∷ 0x08 ∷ 0x00 ∷ 0x63 ∷ 0x03 ∷ 0x00 ∷ 0x00 ∷ 0x02 ∷ 0x00 ∷ 0x00 ∷ [])
      ≡ field Word 1 0 ∷ field HighByte 0 0x63 ∷ []
