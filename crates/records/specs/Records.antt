-- ACX records as document 01 reads them, "ACX records, checks in order": what stands at an offset of a file, with no base in mind.
-- Each check names its offset by document 02, wish 6: "for 5 the file's length, for 9 the .. length, .. for 18 the type"; a type or a flag that is not
-- known (6) is itself "the field .. at fault".
-- Cited by `records::read`; what is left to check, at the bases and against the map, stands in `pieces`.
-- Assumes nothing.
use Rattle.std.specs.Prelude.{Bool, true, false, ◌&&◌, List, [], ◌∷◌, ℕ, ◌+◌, ◌-◌, ◌%◌, ltb, leb, eqb, length, get_or, slice_get, Option, Some, None, Result, Ok}
use Rattle.answer.specs.Checks.{need, failure}
use Rattle.answer.specs.declared.Failure.{Failure}
use Rattle.answer.specs.declared.Fault.TheVariants.{CutShort, NotKnown, LengthNotAllowed, FixupUnsuited}
use Rattle.words.specs.Numbers.{value}
use Rattle.records.specs.declared.Entry.{Entry}
use Rattle.records.specs.declared.Entry.TheVariants.{Nowhere, Fixed, Relative}
use Rattle.fields.specs.declared.Fixup.{Fixup}
use Rattle.fields.specs.declared.Fixup.TheVariants.{LowByte, ZeroPageByte, Word, HighByte}
use Rattle.records.specs.declared.Kind.{Kind}
use Rattle.records.specs.declared.Kind.TheVariants.{Main, ZeroPage, Absolute}
use Rattle.records.specs.declared.Record.{Record}
use Rattle.records.specs.declared.Record.TheVariants.{Code, Fixups, End}
use Rattle.records.specs.declared.RecordType.{RecordType}
use Rattle.records.specs.declared.RecordType.TheVariants.{Code as code, Fixups as fixups, End as end}

-- the types 00 to 0B. A fixup type has the relocatable code that it is for, "02, 04, 06, 08 after 00; 03, 05, 07, 09 after 0A"; `suits` says what it
-- may follow.
abbrev pub types : List RecordType
types =
    code Main
    ∷ code Absolute
    ∷ fixups Main LowByte
    ∷ fixups ZeroPage LowByte
    ∷ fixups Main ZeroPageByte
    ∷ fixups ZeroPage ZeroPageByte
    ∷ fixups Main Word
    ∷ fixups ZeroPage Word
    ∷ fixups Main HighByte
    ∷ fixups ZeroPage HighByte
    ∷ code ZeroPage
    ∷ end
    ∷ []

-- what a type byte says
abbrev pub type_of : ℕ → Option RecordType
type_of byte = slice_get types byte

-- what reading comes to: a record, or the first fault with its offset
abbrev pub Read : Type 0
Read = Result Record Failure

-- "Code 00, 0A, 01: length byte present (5); 2 to 255 (9); that many bytes present (5), the first two the address, the rest n code bytes"
unfoldable pub read_code : List ℕ → ℕ → Kind → Read
read_code file at kind =
    let n = get_or file (at + 1) 0 in
    need failure (leb (at + 2) (length file)) CutShort (length file)
    (need failure (leb 2 n) LengthNotAllowed (at + 1)
    (need failure (leb (at + 2 + n) (length file)) CutShort (length file)
    (Ok (Code kind (value 2 file (at + 2)) (at + 4) (n - 2)))))

-- "the last code record before it of the right kind (18) ..; none .. before any code record". Where document 01 has none after 01 either, document 02,
-- wish 2: "Kinds 02, 04, 06 and 08 are to be accepted after type 01. .. Refusal 18 stays for the other kinds."
abbrev pub suits : Kind → Option Kind → Bool
suits Main None = false
suits Main (Some Main) = true
suits Main (Some ZeroPage) = false
suits Main (Some Absolute) = true
suits ZeroPage None = false
suits ZeroPage (Some Main) = false
suits ZeroPage (Some ZeroPage) = true
suits ZeroPage (Some Absolute) = false
suits Absolute last = false

-- "Length 1 to 253; for 08 and 09 even, 0 to 254 (9)"
abbrev pub length_allowed : Fixup → ℕ → Bool
length_allowed LowByte n = leb 1 n && leb n 253
length_allowed ZeroPageByte n = leb 1 n && leb n 253
length_allowed Word n = leb 1 n && leb n 253
length_allowed HighByte n = eqb (n % 2) 0 && leb n 254

-- "Length .. (9). Bytes present (5)."
unfoldable pub read_items : List ℕ → ℕ → Fixup → Read
read_items file at fixup =
    let n = get_or file (at + 1) 0 in
    need failure (length_allowed fixup n) LengthNotAllowed (at + 1)
    (need failure (leb (at + 2 + n) (length file)) CutShort (length file)
    (Ok (Fixups fixup (at + 2) n)))

-- "Fixups: length byte present (5); the last code record before it of the right kind (18)", then the items
unfoldable pub read_fixups : List ℕ → ℕ → Option Kind → Kind → Fixup → Read
read_fixups file at last kind fixup =
    need failure (leb (at + 2) (length file)) CutShort (length file)
    (need failure (suits kind last) FixupUnsuited at
    (read_items file at fixup))

-- "flag 0 none, 1 absolute, 2 plus main base (6)"
abbrev pub entries : ℕ → List Entry
entries address = Nowhere ∷ Fixed address ∷ Relative address ∷ []

abbrev pub entry_of : ℕ → ℕ → Entry
entry_of flag address = get_or (entries address) flag Nowhere

-- "0B: flag and address present (5); flag .. (6)"
unfoldable pub read_end : List ℕ → ℕ → Read
read_end file at =
    let flag = get_or file (at + 1) 0 in
    need failure (leb (at + 4) (length file)) CutShort (length file)
    (need failure (leb flag 2) NotKnown (at + 1)
    (Ok (End (entry_of flag (value 2 file (at + 2))) (at + 4))))

-- a record as its type says
abbrev pub read_as : List ℕ → ℕ → Option Kind → Option RecordType → Read
read_as file at last (Some (code kind)) = read_code file at kind
read_as file at last (Some (fixups kind fixup)) = read_fixups file at last kind fixup
read_as file at last (Some end) = read_end file at
read_as file at last None = failure NotKnown at

-- the record at an offset: "Type known (5, 6)", and then as the type says
unfoldable pub read : List ℕ → ℕ → Option Kind → Read
read file at last = need failure (ltb at (length file)) CutShort (length file) (read_as file at last (type_of (get_or file at 0)))
