-- The bytes of a fixup index: document 02, wish 5, "one version byte, 1, then entries, each with its length first". Written by the builder; what is
-- read back from them stands in Entries.antt.
-- Assumes nothing.
use Rattle.std.specs.Prelude.{List, [], ◌∷◌, ◌++◌, ℕ, length}
use Rattle.fields.specs.declared.Field.{Field}
use Rattle.pieces.specs.Pieces.{Outline}
use Rattle.records.specs.Types.{code_type, fixup_type, end_type, flag_of, address_in}
use Rattle.records.specs.declared.Entry.{Entry}
use Rattle.records.specs.declared.Kind.{Kind}
use Rattle.words.specs.Numbers.{big_digits}

-- "one version byte, 1"
abbrev pub version : ℕ
version = 1

-- "the bench lends 65,536 bytes"
abbrev pub room_size : ℕ
room_size = 65536

-- "kind, index and LSB (a byte each, zero where unused) per fixup" (the fields of a file have LSB 0 where it is unused: `fields_of`)
unfoldable pub fixup_bytes : Kind → List Field → List ℕ
fixup_bytes kind [] = []
fixup_bytes kind (f ∷ fs) = fixup_type kind f.fixup ∷ f.index ∷ f.lsb ∷ fixup_bytes kind fs

-- what an entry of a code record holds: "type, relative or absolute address (two bytes, big-endian), code length (a byte), then .."
unfoldable pub code_bytes : Outline → List ℕ
code_bytes o = code_type o.kind ∷ big_digits 2 o.address ++ (o.size ∷ fixup_bytes o.kind o.fields)

-- what the end entry holds: "type, flag, big-endian address"
unfoldable pub end_bytes : Entry → List ℕ
end_bytes entry = end_type ∷ flag_of entry ∷ big_digits 2 (address_in entry)

-- an entry: "its length first (two bytes, big-endian, counting what follows)"
unfoldable pub with_length : List ℕ → List ℕ
with_length bytes = big_digits 2 (length bytes) ++ bytes

-- the entries of outlines, which stand latest first, "in file order"
unfoldable pub code_entries : List Outline → List ℕ
code_entries [] = []
code_entries (o ∷ os) = code_entries os ++ with_length (code_bytes o)

-- the index: "The last entry is the end record"
unfoldable pub index_bytes : List Outline → Entry → List ℕ
index_bytes os entry = version ∷ code_entries os ++ with_length (end_bytes entry)
