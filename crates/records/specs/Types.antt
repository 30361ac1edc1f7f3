-- The type byte of a record, and the flag and the address of an end record, for whoever writes one: what `type_of` and `entry_of` read back (`code_type_back`,
-- `fixup_type_back`, `entry_back` in proofs/Types.antt).
-- Assumes nothing.
use Rattle.std.specs.Prelude.{ℕ, ◌+◌}
use Rattle.fields.specs.declared.Fixup.{Fixup}
use Rattle.fields.specs.declared.Fixup.TheVariants.{LowByte, ZeroPageByte, Word, HighByte}
use Rattle.records.specs.declared.Entry.{Entry}
use Rattle.records.specs.declared.Entry.TheVariants.{Nowhere, Fixed, Relative}
use Rattle.records.specs.declared.Kind.{Kind}
use Rattle.records.specs.declared.Kind.TheVariants.{Main, ZeroPage, Absolute}

-- "Code 00, 0A, 01"
abbrev pub code_type : Kind → ℕ
code_type Main = 0x00
code_type ZeroPage = 0x0A
code_type Absolute = 0x01

-- "02, 04, 06, 08 after 00"
abbrev pub main_fixup_type : Fixup → ℕ
main_fixup_type LowByte = 0x02
main_fixup_type ZeroPageByte = 0x04
main_fixup_type Word = 0x06
main_fixup_type HighByte = 0x08

-- a fixup after code of a kind: "03, 05, 07, 09 after 0A"; document 02, wish 2, "Kinds 02, 04, 06 and 08 .. after type 01"
abbrev pub fixup_type : Kind → Fixup → ℕ
fixup_type Main fixup = main_fixup_type fixup
fixup_type ZeroPage fixup = main_fixup_type fixup + 1
fixup_type Absolute fixup = main_fixup_type fixup

-- "0B: flag and address"
abbrev pub end_type : ℕ
end_type = 0x0B

-- "flag 0 none, 1 absolute, 2 plus main base"
abbrev pub flag_of : Entry → ℕ
flag_of Nowhere = 0
flag_of (Fixed address) = 1
flag_of (Relative address) = 2

-- its address: "an absent number is zero wherever it is reported or written"
abbrev pub address_in : Entry → ℕ
address_in Nowhere = 0
address_in (Fixed address) = address
address_in (Relative address) = address
