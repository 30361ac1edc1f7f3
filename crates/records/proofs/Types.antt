-- A type byte that was written is read back as what it was written for, and so is an end record's flag with its address.
-- Assumes nothing.
use mathlib.Core.Bool.{true}
use mathlib.Core.Path.{◌≡◌, refl}
use Rattle.std.proofs.Common.{Some}
use Rattle.fields.specs.declared.Fixup.{Fixup}
use Rattle.fields.specs.declared.Fixup.TheVariants.{LowByte, ZeroPageByte, Word, HighByte}
use Rattle.records.specs.Records.{type_of, suits, entry_of}
use Rattle.records.specs.Types.{code_type, fixup_type, end_type, flag_of, address_in}
use Rattle.records.specs.declared.Entry.{Entry}
use Rattle.records.specs.declared.Entry.TheVariants.{Nowhere, Fixed, Relative}
use Rattle.records.specs.declared.Kind.{Kind}
use Rattle.records.specs.declared.Kind.TheVariants.{Main, ZeroPage, Absolute}
use Rattle.records.specs.declared.RecordType.TheVariants.{Code, Fixups, End}

pub code_type_back : (kind : Kind) → type_of (code_type kind) ≡ Some (Code kind)
code_type_back Main = refl
code_type_back ZeroPage = refl
code_type_back Absolute = refl

-- the relocatable code that a fixup after code of a kind is for: absolute code takes those for main code
abbrev pub fixups_for : Kind → Kind
fixups_for Main = Main
fixups_for ZeroPage = ZeroPage
fixups_for Absolute = Main

-- it suits that code
pub fixups_suit : (kind : Kind) → suits (fixups_for kind) (Some kind) ≡ true
fixups_suit Main = refl
fixups_suit ZeroPage = refl
fixups_suit Absolute = refl

pub fixup_type_back : (kind : Kind) (fixup : Fixup) → type_of (fixup_type kind fixup) ≡ Some (Fixups (fixups_for kind) fixup)
fixup_type_back Main LowByte = refl
fixup_type_back Main ZeroPageByte = refl
fixup_type_back Main Word = refl
fixup_type_back Main HighByte = refl
fixup_type_back ZeroPage LowByte = refl
fixup_type_back ZeroPage ZeroPageByte = refl
fixup_type_back ZeroPage Word = refl
fixup_type_back ZeroPage HighByte = refl
fixup_type_back Absolute LowByte = refl
fixup_type_back Absolute ZeroPageByte = refl
fixup_type_back Absolute Word = refl
fixup_type_back Absolute HighByte = refl

-- the end record's too
pub end_type_back : type_of end_type ≡ Some End
end_type_back = refl

pub entry_back : (entry : Entry) → entry_of (flag_of entry) (address_in entry) ≡ entry
entry_back Nowhere = refl
entry_back (Fixed address) = refl
entry_back (Relative address) = refl
