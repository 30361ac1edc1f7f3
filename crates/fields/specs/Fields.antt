-- The address fields that a fixup record lists ("Its address fields are the bytes and words that its fixups list").
-- Assumes nothing.
use Rattle.std.specs.Prelude.{List, [], ◌∷◌, ℕ}
use Rattle.fields.specs.declared.Field.{Field}
use Rattle.fields.specs.declared.Fixup.{Fixup}
use Rattle.fields.specs.declared.Fixup.TheVariants.{LowByte, ZeroPageByte, Word, HighByte}

-- how many bytes a field has: 06 and 07 list words, all others bytes
abbrev pub width_of : Fixup → ℕ
width_of LowByte = 1
width_of ZeroPageByte = 1
width_of Word = 2
width_of HighByte = 1

-- how many bytes list one field: "08, 09 take (index, LSB)", all others the index alone
abbrev pub item_size : Fixup → ℕ
item_size LowByte = 1
item_size ZeroPageByte = 1
item_size Word = 1
item_size HighByte = 2

-- the fields of a list of indices
abbrev pub singles : Fixup → List ℕ → List Field
singles fixup [] = []
singles fixup (index ∷ items) = record { fixup = fixup; index = index; lsb = 0 } ∷ singles fixup items

-- the fields of a list of pairs of index and LSB
abbrev pub pairs : List ℕ → List Field
pairs [] = []
pairs (index ∷ []) = []
pairs (index ∷ lsb ∷ items) = record { fixup = HighByte; index = index; lsb = lsb } ∷ pairs items

-- the fields that a fixup record's bytes list, in their order
unfoldable pub fields_of : Fixup → List ℕ → List Field
fields_of LowByte items = singles LowByte items
fields_of ZeroPageByte items = singles ZeroPageByte items
fields_of Word items = singles Word items
fields_of HighByte items = pairs items
