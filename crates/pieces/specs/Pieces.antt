-- The pieces of a handler, which name no base, and the document's formulas for where they go and what is put on their fields.
-- Assumes nothing.
use Rattle.std.specs.Prelude.{List, [], ◌∷◌, ◌++◌, ℕ, ◌+◌, ◌/◌, length}
use Rattle.events.specs.Events.{Event, place, adjust}
use Rattle.events.specs.Sizes.{memory_size}
use Rattle.fields.specs.Fields.{width_of}
use Rattle.fields.specs.declared.Field.{Field}
use Rattle.fields.specs.declared.Fixup.{Fixup}
use Rattle.fields.specs.declared.Fixup.TheVariants.{LowByte, ZeroPageByte, Word, HighByte}
use Rattle.records.specs.declared.Kind.{Kind}
use Rattle.records.specs.declared.Kind.TheVariants.{Main, ZeroPage, Absolute}
use Rattle.words.specs.Numbers.{change}
use Rattle.pieces.specs.declared.Bases.{Bases}
use Rattle.pieces.specs.declared.Site.{Site}

-- a pair of bases, as a call asks for it
abbrev pub bases_at : ℕ → ℕ → Bases
bases_at main zp = record { main = main; zero = zp }

-- the bases that a site names
abbrev pub bases_of : Site → Bases
bases_of s = bases_at s.main s.zero

-- a code record with the fields that the fixup records after it list, in file order
pub record Piece : Type 0 where
  pub kind : Kind
  pub address : ℕ
  pub code : List ℕ
  pub fields : List Field

-- how many code bytes a piece has
abbrev pub size : Piece → ℕ
size p = length p.code

-- a piece without its code bytes: all that decides where it goes, and which of its bytes are address fields
pub record Outline : Type 0 where
  pub kind : Kind
  pub address : ℕ
  pub size : ℕ
  pub fields : List Field

-- the outline of a piece
abbrev pub outline : Piece → Outline
outline p = record { kind = p.kind; address = p.address; size = size p; fields = p.fields }

-- "Place: main base + address (00), zero-page base + address (0A), address (01)"
abbrev pub place_at : Bases → Kind → ℕ → ℕ
place_at b Main address = b.main + address
place_at b ZeroPage address = b.zero + address
place_at b Absolute address = address

-- where a piece of this outline goes
abbrev pub place_of : Bases → Outline → ℕ
place_of b o = place_at b o.kind o.address

-- "Place + n ≤ 65,536, for 0A ≤ 256"
abbrev pub limit_of : Kind → ℕ
limit_of Main = memory_size
limit_of ZeroPage = 256
limit_of Absolute = memory_size

-- how many bytes a field has
abbrev pub width : Field → ℕ
width f = width_of f.fixup

-- the amount by the kind of fixup, where the field's LSB is given
abbrev pub amount_by : Bases → ℕ → Fixup → ℕ
amount_by b lsb LowByte = b.main
amount_by b lsb ZeroPageByte = b.zero
amount_by b lsb Word = b.main
amount_by b lsb HighByte = (lsb + b.main) / 256

-- "The amount of a field is main base for 02, 03, 06 and 07, zero-page base for 04 and 05, floor((LSB + main base) / 256) for 08 and 09"
unfoldable pub amount_of : Bases → Field → ℕ
amount_of b f = amount_by b f.lsb f.fixup

-- a run of code bytes in which g has replaced the number of each field, the first field first: what a load does to code that was placed
-- (`play_adjustments`), and what a move does to code that lives
unfoldable pub edited : (Field → ℕ → ℕ) → List Field → List ℕ → List ℕ
edited g [] bytes = bytes
edited g (f ∷ fs) bytes = edited g fs (change (width f) (g f) bytes f.index)

-- a field of the code at a place adjusted
abbrev pub adjustment : Bases → ℕ → Field → Event
adjustment b a f = adjust (width f) (a + f.index) (amount_of b f)

-- some fields of the code at a place adjusted, in their order
unfoldable pub adjustments : Bases → ℕ → List Field → List Event
adjustments b a [] = []
adjustments b a (f ∷ fs) = adjustment b a f ∷ adjustments b a fs

-- the events of a load of the pieces, which stand latest first: each is placed, then its fields are adjusted
unfoldable pub events : Bases → List Piece → List Event
events b [] = []
events b (p ∷ ps) = events b ps ++ (place (place_of b (outline p)) p.code ∷ adjustments b (place_of b (outline p)) p.fields)
