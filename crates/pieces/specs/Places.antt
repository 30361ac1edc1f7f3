-- Where pieces and fields lie: the words in which the theorems about loads and moves are stated. They go by outlines, since no code byte decides
-- where anything lies.
-- Assumes nothing.
use Rattle.std.specs.Prelude.{List, ◌≡◌, ℕ, ◌+◌, ◌≤◌, ◌<◌, length, get_or}
use Rattle.events.specs.Events.{placed_mark, adjusted_mark}
use Rattle.events.specs.Lists.{Each, Pairwise}
use Rattle.events.specs.Sizes.{memory_size}
use Rattle.fields.specs.declared.Field.{Field}
use Rattle.words.specs.Runs.{Within, Apart}
use Rattle.pieces.specs.Pieces.{Outline, place_of, limit_of, width}
use Rattle.pieces.specs.declared.Bases.{Bases}

-- the address is one of the piece's places: "a byte's place is its record's place plus its index among the code bytes"
abbrev pub Placed : Bases → ℕ → Outline → Type 0
Placed b x o = Within (place_of b o) o.size x

-- byte j of the code is in the field
abbrev pub In : ℕ → Field → Type 0
In j f = Within f.index (width f) j

-- the field lies in n code bytes
abbrev pub Inside : ℕ → Field → Type 0
Inside n f = f.index + width f ≤ n

-- no address is a place of both pieces
abbrev pub PiecesApart : Bases → Outline → Outline → Type 0
PiecesApart b o q = Apart (place_of b o) o.size (place_of b q) q.size

-- no byte of the code is in both fields
abbrev pub FieldsApart : Field → Field → Type 0
FieldsApart f g = Apart f.index (width f) g.index (width g)

-- The pieces fit at the bases and lie apart.
pub record PiecesFit (b : Bases) (os : List Outline) : Type 0 where
  -- each lies in memory, in zero page if that is its kind
  pub below : Each (λ o. place_of b o + o.size ≤ limit_of o.kind) os
  -- no two share an address
  pub apart : Pairwise (PiecesApart b) os

-- Their fields lie inside them and apart, whatever the bases.
pub record FieldsSound (os : List Outline) : Type 0 where
  -- fields lie inside their piece
  pub inside : Each (λ o. Each (Inside o.size) o.fields) os
  -- no byte is in two of them
  pub distinct : Each (λ o. Pairwise FieldsApart o.fields) os

-- Both hold of the pieces of an accepted file, and of the outlines of an accepted index.
pub record WellPlaced (b : Bases) (os : List Outline) : Type 0 where
  pub fit : PiecesFit b os
  pub sound : FieldsSound os

-- What the map holds of pieces with these outlines, placed at b: "0 untouched, 1 placed, .. 3 adjusted".
pub record Marked (b : Bases) (os : List Outline) (map : List ℕ) : Type 0 where
  pub size : length map ≡ memory_size
  pub untouched : (x : ℕ) → Each (λ o. ¬ Placed b x o) os → get_or map x 0 ≡ 0
  pub placed : Each (λ o. (j : ℕ) → j < o.size → Each (λ f. ¬ In j f) o.fields → get_or map (place_of b o + j) 0 ≡ placed_mark) os
  pub adjusted : Each (λ o. Each (λ f. (j : ℕ) → In j f → get_or map (place_of b o + j) 0 ≡ adjusted_mark) o.fields) os
