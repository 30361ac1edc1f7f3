-- The way of a handler's bytes through the scratch. Only the contracts of the inner functions of `transfers` cite this: what `carry` promises
-- stands in moves/specs/Move.antt.
-- Assumes nothing.
use Rattle.std.specs.Prelude.{List, ◌≡◌, ℕ, zero, suc, ◌+◌, ◌≤◌, length, get_or}
use Rattle.words.specs.Runs.{part, put}
use Rattle.events.specs.Lists.{Each}
use Rattle.fields.specs.Fields.{fields_of}
use Rattle.records.specs.declared.Record.{Record}
use Rattle.records.specs.declared.Record.TheVariants.{Code, Fixups, End}
use Rattle.pieces.specs.Places.{Inside}
use Rattle.pieces.specs.Pieces.{Outline, place_of, edited}
use Rattle.pieces.specs.declared.Bases.{Bases}
use Rattle.acx.specs.declared.Cursor.{Cursor}
use Rattle.moves.specs.Move.{shift}

-- the scratch t after a record, where the last code record is at one cursor in memory m and at the other in t
unfoldable pub scratch_with : List ℕ → Bases → Bases → Cursor → Cursor → List ℕ → List ℕ → Record → List ℕ
scratch_with file old new source target m t (Code kind address from n) = put t target.place (part m source.place source.size)
scratch_with file old new source target m t (Fixups fixup from n) =
    put t target.place (edited (shift old new) (fields_of fixup (part file from n)) (part t target.place target.size))
scratch_with file old new source target m t (End entry next) = t

-- a fixup record lies in its file, and its fields in so many code bytes
abbrev pub Sound : List ℕ → ℕ → Record → Type 0
Sound file size (Code kind address from n) = Unit {0}
Sound file size (Fixups fixup from n) = (from + n ≤ length file) × Each (Inside size) (fields_of fixup (part file from n))
Sound file size (End entry next) = Unit {0}

-- an outline lies in memory at both pairs of bases, and its fields in its code
pub record Movable (old new : Bases) (o : Outline) : Type 0 where
  pub at_old : place_of old o + o.size ≤ 65536
  pub at_new : place_of new o + o.size ≤ 65536
  pub inside : Each (Inside o.size) o.fields

-- a byte where the map has no mark, and where it has one
abbrev pub chosen : ℕ → ℕ → ℕ → ℕ
chosen zero old new = old
chosen (suc mark) old new = new

-- memory m has become m' by taking the scratch's byte at every address that the map marks
pub record Overlaid (map scratch m m' : List ℕ) : Type 0 where
  pub same_length : length m' ≡ length m
  pub bytes : (x : ℕ) → get_or m' x 0 ≡ chosen (get_or map x 0) (get_or m x 0) (get_or scratch x 0)
