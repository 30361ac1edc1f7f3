-- Memory after the events of pieces that fit: each piece's code stands at its place, with the amounts on its fields.
-- Assumes nothing.
use mathlib.Core.List.{List, [], ◌∷◌, map}
use mathlib.Core.Path.{◌≡◌, refl, sym, ap, ◌∙◌}
use Prim.Native.Nat.{ℕ, ◌+◌, ◌≤◌, ◌<◌}
use lib.ListN.{length, get_or}
use Rattle.events.proofs.Events.{play_append}
use Rattle.events.specs.Events.{place, play}
use Rattle.events.specs.Lists.{Each, Pairwise}
use Rattle.fields.specs.declared.Field.{Field}
use Rattle.words.proofs.Changes.{length_change, change_in_put, value_part}
use Rattle.words.proofs.Numbers.{on_lt}
use Rattle.words.proofs.Runs.{length_put, put_outside, part_at, part_put_long, part_put_apart, bytes_put}
use Rattle.words.specs.Numbers.{value, on, change}
use Rattle.words.specs.Runs.{Bytes, Within, Apart, part, put}
use Rattle.pieces.proofs.Edits.{Fitting, length_edited, edited_plain, edited_each}
use Rattle.events.proofs.Lists.{each_all, each_map, each_zip, each_zip3, each_image, pairwise_image}
use Rattle.pieces.specs.Places.{Placed, In, PiecesApart, FieldsApart, Inside, FieldsSound}
use Rattle.pieces.specs.Pieces.{Piece, size, Outline, outline, place_of, width, amount_of, edited, adjustments, events}
use Rattle.pieces.specs.declared.Bases.{Bases}

-- ---- the fields of a run of code bytes

-- a field's number with the amount of b on
abbrev pub added : Bases → Field → ℕ → ℕ
added b f v = on (width f) (amount_of b f) v

-- which the field's bytes can hold
pub added_fits : (b : Bases) → Fitting (added b)
added_fits b f v = on_lt (width f) (amount_of b f) v

module _ (b : Bases) where
  -- the adjustments of code that was put down are those of the code
  play_adjustments : (fs : List Field) (a : ℕ) (bs m : List ℕ) → Each (Inside (length bs)) fs → a + length bs ≤ length m
      → play (adjustments b a fs) (put m a bs) ≡ put m a (edited (added b) fs bs)
  unfolding play adjustments edited
  play_adjustments [] a bs m i l = refl
  play_adjustments (f ∷ fs) a bs m i l =
      let k = width f in
      let g = on k (amount_of b f) in
      let cs : List ℕ = change k g bs f.index in
      let e : length cs ≡ length bs = length_change k g bs f.index in
      ap (play (adjustments b a fs)) (change_in_put k g m a bs f.index l i.0) ∙ play_adjustments fs a cs m (rw e i.1) (rw e l)

-- ---- runs at their places

-- a run for each of some things put at its place, the last one first: for pieces as they are loaded, and for outlines as they are marked or moved
unfoldable pub lay : {A : Type 0} → (A → ℕ) → (A → List ℕ) → List A → List ℕ → List ℕ
lay at g [] m = m
lay at g (x ∷ xs) m = put (lay at g xs m) (at x) (g x)

-- the run of a thing is as long as the thing
abbrev pub AsLong : {A : Type 0} → (A → ℕ) → (A → List ℕ) → A → Type 0
AsLong size g x = length (g x) ≡ size x

module _ {A : Type 0} (at : A → ℕ) (g : A → List ℕ) where
  -- nothing gets longer
  pub length_lay : (xs : List A) (m : List ℕ) → length (lay at g xs m) ≡ length m
  unfolding lay
  length_lay [] m = refl
  length_lay (x ∷ xs) m = length_put (lay at g xs m) (at x) (g x) ∙ length_lay xs m

  -- bytes stay bytes
  pub bytes_lay : (xs : List A) (m : List ℕ) → Each (λ x. Bytes (g x)) xs → Bytes m → Bytes (lay at g xs m)
  unfolding lay
  bytes_lay [] m h i = i
  bytes_lay (x ∷ xs) m h i = bytes_put (lay at g xs m) (at x) (g x) h.0 (bytes_lay xs m h.1 i)

-- the things have a place and a size each
module _ {A : Type 0} (at : A → ℕ) (size : A → ℕ) (g : A → List ℕ) where
  -- an address in no place keeps its byte
  pub lay_outside : (xs : List A) (m : List ℕ) (i : ℕ) → Each (AsLong size g) xs → Each (λ x. ¬ Within (at x) (size x) i) xs
      → get_or (lay at g xs m) i 0 ≡ get_or m i 0
  unfolding lay
  lay_outside [] m i s h = refl
  lay_outside (x ∷ xs) m i s h = put_outside (lay at g xs m) (at x) (g x) i (rw s.0 h.0) ∙ lay_outside xs m i s.1 h.1

  -- at each of places that lie apart stands its run
  pub lay_parts : (xs : List A) (m : List ℕ) → Each (AsLong size g) xs → Each (λ x. at x + size x ≤ length m) xs
      → Pairwise (λ x y. Apart (at x) (size x) (at y) (size y)) xs
      → Each (λ x. part (lay at g xs m) (at x) (size x) ≡ g x) xs
  unfolding lay
  lay_parts [] m s f d = tt
  lay_parts (x ∷ xs) m s f d =
      let l : List ℕ = lay at g xs m in
      let n : length l ≡ length m = length_lay at g xs m in
      let t : length (g x) ≡ size x = s.0 in (
        part_put_long l (at x) (g x) (size x) t (rw n f.0),
        each_zip3
            (λ y i a e. part_put_apart l (at x) (g x) (at y) (size y) (rw n i) (rw t a) ∙ e)
            xs f.1 d.0 (lay_parts xs m s.1 f.1 d.1),
      )

-- a piece lies in n addresses
abbrev pub Fits : Bases → ℕ → Outline → Type 0
Fits b n o = place_of b o + o.size ≤ n

-- how many bytes it has
abbrev pub size_of : Outline → ℕ
size_of o = o.size

-- ---- memory

-- the bytes that a load leaves at a piece's place
abbrev pub loaded : Bases → Piece → List ℕ
loaded b p = edited (added b) p.fields p.code

-- where a piece goes
abbrev pub piece_at : Bases → Piece → ℕ
piece_at b p = place_of b (outline p)

-- memory with the pieces in it
abbrev pub laid : Bases → List Piece → List ℕ → List ℕ
laid b ps m = lay (piece_at b) (loaded b) ps m

module _ (b : Bases) where
  -- a piece as it is loaded has its length
  length_loaded : (p : Piece) → length (loaded b p) ≡ size p
  length_loaded p = length_edited (added b) p.fields p.code

  -- memory stays as long as it was
  pub length_laid : (ps : List Piece) (m : List ℕ) → length (laid b ps m) ≡ length m
  length_laid ps m = length_lay (piece_at b) (loaded b) ps m

  -- the events of pieces that fit leave the pieces in memory
  pub play_laid : (ps : List Piece) (m : List ℕ) → Each (Fits b (length m)) (map outline ps)
      → Each (λ o. Each (Inside o.size) o.fields) (map outline ps)
      → play (events b ps) m ≡ laid b ps m
  unfolding events play lay
  play_laid [] m f i = refl
  play_laid (p ∷ ps) m f i =
      let es = adjustments b (piece_at b p) p.fields in
      play_append (events b ps) (place (piece_at b p) p.code ∷ es) m
      ∙ ap (λ (t : List ℕ). play es (put t (piece_at b p) p.code)) (play_laid ps m f.1 i.1)
      ∙ play_adjustments b p.fields (piece_at b p) p.code (laid b ps m) i.0 (rw (length_laid ps m) f.0)

  -- an address in no piece's place keeps its byte
  pub laid_outside : (ps : List Piece) (m : List ℕ) (x : ℕ) → Each (λ o. ¬ Placed b x o) (map outline ps)
      → get_or (laid b ps m) x 0 ≡ get_or m x 0
  laid_outside ps m x h =
      lay_outside (piece_at b) size (loaded b) ps m x (each_all length_loaded ps) (each_image outline (λ o. ¬ Placed b x o) ps h)

  module _ (ps : List Piece) (m : List ℕ) (f : Each (Fits b (length m)) (map outline ps)) (d : Pairwise (PiecesApart b) (map outline ps)) where
    -- each piece stands at its place as it is loaded
    pub laid_parts : Each (λ p. part (laid b ps m) (piece_at b p) (size p) ≡ loaded b p) ps
    laid_parts =
        lay_parts (piece_at b) size (loaded b) ps m (each_all length_loaded ps) (each_image outline (Fits b (length m)) ps f)
        (pairwise_image outline (PiecesApart b) ps d)

    -- a byte in no field stands as the code has it
    pub laid_plain : Each
        (λ p. (j : ℕ) → j < size p → Each (λ f. ¬ In j f) p.fields → get_or (laid b ps m) (piece_at b p + j) 0 ≡ get_or p.code j 0) ps
    laid_plain =
        each_map
        (λ p e j h w. sym (part_at (laid b ps m) (piece_at b p) (size p) j h) ∙ ap (λ (l : List ℕ). get_or l j 0) e
        ∙ edited_plain (added b) p.fields p.code j w)
        ps laid_parts

    -- each field has its amount on
    pub laid_fields : FieldsSound (map outline ps)
        → Each (λ p. Each (λ f. value (width f) (laid b ps m) (piece_at b p + f.index)
        ≡ on (width f) (amount_of b f) (value (width f) p.code f.index)) p.fields) ps
    laid_fields s =
        each_zip3 one ps
        (each_zip (λ p x y. (x, y)) ps (each_image outline (Fits b (length m)) ps f)
        (each_image outline (λ o. Each (Inside o.size) o.fields) ps s.inside))
        (each_image outline (λ o. Pairwise FieldsApart o.fields) ps s.distinct) laid_parts
      where
        -- a piece that fits, with its fields inside
        one : (p : Piece) → Fits b (length m) (outline p) × Each (Inside (size p)) p.fields → Pairwise FieldsApart p.fields
            → part (laid b ps m) (piece_at b p) (size p) ≡ loaded b p
            → Each (λ f. value (width f) (laid b ps m) (piece_at b p + f.index)
            ≡ on (width f) (amount_of b f) (value (width f) p.code f.index)) p.fields
        one p h a e =
            each_zip
            (λ f i v. sym (value_part (width f) (laid b ps m) (piece_at b p) (size p) f.index (rw (length_laid ps m) h.0) i)
            ∙ ap (λ (l : List ℕ). value (width f) l f.index) e ∙ v)
            p.fields h.1 (edited_each (added b) (added_fits b) p.fields p.code h.1 a)
