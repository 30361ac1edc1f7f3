-- What fits and what does not, as specs/Where.antt says: not both hold of the same bases, pieces and start, and what does not fit has one fault only.
-- Assumes nothing.
use mathlib.Core.List.{List, [], ◌∷◌, map}
use mathlib.Core.Path.{◌≡◌, refl}
use native.Mathlib.Omega.{arith}
use Rattle.answer.specs.declared.Fault.{Fault}
use Rattle.fields.specs.declared.Field.{Field}
use Rattle.pieces.specs.Pieces.{Piece, Outline, outline}
use Rattle.pieces.specs.Places.{PiecesFit}
use Rattle.pieces.specs.declared.Bases.{Bases}
use Rattle.records.specs.declared.Entry.{Entry}
use Rattle.acx.specs.Walk.{with_fields}
use Rattle.acx.specs.Where.{HandlerFits, PiecesUnfit, earlier, too_high, overlaps, HandlerUnfit, of_pieces, of_start}

module _ {b : Bases} where
  -- what fits has no fault
  fit_unfit : {os : List Outline} {fault : Fault} → PiecesFit b os → PiecesUnfit b os fault → ⊥
  fit_unfit h (earlier m) = fit_unfit (record { below = h.below.1; apart = h.apart.1 }) m
  fit_unfit h (too_high f l) = omega (arith, h.below.0, l)
  fit_unfit h (overlaps f l n) = n h.apart.0

  pub fits_not_unfit : {os : List Outline} {entry : Entry} {fault : Fault} → HandlerFits b os entry → HandlerUnfit b os entry fault → ⊥
  fits_not_unfit h (of_pieces m) = fit_unfit h.pieces m
  fits_not_unfit h (of_start f l) = omega (arith, h.start, l)

  -- what does not fit has one fault only
  unfit_once : {os : List Outline} {f g : Fault} → PiecesUnfit b os f → PiecesUnfit b os g → f ≡ g
  unfit_once (earlier m) (earlier n) = unfit_once m n
  unfit_once (earlier m) (too_high f l) = absurd (fit_unfit f m)
  unfit_once (earlier m) (overlaps f l n) = absurd (fit_unfit f m)
  unfit_once (too_high f l) (earlier m) = absurd (fit_unfit f m)
  unfit_once (too_high f l) (too_high g k) = refl
  unfit_once (too_high f l) (overlaps g k n) = absurd (omega (arith, l, k))
  unfit_once (overlaps f l n) (earlier m) = absurd (fit_unfit f m)
  unfit_once (overlaps f l n) (too_high g k) = absurd (omega (arith, l, k))
  unfit_once (overlaps f l n) (overlaps g k o) = refl

  pub unfit_same : {os : List Outline} {entry : Entry} {f g : Fault} → HandlerUnfit b os entry f → HandlerUnfit b os entry g → f ≡ g
  unfit_same (of_pieces m) (of_pieces n) = unfit_once m n
  unfit_same (of_pieces m) (of_start f l) = absurd (fit_unfit f m)
  unfit_same (of_start f l) (of_pieces m) = absurd (fit_unfit f m)
  unfit_same (of_start f l) (of_start g k) = refl

  -- fields more change no place
  pub unfit_fields : (fs : List Field) (ps : List Piece) {fault : Fault} → PiecesUnfit b (map outline ps) fault
      → PiecesUnfit b (map outline (with_fields fs ps)) fault
  unfit_fields fs [] m = m
  unfit_fields fs (p ∷ ps) (earlier m) = earlier m
  unfit_fields fs (p ∷ ps) (too_high f l) = too_high f l
  unfit_fields fs (p ∷ ps) (overlaps f l n) = overlaps f l n
