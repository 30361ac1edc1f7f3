-- The events of pieces: those of a piece more and of fields more, and the counts.
-- Assumes nothing.
use mathlib.Core.List.{List, [], ◌∷◌, ◌++◌}
use mathlib.Core.Path.{◌≡◌, refl, ap}
use Prim.Native.Nat.{ℕ}
use native.Mathlib.Omega.{arith}
use lib.ListN.{length}
use Rattle.events.specs.Events.{Event, place, placed_in, adjusted_in}
use Rattle.fields.specs.declared.Field.{Field}
use Rattle.pieces.specs.Pieces.{Piece, outline, place_of, adjustment, adjustments, events}
use Rattle.pieces.specs.declared.Bases.{Bases}

-- fields after fields
pub adjustments_append : (b : Bases) (a : ℕ) (gs fs : List Field) → adjustments b a (gs ++ fs) ≡ adjustments b a gs ++ adjustments b a fs
unfolding adjustments
adjustments_append b a [] fs = refl
adjustments_append b a (g ∷ gs) fs = ap (λ (es : List Event). adjustment b a g ∷ es) (adjustments_append b a gs fs)

-- a piece more: its code is placed
pub events_code : (b : Bases) (p : Piece) (ps : List Piece) → p.fields ≡ []
    → events b (p ∷ ps) ≡ events b ps ++ (place (place_of b (outline p)) p.code ∷ [])
unfolding events adjustments
events_code b p ps e = rw e refl

-- adjustments place nothing, and adjust a field each
pub placed_adjustments : (b : Bases) (a : ℕ) (fs : List Field) → placed_in (adjustments b a fs) ≡ 0
unfolding placed_in adjustments
placed_adjustments b a [] = refl
placed_adjustments b a (f ∷ fs) = placed_adjustments b a fs

pub adjusted_adjustments : (b : Bases) (a : ℕ) (fs : List Field) → adjusted_in (adjustments b a fs) ≡ length fs
unfolding adjusted_in adjustments
adjusted_adjustments b a [] = refl
adjusted_adjustments b a (f ∷ fs) = omega (arith, adjusted_adjustments b a fs)
