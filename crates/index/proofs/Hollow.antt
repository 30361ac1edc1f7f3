-- Pieces that stand for outlines: of code that is not there only the length is looked at, so zeros stand for it. What they leave in the map and in the
-- counts is what the pieces do.
-- Assumes nothing.
use mathlib.Core.List.{List, [], ◌∷◌, map}
use mathlib.Core.Path.{◌≡◌, refl, sym, ap, ◌∙◌}
use Prim.Native.Nat.{ℕ}
use lib.ListN.{replicate}
use Rattle.events.proofs.Events.{marks_append, placed_append, adjusted_append, length_run}
use Rattle.events.specs.Events.{place, marks, placed_in, adjusted_in}
use Rattle.pieces.specs.Pieces.{Piece, size, Outline, outline, place_of, adjustments, events}
use Rattle.pieces.specs.declared.Bases.{Bases}
use Rattle.words.specs.Runs.{put}

-- a piece of this outline
abbrev pub hollow : Outline → Piece
hollow o = record { kind = o.kind; address = o.address; code = replicate o.size 0; fields = o.fields }

-- it has the outline
pub hollow_outline : (o : Outline) → outline (hollow o) ≡ o
hollow_outline o = ap (λ (n : ℕ). record { kind = o.kind; address = o.address; size = n; fields = o.fields }) (length_run o.size 0)

pub hollow_outlines : (os : List Outline) → map outline (map hollow os) ≡ os
hollow_outlines [] = refl
hollow_outlines (o ∷ os) = ap (λ (q : Outline). q ∷ map outline (map hollow os)) (hollow_outline o) ∙ ap (λ (qs : List Outline). o ∷ qs) (hollow_outlines os)

module _ (b : Bases) where
  -- pieces and those that stand for them leave the same map
  pub same_marks : (ps : List Piece) (m : List ℕ) → marks (events b (map hollow (map outline ps))) m ≡ marks (events b ps) m
  unfolding events marks
  same_marks [] m = refl
  same_marks (p ∷ ps) m =
      let a = place_of b (outline p) in
      marks_append (events b (map hollow (map outline ps))) _ m
      ∙ ap (λ (t : List ℕ). marks (place a (hollow (outline p)).code ∷ adjustments b a p.fields) t) (same_marks ps m)
      ∙ ap (λ (k : ℕ). marks (adjustments b a p.fields) (put (marks (events b ps) m) a (replicate k 1))) (length_run (size p) 0)
      ∙ sym (marks_append (events b ps) (place a p.code ∷ adjustments b a p.fields) m)

  -- and the same counts
  pub same_placed : (ps : List Piece) → placed_in (events b (map hollow (map outline ps))) ≡ placed_in (events b ps)
  unfolding events placed_in
  same_placed [] = refl
  same_placed (p ∷ ps) =
      let a = place_of b (outline p) in
      placed_append (events b (map hollow (map outline ps))) (place a (hollow (outline p)).code ∷ adjustments b a p.fields)
      ∙ rw (length_run (size p) 0, same_placed ps) refl
      ∙ sym (placed_append (events b ps) (place a p.code ∷ adjustments b a p.fields))

  pub same_adjusted : (ps : List Piece) → adjusted_in (events b (map hollow (map outline ps))) ≡ adjusted_in (events b ps)
  unfolding events adjusted_in
  same_adjusted [] = refl
  same_adjusted (p ∷ ps) =
      let a = place_of b (outline p) in
      adjusted_append (events b (map hollow (map outline ps))) (place a (hollow (outline p)).code ∷ adjustments b a p.fields)
      ∙ rw (same_adjusted ps) refl
      ∙ sym (adjusted_append (events b ps) (place a p.code ∷ adjustments b a p.fields))
