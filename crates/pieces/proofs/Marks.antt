-- The map after the events of pieces: 1 on placed bytes, 3 on adjusted ones, elsewhere as before. So a clear part of it is apart from all
-- pieces, and one without a 3 from all fields.
-- Assumes nothing.
use mathlib.Core.Bool.{true, false}
use mathlib.Core.List.{List, [], ◌∷◌, map}
use mathlib.Core.Path.{◌≡◌, refl, sym, ap, ◌∙◌, subst}
use Prim.Native.Nat.{ℕ, ◌+◌, ◌-◌, ◌≤◌, ◌<◌}
use native.Mathlib.Omega.{arith}
use lib.ListN.{length, get_or, replicate, get_or-replicate}
use Rattle.std.proofs.Common.{Ok}
use Rattle.events.proofs.Events.{marks_append, length_run, fill_outside, fill_inside}
use Rattle.events.proofs.Lists.{each_all, each_map, each_zip}
use Rattle.events.specs.Events.{place, marks}
use Rattle.events.specs.Lists.{Each, Pairwise}
use Rattle.fields.specs.declared.Field.{Field}
use Rattle.words.proofs.Runs.{within?, length_put, put_in_put, length_part, part_at, zero_at, contains_not}
use Rattle.words.specs.Runs.{Within, part, put, all_zero, contains}
use Rattle.pieces.proofs.Checks.{adjusting_passed}
use Rattle.pieces.proofs.Loads.{lay, lay_outside, lay_parts, Fits, size_of}
use Rattle.pieces.specs.AtBases.{adjusting}
use Rattle.pieces.specs.Places.{Placed, In, PiecesApart, FieldsApart, Inside}
use Rattle.pieces.specs.Pieces.{Piece, size, Outline, outline, place_of, width, adjustments, events}
use Rattle.pieces.specs.declared.Bases.{Bases}

-- ---- a run of one mark

module _ (l : List ℕ) (a n v : ℕ) where
  -- what holds of the mark and held before holds after
  fill_keeps : (P : ℕ → Type 0) (x : ℕ) → a + n ≤ length l → P v → P (get_or l x 0) → P (get_or (put l a (replicate n v)) x 0)
  fill_keeps P x h p q = by (within? a n x)
    where
      by : Dec (Within a n x) → P (get_or (put l a (replicate n v)) x 0)
      by (yes w) = subst P (sym (fill_inside l a n v x h w)) p
      by (no w) = subst P (sym (fill_outside l a n v x w)) q

-- ---- the marks of one piece

-- a run of marks with 3 on the fields
unfoldable pub shaded : List Field → List ℕ → List ℕ
shaded [] bs = bs
shaded (f ∷ fs) bs = shaded fs (put bs f.index (replicate (width f) 3))

-- it is as long as it was
length_shaded : (fs : List Field) (bs : List ℕ) → length (shaded fs bs) ≡ length bs
unfolding shaded
length_shaded [] bs = refl
length_shaded (f ∷ fs) bs = length_shaded fs _ ∙ length_put bs f.index (replicate (width f) 3)

-- a byte in no field keeps its mark
shaded_plain : (fs : List Field) (bs : List ℕ) (j : ℕ) → Each (λ f. ¬ In j f) fs → get_or (shaded fs bs) j 0 ≡ get_or bs j 0
unfolding shaded
shaded_plain [] bs j h = refl
shaded_plain (f ∷ fs) bs j h = shaded_plain fs _ j h.1 ∙ fill_outside bs f.index (width f) 3 j h.0

-- what holds of 3 and of a mark before holds of the mark after
shaded_keeps : (P : ℕ → Type 0) (fs : List Field) (bs : List ℕ) (j : ℕ) → Each (Inside (length bs)) fs → P 3 → P (get_or bs j 0)
    → P (get_or (shaded fs bs) j 0)
unfolding shaded
shaded_keeps P [] bs j i p q = q
shaded_keeps P (f ∷ fs) bs j i p q =
    let e : length (put bs f.index (replicate (width f) 3)) ≡ length bs = length_put bs f.index (replicate (width f) 3) in
    shaded_keeps P fs _ j (rw e i.1) p (fill_keeps bs f.index (width f) 3 P j i.0 p q)

-- a byte in a field is marked 3
shaded_fields : (fs : List Field) (bs : List ℕ) → Each (Inside (length bs)) fs → Each (λ f. (j : ℕ) → In j f → get_or (shaded fs bs) j 0 ≡ 3) fs
unfolding shaded
shaded_fields [] bs i = tt
shaded_fields (f ∷ fs) bs i =
    let e : length (put bs f.index (replicate (width f) 3)) ≡ length bs = length_put bs f.index (replicate (width f) 3) in (
      (λ j w. shaded_keeps (λ v. v ≡ 3) fs _ j (rw e i.1) refl (fill_inside bs f.index (width f) 3 j i.0 w)),
      shaded_fields fs _ (rw e i.1),
    )

-- the marks that a load leaves at a piece's place
abbrev pub shade : Outline → List ℕ
shade o = shaded o.fields (replicate o.size 1)

-- they are as many as its bytes
length_shade : (o : Outline) → length (shade o) ≡ o.size
length_shade o = length_shaded o.fields (replicate o.size 1) ∙ length_run o.size 1

-- ---- the map of pieces

module _ (b : Bases) where
  -- the adjustments of a run of marks that was put down are those of the run
  marks_adjustments : (fs : List Field) (a : ℕ) (bs m : List ℕ) → Each (Inside (length bs)) fs
      → marks (adjustments b a fs) (put m a bs) ≡ put m a (shaded fs bs)
  unfolding marks adjustments shaded
  marks_adjustments [] a bs m i = refl
  marks_adjustments (f ∷ fs) a bs m i =
      let ts : List ℕ = replicate (width f) 3 in
      let e : length (put bs f.index ts) ≡ length bs = length_put bs f.index ts in
      ap (marks (adjustments b a fs)) (put_in_put m a bs f.index ts (rw (length_run (width f) 3) i.0))
      ∙ marks_adjustments fs a (put bs f.index ts) m (rw e i.1)

  -- the events leave the marks of each piece at its place
  marks_laid : (ps : List Piece) (m : List ℕ) → Each (λ o. Each (Inside o.size) o.fields) (map outline ps)
      → marks (events b ps) m ≡ lay (place_of b) shade (map outline ps) m
  unfolding events marks lay
  marks_laid [] m i = refl
  marks_laid (p ∷ ps) m i =
      let a = place_of b (outline p) in
      let es = adjustments b a p.fields in
      let ones : List ℕ = replicate (size p) 1 in
      marks_append (events b ps) (place a p.code ∷ es) m
      ∙ ap (λ (t : List ℕ). marks es (put t a ones)) (marks_laid ps m i.1)
      ∙ marks_adjustments p.fields a ones (lay (place_of b) shade (map outline ps) m) (rw (length_run (size p) 1) i.0)

  module _ (ps : List Piece) (m : List ℕ) (i : Each (λ o. Each (Inside o.size) o.fields) (map outline ps)) where
    -- the outlines, and the map
    abbrev os : List Outline
    os = map outline ps

    abbrev left : List ℕ
    left = marks (events b ps) m

    -- an address in no piece's place keeps its mark
    pub marks_outside : (x : ℕ) → Each (λ o. ¬ Placed b x o) os → get_or left x 0 ≡ get_or m x 0
    marks_outside x h =
        ap (λ (l : List ℕ). get_or l x 0) (marks_laid ps m i) ∙ lay_outside (place_of b) size_of shade os m x (each_all length_shade os) h

    module _ (f : Each (Fits b (length m)) os) (d : Pairwise (PiecesApart b) os) where
      -- the marks of each piece stand at its place
      marks_parts : Each (λ o. part left (place_of b o) o.size ≡ shade o) os
      marks_parts =
          subst (λ (l : List ℕ). Each (λ o. part l (place_of b o) o.size ≡ shade o) os) (sym (marks_laid ps m i))
          (lay_parts (place_of b) size_of shade os m (each_all length_shade os) f d)

      -- a byte of a piece has its mark
      at : (o : Outline) (j : ℕ) → j < o.size → part left (place_of b o) o.size ≡ shade o
          → get_or left (place_of b o + j) 0 ≡ get_or (shade o) j 0
      at o j h e = sym (part_at left (place_of b o) o.size j h) ∙ ap (λ (l : List ℕ). get_or l j 0) e

      -- a byte in no field is marked 1
      pub marks_plain : Each (λ o. (j : ℕ) → j < o.size → Each (λ f. ¬ In j f) o.fields → get_or left (place_of b o + j) 0 ≡ 1) os
      marks_plain =
          each_map
          (λ o e j h w. at o j h e ∙ shaded_plain o.fields (replicate o.size 1) j w ∙ get_or-replicate o.size j 1 0 h)
          os marks_parts

      -- a byte in a field is marked 3
      pub marks_fields : Each (λ o. Each (λ f. (j : ℕ) → In j f → get_or left (place_of b o + j) 0 ≡ 3) o.fields) os
      marks_fields = each_zip one os i marks_parts
        where
          one : (o : Outline) → Each (Inside o.size) o.fields → part left (place_of b o) o.size ≡ shade o
              → Each (λ f. (j : ℕ) → In j f → get_or left (place_of b o + j) 0 ≡ 3) o.fields
          one o h e =
              each_zip (λ f k s j w. at o j (omega arith) e ∙ s j w) o.fields h
              (shaded_fields o.fields (replicate o.size 1) (rw (length_run o.size 1) h))

      -- no byte of a piece is marked 0
      pub marks_some : Each (λ o. (x : ℕ) → Placed b x o → 0 < get_or left x 0) os
      marks_some = each_zip one os i marks_parts
        where
          one : (o : Outline) → Each (Inside o.size) o.fields → part left (place_of b o) o.size ≡ shade o → (x : ℕ) → Placed b x o
              → 0 < get_or left x 0
          one o h e x w =
              let j = x - place_of b o in
              let y : place_of b o + j ≡ x = omega arith in
              let lt : j < o.size = omega arith in
              let one_at : ◌≡◌ {A = ℕ} (get_or (replicate o.size 1) j 0) 1 = get_or-replicate o.size j 1 0 lt in
              let s : 0 < get_or (shade o) j 0 =
              shaded_keeps (λ v. 0 < v) o.fields (replicate o.size 1) j (rw (length_run o.size 1) h) (omega arith) (omega (arith, one_at)) in
              subst (λ (v : ℕ). 0 < v) (sym (ap (λ (k : ℕ). get_or left k 0) (sym y) ∙ at o j lt e)) s

-- ---- what the checks say

-- every address of a part that is all zero holds 0
clear_at : (l : List ℕ) (a n x : ℕ) → all_zero (part l a n) ≡ true → Within a n x → get_or l x 0 ≡ 0
clear_at l a n x e w =
    let y : a + (x - a) ≡ x = omega arith in
    ap (λ (k : ℕ). get_or l k 0) (sym y) ∙ sym (part_at l a n (x - a) (omega arith)) ∙ zero_at (part l a n) e (x - a)

-- code that found nothing placed lies apart from all that was
pub code_apart : (b : Bases) (o : Outline) (os : List Outline) (map : List ℕ) → Each (λ q. (x : ℕ) → Placed b x q → 0 < get_or map x 0) os
    → all_zero (part map (place_of b o) o.size) ≡ true → Each (PiecesApart b o) os
code_apart b o os map h e = each_map (λ q k x w v. let z = clear_at map (place_of b o) o.size x e w in let s = k x v in omega arith) os h

-- the fields gs of the code at a are marked 3
abbrev pub Threes : List ℕ → ℕ → List Field → Type 0
Threes map a gs = Each (λ g. (j : ℕ) → In j g → get_or map (a + j) 0 ≡ 3) gs

-- fields fs of n code bytes that may follow gs
pub record Fresh (n : ℕ) (gs fs : List Field) : Type 0 where
  pub inside : Each (Inside n) fs
  pub cross : Each (λ g. Each (FieldsApart g) fs) gs
  pub distinct : Pairwise FieldsApart fs

-- a field without a 3 lies apart from all that are marked
field_apart : (f : Field) (gs : List Field) (map : List ℕ) (a : ℕ) → a + f.index + width f ≤ length map → Threes map a gs
    → contains 3 (part map (a + f.index) (width f)) ≡ false → Each (λ g. FieldsApart g f) gs
field_apart f gs map a l h e =
    each_map
    (λ g k x w v.
    let lt : x - f.index < width f = omega arith in
    let y : a + f.index + (x - f.index) ≡ a + x = omega arith in
    contains_not 3 (part map (a + f.index) (width f)) e (x - f.index) (rw (length_part map (a + f.index) (width f) l) lt)
    (part_at map (a + f.index) (width f) (x - f.index) lt ∙ ap (λ (z : ℕ). get_or map z 0) y ∙ k x w))
    gs h

-- fields that passed may follow those that are marked
pub fields_fresh : (at step : ℕ) (b : Bases) (a n : ℕ) (fs gs : List Field) (map : List ℕ) → a + n ≤ length map → Threes map a gs
    → (adjusting at step b a n fs map).answer ≡ Ok tt → Fresh n gs fs
fields_fresh at step b a n [] gs map l h e = record { inside = tt; cross = each_map (λ g k. tt) gs h; distinct = tt }
fields_fresh at step b a n (f ∷ fs) gs map l h e =
    let x = adjusting_passed at step b a n f fs map e in
    let k = width f in
    let room : a + f.index + k ≤ length map = omega (arith, x.0) in
    let map' : List ℕ = put map (a + f.index) (replicate k 3) in
    let l' : length map' ≡ length map = length_put map (a + f.index) (replicate k 3) in
    let h' : Threes map' a (f ∷ gs) = (
      (λ j w. fill_inside map (a + f.index) k 3 (a + j) room (omega arith)),
      each_map (λ g t j w. fill_keeps map (a + f.index) k 3 (λ v. v ≡ 3) (a + j) room refl (t j w)) gs h,
    ) in
    let r = fields_fresh (at + step) step b a n fs (f ∷ gs) map' (rw l' l) h' x.2 in
    record {
      inside = (x.0, r.inside);
      cross = each_zip (λ g u v. (u, v)) gs (field_apart f gs map a room h x.1) r.cross.1;
      distinct = (r.cross.0, r.distinct);
    }
