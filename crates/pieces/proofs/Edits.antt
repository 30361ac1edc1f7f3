-- A run of code bytes with its fields replaced: what stays, what each field holds, and that two rounds of it are one.
-- Assumes nothing.
use mathlib.Core.List.{List, [], ◌∷◌, ◌++◌}
use mathlib.Core.Path.{◌≡◌, refl, ap, ◌∙◌}
use Prim.Native.Nat.{ℕ, ◌^◌, ◌<◌}
use lib.ListN.{length, get_or}
use Rattle.events.specs.Lists.{Each, Pairwise}
use Rattle.fields.specs.declared.Field.{Field}
use Rattle.words.proofs.Changes.{value_lt, length_change, bytes_change, change_outside, value_change, value_change_apart, change_change, change_same, change_none, change_comm}
use Rattle.words.specs.Numbers.{value, change}
use Rattle.words.specs.Runs.{Bytes}
use Rattle.events.proofs.Lists.{each_zip3}
use Rattle.pieces.specs.Places.{In, FieldsApart, Inside}
use Rattle.pieces.specs.Pieces.{width, edited}

-- what g makes of a number fits in the field
abbrev pub Fitting : (Field → ℕ → ℕ) → Type 0
Fitting g = (f : Field) (v : ℕ) → g f v < 256 ^ width f

module _ (g : Field → ℕ → ℕ) where
  -- the run is as long as it was
  pub length_edited : (fs : List Field) (bs : List ℕ) → length (edited g fs bs) ≡ length bs
  unfolding edited
  length_edited [] bs = refl
  length_edited (f ∷ fs) bs = length_edited fs _ ∙ length_change (width f) (g f) bs f.index

  -- and its bytes are bytes
  pub bytes_edited : (fs : List Field) (bs : List ℕ) → Bytes bs → Bytes (edited g fs bs)
  unfolding edited
  bytes_edited [] bs h = h
  bytes_edited (f ∷ fs) bs h = bytes_edited fs _ (bytes_change (width f) (g f) bs f.index h)

  -- some fields, and then others
  pub edited_append : (fs hs : List Field) (bs : List ℕ) → edited g (fs ++ hs) bs ≡ edited g hs (edited g fs bs)
  unfolding edited
  edited_append [] hs bs = refl
  edited_append (f ∷ fs) hs bs = edited_append fs hs _

  -- a byte in no field stays
  pub edited_plain : (fs : List Field) (bs : List ℕ) (j : ℕ) → Each (λ f. ¬ In j f) fs → get_or (edited g fs bs) j 0 ≡ get_or bs j 0
  unfolding edited
  edited_plain [] bs j h = refl
  edited_plain (f ∷ fs) bs j h = edited_plain fs _ j h.1 ∙ change_outside (width f) (g f) bs f.index j h.0

  -- the number of a field apart from all stays
  edited_apart : (f : Field) (fs : List Field) (bs : List ℕ) → Inside (length bs) f → Each (FieldsApart f) fs
      → value (width f) (edited g fs bs) f.index ≡ value (width f) bs f.index
  unfolding edited
  edited_apart f [] bs i h = refl
  edited_apart f (q ∷ fs) bs i h =
      let l : length (change (width q) (g q) bs q.index) ≡ length bs = length_change (width q) (g q) bs q.index in
      edited_apart f fs _ (rw l i) h.1
      ∙ value_change_apart (width q) (g q) bs q.index (width f) f.index i (λ x v w. h.0 x w v)

  -- each of fields that lie apart holds what g makes of its number
  pub edited_each : Fitting g → (fs : List Field) (bs : List ℕ) → Each (Inside (length bs)) fs → Pairwise FieldsApart fs
      → Each (λ f. value (width f) (edited g fs bs) f.index ≡ g f (value (width f) bs f.index)) fs
  unfolding edited
  edited_each small [] bs i d = tt
  edited_each small (f ∷ fs) bs i d =
      let k = width f in
      let cs : List ℕ = change k (g f) bs f.index in
      let l : length cs ≡ length bs = length_change k (g f) bs f.index in (
        edited_apart f fs cs (rw l i.0) d.0 ∙ value_change k (g f) bs f.index i.0 (small f (value k bs f.index)),
        each_zip3
            (λ q j a e. e ∙ ap (g q) (value_change_apart k (g f) bs f.index (width q) q.index j a))
            fs i.1 d.0 (edited_each small fs cs (rw l i.1) d.1),
      )

  -- a field apart from all may be replaced before them or after
  edited_past : (f : Field) (u : ℕ → ℕ) (fs : List Field) (bs : List ℕ) → Inside (length bs) f → Each (Inside (length bs)) fs
      → Each (FieldsApart f) fs
      → change (width f) u (edited g fs bs) f.index ≡ edited g fs (change (width f) u bs f.index)
  unfolding edited
  edited_past f u [] bs h i a = refl
  edited_past f u (q ∷ fs) bs h i a =
      let l : length (change (width q) (g q) bs q.index) ≡ length bs = length_change (width q) (g q) bs q.index in
      edited_past f u fs _ (rw l h) (rw l i.1) a.1
      ∙ ap (edited g fs) (change_comm (width q) (g q) q.index (width f) u f.index bs (λ x v w. a.0 x w v) i.0 h)

  -- of fields that lie apart, one round after another is one round
  pub edited_twice : Fitting g → (h : Field → ℕ → ℕ) (fs : List Field) (bs : List ℕ) → Each (Inside (length bs)) fs → Pairwise FieldsApart fs
      → edited h fs (edited g fs bs) ≡ edited (λ f v. h f (g f v)) fs bs
  unfolding edited
  edited_twice small h [] bs i d = refl
  edited_twice small h (f ∷ fs) bs i d =
      let k = width f in
      let cs : List ℕ = change k (g f) bs f.index in
      let l : length cs ≡ length bs = length_change k (g f) bs f.index in
      let ds : List ℕ = change k (λ v. h f (g f v)) bs f.index in
      let n : length ds ≡ length bs = length_change k (λ v. h f (g f v)) bs f.index in
      ap (edited h fs) (edited_past f (h f) fs cs (rw l i.0) (rw l i.1) d.0)
      ∙ ap (λ (x : List ℕ). edited h fs (edited g fs x)) (change_change k (g f) bs f.index (h f) i.0 (small f (value k bs f.index)))
      ∙ edited_twice small h fs ds (rw n i.1) d.1

  -- only what g makes of numbers that fit matters
  pub edited_same : (h : Field → ℕ → ℕ) → ((f : Field) (v : ℕ) → v < 256 ^ width f → g f v ≡ h f v) → (fs : List Field) (bs : List ℕ)
      → Each (Inside (length bs)) fs → Bytes bs → edited g fs bs ≡ edited h fs bs
  unfolding edited
  edited_same h e [] bs i y = refl
  edited_same h e (f ∷ fs) bs i y =
      let k = width f in
      let cs : List ℕ = change k (h f) bs f.index in
      let l : length cs ≡ length bs = length_change k (h f) bs f.index in
      ap (edited g fs) (change_same k (g f) bs f.index (h f) (e f (value k bs f.index) (value_lt k bs f.index i.0 y)))
      ∙ edited_same h e fs cs (rw l i.1) (bytes_change k (h f) bs f.index y)

-- what changes no number changes no byte
pub edited_none : (fs : List Field) (bs : List ℕ) → Each (Inside (length bs)) fs → Bytes bs → edited (λ f v. v) fs bs ≡ bs
unfolding edited
edited_none [] bs i y = refl
edited_none (f ∷ fs) bs i y =
    let e : change (width f) (λ v. v) bs f.index ≡ bs = change_none (width f) bs f.index i.0 y in
    ap (edited (λ f v. v) fs) e ∙ edited_none fs bs i.1 y
