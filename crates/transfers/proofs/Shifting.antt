-- The loops over the fields that a fixup record or an entry lists: one field after the other has its old amount off and its new one on.
-- Assumes nothing.
use mathlib.Core.List.{List, [], ◌∷◌}
use mathlib.Core.Path.{◌≡◌, refl, sym, ap, ◌∙◌}
use Prim.Native.Nat.{ℕ, ◌+◌, ◌≤◌}
use lib.ListN.{length}
use Rattle.pieces.specs.Places.{Inside}
use Rattle.pieces.specs.Pieces.{width, amount_of, edited}
use Rattle.pieces.specs.declared.Bases.{Bases}
use Rattle.events.specs.Lists.{Each}
use Rattle.fields.specs.declared.Field.{Field}
use Rattle.words.proofs.Changes.{length_change, change_change}
use Rattle.words.proofs.Numbers.{off_lt}
use Rattle.words.specs.Numbers.{value, on, off, change}
use Rattle.moves.specs.Move.{shift}

-- one amount off a field of the width w, another on (the program has the width as a number k)
pub shifted_field : (w k old new : ℕ) (l m n : List ℕ) (i : ℕ) → k ≡ w → i + w ≤ length l → m ≡ change k (off k old) l i
    → n ≡ change k (on k new) m i
    → n ≡ change w (λ v. on w new (off w old v)) l i
shifted_field w k old new l m n i e h a b =
    let room : i + k ≤ length l = rw (← e) at h in
    rw (← e)
    (b ∙ ap (λ (r : List ℕ). change k (on k new) r i) a ∙ change_change k (off k old) l i (on k new) room (off_lt k old (value k l i)))

-- where the loop stands: it began with the fields all and the code bs, and rest are left
pub record Shifting (old new : Bases) (all : List Field) (bs : List ℕ) (rest : List Field) (cs : List ℕ) : Type 0 where
  pub inside : Each (Inside (length cs)) rest
  pub as_long : length cs ≡ length bs
  pub same : edited (shift old new) all bs ≡ edited (shift old new) rest cs

module _ {old new : Bases} {all : List Field} {bs : List ℕ} where
  -- before the first field
  pub shifting_none : Each (Inside (length bs)) all → Shifting old new all bs all bs
  shifting_none h = record { inside = h; as_long = refl; same = refl }

  -- the next field lies in the code
  pub shifting_here : {f : Field} {rest rest' : List Field} {cs : List ℕ} → rest ≡ f ∷ rest' → Shifting old new all bs rest cs
      → f.index + width f ≤ length cs
  shifting_here {f} {rest} {rest'} {cs} e x = (rw e at x.inside).0

  -- after it the loop stands one field further
  pub shifting_more : {f : Field} {rest rest' : List Field} {cs ds : List ℕ} {a b : ℕ} → rest ≡ f ∷ rest' → Shifting old new all bs rest cs
      → a ≡ amount_of old f → b ≡ amount_of new f
      → ds ≡ change (width f) (λ v. on (width f) b (off (width f) a v)) cs f.index → Shifting old new all bs rest' ds
  unfolding edited
  shifting_more {f} {rest} {rest'} {cs} {ds} {a} {b} e x ea eb d =
      let k = width f in
      let is : ds ≡ change k (shift old new f) cs f.index =
      d ∙ ap (λ (y : ℕ). change k (λ v. on k b (off k y v)) cs f.index) ea
      ∙ ap (λ (y : ℕ). change k (λ v. on k y (off k (amount_of old f) v)) cs f.index) eb in
      let n : length ds ≡ length cs = ap length is ∙ length_change (width f) (shift old new f) cs f.index in
      let i : Each (Inside (length cs)) (f ∷ rest') = rw e at x.inside in
      record {
        inside = rw n i.1;
        as_long = n ∙ x.as_long;
        same =
            x.same ∙ ap (λ (fs : List Field). edited (shift old new) fs cs) e ∙ ap (edited (shift old new) rest') (sym is);
      }

  -- where no field is left, all are shifted
  pub shifting_end : {rest : List Field} {cs : List ℕ} → rest ≡ [] → Shifting old new all bs rest cs → cs ≡ edited (shift old new) all bs
  unfolding edited
  shifting_end {rest} {cs} e x = sym (x.same ∙ ap (λ (fs : List Field). edited (shift old new) fs cs) e)
