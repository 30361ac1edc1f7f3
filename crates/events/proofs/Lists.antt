-- What holds of each element of a list, and of every two.
-- Assumes nothing.
use mathlib.Core.List.{List, [], ◌∷◌, ◌++◌, map}
use Rattle.events.specs.Lists.{Each, Pairwise}

module _ {A : Type 0} where
  -- what holds of all elements holds of each
  pub each_all : {P : A → Type 0} → ((x : A) → P x) → (l : List A) → Each P l
  each_all f [] = tt
  each_all f (x ∷ l) = (f x, each_all f l)

  -- what follows from a statement holds where it does
  pub each_map : {P Q : A → Type 0} → ((x : A) → P x → Q x) → (l : List A) → Each P l → Each Q l
  each_map f [] h = tt
  each_map f (x ∷ l) h = (f x h.0, each_map f l h.1)

  -- what follows from two statements holds where both do
  pub each_zip : {P Q R : A → Type 0} → ((x : A) → P x → Q x → R x) → (l : List A) → Each P l → Each Q l → Each R l
  each_zip f [] h k = tt
  each_zip f (x ∷ l) h k = (f x h.0 k.0, each_zip f l h.1 k.1)

  -- what follows from three statements holds where all do
  pub each_zip3 : {P Q R S : A → Type 0} → ((x : A) → P x → Q x → R x → S x) → (l : List A) → Each P l → Each Q l → Each R l → Each S l
  each_zip3 f [] h k i = tt
  each_zip3 f (x ∷ l) h k i = (f x h.0 k.0 i.0, each_zip3 f l h.1 k.1 i.1)

  -- one list after the other
  pub each_append : (P : A → Type 0) (l k : List A) → Each P l → Each P k → Each P (l ++ k)
  each_append P [] k h i = i
  each_append P (x ∷ l) k h i = (h.0, each_append P l k h.1 i)

  -- the same of every two, where each of the first list stands so to each of the second
  pub pairwise_append : (R : A → A → Type 0) (l k : List A) → Pairwise R l → Pairwise R k → Each (λ x. Each (R x) k) l → Pairwise R (l ++ k)
  pairwise_append R [] k h i c = i
  pairwise_append R (x ∷ l) k h i c = (each_append (R x) l k h.0 c.0, pairwise_append R l k h.1 i c.1)

  -- what holds of one list after the other holds of either
  pub each_split : (P : A → Type 0) (l k : List A) → Each P (l ++ k) → Each P l × Each P k
  each_split P [] k h = (tt, h)
  each_split P (x ∷ l) k h = let r = each_split P l k h.1 in ((h.0, r.0), r.1)

  -- the same of every two; and each of the first list stands so to each of the second
  pub pairwise_split : (R : A → A → Type 0) (l k : List A) → Pairwise R (l ++ k) → Pairwise R l × Pairwise R k × Each (λ y. Each (λ x. R x y) l) k
  pairwise_split R [] k h = (tt, h, each_all (λ y. tt) k)
  pairwise_split R (x ∷ l) k h =
      let e = each_split (R x) l k h.0 in
      let r = pairwise_split R l k h.1 in
      ((e.0, r.0), r.1, each_zip (λ y a v. (a, v)) k e.1 r.2)

module _ {A B : Type 0} (f : A → B) where
  -- what holds of the image of each element
  pub each_image : (P : B → Type 0) (l : List A) → Each P (map f l) → Each (λ x. P (f x)) l
  each_image P [] h = tt
  each_image P (x ∷ l) h = (h.0, each_image P l h.1)

  pub image_each : (P : B → Type 0) (l : List A) → Each (λ x. P (f x)) l → Each P (map f l)
  image_each P [] h = tt
  image_each P (x ∷ l) h = (h.0, image_each P l h.1)

  -- and of every two
  pub pairwise_image : (R : B → B → Type 0) (l : List A) → Pairwise R (map f l) → Pairwise (λ x y. R (f x) (f y)) l
  pairwise_image R [] h = tt
  pairwise_image R (x ∷ l) h = (each_image (R (f x)) l h.0, pairwise_image R l h.1)
