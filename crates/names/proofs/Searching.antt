-- What a search says of the list: a hit is this name and lies inside, nothing newer is this name, and no hit means that no name is.
-- Assumes nothing.
use mathlib.Core.Bool.{Bool, true, false, ◌&&◌, false≢true}
use mathlib.Core.List.{List, [], ◌∷◌}
use mathlib.Core.Path.{◌≡◌, refl}
use Prim.Native.Nat.{ℕ, zero, suc, ◌+◌, ◌*◌, ◌/◌, ◌≤◌, ◌<◌}
use native.Mathlib.Decide.{dec_lt}
use native.Mathlib.Nat.{not-suc-le-zero, zero-lt-suc, div-add-mod, mod-lt}
use native.Mathlib.Omega.{arith}
use borrow.Author.Tests.{eqb-true, eq-eqb}
use lib.Dec.{eqb}
use lib.ListN.{length}
use Rattle.std.proofs.Common.{Option, Some, None}
use Rattle.answer.proofs.Checks.{on_pick}
use Rattle.names.specs.Names.{same, name_at, newest_of, newest, or_lent, look_up}
use Rattle.names.specs.declared.Definition.TheVariants.{Own, Lent}

-- ---- comparing

-- runs that compare as the same are the same
pub same_is : (xs ys : List ℕ) → same xs ys ≡ true → xs ≡ ys
unfolding same
same_is [] [] e = refl
same_is [] (y ∷ ys) e = absurd (false≢true e)
same_is (x ∷ xs) [] e = absurd (false≢true e)
same_is (x ∷ xs) (y ∷ ys) e = by (eqb x y) refl (λ f. same_is xs ys f) e
  where
    by : (t : Bool) → eqb x y ≡ t → (same xs ys ≡ true → xs ≡ ys) → t && same xs ys ≡ true → x ∷ xs ≡ y ∷ ys
    by true h rest f = let a = eqb-true x y h in let b = rest f in cc
    by false h rest f = absurd (false≢true f)

-- a run compares as the same as itself
pub same_refl : (xs : List ℕ) → same xs xs ≡ true
unfolding same
same_refl [] = refl
same_refl (x ∷ xs) = rw (eq-eqb x x refl) (same_refl xs)

-- ---- a list

-- what holds of k, and of j where it is below k, holds of every j below k + 1
or_last : (P : ℕ → Type 0) (k : ℕ) → P k → (j : ℕ) → j < suc k → (j < k → P j) → P j
or_last P k h j b rest = by (dec_lt j k)
  where
    by : Dec (j < k) → P j
    by (yes l) = rest l
    by (no l) = let q : j ≡ k = omega arith in rw q h

-- the name i is this one, and none after it of the first k is
record Newest (k : ℕ) (names name : List ℕ) (i : ℕ) : Type 0 where
  below : i < k
  hit : same (name_at names i) name ≡ true
  last : (j : ℕ) → i < j → j < k → same (name_at names j) name ≡ false

-- what is found in the first k is the newest of them
newest_of_lem : (k : ℕ) (names name : List ℕ) (i : ℕ) → newest_of k names name ≡ Some i → Newest k names name i
unfolding newest_of
newest_of_lem zero names name i e = absurd (let z : ◌≡◌ {A = ℕ} 0 1 = cc in omega arith)
newest_of_lem (suc k) names name i e =
    on_pick (λ f. f ≡ Some i → Newest (suc k) names name i) (same (name_at names k) name) (Some k) (newest_of k names name)
    (λ h f. let q : k ≡ i = cc in rw (← q) (hit_here h))
    (λ h f. hit_before h (newest_of_lem k names name i f))
    e
  where
    hit_here : same (name_at names k) name ≡ true → Newest (suc k) names name k
    hit_here h = record { below = omega arith; hit = h; last = λ j a b. absurd (omega arith) }

    hit_before : same (name_at names k) name ≡ false → Newest k names name i → Newest (suc k) names name i
    hit_before h n = record {
      below = omega (arith, n.below);
      hit = n.hit;
      last = λ j a b. or_last (λ x. same (name_at names x) name ≡ false) k h j b (λ l. n.last j a l);
    }

-- where nothing is found in the first k, none of them is this name
none_of : (k : ℕ) (names name : List ℕ) → newest_of k names name ≡ None → (j : ℕ) → j < k → same (name_at names j) name ≡ false
unfolding newest_of
none_of zero names name e j l = absurd (not-suc-le-zero l)
none_of (suc k) names name e j l =
    on_pick (λ f. f ≡ None → same (name_at names j) name ≡ false) (same (name_at names k) name) (Some k) (newest_of k names name)
    (λ h f. cc)
    (λ h f. or_last (λ x. same (name_at names x) name ≡ false) k h j l (λ m. none_of k names name f j m))
    e

-- the names below the count are whole
whole : (n j : ℕ) → j < n / 8 → 8 * j + 8 ≤ n
whole n j h = omega (arith, div-add-mod n 8)

-- the whole names are below the count
counted : (n j : ℕ) → 8 * j + 8 ≤ n → j < n / 8
counted n j h = omega (arith, div-add-mod n 8, mod-lt n (zero-lt-suc 7))

-- the newest hit is this name, and no name after it is
pub newest_is : (names name : List ℕ) (i : ℕ) → newest names name ≡ Some i
    → (same (name_at names i) name ≡ true) × ((j : ℕ) → i < j → 8 * j + 8 ≤ length names → same (name_at names j) name ≡ false)
unfolding newest
newest_is names name i e =
    let n = newest_of_lem (length names / 8) names name i e in
    (n.hit, λ j a b. n.last j a (counted (length names) j b))

-- where there is none, no name of the list is this one
pub newest_none : (names name : List ℕ) → newest names name ≡ None → (j : ℕ) → 8 * j + 8 ≤ length names → same (name_at names j) name ≡ false
unfolding newest
newest_none names name e j h = none_of (length names / 8) names name e j (counted (length names) j h)

-- a hit is a whole name of the list
found_inside : (names name : List ℕ) (i : ℕ) → newest names name ≡ Some i → 8 * i + 8 ≤ length names
unfolding newest
found_inside names name i e = whole (length names) i (newest_of_lem (length names / 8) names name i e).below

-- ---- two lists

-- a new one is this file's newest
own_found : (own lent name : List ℕ) (i : ℕ) → look_up own lent name ≡ Some (Own i) → newest own name ≡ Some i
unfolding look_up
own_found own lent name i e = by (newest own name) (newest lent name) e
  where
    by : (f g : Option ℕ) → or_lent f g ≡ Some (Own i) → f ≡ Some i
    by (Some k) g h = cc
    by None (Some k) h = cc
    by None None h = cc

-- a lent one is the newest that was lent, and the file has none
lent_found : (own lent name : List ℕ) (i : ℕ) → look_up own lent name ≡ Some (Lent i) → (newest own name ≡ None) × (newest lent name ≡ Some i)
unfolding look_up
lent_found own lent name i e = by (newest own name) (newest lent name) e
  where
    by : (f g : Option ℕ) → or_lent f g ≡ Some (Lent i) → (f ≡ None) × (g ≡ Some i)
    by (Some k) g h = (cc, cc)
    by None (Some k) h = (refl, cc)
    by None None h = (refl, cc)

-- either is a whole name of its list
pub own_inside : (own lent name : List ℕ) (i : ℕ) → look_up own lent name ≡ Some (Own i) → 8 * i + 8 ≤ length own
own_inside own lent name i e = found_inside own name i (own_found own lent name i e)

pub lent_inside : (own lent name : List ℕ) (i : ℕ) → look_up own lent name ≡ Some (Lent i) → 8 * i + 8 ≤ length lent
lent_inside own lent name i e = found_inside lent name i (lent_found own lent name i e).1
