-- A search from the back of the whole names of a list: each that comes is the last of those left, so the first hit is the newest.
-- Assumes nothing.
use Rattle.std.proofs.Common.{◌≡◌, ◌≢◌, ℕ, zero, suc, ◌+◌, ◌*◌, ◌<◌, ◌/◌, Bool, true, false, List, [], ◌∷◌, length, refl, sym, ap, ◌∙◌, subst, arith, Option, Some, None, take, drop}
use Rattle.std.proofs.lemmas.List.{length_push, drop-drop}
use Rattle.std.proofs.lemmas.List.{take_all}
use Rattle.std.specs.Array.{IsFirstChunk}
use Rattle.std.specs.Fn.{Called}
use Rattle.std.specs.Iterator.{Yields, YieldsThen}
use Rattle.std.specs.List.{FoldsTo, push}
use Rattle.std.specs.Option.{MatchOption, IsSomeAnd}
use Rattle.std.specs.Simd.{first_chunks}
use Rattle.std.specs.Slice.Iter.{iter_rest, iter_steps_back}
use Rattle.std.specs.Bool.{⊤}
use denote.Param.Members.{Mut}
use denote.Ref.{Bor}
use Rattle.answer.specs.Checks.{pick}
use Rattle.words.specs.Runs.{part}
use Rattle.names.proofs.Searching.{same_is, same_refl}
use Rattle.names.specs.Names.{same, name_at, newest_of, newest}

-- the first eight bytes of eight are all
pub whole_name : (name : List ℕ) (o : Option (Bor (List ℕ))) (x : Bor (List ℕ)) → length name ≡ 8
    → MatchOption o (length name < 8) (λ y. IsFirstChunk name y.now 8) → o ≡ Some x → x.now ≡ name
whole_name name o x h m e = (subst (λ o. MatchOption o (length name < 8) (λ y. IsFirstChunk name y.now 8)) e m).same ∙ take_all 8 name (omega arith)

-- the last of two equal lists is the same, and so is what stands before it
same_push : {A : Type 0} (xs ys : List A) (x y : A) → push xs x ≡ push ys y → (xs ≡ ys) × (x ≡ y)
same_push [] [] x y e = (refl, cc)
same_push [] (b ∷ ys) x y e = absurd (omega (arith, ap length e, length_push ys y))
same_push (a ∷ xs) [] x y e = absurd (omega (arith, ap length e, length_push xs x))
same_push (a ∷ xs) (b ∷ ys) x y e = let h = same_push xs ys x y cc in let q = h.0 in let r = h.1 in (cc, h.1)

-- the last of the first names
last_name : (k : ℕ) (names : List ℕ) → first_chunks 8 (suc k) names ≡ push (first_chunks 8 k names) (name_at names k)
unfolding part
last_name zero names = refl
last_name (suc k) names =
    let at : 8 + 8 * k ≡ 8 * suc k = omega arith in
    ap (λ (l : List (List ℕ)). take 8 names ∷ l)
    (last_name k (drop 8 names) ∙ ap (λ (l : List ℕ). push (first_chunks 8 k (drop 8 names)) (take 8 l)) (drop-drop (8 * k) 8 names ∙ ap (λ (i : ℕ). drop i names) at))

-- how many there are
how_many : (k : ℕ) (names : List ℕ) → length (first_chunks 8 k names) ≡ k
how_many zero names = refl
how_many (suc k) names = ap suc (how_many k (drop 8 names))

-- a closure that says of each name whether it is the one
module _ {F : Type 0} (g : Mut F (Bor (List ℕ) × Unit {0}) Bool) (names name : List ℕ) (f : F)
    (yes : (x : Bor (List ℕ)) (q : F) → Called g f (x, tt) true q → x.now ≡ name)
    (no : (x : Bor (List ℕ)) (q : F) → Called g f (x, tt) false q → (q ≡ f) × (x.now ≢ name)) where
  -- a name that is the one decides it
  hit : (k : ℕ) (x : List ℕ) → x ≡ name_at names k → x ≡ name → newest_of (suc k) names name ≡ Some k
  unfolding newest_of pick
  hit k x e h = rw (← e, h, same_refl name)

  -- one that is not leaves it to the older ones
  miss : (k : ℕ) (x : List ℕ) → x ≡ name_at names k → x ≢ name → newest_of (suc k) names name ≡ newest_of k names name
  unfolding newest_of pick
  miss k x e h = by (same x name) refl
    where
      by : (t : Bool) → same x name ≡ t → newest_of (suc k) names name ≡ newest_of k names name
      by true s = absurd (h (same_is x name s))
      by false s = rw (← e, s)

  -- what comes after n misses among the first k names: the newest, or none
  abbrev Found : Option (Bor (List ℕ)) → ℕ → ℕ → Type 0
  Found o n k = MatchOption o (newest_of k names name ≡ None) (λ _. (i : ℕ) × (i + 1 + n ≡ k) × (newest_of k names name ≡ Some i))

  walk : (xs : List (Bor (List ℕ))) (s t u : _) (o : Option (Bor (List ℕ))) (p j : F) (k : ℕ) → iter_rest s ≡ first_chunks 8 k names
      → Yields iter_steps_back s xs t → iter_steps_back t o u → p ≡ f → FoldsTo (λ p x q. Called g p (x, tt) false q) p xs j
      → MatchOption o ⊤ (λ x. (h : F) × Called g j (x, tt) true h) → Found o (length xs) k
  unfolding newest_of
  walk [] s t u None p j k n ys st m fs h =
      let none : k ≡ 0 = omega (arith, how_many k names, ap length n, ap (λ w. length (iter_rest w)) ys, st.0) in rw none
  walk [] s t u (Some x) p j zero n ys st m fs h = absurd (omega (arith, ap length n, ap (λ w. length (iter_rest w)) ys, ap length st, length_push (iter_rest u) x.now))
  walk [] s t u (Some x) p j (suc k) n ys st m fs h =
      let e = same_push _ _ _ _ (sym st ∙ sym (ap iter_rest ys) ∙ n ∙ last_name k names) in
      (k, omega arith, hit k x.now e.1 (yes x h.0 (subst (λ p. Called g p (x, tt) true h.0) (sym fs ∙ m) h.1)))
  walk (x ∷ xs) s t u o p j zero n ys st m fs h = absurd (omega (arith, ap length n, ap length ys.1, length_push (iter_rest ys.0) x.now))
  walk (x ∷ xs) s t u o p j (suc k) n ys st m fs h =
      more o (walk xs ys.0 t u o fs.0 j k before.0 ys.2 st missed.0 fs.2 h)
    where
      before : (iter_rest ys.0 ≡ first_chunks 8 k names) × (x.now ≡ name_at names k)
      before = same_push _ _ _ _ (sym ys.1 ∙ n ∙ last_name k names)

      missed : (fs.0 ≡ f) × (x.now ≢ name)
      missed = no x fs.0 (subst (λ p. Called g p (x, tt) false fs.0) m fs.1)

      same_as : newest_of (suc k) names name ≡ newest_of k names name
      same_as = miss k x.now before.1 missed.1

      more : (o : Option (Bor (List ℕ))) → Found o (length xs) k → Found o (suc (length xs)) (suc k)
      more None d = same_as ∙ d
      more (Some y) d = (d.0, omega (arith, d.1), same_as ∙ d.2)

  -- what `rposition` finds
  pub finds_newest : (s u : _) (r : Option ℕ) (n : ℕ)
      → (xs : List (Bor (List ℕ))) × (o : Option (Bor (List ℕ))) × (j : F) × YieldsThen iter_steps_back s xs o u
      × FoldsTo (λ p x q. Called g p (x, tt) false q) f xs j
      × MatchOption o (r ≡ None) (λ x. IsSomeAnd r (λ i. i + 1 + length xs ≡ n) × ((h : F) × Called g j (x, tt) true h))
      → iter_rest s ≡ first_chunks 8 (length names / 8) names → n ≡ length names / 8 → r ≡ newest names name
  unfolding newest
  finds_newest s u r n d e m = ends d.1 d.5 (walk d.0 s d.3.0 u d.1 f d.2 _ e d.3.1 d.3.2 refl d.4 (calls d.1 d.5))
    where
      calls : (o : Option (Bor (List ℕ))) → MatchOption o (r ≡ None) (λ x. IsSomeAnd r (λ i. i + 1 + length d.0 ≡ n) × ((h : F) × Called g d.2 (x, tt) true h))
          → MatchOption o ⊤ (λ x. (h : F) × Called g d.2 (x, tt) true h)
      calls None c = tt
      calls (Some x) c = c.1

      ends : (o : Option (Bor (List ℕ))) → MatchOption o (r ≡ None) (λ x. IsSomeAnd r (λ i. i + 1 + length d.0 ≡ n) × ((h : F) × Called g d.2 (x, tt) true h))
          → Found o (length d.0) (length names / 8) → r ≡ newest_of (length names / 8) names name
      ends None c f = c ∙ sym f
      ends (Some x) c f = by r c.0
        where
          by : (q : Option ℕ) → IsSomeAnd q (λ i. i + 1 + length d.0 ≡ n) → q ≡ newest_of (length names / 8) names name
          by None h = absurd h
          by (Some i) h = let is : i ≡ f.0 = omega (arith, f.1, h, m) in ap Some is ∙ sym f.2
