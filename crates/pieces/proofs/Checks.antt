-- The checks of one record, over plain values: what each comes to where it holds and where it fails. The functions' proofs cite these.
-- Assumes nothing.
use mathlib.Core.Bool.{Bool, true, false, not}
use mathlib.Core.List.{List, [], ◌∷◌}
use mathlib.Core.Path.{◌≡◌, refl, sym, ap, ◌∙◌}
use Prim.Native.Nat.{ℕ, ◌+◌, ◌-◌, ◌<◌, ◌≤◌}
use native.Mathlib.Omega.{arith}
use borrow.Author.Tests.{le-leb, lt-leb, leb-true}
use borrow.Rule.Slice.PartMut.{mid_of, put_mid}
use lib.Dec.{leb}
use lib.ListN.{length, replicate}
use Rattle.std.proofs.Common.{Ok, Err}
use Rattle.answer.specs.Checks.{need, failure}
use Rattle.answer.specs.declared.Failure.{Failure}
use Rattle.answer.specs.declared.Fault.{Fault}
use Rattle.answer.specs.declared.Fault.TheVariants.{DoesNotFit, PiecesOverlap, FieldNotLoaded, AdjustedTwice}
use Rattle.events.proofs.Checks.{need_passed, need_refused, passed_refused}
use Rattle.events.proofs.Events.{reached_none, noted_none, did_noted, length_run, filled}
use Rattle.events.specs.Events.{Event, place, play, placed_mark, adjusted_mark, mark_one, marks, Ran, Check, failed, passed, play_if, Noted, Did}
use Rattle.fields.specs.declared.Field.{Field}
use Rattle.records.specs.declared.Kind.{Kind}
use Rattle.records.specs.declared.Kind.TheVariants.{Main, ZeroPage, Absolute}
use Rattle.words.proofs.Lent.{lent_is, back_changed}
use Rattle.words.specs.Numbers.{on, change}
use Rattle.words.specs.Runs.{part, put, all_zero, contains}
use Rattle.pieces.specs.AtBases.{placing, adjusting}
use Rattle.pieces.specs.Places.{Inside}
use Rattle.pieces.specs.Pieces.{limit_of, width, amount_of, adjustment, adjustments}
use Rattle.pieces.specs.declared.Bases.{Bases}

-- ---- a part that was lent

-- a part of memory that a field was adjusted in
-- (the program has the field's width as a number k, and its amount as a number x)
pub added : (b : Bases) (a n : ℕ) (f : Field) (k x : ℕ) (m w : List ℕ) (write : Bool) → write ≡ true → k ≡ width f → x ≡ amount_of b f
    → a + n ≤ length m
    → Inside n f
    → w ≡ change k (on k x) (mid_of a (a + n - a) m) f.index → put_mid a (a + n - a) m w ≡ play_if write (adjustment b a f ∷ []) m
unfolding play
added b a n f k x m w write t ek ex h i e =
    let e' : w ≡ change (width f) (on (width f) x) (mid_of a (a + n - a) m) f.index = rw ek at e in
    rw t
    (back_changed (width f) (on (width f) x) a n m w f.index h i e'
    ∙ ap (λ (y : ℕ). change (width f) (on (width f) y) m (a + f.index)) ex)

-- ---- code

-- no limit is above memory
pub limit_le : (kind : Kind) → limit_of kind ≤ 65536
limit_le Main = omega arith
limit_le ZeroPage = omega arith
limit_le Absolute = omega arith

-- (the program has the code's length as a number n)
module _ (at a limit : ℕ) (code p : List ℕ) (n : ℕ) (en : n ≡ length code) where
  -- the end of its place is above the limit: 10
  pub placing_high : limit < a + n → Noted Check (placing at a limit code p) p (failure DoesNotFit at) p
  unfolding placing need
  placing_high h = let g : limit < a + length code = rw (← en) h in rw (lt-leb _ _ g) (noted_none _ p)

  -- an address is placed already: 17
  pub placing_taken : a + n ≤ limit → all_zero (mid_of a (a + n - a) p) ≡ false
      → Noted Check (placing at a limit code p) p (failure PiecesOverlap at) p
  unfolding placing need
  placing_taken h z =
      let g : a + length code ≤ limit = rw (← en) h in
      let y : all_zero (part p a (length code)) ≡ false = rw (lent_is a n p, en) at z in
      rw (le-leb _ _ g, y) (noted_none _ p)

  -- else it is marked
  pub placing_marked : (w : List ℕ) → a + n ≤ limit → a + n ≤ length p → all_zero (mid_of a (a + n - a) p) ≡ true
      → w ≡ replicate (length (mid_of a (a + n - a) p)) placed_mark
      → Noted Check (placing at a limit code p) p (Ok tt) (put_mid a (a + n - a) p w)
  unfolding placing need marks
  placing_marked w h l z ew =
      let g : a + length code ≤ limit = rw (← en) h in
      let y : all_zero (part p a (length code)) ≡ true = rw (lent_is a n p, en) at z in
      let e = filled a n placed_mark p w l ew in
      rw (le-leb _ _ g, y) (record { answer = refl; map = e ∙ ap (λ (j : ℕ). put p a (replicate j placed_mark)) en })

-- code that passed has room below its limit, found nothing placed there, and is placed
pub placing_passed : (at a limit : ℕ) (code p : List ℕ) → (placing at a limit code p).answer ≡ Ok tt
    → (a + length code ≤ limit) × (all_zero (part p a (length code)) ≡ true) × ((placing at a limit code p).events ≡ place a code ∷ [])
unfolding placing
placing_passed at a limit code p e =
    let x = need_passed _ _ _ _ e in
    let y = need_passed _ _ _ _ (ap (λ (o : Ran Check). o.answer) (sym x.1) ∙ e) in
    (leb-true _ _ x.0, y.0, ap (λ (o : Ran Check). o.events) (x.1 ∙ y.1))

-- of code that is refused nothing is placed
placing_none : {fault : Fault} {offset : ℕ} (at a limit : ℕ) (code p : List ℕ) → (placing at a limit code p).answer ≡ failure fault offset
    → (placing at a limit code p).events ≡ []
unfolding placing
placing_none at a limit code p e = need_refused _ _ _ _ (need_refused _ _ _ _ (passed_refused _)) e

-- only the length of code is looked at: two of one length are answered and marked alike
alike : (c d : Bool) (at a : ℕ) (x y p : List ℕ) (r : Check) (p' : List ℕ) → length x ≡ length y
    → Noted Check (need failed c DoesNotFit at (need failed d PiecesOverlap at (passed (place a x ∷ [])))) p r p'
    → Noted Check (need failed c DoesNotFit at (need failed d PiecesOverlap at (passed (place a y ∷ [])))) p r p'
unfolding need marks
alike true true at a x y p r p' e h =
    record { answer = h.answer; map = h.map ∙ ap (λ (k : ℕ). put p a (replicate k placed_mark)) e }
alike true false at a x y p r p' e h = h
alike false d at a x y p r p' e h = h

placing_alike : (at a limit : ℕ) (x y p : List ℕ) (r : Check) (p' : List ℕ) → length x ≡ length y → Noted Check (placing at a limit x p) p r p'
    → Noted Check (placing at a limit y p) p r p'
unfolding placing
placing_alike at a limit x y p r p' e h =
    alike (leb (a + length y) limit) (all_zero (part p a (length y))) at a x y p r p' e (rw e at h)

-- code whose bytes are marked before they are written
module _ (at a limit : ℕ) (code p : List ℕ) (r : Check) (p' : List ℕ)
    (x : Noted Check (placing at a limit (replicate (length code) 0) p) p r p') where
  marked : Noted Check (placing at a limit code p) p r p'
  marked = placing_alike at a limit (replicate (length code) 0) code p r p' (length_run (length code) 0) x

  -- where the marks are refused, nothing is written
  pub placing_refused : {write : Bool} {m : List ℕ} {e : Failure} → r ≡ Err e → Did Check (placing at a limit code p) write m p (Err e) m p'
  placing_refused {write} {m} h =
      did_noted marked h (placing_none at a limit code p (sym marked.answer ∙ h)) (reached_none write m p).memory

  -- else there is room, and with the code written it is placed
  pub placing_room : r ≡ Ok tt → a + length code ≤ limit
  placing_room e = (placing_passed at a limit code p (sym marked.answer ∙ e)).0

  pub placing_done : {write : Bool} {m m' : List ℕ} → r ≡ Ok tt → m' ≡ play_if write (place a code ∷ []) m
      → Did Check (placing at a limit code p) write m p (Ok tt) m' p'
  placing_done e h = did_noted marked e (placing_passed at a limit code p (sym marked.answer ∙ e)).2 h

-- ---- fields

-- (the program has the field's width as a number k)
module _ (at : ℕ) (b : Bases) (a n : ℕ) (f : Field) (p : List ℕ) (k : ℕ) (ek : k ≡ width f) where
  -- a byte of the field is not inside the record: 12
  pub adjusting_outside : n < f.index + k → Noted Check (adjusting at 0 b a n (f ∷ []) p) p (failure FieldNotLoaded at) p
  unfolding adjusting need
  adjusting_outside h = let g : n < f.index + width f = rw (← ek) h in rw (lt-leb _ _ g) (noted_none _ p)

  -- a byte was adjusted before: 13
  pub adjusting_twice : f.index + k ≤ n → contains adjusted_mark (mid_of (a + f.index) (a + f.index + k - (a + f.index)) p) ≡ true
      → Noted Check (adjusting at 0 b a n (f ∷ []) p) p (failure AdjustedTwice at) p
  unfolding adjusting need
  adjusting_twice h t =
      let g : f.index + width f ≤ n = rw (← ek) h in
      let u : contains adjusted_mark (part p (a + f.index) (width f)) ≡ true = rw (lent_is (a + f.index) k p, ek) at t in
      rw (le-leb _ _ g, u) (noted_none _ p)

  -- else the field is marked
  pub adjusting_marked : (w : List ℕ) → f.index + k ≤ n → a + f.index + k ≤ length p
      → contains adjusted_mark (mid_of (a + f.index) (a + f.index + k - (a + f.index)) p) ≡ false
      → w ≡ replicate (length (mid_of (a + f.index) (a + f.index + k - (a + f.index)) p)) adjusted_mark
      → Noted Check (adjusting at 0 b a n (f ∷ []) p) p (Ok tt) (put_mid (a + f.index) (a + f.index + k - (a + f.index)) p w)
  unfolding adjusting need marks
  adjusting_marked w h l t ew =
      let g : f.index + width f ≤ n = rw (← ek) h in
      let u : contains adjusted_mark (part p (a + f.index) (width f)) ≡ false = rw (lent_is (a + f.index) k p, ek) at t in
      let e = filled (a + f.index) k adjusted_mark p w l ew in
      rw (le-leb _ _ g, u)
      (record { answer = refl; map = e ∙ ap (λ (j : ℕ). put p (a + f.index) (replicate j adjusted_mark)) ek })

-- a field that passed lies in the code, has no byte that was adjusted before, and is adjusted before the others
pub adjusting_passed : (at step : ℕ) (b : Bases) (a n : ℕ) (f : Field) (fs : List Field) (p : List ℕ)
    → (adjusting at step b a n (f ∷ fs) p).answer ≡ Ok tt
    → (f.index + width f ≤ n) × (contains adjusted_mark (part p (a + f.index) (width f)) ≡ false)
    × ((adjusting (at + step) step b a n fs (mark_one (adjustment b a f) p)).answer ≡ Ok tt)
    × ((adjusting at step b a n (f ∷ fs) p).events ≡ adjustment b a f ∷ (adjusting (at + step) step b a n fs (mark_one (adjustment b a f) p)).events)
unfolding adjusting
adjusting_passed at step b a n f fs p e =
    let x = need_passed _ _ _ _ e in
    let e₁ = ap (λ (o : Ran Check). o.answer) (sym x.1) ∙ e in
    let y = need_passed _ _ _ _ e₁ in
    let e₂ = ap (λ (o : Ran Check). o.answer) (sym y.1) ∙ e₁ in (
      leb-true _ _ x.0,
      not_true (contains adjusted_mark (part p (a + f.index) (width f))) y.0,
      e₂,
      ap (λ (o : Ran Check). o.events)
          (x.1 ∙ y.1),
    )
  where
    not_true : (t : Bool) → not t ≡ true → t ≡ false
    not_true true h = sym h
    not_true false h = refl

-- all fields that passed are adjusted, in their order
pub adjusting_all : (at step : ℕ) (b : Bases) (a n : ℕ) (fs : List Field) (p : List ℕ) → (adjusting at step b a n fs p).answer ≡ Ok tt
    → (adjusting at step b a n fs p).events ≡ adjustments b a fs
unfolding adjustments
adjusting_all at step b a n [] p e = none
  where
    none : (adjusting at step b a n [] p).events ≡ []
    none = unfold adjusting in refl
adjusting_all at step b a n (f ∷ fs) p e =
    let x = adjusting_passed at step b a n f fs p e in
    x.3 ∙ ap (λ (es : List Event). adjustment b a f ∷ es) (adjusting_all (at + step) step b a n fs (mark_one (adjustment b a f) p) x.2)

-- of a field that is refused nothing is adjusted
adjusting_nothing : {fault : Fault} {offset : ℕ} (at : ℕ) (b : Bases) (a n : ℕ) (f : Field) (p : List ℕ)
    → (adjusting at 0 b a n (f ∷ []) p).answer ≡ failure fault offset
    → (adjusting at 0 b a n (f ∷ []) p).events ≡ []
unfolding adjusting
adjusting_nothing at b a n f p e = need_refused _ _ _ _ (need_refused _ _ _ _ (passed_refused _)) e

-- a field that is marked before it is written
module _ (at : ℕ) (b : Bases) (a n : ℕ) (f : Field) (p : List ℕ) (r : Check) (p' : List ℕ)
    (x : Noted Check (adjusting at 0 b a n (f ∷ []) p) p r p') where
  -- where the marks are refused, nothing is written
  pub adjusting_refused : {write : Bool} {m : List ℕ} {e : Failure} → r ≡ Err e → Did Check (adjusting at 0 b a n (f ∷ []) p) write m p (Err e) m p'
  adjusting_refused {write} {m} h =
      did_noted x h (adjusting_nothing at b a n f p (sym x.answer ∙ h)) (reached_none write m p).memory

  -- else it lies inside, and with the field written it is adjusted
  pub adjusting_inside : r ≡ Ok tt → Inside n f
  adjusting_inside e = (adjusting_passed at 0 b a n f [] p (sym x.answer ∙ e)).0

  pub adjusting_done : {write : Bool} {m m' : List ℕ} → r ≡ Ok tt → m' ≡ play_if write (adjustment b a f ∷ []) m
      → Did Check (adjusting at 0 b a n (f ∷ []) p) write m p (Ok tt) m' p'
  unfolding adjustments
  adjusting_done e h = did_noted x e (adjusting_all at 0 b a n (f ∷ []) p (sym x.answer ∙ e)) h
