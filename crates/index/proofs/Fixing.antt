-- The loop over the fixups of an entry: one after the other against the map that those before it left, up to the first that fails or whose kind is bad.
-- Assumes nothing.
use mathlib.Core.Bool.{Bool, true, false, not}
use mathlib.Core.List.{List, [], ◌∷◌, ◌++◌, append_assoc, append-nil}
use mathlib.Core.Path.{◌≡◌, refl, sym, ap, ◌∙◌, subst}
use Prim.Native.Nat.{ℕ, suc, ◌+◌, ◌*◌, ◌%◌, ◌<◌}
use native.Mathlib.Omega.{arith}
use borrow.Author.Tests.{eqb-true, eqb-false, eq-eqb, ne_eqb}
use lib.Dec.{leb, eqb}
use lib.ListN.{length, get_or, length-append}
use Rattle.std.proofs.Common.{Option, Some, None, Ok, Err}
use Rattle.answer.specs.Checks.{need, failure}
use Rattle.answer.specs.declared.Fault.{Fault}
use Rattle.answer.specs.declared.Fault.TheVariants.{FieldNotLoaded, AdjustedTwice, FixupUnsuited}
use Rattle.entries.proofs.Listing.{fixup_next}
use Rattle.entries.specs.Entries.{listed, joined, fields_to, all_suit}
use Rattle.events.proofs.Events.{marks_append, noted_none}
use Rattle.events.specs.Events.{Event, adjusted_mark, mark_one, marks, Ran, failed, passed, Noted, Check}
use Rattle.events.specs.Walk.{after, and_then}
use Rattle.fields.specs.declared.Field.{Field}
use Rattle.pieces.specs.AtBases.{adjusting}
use Rattle.pieces.specs.Pieces.{width, adjustment}
use Rattle.pieces.specs.declared.Bases.{Bases}
use Rattle.records.specs.Records.{type_of}
use Rattle.records.specs.declared.Kind.{Kind}
use Rattle.words.specs.Runs.{part, contains}
use Rattle.index.specs.Walk.{fixing}

-- ---- one fixup

-- the check behind the fields, whether k of them are all that m bytes list
abbrev whole : ℕ → ℕ → ℕ → Ran Check
whole at k m = need failed (eqb (3 * k) m) FixupUnsuited at (passed [])

-- three bytes more for a field more
whole_more : (at k m : ℕ) → whole at (suc k) (suc (suc (suc m))) ≡ whole at k m
whole_more at k m = ap (λ (t : Bool). need failed t FixupUnsuited at (passed [])) (by (eqb (3 * k) m) refl)
  where
    by : (t : Bool) → eqb (3 * k) m ≡ t → eqb (3 * suc k) (suc (suc (suc m))) ≡ eqb (3 * k) m
    by true h =
        let e = eqb-true (3 * k) m h in
        eq-eqb (3 * suc k) (suc (suc (suc m))) (omega arith) ∙ sym h
    by false h =
        let e = eqb-false (3 * k) m h in
        ne_eqb (3 * suc k) (suc (suc (suc m))) (λ f. e (omega arith)) ∙ sym h

-- the same check after more events
after_first : (p q : List ℕ) (e : Event) (r : Check) (es : List Event) (x : Ran Check)
    → and_then p r (e ∷ es) (λ _. x) ≡ after (e ∷ []) (and_then q r es (λ _. x))
after_first p q e (Ok done) es x = refl
after_first p q e (Err f) es x = refl

module _ (at : ℕ) (b : Bases) (a n : ℕ) where
  -- fields, and then the check
  abbrev fixed : List Field → ℕ → List ℕ → Ran Check
  fixed fs m p = and_then p (adjusting at 0 b a n fs p).answer (adjusting at 0 b a n fs p).events (λ _. whole at (length fs) m)

  field_first : (f : Field) (fs : List Field) (m : ℕ) (p : List ℕ)
      → fixed (f ∷ fs) (suc (suc (suc m))) p
      ≡ and_then p (adjusting at 0 b a n (f ∷ []) p).answer (adjusting at 0 b a n (f ∷ []) p).events (λ q. fixed fs m q)
  unfolding adjusting need marks
  field_first f fs m p = by (leb (f.index + width f) n) (not (contains adjusted_mark (part p (a + f.index) (width f))))
    where
      e : Event
      e = adjustment b a f

      rest : ℕ → Ran Check
      rest i = adjusting i 0 b a n fs (mark_one e p)

      many : Bool → Bool → Ran Check
      many c d = need failed c FieldNotLoaded at (need failed d AdjustedTwice at (after (e ∷ []) (rest (at + 0))))

      one : Bool → Bool → Ran Check
      one c d = need failed c FieldNotLoaded at (need failed d AdjustedTwice at (passed (e ∷ [])))

      by : (c d : Bool) → and_then p (many c d).answer (many c d).events (λ _. whole at (suc (length fs)) (suc (suc (suc m))))
          ≡ and_then p (one c d).answer (one c d).events (λ q. fixed fs m q)
      by true true =
          let z : at + 0 ≡ at = omega arith in
          ap (λ (i : ℕ). and_then p (rest i).answer (e ∷ (rest i).events) (λ _. whole at (suc (length fs)) (suc (suc (suc m))))) z
          ∙ ap (λ (x : Ran Check). and_then p (rest at).answer (e ∷ (rest at).events) (λ _. x)) (whole_more at (length fs) m)
          ∙ after_first p (mark_one e p) e (rest at).answer (rest at).events (whole at (length fs) m)
      by true false = refl
      by false d = refl

-- a fixup of the definition's list that suits, and those after it
module _ (at : ℕ) (b : Bases) (kind : Kind) (a n t i l : ℕ) (items p : List ℕ) where
  fixup_first : (f : Field) → listed kind (type_of t) i l ≡ Some f
      → fixing at b kind a n (t ∷ i ∷ l ∷ items) p
      ≡ and_then p (adjusting at 0 b a n (f ∷ []) p).answer (adjusting at 0 b a n (f ∷ []) p).events (λ q. fixing at b kind a n items q)
  unfolding fixing fields_to all_suit
  fixup_first f e =
      ap (λ (x : Option Field). fixed at b a n (joined x (fields_to kind items)) (suc (suc (suc (length items)))) p) e
      ∙ field_first at b a n f (fields_to kind items) (length items) p

  -- one that does not is at fault
  fixup_unsuited : listed kind (type_of t) i l ≡ None → fixing at b kind a n (t ∷ i ∷ l ∷ items) p ≡ failed FixupUnsuited at
  unfolding fixing fields_to all_suit adjusting need
  fixup_unsuited e =
      ap (λ (x : Option Field). fixed at b a n (joined x (fields_to kind items)) (suc (suc (suc (length items)))) p) e
      ∙ ap (λ (t : Bool). need failed t FixupUnsuited at (passed [])) (ne_eqb 0 (suc (suc (suc (length items)))) (λ f. omega arith))

-- none is left
fixups_none : (at : ℕ) (b : Bases) (kind : Kind) (a n : ℕ) (p : List ℕ) → fixing at b kind a n [] p ≡ passed []
unfolding fixing fields_to all_suit adjusting need
fixups_none at b kind a n p = refl

-- ---- an item

-- a part of the work, and then nothing, is that part
and_nothing : (p : List ℕ) (r : Check) (es : List Event) → and_then p r es (λ _. passed []) ≡ record { answer = r; events = es }
and_nothing p (Ok done) es = ap (λ (fs : List Event). record { answer = Ok tt; events = fs }) (append-nil es)
and_nothing p (Err f) es = refl

and_then_as : (p : List ℕ) (r : Check) (es : List Event) (f g : List ℕ → Ran Check) → ((q : List ℕ) → f q ≡ g q) → and_then p r es f ≡ and_then p r es g
and_then_as p (Ok done) es f g h = ap (after es) (h (marks es p))
and_then_as p (Err e) es f g h = refl

module _ (at : ℕ) (b : Bases) (kind : Kind) (a n t i l : ℕ) (p : List ℕ) where
  -- one that lists a field does what the field does
  one_field : (f : Field) → listed kind (type_of t) i l ≡ Some f → fixing at b kind a n (t ∷ i ∷ l ∷ []) p ≡ adjusting at 0 b a n (f ∷ []) p
  one_field f e =
      fixup_first at b kind a n t i l [] p f e
      ∙ and_then_as p _ _ _ _ (fixups_none at b kind a n)
      ∙ and_nothing p (adjusting at 0 b a n (f ∷ []) p).answer (adjusting at 0 b a n (f ∷ []) p).events

  -- and it comes before those after it
  fixing_first : (rest : List ℕ) → fixing at b kind a n (t ∷ i ∷ l ∷ rest) p
      ≡ and_then p (fixing at b kind a n (t ∷ i ∷ l ∷ []) p).answer (fixing at b kind a n (t ∷ i ∷ l ∷ []) p).events (λ q. fixing at b kind a n rest q)
  fixing_first rest = by (listed kind (type_of t) i l) refl
    where
      by : (o : Option Field) → listed kind (type_of t) i l ≡ o
          → fixing at b kind a n (t ∷ i ∷ l ∷ rest) p
          ≡ and_then p (fixing at b kind a n (t ∷ i ∷ l ∷ []) p).answer (fixing at b kind a n (t ∷ i ∷ l ∷ []) p).events (λ q. fixing at b kind a n rest q)
      by (Some f) e =
          fixup_first at b kind a n t i l rest p f e
          ∙ ap (λ (x : Ran Check). and_then p x.answer x.events (λ q. fixing at b kind a n rest q)) (sym (one_field f e))
      by None e =
          fixup_unsuited at b kind a n t i l rest p e
          ∙ ap (λ (x : Ran Check). and_then p x.answer x.events (λ q. fixing at b kind a n rest q)) (sym (fixup_unsuited at b kind a n t i l [] p e))

-- an item is its three bytes
item_is : (item : List ℕ) → length item ≡ 3 → item ≡ get_or item 0 0 ∷ get_or item 1 0 ∷ get_or item 2 0 ∷ []
item_is item three = fixup_next item item [] (sym (append-nil item)) three

module _ (at : ℕ) (b : Bases) (kind : Kind) (a n : ℕ) (item p : List ℕ) (three : length item ≡ 3) {o : Option Field}
    (is : o ≡ listed kind (type_of (get_or item 0 0)) (get_or item 1 0) (get_or item 2 0)) where
  -- a bad kind is its fault
  pub item_unsuited : o ≡ None → Noted Check (fixing at b kind a n item p) p (failure FixupUnsuited at) p
  item_unsuited e =
      subst (λ (x : Ran Check). Noted Check x p (failure FixupUnsuited at) p)
      (sym (ap (λ (l : List ℕ). fixing at b kind a n l p) (item_is item three) ∙ fixup_unsuited at b kind a n _ _ _ [] p (sym is ∙ e)))
      (noted_none _ p)

  -- or its field is marked
  pub item_marked : {f : Field} {r : Check} {p' : List ℕ} → o ≡ Some f → Noted Check (adjusting at 0 b a n (f ∷ []) p) p r p'
      → Noted Check (fixing at b kind a n item p) p r p'
  item_marked {f} {r} {p'} e d =
      subst (λ (x : Ran Check). Noted Check x p r p')
      (sym (ap (λ (l : List ℕ). fixing at b kind a n l p) (item_is item three) ∙ one_field at b kind a n _ _ _ p f (sym is ∙ e))) d

-- ---- the loop

-- behind an item whole ones are left
pub fixups_left : (items item rest : List ℕ) → items ≡ item ++ rest → length item ≡ 3 → length items % 3 ≡ 0 → length rest % 3 ≡ 0
fixups_left items item rest s three e =
    let l : length items ≡ length item + length rest = ap length s ∙ length-append item rest in
    omega (arith, l, three, e)

-- where it stands: it began with the items all and the map p₀, and has come to the items rest with the map p
pub record Fixing (at : ℕ) (b : Bases) (kind : Kind) (a n : ℕ) (all p₀ rest p : List ℕ) : Type 0 where
  pub es : List Event
  pub map : p ≡ marks es p₀
  pub same : fixing at b kind a n all p₀ ≡ after es (fixing at b kind a n rest p)

module _ {at : ℕ} {b : Bases} {kind : Kind} {a n : ℕ} {all p₀ : List ℕ} where
  -- before the first item
  pub fixing_none : Fixing at b kind a n all p₀ all p₀
  unfolding marks
  fixing_none = record { es = []; map = refl; same = refl }

  module _ {items : List ℕ} (item rest : List ℕ) {p : List ℕ} {r : Check} {p' : List ℕ} (s : items ≡ item ++ rest) (three : length item ≡ 3)
      (x : Fixing at b kind a n all p₀ items p) (d : Noted Check (fixing at b kind a n item p) p r p') where
    -- what the next item did, and what those after it do
    abbrev did : Ran Check
    did = fixing at b kind a n item p

    abbrev then : List ℕ → Ran Check
    then q = fixing at b kind a n rest q

    one : fixing at b kind a n all p₀ ≡ after x.es (and_then p r did.events then)
    one =
        x.same
        ∙ ap (λ (l : List ℕ). after x.es (fixing at b kind a n l p)) (fixup_next items item rest s three)
        ∙ ap (after x.es) (fixing_first at b kind a n _ _ _ p rest)
        ∙ ap (λ (l : List ℕ). after x.es (and_then p (fixing at b kind a n l p).answer (fixing at b kind a n l p).events then)) (sym (item_is item three))
        ∙ ap (λ (c : Check). after x.es (and_then p c did.events then)) (sym d.answer)

    now : p' ≡ marks (x.es ++ did.events) p₀
    now = d.map ∙ ap (marks did.events) x.map ∙ sym (marks_append x.es did.events p₀)

    -- after one that passed the loop stands one further
    pub fixing_more : r ≡ Ok tt → Fixing at b kind a n all p₀ rest p'
    fixing_more er =
        record {
          es = x.es ++ did.events;
          map = now;
          same =
              one
              ∙ ap (λ (c : Check). after x.es (and_then p c did.events then)) er
              ∙ ap (λ (q : List ℕ). after x.es (after did.events (then q))) (sym d.map)
              ∙ ap (λ (es : List Event). record { answer = (then p').answer; events = es }) (sym (append_assoc x.es did.events (then p').events));
        }

    -- one that failed ends it with its fault
    pub fixing_fails : {fault : Fault} {offset : ℕ} → r ≡ failure fault offset → Noted Check (fixing at b kind a n all p₀) p₀ (failure fault offset) p'
    fixing_fails er =
        let z = one ∙ ap (λ (c : Check). after x.es (and_then p c did.events then)) er in
        rw z (record { answer = refl; map = now })

  -- where none is left, all have passed
  pub fixing_end : {rest p : List ℕ} → length rest % 3 ≡ 0 → length rest < 3 → Fixing at b kind a n all p₀ rest p
      → Noted Check (fixing at b kind a n all p₀) p₀ (Ok tt) p
  fixing_end {rest = []} {p} e l x =
      let z : fixing at b kind a n all p₀ ≡ record { answer = Ok tt; events = x.es } =
      x.same
      ∙ ap (after x.es) (fixups_none at b kind a n p)
      ∙ ap (λ (es : List Event). record { answer = Ok tt; events = es }) (append-nil x.es) in
      rw z (record { answer = refl; map = x.map })
  fixing_end {rest = y ∷ ys} e l x = absurd (omega (arith, e, l))
