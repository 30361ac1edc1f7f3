-- The loop over the fields of a fixup record: one field after the other against the map that the fields before it left.
-- Assumes nothing.
use mathlib.Core.Bool.{Bool, true, false, not}
use mathlib.Core.List.{List, [], ◌∷◌, ◌++◌, append_assoc, append-nil}
use mathlib.Core.Path.{◌≡◌, refl, sym, ap, ◌∙◌}
use Prim.Native.Nat.{ℕ, ◌+◌}
use lib.Dec.{leb}
use Rattle.std.proofs.Common.{Ok, Err}
use Rattle.answer.specs.Checks.{need}
use Rattle.answer.specs.declared.Failure.{Failure}
use Rattle.answer.specs.declared.Fault.TheVariants.{FieldNotLoaded, AdjustedTwice}
use Rattle.events.proofs.Events.{reached_none, reached_more}
use Rattle.events.specs.Walk.{after}
use Rattle.events.specs.Events.{Event, mark_one, marks, Ran, Check, failed, passed, Reached, Did}
use Rattle.fields.specs.declared.Field.{Field}
use Rattle.words.specs.Runs.{part, contains}
use Rattle.pieces.proofs.Checks.{adjusting_all}
use Rattle.pieces.specs.AtBases.{adjusting}
use Rattle.pieces.specs.Pieces.{width, adjustment, adjustments}
use Rattle.pieces.specs.declared.Bases.{Bases}

-- the rest where a part passed, and nothing more where it failed
abbrev chain : Check → List Event → Ran Check → Ran Check
chain (Ok done) es rest = after es rest
chain (Err e) es rest = record { answer = Err e; events = es }

chain_needs : (c d : Bool) (at : ℕ) (e : Event) (rest : Ran Check)
    → need failed c FieldNotLoaded at (need failed d AdjustedTwice at (after (e ∷ []) rest))
    ≡ chain (need failed c FieldNotLoaded at (need failed d AdjustedTwice at (passed (e ∷ [])))).answer
    (need failed c FieldNotLoaded at (need failed d AdjustedTwice at (passed (e ∷ [])))).events rest
unfolding need
chain_needs true true at e rest = refl
chain_needs true false at e rest = refl
chain_needs false d at e rest = refl

-- one field of the definition's list (of one field alone it does not matter how far apart items stand)
one_field : (at step : ℕ) (b : Bases) (a n : ℕ) (f : Field) (fs : List Field) (p : List ℕ)
    → adjusting at step b a n (f ∷ fs) p
    ≡ chain (adjusting at 0 b a n (f ∷ []) p).answer (adjusting at 0 b a n (f ∷ []) p).events
    (adjusting (at + step) step b a n fs (mark_one (adjustment b a f) p))
unfolding adjusting
one_field at step b a n f fs p =
    chain_needs (leb (f.index + width f) n) (not (contains 3 (part p (a + f.index) (width f)))) at (adjustment b a f)
    (adjusting (at + step) step b a n fs (mark_one (adjustment b a f) p))

-- where the loop stands: it began with the fields all, whose items stand step apart from at₀ on, memory m₀ and the map p₀; rest are left, from at on
pub record Adjusting (at₀ step : ℕ) (b : Bases) (a n : ℕ) (write : Bool) (all : List Field) (m₀ p₀ : List ℕ) (at : ℕ) (rest : List Field)
    (m p : List ℕ) : Type 0 where
  pub es : List Event
  pub reached : Reached es write m₀ p₀ m p
  pub same : adjusting at₀ step b a n all p₀ ≡ after es (adjusting at step b a n rest p)

module _ {at₀ step : ℕ} {b : Bases} {a n : ℕ} {write : Bool} {all : List Field} {m₀ p₀ : List ℕ} where
  -- before the first field
  pub adjusting_none : {at : ℕ} → at ≡ at₀ → Adjusting at₀ step b a n write all m₀ p₀ at all m₀ p₀
  adjusting_none e =
      record { es = []; reached = reached_none write m₀ p₀; same = ap (λ (i : ℕ). adjusting i step b a n all p₀) (sym e) }

  -- (the program has the place of the field's item as a number i)
  module _ {at i : ℕ} {f : Field} {rest rest' : List Field} {m p m' p' : List ℕ} {r : Check} (left : rest ≡ f ∷ rest')
      (x : Adjusting at₀ step b a n write all m₀ p₀ at rest m p) (ei : i ≡ at) (di : Did Check (adjusting i 0 b a n (f ∷ []) p) write m p r m' p') where
    d : Did Check (adjusting at 0 b a n (f ∷ []) p) write m p r m' p'
    d = rw ei at di

    -- what the field did
    abbrev did : Ran Check
    did = adjusting at 0 b a n (f ∷ []) p

    -- what the fields after it do, over a map
    abbrev then : List ℕ → Ran Check
    then q = adjusting (at + step) step b a n rest' q

    one : adjusting at₀ step b a n all p₀ ≡ after x.es (chain r did.events (then (mark_one (adjustment b a f) p)))
    one =
        x.same
        ∙ ap (λ (fs : List Field). after x.es (adjusting at step b a n fs p)) left
        ∙ ap (after x.es) (one_field at step b a n f rest' p)
        ∙ ap (λ (c : Check). after x.es (chain c did.events (then (mark_one (adjustment b a f) p)))) (sym d.answer)

    -- after a field that passed the loop stands one field further
    pub adjusting_more : {at' : ℕ} → at' ≡ at + step → r ≡ Ok tt → Adjusting at₀ step b a n write all m₀ p₀ at' rest' m' p'
    unfolding marks adjustments
    adjusting_more i e =
        let es = did.events in
        let only : es ≡ adjustment b a f ∷ [] = adjusting_all at 0 b a n (f ∷ []) p (sym d.answer ∙ e) in
        let here : mark_one (adjustment b a f) p ≡ p' = sym (d.reached.map ∙ ap (λ (l : List Event). marks l p) only) in
        record {
          es = x.es ++ es;
          reached = reached_more x.es write m₀ p₀ m p m' p' _ r x.reached d;
          same =
              one
              ∙ ap (λ (c : Check). after x.es (chain c es (then (mark_one (adjustment b a f) p)))) e
              ∙ ap (λ (l : List ℕ). after x.es (after es (then l))) here
              ∙ ap (λ (l : List Event). record { answer = (then p').answer; events = l }) (sym (append_assoc x.es es (then p').events))
              ∙ ap (λ (j : ℕ). after (x.es ++ es) (adjusting j step b a n rest' p')) (sym i);
        }

    -- a field that failed ends it with its fault
    pub adjusting_fails : {e : Failure} → r ≡ Err e → Did Check (adjusting at₀ step b a n all p₀) write m₀ p₀ (Err e) m' p'
    adjusting_fails h =
        let y = reached_more x.es write m₀ p₀ m p m' p' _ r x.reached d in
        let z = one ∙ ap (λ (c : Check). after x.es (chain c did.events (then (mark_one (adjustment b a f) p)))) h in
        rw z (record { answer = refl; reached = y })

  -- where no field is left, all have passed
  pub adjusting_end : {at : ℕ} {rest : List Field} {m p : List ℕ} → rest ≡ [] → Adjusting at₀ step b a n write all m₀ p₀ at rest m p
      → Did Check (adjusting at₀ step b a n all p₀) write m₀ p₀ (Ok tt) m p
  unfolding adjusting
  adjusting_end {at} {rest} {m} {p} e x =
      let z : adjusting at₀ step b a n all p₀ ≡ record { answer = Ok tt; events = x.es } =
      x.same
      ∙ ap (λ (fs : List Field). after x.es (adjusting at step b a n fs p)) e
      ∙ ap (λ (l : List Event). record { answer = Ok tt; events = l }) (append-nil x.es) in
      rw z (record { answer = refl; reached = x.reached })
