-- Turns told apart. Walks whose turns bring a measure down: the count of turns does not matter, what a turn does comes before what the walk from
-- its next state does, and what every turn keeps holds at the end.
-- Assumes nothing.
use mathlib.Core.List.{List, [], ◌++◌, append_assoc}
use mathlib.Core.Path.{◌≡◌, refl, sym, ap, ◌∙◌}
use Prim.Native.Nat.{ℕ, zero, suc, ◌<◌}
use native.Mathlib.Omega.{arith}
use Rattle.events.proofs.Events.{marks_append}
use Rattle.events.specs.Events.{Event, marks, Ran}
use Rattle.events.specs.Walk.{Turn, ends, leads, after, onward, walk, from}

-- ---- turns told apart

module _ {S A : Type 0} where
  pub ends_leads : {a : A} {z : S} → ◌≡◌ {A = Turn S A} (ends a) (leads z) → ⊥
  ends_leads e = let n : ◌≡◌ {A = ℕ} 0 1 = cc in omega arith

  pub leads_same : {s z : S} → ◌≡◌ {A = Turn S A} (leads s) (leads z) → s ≡ z
  leads_same e = cc

  pub ends_same : {a b : A} → ◌≡◌ {A = Turn S A} (ends a) (ends b) → a ≡ b
  ends_same e = cc

-- ---- turn after turn

module _ {S A : Type 0} (turn : S → List ℕ → Ran (Turn S A)) (last : S → A) (measure : S → ℕ)
    (falls : (s z : S) (map : List ℕ) → (turn s map).answer ≡ leads z → measure z < measure s) where
  -- two ways to go on that agree below a measure
  onward_same : (go go' : S → List ℕ → Ran A) (s : S) (map : List ℕ) (t : Turn S A) → (turn s map).answer ≡ t
      → ((z : S) (p : List ℕ) → measure z < measure s → go z p ≡ go' z p)
      → onward go map (turn s map).events t ≡ onward go' map (turn s map).events t
  onward_same go go' s map (ends a) e h = refl
  onward_same go go' s map (leads z) e h =
      ap (λ (o : Ran A). after (turn s map).events o) (h z (marks (turn s map).events map) (falls s z map e))

  -- a count above the measure is enough
  enough : (j k : ℕ) (s : S) (map : List ℕ) → measure s < j → measure s < k → walk turn last j s map ≡ walk turn last k s map
  unfolding walk
  enough zero k s map h i = absurd (omega arith)
  enough (suc j) zero s map h i = absurd (omega arith)
  enough (suc j) (suc k) s map h i =
      onward_same (λ z p. walk turn last j z p) (λ z p. walk turn last k z p) s map (turn s map).answer refl
      (λ z p l. enough j k z p (omega arith) (omega arith))

  -- a walk: its first turn decides, and those after it go on from where it leads
  pub from_turn : (s : S) (map : List ℕ)
      → from turn last measure s map
      ≡ onward (λ z p. from turn last measure z p) map (turn s map).events (turn s map).answer
  unfolding from walk
  from_turn s map =
      onward_same (λ z p. walk turn last (measure s) z p) (λ z p. walk turn last (suc (measure z)) z p) s map (turn s map).answer refl
      (λ z p l. enough (measure s) (suc (measure z)) z p l (omega arith))

  -- ---- a walk that has come to a state, after some events

  pub walk_begins : (s : S) (p : List ℕ) → from turn last measure s p ≡ after [] (from turn last measure s (marks [] p))
  unfolding marks
  walk_begins s p = refl

  module _ (o : Ran A) (es : List Event) (s : S) (p : List ℕ) (so_far : o ≡ after es (from turn last measure s (marks es p))) where
    -- its next turn leads on
    pub walk_goes_on : (z : S) → (turn s (marks es p)).answer ≡ leads z
        → o ≡ after (es ++ (turn s (marks es p)).events) (from turn last measure z (marks (es ++ (turn s (marks es p)).events) p))
    walk_goes_on z e =
        let fs = (turn s (marks es p)).events in
        so_far
        ∙ ap (λ (r : Ran A). after es r)
        (from_turn s (marks es p) ∙ ap (λ (t : Turn S A). onward (λ z q. from turn last measure z q) (marks es p) fs t) e)
        ∙ ap (λ (q : List ℕ). after es (after fs (from turn last measure z q))) (sym (marks_append es fs p))
        ∙ ap (λ (gs : List Event). record { answer = (from turn last measure z (marks (es ++ fs) p)).answer; events = gs })
        (sym (append_assoc es fs (from turn last measure z (marks (es ++ fs) p)).events))

    -- or ends it
    pub walk_ends : (a : A) → (turn s (marks es p)).answer ≡ ends a → o ≡ record { answer = a; events = es ++ (turn s (marks es p)).events }
    walk_ends a e =
        let fs = (turn s (marks es p)).events in
        so_far
        ∙ ap (λ (r : Ran A). after es r)
        (from_turn s (marks es p) ∙ ap (λ (t : Turn S A). onward (λ z q. from turn last measure z q) (marks es p) fs t) e)

-- ---- what every turn keeps

-- a walk ended at a state of which P holds, after the events before its last turn
pub record EndsAt {S A : Type 0} (turn : S → List ℕ → Ran (Turn S A)) (P : S → List Event → Type 0) (p : List ℕ) (o : Ran A) : Type 0 where
  pub state : S
  pub before : List Event
  pub held : P state before
  pub answer : (turn state (marks before p)).answer ≡ ends o.answer
  pub events : o.events ≡ before ++ (turn state (marks before p)).events

module _ {S A : Type 0} (turn : S → List ℕ → Ran (Turn S A)) (last : S → A) (measure : S → ℕ)
    (falls : (s z : S) (map : List ℕ) → (turn s map).answer ≡ leads z → measure z < measure s)
    (P : S → List Event → Type 0) (p : List ℕ)
    (keeps : (s z : S) (es : List Event) → P s es → (turn s (marks es p)).answer ≡ leads z → P z (es ++ (turn s (marks es p)).events)) where
  held_from : (k : ℕ) (o : Ran A) (s : S) (es : List Event) → measure s < k → P s es → o ≡ after es (from turn last measure s (marks es p))
      → EndsAt turn P p o
  held_from zero o s es h held so_far = absurd (omega arith)
  held_from (suc k) o s es h held so_far =
      by (turn s (marks es p)).answer refl
      (λ z e. held_from k o z (es ++ (turn s (marks es p)).events) (omega (arith, falls s z (marks es p) e)) (keeps s z es held e)
      (walk_goes_on turn last measure falls o es s p so_far z e))
    where
      by : (t : Turn S A) → (turn s (marks es p)).answer ≡ t → ((z : S) → (turn s (marks es p)).answer ≡ leads z → EndsAt turn P p o)
          → EndsAt turn P p o
      by (ends a) e go =
          let f = walk_ends turn last measure falls o es s p so_far a e in
          record {
            state = s;
            before = es;
            held = held;
            answer = e ∙ ap (λ (r : Ran A). ends r.answer) (sym f);
            events = ap (λ (r : Ran A). r.events) f;
          }
      by (leads z) e go = go z e

  -- what holds at the start, and is kept by every turn that leads on, holds where the walk ends
  pub walk_keeps : (s : S) → P s [] → EndsAt turn P p (from turn last measure s p)
  walk_keeps s held = held_from (suc (measure s)) _ s [] (omega arith) held (walk_begins turn last measure falls s p)
