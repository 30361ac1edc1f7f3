-- A walk comes to what its trace comes to: the steps of the trace are the turns of the walk. So it is where each turn does what is checked there, and leads
-- on where that passes and is neither the last nor a fault (`NextStep`); and what every such step keeps holds where the walk ends.
-- Assumes nothing.
use mathlib.Core.List.{List, [], ◌++◌}
use mathlib.Core.Path.{◌≡◌, refl, sym, ap, ◌∙◌, subst}
use Prim.Native.Nat.{ℕ, ◌<◌}
use Rattle.events.proofs.Checks.{passed_is}
use Rattle.events.proofs.Walks.{walk_begins, walk_goes_on, walk_ends, EndsAt, walk_keeps}
use Rattle.std.proofs.Common.{Ok}
use Rattle.events.specs.Events.{Event, marks, blank, Ran, Check}
use Rattle.events.specs.Trace.{Trace, at_start, after_step, NextStep}
use Rattle.events.specs.Walk.{Turn, ends, leads, after, from}

module _ {S A : Type 0} (turn : S → List ℕ → Ran (Turn S A)) (last : S → A) (measure : S → ℕ)
    (falls : (s z : S) (map : List ℕ) → (turn s map).answer ≡ leads z → measure z < measure s) (p : List ℕ)
    (Step : S → List Event → S → List Event → Type 0) where
  -- where each step is a turn that leads on, a trace is as far as the walk comes
  module _ (steps : (y z : S) (es fs : List Event) → Step y es z fs → turn y (marks es p) ≡ record { answer = leads z; events = fs }) where
    so_far : {first s : S} {es : List Event} → Trace Step first s es
        → from turn last measure first p ≡ after es (from turn last measure s (marks es p))
    so_far {first} at_start = walk_begins turn last measure falls first p
    so_far {first} (after_step {y = y} {z = z} {es = es} {fs = fs} t x) =
        let e = steps y z es fs x in
        subst (λ (gs : List Event). from turn last measure first p ≡ after (es ++ gs) (from turn last measure z (marks (es ++ gs) p)))
        (ap (λ (o : Ran (Turn S A)). o.events) e)
        (walk_goes_on turn last measure falls (from turn last measure first p) es y p (so_far t) z (ap (λ (o : Ran (Turn S A)). o.answer) e))

    -- and the turn that ends it is the walk's last
    pub trace_ends : {first s : S} {es : List Event} → Trace Step first s es → (a : A) → (turn s (marks es p)).answer ≡ ends a
        → from turn last measure first p ≡ record { answer = a; events = es ++ (turn s (marks es p)).events }
    trace_ends {es = es} t a e = walk_ends turn last measure falls _ es _ p (so_far t) a e

  -- where each turn that leads on is a step, a walk has a trace to where it ends
  pub walk_traced : ((y z : S) (es : List Event) → (turn y (marks es p)).answer ≡ leads z → Step y es z (turn y (marks es p)).events)
      → (first : S) → EndsAt turn (Trace Step first) p (from turn last measure first p)
  walk_traced turns first =
      walk_keeps turn last measure falls (Trace Step first) p (λ y z es t e. after_step t (turns y z es e)) first at_start

-- ---- steps that are checked

module _ {S R : Type 0} (Onward : R → Type 0) (there : S → R) (checked : S → List ℕ → Ran Check) (stepped : S → R → S) where
  -- what stands at s passed, over a map, and led to z
  pub record Led (s : S) (map : List ℕ) (z : S) : Type 0 where
    pub found : R
    pub is : there s ≡ found
    pub on : Onward found
    pub passed : (checked s map).answer ≡ Ok tt
    pub to : stepped s found ≡ z

  -- turns by steps
  pub record BySteps {A : Type 0} (turn : S → List ℕ → Ran (Turn S A)) : Type 0 where
    pub does : (s : S) (map : List ℕ) → (turn s map).events ≡ (checked s map).events
    pub on : (s : S) (map : List ℕ) (r : R) → there s ≡ r → Onward r → (checked s map).answer ≡ Ok tt → (turn s map).answer ≡ leads (stepped s r)
    pub led : (s : S) (map : List ℕ) (z : S) → (turn s map).answer ≡ leads z → Led s map z

module _ {S R A : Type 0} {Onward : R → Type 0} {there : S → R} {checked : S → List ℕ → Ran Check} {stepped : S → R → S}
    {turn : S → List ℕ → Ran (Turn S A)} (by_steps : BySteps Onward there checked stepped turn) where
  -- a step is a turn that leads on
  step_turn : (y z : S) (es fs : List Event) → NextStep Onward there checked stepped y es z fs
      → turn y (marks es blank) ≡ record { answer = leads z; events = fs }
  step_turn y z es fs x =
      let p = marks es blank in
      let answer : (turn y p).answer ≡ leads z =
      by_steps.on y p _ refl x.onward (ap (λ (o : Ran Check). o.answer) x.passes) ∙ ap leads (sym x.leads_to) in
      ap (λ (t : Turn S A). record { answer = t; events = (turn y p).events }) answer
      ∙ ap (λ (gs : List Event). record { answer = leads z; events = gs }) (by_steps.does y p ∙ ap (λ (o : Ran Check). o.events) x.passes)

  -- and the other way round
  turn_step : (y z : S) (es : List Event) → (turn y (marks es blank)).answer ≡ leads z
      → NextStep Onward there checked stepped y es z (turn y (marks es blank)).events
  turn_step y z es e =
      let p = marks es blank in
      let l = by_steps.led y p z e in
      record {
        onward = subst Onward (sym l.is) l.on;
        passes = passed_is (checked y p) l.passed (sym (by_steps.does y p));
        leads_to = sym l.to ∙ ap (stepped y) (sym l.is);
      }

  module _ (last : S → A) (measure : S → ℕ) (falls : (s z : S) (map : List ℕ) → (turn s map).answer ≡ leads z → measure z < measure s) (first : S) where
    -- so a walk ends where its trace does
    pub steps_traced : EndsAt turn (Trace (NextStep Onward there checked stepped) first) blank (from turn last measure first blank)
    steps_traced = walk_traced turn last measure falls blank (NextStep Onward there checked stepped) turn_step first

    pub trace_answers : (s : S) (es : List Event) (a : A) → Trace (NextStep Onward there checked stepped) first s es
        → (turn s (marks es blank)).answer ≡ ends a
        → (from turn last measure first blank).answer ≡ a
    trace_answers s es a t e =
        ap (λ (o : Ran A). o.answer) (trace_ends turn last measure falls blank (NextStep Onward there checked stepped) step_turn t a e)

    -- where each step's events are those more that its state tells of
    module _ (told : S → List Event)
        (told_on : (s : S) (map : List ℕ) (r : R) → there s ≡ r → Onward r → (checked s map).answer ≡ Ok tt
        → told (stepped s r) ≡ told s ++ (checked s map).events)
        (P : S → Type 0)
        (keeps : (s : S) (r : R) → P s → there s ≡ r → Onward r → (checked s (marks (told s) blank)).answer ≡ Ok tt → P (stepped s r)) where
      -- a state that a walk has come to by its events, with P
      pub record Held (s : S) (es : List Event) : Type 0 where
        pub held : P s
        pub same : es ≡ told s

      held_on : (s z : S) (es : List Event) → Held s es → (turn s (marks es blank)).answer ≡ leads z → Held z (es ++ (turn s (marks es blank)).events)
      held_on s z es h e =
          let p = marks es blank in
          let l = by_steps.led s p z e in
          let passes = ap (λ (fs : List Event). (checked s (marks fs blank)).answer) (sym h.same) ∙ l.passed in
          rw (← l.to)
          (record {
            held = keeps s l.found h.held l.is l.on passes;
            same =
                ap (λ (fs : List Event). es ++ fs) (by_steps.does s p)
                ∙ ap (λ (fs : List Event). fs ++ (checked s p).events) h.same
                ∙ sym (told_on s p l.found l.is l.on l.passed);
          })

      -- what holds at the start, and is kept by every step over the map of the events so far, holds where the walk ends
      pub steps_keep : told first ≡ [] → P first → EndsAt turn Held blank (from turn last measure first blank)
      steps_keep none h = walk_keeps turn last measure falls Held blank held_on first (record { held = h; same = sym none })
