-- A body comes to exactly what its items come to, one after another: specs/Rules.antt.
-- Assumes nothing.
use mathlib.Core.List.{List, [], ◌++◌, append-nil}
use mathlib.Core.Path.{◌≡◌, refl, sym, ap, ◌∙◌}
use Prim.Native.Nat.{ℕ}
use lib.ListN.{length}
use Rattle.std.proofs.Common.{Option, Result, Ok, Err}
use Rattle.answer.specs.Checks.{failure}
use Rattle.answer.specs.declared.Failure.{Failure}
use Rattle.answer.specs.declared.Fault.{Fault}
use Rattle.answer.specs.declared.Fault.TheVariants.{CutShort}
use Rattle.events.proofs.Checks.{passed_is, failed_passed}
use Rattle.events.proofs.Traces.{trace_ends, walk_traced}
use Rattle.events.proofs.Walks.{ends_leads, leads_same, ends_same, EndsAt}
use Rattle.events.specs.Events.{Event, marks, Ran, Check}
use Rattle.events.specs.Trace.{Trace}
use Rattle.events.specs.Walk.{Turn, ends, leads, bytes_left}
use Rattle.items.specs.declared.Item.{Item}
use Rattle.items.specs.declared.Item.TheVariants.{End, Move, Adjust}
use Rattle.items.specs.declared.Slot.{Slot}
use Rattle.updates.proofs.Turning.{turn_falls, broken_done, done_same}
use Rattle.updates.specs.Bodies.{carried, BodyState, Stop, broken, done, judge, turn, items, begun, body}
use Rattle.updates.specs.Rules.{item_at, LeadsTo, NextItem, FollowsBody, FailsBody, RulesClaim}

-- ---- where an item leads

judge_on : (item : Result Item Failure) (z : BodyState) → LeadsTo item z → judge (Ok tt) item ≡ leads z
judge_on (Err e) z h = absurd h
judge_on (Ok (End next)) z h = absurd h
judge_on (Ok (Move counter next)) z h = ap leads (sym h)
judge_on (Ok (Adjust counter next)) z h = ap leads (sym h)

judge_led : (c : Check) (item : Result Item Failure) (z : BodyState) → judge c item ≡ leads z → (c ≡ Ok tt) × LeadsTo item z
judge_led (Err f) item z e = absurd (ends_leads e)
judge_led (Ok passed) (Err f) z e = absurd (ends_leads e)
judge_led (Ok passed) (Ok (End next)) z e = absurd (ends_leads e)
judge_led (Ok passed) (Ok (Move counter next)) z e = (refl, sym (leads_same e))
judge_led (Ok passed) (Ok (Adjust counter next)) z e = (refl, sym (leads_same e))

judge_done : (c : Check) (item : Result Item Failure) (end : ℕ) → judge c item ≡ ends (done end) → item ≡ Ok (End end)
judge_done (Err f) item end e = absurd (broken_done (ends_same e))
judge_done (Ok passed) (Err f) end e = absurd (broken_done (ends_same e))
judge_done (Ok passed) (Ok (End next)) end e = ap (λ (n : ℕ). Ok (End n)) (done_same (ends_same e))
judge_done (Ok passed) (Ok (Move counter next)) end e = absurd (ends_leads (sym e))
judge_done (Ok passed) (Ok (Adjust counter next)) end e = absurd (ends_leads (sym e))

-- the check at which a body broke
abbrev failure_in : Stop → Check
failure_in (broken fault offset) = failure fault offset
failure_in (done next) = Ok tt

-- a broken item did not pass
judge_broken : (at amount : ℕ) (map : List ℕ) (c : Check) (item : Result Item Failure) (fault : Fault) (offset : ℕ) → (carried at amount item map).answer ≡ c
    → judge c item ≡ ends (broken fault offset) → c ≡ failure fault offset
judge_broken at amount map (Err f) item fault offset i e =
    let k : broken f.fault f.offset ≡ broken fault offset = ends_same e in
    ap failure_in k
judge_broken at amount map (Ok passed) (Err f) fault offset i e = absurd (failed_passed i)
judge_broken at amount map (Ok passed) (Ok (End next)) fault offset i e = absurd (broken_done (sym (ends_same e)))
judge_broken at amount map (Ok passed) (Ok (Move counter next)) fault offset i e = absurd (ends_leads (sym e))
judge_broken at amount map (Ok passed) (Ok (Adjust counter next)) fault offset i e = absurd (ends_leads (sym e))

module _ (file : List ℕ) (table : List (Option Slot)) (amount : ℕ) (p : List ℕ) where
  -- ---- the steps are the turns

  step_turn : (y z : BodyState) (es fs : List Event) → NextItem file table amount p y es z fs
      → turn file table amount y (marks es p) ≡ record { answer = leads z; events = fs }
  unfolding turn
  step_turn y z es fs x =
      ap (λ (o : Ran Check). record { answer = judge o.answer (item_at file table y); events = o.events }) x.passes
      ∙ ap (λ (t : Turn BodyState Stop). record { answer = t; events = fs }) (judge_on (item_at file table y) z x.leads_to)

  turn_step : (y z : BodyState) (es : List Event) → (turn file table amount y (marks es p)).answer ≡ leads z
      → NextItem file table amount p y es z (turn file table amount y (marks es p)).events
  unfolding turn
  turn_step y z es e =
      let l = judge_led _ (item_at file table y) z e in
      record { passes = passed_is (carried y.at amount (item_at file table y) (marks es p)) l.0 refl; leads_to = l.1 }

  module _ (at : ℕ) where
    body_traced : EndsAt (turn file table amount) (Trace (NextItem file table amount p) (begun at)) p (body file table amount at p)
    unfolding items
    body_traced =
        walk_traced (turn file table amount) (λ z. broken CutShort (length file)) (λ z. bytes_left file z.at) (turn_falls file table amount) p
        (NextItem file table amount p) turn_step (begun at)

    trace_body : (s : BodyState) (es : List Event) (a : Stop) → Trace (NextItem file table amount p) (begun at) s es
        → (turn file table amount s (marks es p)).answer ≡ ends a
        → body file table amount at p ≡ record { answer = a; events = es ++ (turn file table amount s (marks es p)).events }
    unfolding items
    trace_body s es a t e =
        trace_ends (turn file table amount) (λ z. broken CutShort (length file)) (λ z. bytes_left file z.at) (turn_falls file table amount) p
        (NextItem file table amount p) step_turn t a e

    -- ---- both ways

    -- at its FC a body does nothing more
    turn_end : (s : BodyState) (es : List Event) (end : ℕ) → item_at file table s ≡ Ok (End end)
        → turn file table amount s (marks es p) ≡ record { answer = ends (done end); events = [] }
    unfolding turn
    turn_end s es end i = rw i refl

    follows_body : (end : ℕ) (es : List Event) → FollowsBody file table amount at p end es
        → body file table amount at p ≡ record { answer = done end; events = es }
    follows_body end es h =
        let t = turn_end h.last es end h.is in
        trace_body h.last es (done end) h.items (ap (λ (o : Ran (Turn BodyState Stop)). o.answer) t)
        ∙ ap (λ (fs : List Event). record { answer = done end; events = fs })
        (ap (λ (o : Ran (Turn BodyState Stop)). es ++ o.events) t ∙ append-nil es)

    followed_body : (end : ℕ) → (body file table amount at p).answer ≡ done end
        → FollowsBody file table amount at p end (body file table amount at p).events
    unfolding turn
    followed_body end e =
        let x = body_traced in
        let i = judge_done (carried x.state.at amount (item_at file table x.state) (marks x.before p)).answer (item_at file table x.state) end (x.answer ∙ ap ends e) in
        let none = turn_end x.state x.before end i in
        let es : (body file table amount at p).events ≡ x.before =
        x.events ∙ ap (λ (o : Ran (Turn BodyState Stop)). x.before ++ o.events) none ∙ append-nil x.before in
        rw es (record { last = x.state; items = x.held; is = i })

    fails_body : (fault : Fault) (offset : ℕ) → FailsBody file table amount at p fault offset → (body file table amount at p).answer ≡ broken fault offset
    unfolding turn
    fails_body fault offset h =
        ap (λ (o : Ran Stop). o.answer)
        (trace_body h.last h.events (broken fault offset) h.items (ap (λ (c : Check). judge c (item_at file table h.last)) h.fails))

    failed_body : (fault : Fault) (offset : ℕ) → (body file table amount at p).answer ≡ broken fault offset → FailsBody file table amount at p fault offset
    unfolding turn
    failed_body fault offset e =
        let x = body_traced in
        record {
          last = x.state;
          events = x.before;
          items = x.held;
          fails = judge_broken x.state.at amount (marks x.before p) _ (item_at file table x.state) fault offset refl (x.answer ∙ ap ends e);
        }

pub by_rules : RulesClaim
by_rules file table amount at p =
    record {
      follows = follows_body file table amount p at;
      follows_only = followed_body file table amount p at;
      fails = fails_body file table amount p at;
      fails_only = failed_body file table amount p at;
    }
