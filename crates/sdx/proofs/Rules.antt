-- The loader's definition accepts exactly the files that follow the rules, and refuses exactly where they are broken: specs/Rules.antt.
-- Assumes nothing.
use mathlib.Core.Bool.{Bool, true, false}
use mathlib.Core.List.{List, ◌++◌, append-nil}
use mathlib.Core.Path.{◌≡◌, refl, sym, ap, ◌∙◌, subst}
use Prim.Native.Nat.{ℕ, ◌≤◌}
use native.Mathlib.Omega.{arith}
use borrow.Author.Tests.{leb-true, leb-false, le-leb, lt-leb}
use lib.Dec.{leb}
use lib.ListN.{length}
use Rattle.std.proofs.Common.{Result, Ok, Err}
use Rattle.answer.specs.Checks.{failure, need}
use Rattle.answer.specs.declared.Failure.{Failure}
use Rattle.answer.specs.declared.Fault.{Fault}
use Rattle.answer.specs.declared.Fault.TheVariants.{SettingOutOfRange, FileTooLong, CutShort}
use Rattle.blocks.specs.Blocks.{amount_of}
use Rattle.blocks.specs.declared.Block.{Block}
use Rattle.blocks.specs.declared.Block.TheVariants.{Plain, Relocatable, Update, NewName}
use Rattle.effects.proofs.Ending.{applied_ends}
use Rattle.effects.specs.Effects.{applied}
use Rattle.events.proofs.Traces.{trace_ends, walk_traced}
use Rattle.events.proofs.Walks.{EndsAt}
use Rattle.events.specs.Events.{Event, marks, blank, Ran, Check}
use Rattle.events.specs.Trace.{Trace}
use Rattle.events.specs.Walk.{Turn, ends, leads, bytes_left}
use Rattle.passes.proofs.Turning.{Broke, turn_end, turn_block, turn_led, turn_finished, turn_refused, block_fits, turn_falls, refused_finished}
use Rattle.passes.specs.Walk.{Inputs, Progress, Verdict, finished, refused, judge, block_at, applied_at, carried, turn, blocks_from, begun, blocks_of}
use Rattle.updates.proofs.Rules.{by_rules as body_by_rules}
use Rattle.updates.proofs.Turning.{broken_done}
use Rattle.updates.specs.Bodies.{Stop, broken, done}
use Rattle.sdx.proofs.Calling.{judged, admitted, range_bounds}
use Rattle.sdx.specs.Call.{in_range, opening, opened, admitting, load}
use Rattle.sdx.specs.Rules.{Does, Breaks, NextBlock, Follows, Fails, in_opening, in_block, Accepts, Refuses, out_of_range, too_long, by_file, RulesClaim}

-- ---- one block

module _ (file : List ℕ) (g : Inputs) (y : Progress) (map : List ℕ) where
  -- what a block comes to
  abbrev comes : Block → Ran Stop
  comes found = applied file g.addresses y.addresses y.cursor (Ok found) map

  -- what is done has an end and events
  done_is : (o : Ran Stop) {end : ℕ} → o.answer ≡ done end → o ≡ record { answer = done end; events = o.events }
  done_is o e = ap (λ (s : Stop). record { answer = s; events = o.events }) e

  does_applied : (found : Block) (end : ℕ) (fs : List Event) → Does file g y map found end fs → comes found ≡ record { answer = done end; events = fs }
  does_applied (Plain address from size) end fs h = h
  does_applied (Relocatable reserves number offset from size) end fs h = h
  does_applied (Update source from) end fs h =
      (body_by_rules file y.cursor.table (amount_of y.cursor.table g.addresses y.addresses source) from map).follows end fs h
  does_applied (NewName from address) end fs h = h

  applied_does : (found : Block) (end : ℕ) → (comes found).answer ≡ done end → Does file g y map found end (comes found).events
  applied_does (Plain address from size) end e = done_is (comes (Plain address from size)) e
  applied_does (Relocatable reserves number offset from size) end e = done_is (comes (Relocatable reserves number offset from size)) e
  applied_does (Update source from) end e =
      (body_by_rules file y.cursor.table (amount_of y.cursor.table g.addresses y.addresses source) from map).follows_only end e
  applied_does (NewName from address) end e = done_is (comes (NewName from address)) e

  breaks_applied : (found : Block) (fault : Fault) (at : ℕ) → Breaks file g y map (Ok found) fault at → (comes found).answer ≡ broken fault at
  breaks_applied (Plain address from size) fault at h = absurd h
  breaks_applied (Relocatable reserves number offset from size) fault at h = absurd h
  breaks_applied (Update source from) fault at h =
      (body_by_rules file y.cursor.table (amount_of y.cursor.table g.addresses y.addresses source) from map).fails fault at h
  breaks_applied (NewName from address) fault at h = absurd h

  -- so it ends a walk, as what is no block does
  breaks_ends : (r : Result Block Failure) (fault : Fault) (at : ℕ) → Breaks file g y map r fault at
      → (carried file g y r map).answer ≡ ends (refused fault at y)
  unfolding applied_at
  breaks_ends (Ok found) fault at h = ap (judge file y found (comes found).events) (breaks_applied found fault at h)
  breaks_ends (Err e) fault at h =
      ap (λ (f : Fault). ends (refused f e.offset y)) (sym h.0) ∙ ap (λ (n : ℕ). ends (refused fault n y)) (sym h.1)

  applied_breaks : (found : Block) (fault : Fault) (at : ℕ) → (comes found).answer ≡ broken fault at → Breaks file g y map (Ok found) fault at
  applied_breaks (Plain address from size) fault at e = absurd (broken_done (sym e))
  applied_breaks (Relocatable true number offset from size) fault at e = absurd (broken_done (sym e))
  applied_breaks (Relocatable false number offset from size) fault at e = absurd (broken_done (sym e))
  applied_breaks (Update source from) fault at e =
      (body_by_rules file y.cursor.table (amount_of y.cursor.table g.addresses y.addresses source) from map).fails_only fault at e
  applied_breaks (NewName from address) fault at e = absurd (broken_done (sym e))

  broke_breaks : (r : Result Block Failure) (fault : Fault) (at : ℕ) → Broke file g y map fault at r → Breaks file g y map r fault at
  unfolding applied_at
  broke_breaks (Ok found) fault at h = applied_breaks found fault at h
  broke_breaks (Err e) fault at h = (sym h.0, sym h.1)

-- ---- the steps are the turns

module _ (file : List ℕ) (g : Inputs) (top : g.high ≤ 65535) where
  -- a block that is done is not at the file's end
  done_more : (y : Progress) {found : Block} → block_at file g y ≡ Ok found → (map : List ℕ) (end : ℕ)
      → (applied_at file g y (Ok found) map).answer ≡ done end
      → y.cursor.at ≡ length file
      → ⊥
  unfolding applied_at
  done_more y {found} is map end e at =
      let x = applied_ends file g.addresses y.addresses y.cursor (Ok found) map _ _ (block_fits file g top y is) end e in
      omega (arith, x.further, x.inside, at)

  step_turn : (y z : Progress) (es fs : List Event) → NextBlock file g y es z fs → turn file g y (marks es blank) ≡ record { answer = leads z; events = fs }
  unfolding applied_at
  step_turn y z es fs x =
      let p = marks es blank in
      let e : applied_at file g y (Ok x.found) p ≡ record { answer = done x.end; events = fs } = does_applied file g y p x.found x.end fs x.does in
      turn_block file g y p (done_more y x.is p x.end (ap (λ (o : Ran Stop). o.answer) e))
      ∙ ap (λ (r : Result Block Failure). carried file g y r p) x.is
      ∙ ap (λ (o : Ran Stop). record { answer = judge file y x.found o.events o.answer; events = o.events }) e
      ∙ ap (λ (w : Progress). record { answer = leads w; events = fs }) (sym x.leads_to)

  turn_step : (y z : Progress) (es : List Event) → (turn file g y (marks es blank)).answer ≡ leads z
      → NextBlock file g y es z (turn file g y (marks es blank)).events
  unfolding applied_at
  turn_step y z es e =
      let l = turn_led file g y (marks es blank) z e in
      rw l.events
      (record {
        found = l.found;
        is = l.read_as;
        end = l.next;
        does = applied_does file g y (marks es blank) l.found l.next l.done_at;
        leads_to = sym l.leads_to;
      })

  blocks_traced : EndsAt (turn file g) (Trace (NextBlock file g) (begun g)) blank (blocks_of file g)
  unfolding blocks_from
  blocks_traced =
      walk_traced (turn file g) (λ y. refused CutShort (length file) y) (λ y. bytes_left file y.cursor.at) (turn_falls file g top) blank (NextBlock file g) turn_step
      (begun g)

  trace_blocks : (y : Progress) (es : List Event) (v : Verdict) → Trace (NextBlock file g) (begun g) y es
      → (turn file g y (marks es blank)).answer ≡ ends v
      → blocks_of file g ≡ record { answer = v; events = es ++ (turn file g y (marks es blank)).events }
  unfolding blocks_from
  trace_blocks y es v t e =
      trace_ends (turn file g) (λ y. refused CutShort (length file) y) (λ y. bytes_left file y.cursor.at) (turn_falls file g top) blank (NextBlock file g) step_turn
      t v e

  -- ---- the file

  -- behind an opening that passes the blocks decide
  judged_blocks : opening file ≡ Ok tt → judged file g ≡ blocks_of file g
  unfolding judged
  judged_blocks o = ap (λ (c : Check). opened g c (blocks_of file g)) o

  pub follows_judged : (z : Progress) (es : List Event) → Follows file g z es → judged file g ≡ record { answer = finished z; events = es }
  follows_judged z es h =
      let t = turn_end file g z (marks es blank) h.ends in
      judged_blocks h.opens
      ∙ trace_blocks z es (finished z) h.blocks (ap (λ (o : Ran (Turn Progress Verdict)). o.answer) t)
      ∙ ap (λ (fs : List Event). record { answer = finished z; events = fs })
      (ap (λ (o : Ran (Turn Progress Verdict)). es ++ o.events) t ∙ append-nil es)

  pub followed : (z : Progress) → (judged file g).answer ≡ finished z → Follows file g z (judged file g).events
  unfolding judged
  followed z e = by (opening file) refl e
    where
      by : (c : Check) → opening file ≡ c → (opened g c (blocks_of file g)).answer ≡ finished z → Follows file g z (opened g c (blocks_of file g)).events
      by (Err failed) o f = absurd (refused_finished f)
      by (Ok passed) o f =
          let x = blocks_traced in
          let t = turn_finished file g x.state (marks x.before blank) z (x.answer ∙ ap ends f) in
          let es : (blocks_of file g).events ≡ x.before = x.events ∙ ap (λ (fs : List Event). x.before ++ fs) t.events ∙ append-nil x.before in
          rw (es, ← t.state) (record { opens = o; blocks = x.held; ends = t.at_end })

  pub fails_judged : (fault : Fault) (at : ℕ) (y : Progress) → Fails file g fault at y → (judged file g).answer ≡ refused fault at y
  unfolding judged
  fails_judged fault at y (in_opening o) = ap (λ (c : Check). (opened g c (blocks_of file g)).answer) o
  fails_judged fault at y (in_block {es = es} o t more b) =
      let p = marks es blank in
      ap (λ (q : Ran Verdict). q.answer)
      (judged_blocks o
      ∙ trace_blocks y es (refused fault at y) t
      (ap (λ (q : Ran (Turn Progress Verdict)). q.answer) (turn_block file g y p more)
      ∙ breaks_ends file g y p (block_at file g y) fault at b))

  pub failed : (fault : Fault) (at : ℕ) (y : Progress) → (judged file g).answer ≡ refused fault at y → Fails file g fault at y
  unfolding judged
  failed fault at y e = by (opening file) refl e
    where
      by : (c : Check) → opening file ≡ c → (opened g c (blocks_of file g)).answer ≡ refused fault at y → Fails file g fault at y
      by (Err d) o e =
          let k : d.fault ≡ fault = cc in
          let i : d.offset ≡ at = cc in
          let l : begun g ≡ y = cc in
          subst (Fails file g fault at) l
          (in_opening (o ∙ ap (λ (f : Fault). failure f d.offset) k ∙ ap (λ (n : ℕ). failure fault n) i))
      by (Ok passed) o e =
          let x = blocks_traced in
          let p = marks x.before blank in
          let t = turn_refused file g x.state p fault at y (x.answer ∙ ap ends e) in
          subst (Fails file g fault at) t.state
          (in_block o x.held t.more (broke_breaks file g x.state p (block_at file g x.state) fault at t.broke))

-- ---- a load

-- where the settings are in range and the file is not too long, the file decides
pub load_judged : (file : List ℕ) (g : Inputs) → in_range g ≡ true → length file ≤ 65536 → load file g ≡ judged file g
unfolding load judged admitting need
load_judged file g h k = rw (h, le-leb _ _ k) refl

module _ (file : List ℕ) (g : Inputs) where
  load_accepts : (z : Progress) (es : List Event) → Accepts file g z es → load file g ≡ record { answer = finished z; events = es }
  load_accepts z es h = load_judged file g h.settings h.fits ∙ follows_judged file g (range_bounds g h.settings).1 z es h.follows

  load_accepted : (z : Progress) → (load file g).answer ≡ finished z → Accepts file g z (load file g).events
  unfolding load
  load_accepted z e = by (admitting file g) refl e
    where
      by : (c : Check) → admitting file g ≡ c → (opened g c (blocks_of file g)).answer ≡ finished z → Accepts file g z (opened g c (blocks_of file g)).events
      by (Err failed) o f = absurd (refused_finished f)
      by (Ok passed) o f =
          let a = admitted file g o in
          let top = (range_bounds g a.settings).1 in
          let j = judged_blocks file g top a.opens in
          record {
            settings = a.settings;
            fits = a.fits;
            follows = subst (λ (q : Ran Verdict). Follows file g z q.events) j (followed file g top z (ap (λ (q : Ran Verdict). q.answer) j ∙ f));
          }

  load_refuses : (fault : Fault) (at : ℕ) (y : Progress) → Refuses file g fault at y → (load file g).answer ≡ refused fault at y
  unfolding load admitting need
  load_refuses fault at y (out_of_range h) = rw h refl
  load_refuses fault at y (too_long h k) = rw (h, lt-leb _ _ k) refl
  load_refuses fault at y (by_file h k f) =
      ap (λ (q : Ran Verdict). q.answer) (load_judged file g h k) ∙ fails_judged file g (range_bounds g h).1 fault at y f

  load_refused : (fault : Fault) (at : ℕ) (y : Progress) → (load file g).answer ≡ refused fault at y → Refuses file g fault at y
  unfolding load judged admitting need
  load_refused fault at y e = by (in_range g) (leb (length file) 65536) refl refl e
    where
      at_once : {f : Fault} → Refuses file g f 0 (begun g) → refused f 0 (begun g) ≡ refused fault at y → Refuses file g fault at y
      at_once {f} h e =
          let k : f ≡ fault = cc in
          let i : 0 ≡ at = cc in
          let l : begun g ≡ y = cc in
          subst (Refuses file g fault at) l
          (subst (λ (n : ℕ). Refuses file g fault n (begun g)) i (subst (λ (d : Fault). Refuses file g d 0 (begun g)) k h))

      by : (c d : Bool) → in_range g ≡ c → leb (length file) 65536 ≡ d
          → (opened g (need failure c SettingOutOfRange 0 (need failure d FileTooLong 0 (opening file))) (blocks_of file g)).answer ≡ refused fault at y
          → Refuses file g fault at y
      by true true h k e = by_file h (leb-true _ _ k) (failed file g (range_bounds g h).1 fault at y e)
      by true false h k e = at_once (too_long h (leb-false _ _ k)) e
      by false d h k e = at_once (out_of_range h) e

-- "accepted exactly if it follows the SpartaDOS X .. rules of document 01 and fits", and else refused where it breaks them first
pub by_rules : RulesClaim
by_rules file g =
    record {
      accepts = load_accepts file g;
      accepts_only = load_accepted file g;
      refuses = load_refuses file g;
      refuses_only = load_refused file g;
    }
