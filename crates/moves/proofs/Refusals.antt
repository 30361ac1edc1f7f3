-- When a call is refused, with what, and what it then leaves, as specs/Outcomes.antt states it.
-- Assumes nothing.
use mathlib.Core.Bool.{Bool, true, false, false≢true}
use mathlib.Core.List.{List}
use mathlib.Core.Path.{◌≡◌, refl, sym, ap, ◌∙◌, subst}
use Prim.Native.Nat.{ℕ}
use native.Mathlib.Omega.{arith}
use borrow.Author.Tests.{leb-false}
use lib.Dec.{leb}
use lib.ListN.{length}
use Rattle.acx.specs.Walk.{Verdict, accepted, refused, report}
use Rattle.answer.proofs.Outcomes.{is_refused, fault_in}
use Rattle.answer.specs.Checks.{need, pick}
use Rattle.std.proofs.Common.{Ok, Err}
use Rattle.answer.specs.Report.{Outcome, refusal, number_of}
use Rattle.answer.specs.declared.Fault.{Fault}
use Rattle.answer.specs.declared.Fault.TheVariants.{WrongBuffer, SettingOutOfRange, FileTooLong}
use Rattle.events.specs.Events.{Ran}
use Rattle.events.specs.Sizes.{file_limit}
use Rattle.pieces.specs.Pieces.{Outline}
use Rattle.moves.proofs.Rulings.{refused_call}
use Rattle.moves.proofs.Sources.{found, accepted_as, refused_as, judged_refused, located_wrong, refused_sized, refused_range, refused_long, refused_located, range_refused, long_refused}
use Rattle.moves.specs.Call.{Call, sides, ruling_of, sized, ruling, outcome_by, outcome_of, map_after, scratch_after, Moved}
use Rattle.moves.specs.Outcomes.{RefusedMove, RefusesMove, at_old, at_new, OutOfRange, old, new, RefusalsClaim}
use Rattle.moves.specs.Sources.{judged_at, ranged, LocatedIn}

-- two refusals that are one have the same parts
same_parts : {f g : Fault} {i j k l : ℕ} (P : Fault → ℕ → ℕ → Type 0) → P f i j → refusal f i j ≡ refusal g k l → P g k l
same_parts P h e = subst Parts e h
  where
    Parts : Outcome → Type 0
    Parts (Ok counts) = Unit {0}
    Parts (Err why) = P why.fault why.offset why.side

module _ (c : Call) (m : List ℕ) where
  -- ---- the outcome, by the lengths and the two sides

  -- a length is wrong
  outcome_wrong : sized c m ≡ false → outcome_of c m ≡ refusal WrongBuffer 0 0
  unfolding outcome_of ruling need
  outcome_wrong h = rw h refl

  module _ (h : sized c m ≡ true) where
    -- all are right: the sides decide
    outcome_right : outcome_of c m ≡ outcome_by c.new (judged_at c.source c.new) (ruling_of c.source c.old c.new)
    unfolding outcome_of ruling need
    outcome_right = rw h refl

    -- a call is refused as a side is
    pub outcome_refused : (fault : Fault) (offset side : ℕ) → RefusesMove c fault offset side → outcome_of c m ≡ refusal fault offset side
    outcome_refused fault offset side (at_old k) =
        let n = judged_at c.source c.new in
        outcome_right ∙ ap (λ (v : Verdict Outline). outcome_by c.new n (sides v n.answer)) (judged_refused c.source c.old fault offset k)
    outcome_refused fault offset side (at_new {ps = ps} a k) =
        let n = judged_at c.source c.new in
        outcome_right
        ∙ ap (λ (v : Verdict Outline). outcome_by c.new n (sides v n.answer)) (found c.source ps c.old a).judged
        ∙ ap (λ (v : Verdict Outline). outcome_by c.new n (sides (accepted ps a.entry) v)) (judged_refused c.source c.new fault offset k)

    -- and only so
    refused_outcome : (fault : Fault) (offset side : ℕ) → outcome_of c m ≡ refusal fault offset side → RefusesMove c fault offset side
    refused_outcome fault offset side e = by (judged_at c.source c.old).answer n.answer refl refl (sym outcome_right ∙ e)
      where
        n : Ran (Verdict Outline)
        n = judged_at c.source c.new

        by : (u v : Verdict Outline) → (judged_at c.source c.old).answer ≡ u → n.answer ≡ v → outcome_by c.new n (sides u v) ≡ refusal fault offset side
            → RefusesMove c fault offset side
        by (refused f a) v eu ev e = same_parts (RefusesMove c) (at_old (refused_as c.source c.old f a eu)) e
        by (accepted ps entry) (refused f a) eu ev e =
            same_parts (RefusesMove c) (at_new (accepted_as c.source ps c.old entry eu) (refused_as c.source c.new f a ev)) e
        by (accepted ps entry) (accepted qs other) eu ev e =
            absurd (false≢true (ap (λ (v : Verdict Outline). is_refused (report c.new v n.events)) (sym ev) ∙ ap is_refused e))

-- ---- which fault it is

module _ (c : Call) where
  -- never a wrong length
  move_sized_lem : (fault : Fault) (offset side : ℕ) → RefusesMove c fault offset side → ¬ (fault ≡ WrongBuffer)
  move_sized_lem fault offset side (at_old k) = refused_sized c.source c.old fault offset k
  move_sized_lem fault offset side (at_new a k) = refused_sized c.source c.new fault offset k

  -- where it lies
  move_located : (fault : Fault) (offset side : ℕ) → RefusesMove c fault offset side
      → LocatedIn c.source.format (length c.source.bytes) fault offset
  move_located fault offset side (at_old k) = refused_located c.source c.old fault offset k
  move_located fault offset side (at_new a k) = refused_located c.source c.new fault offset k

  -- 2 for a setting out of its range
  move_range : (fault : Fault) (offset side : ℕ) → RefusesMove c fault offset side → fault ≡ SettingOutOfRange → OutOfRange c side
  move_range fault offset side (at_old k) e = old (refused_range c.source c.old fault offset k e)
  move_range fault offset side (at_new a k) e = new a (refused_range c.source c.new fault offset k e)

  range_moves : (side : ℕ) → OutOfRange c side → RefusesMove c SettingOutOfRange 0 side
  range_moves side (old h) = at_old (range_refused c.source c.old h)
  range_moves side (new a h) = at_new a (range_refused c.source c.new h)

  -- 3 for what is too long: at the old bases it was seen
  move_long : (fault : Fault) (offset side : ℕ) → RefusesMove c fault offset side → fault ≡ FileTooLong
      → (ranged c.source c.old ≡ true) × (leb (length c.source.bytes) file_limit ≡ false)
  move_long fault offset side (at_old k) e = refused_long c.source c.old fault offset k e
  move_long fault offset side (at_new {ps = ps} a k) e =
      ((found c.source ps c.old a).settings, (refused_long c.source c.new fault offset k e).1)

-- ---- what is left

module _ (c : Call) (m : List ℕ) (r : Outcome) (m' p' s' : List ℕ) (w : Moved c m r m' p' s') where
  -- whichever fault is not 1 came with the right lengths
  right_lengths : (fault : Fault) (offset side : ℕ) → r ≡ refusal fault offset side → ¬ (fault ≡ WrongBuffer) → sized c m ≡ true
  right_lengths fault offset side e n = by (sized c m) refl
    where
      by : (t : Bool) → sized c m ≡ t → sized c m ≡ true
      by true h = h
      by false h = absurd (n (ap fault_in (sym e ∙ w.outcome ∙ outcome_wrong c m h)))

  -- and 1 with a wrong one
  wrong_lengths : (fault : Fault) (offset side : ℕ) → r ≡ refusal fault offset side → fault ≡ WrongBuffer → sized c m ≡ false
  wrong_lengths fault offset side e f = by (sized c m) refl
    where
      by : (t : Bool) → sized c m ≡ t → sized c m ≡ false
      by true h = absurd (move_sized_lem c fault offset side (refused_outcome c m h fault offset side (sym w.outcome ∙ e)) f)
      by false h = h

  located : (fault : Fault) (offset side : ℕ) → r ≡ refusal fault offset side → LocatedIn c.source.format (length c.source.bytes) fault offset
  located fault offset side e = by (sized c m) refl
    where
      by : (t : Bool) → sized c m ≡ t → LocatedIn c.source.format (length c.source.bytes) fault offset
      by true h = move_located c fault offset side (refused_outcome c m h fault offset side (sym w.outcome ∙ e))
      by false h =
          same_parts (λ f i j. LocatedIn c.source.format (length c.source.bytes) f i) (located_wrong c.source.format (length c.source.bytes)) (sym (outcome_wrong c m h) ∙ sym w.outcome ∙ e)

  leaves : (fault : Fault) (offset side : ℕ) → r ≡ refusal fault offset side → RefusedMove c fault m m' p' s'
  unfolding map_after scratch_after pick
  leaves fault offset side e =
      record {
        memory = w.memory ∙ (refused_call c m (sym w.outcome ∙ e)).0;
        wrong_buffer = λ f.
            let h = wrong_lengths fault offset side e f in (w.map ∙ rw h refl, w.scratch ∙ rw h refl);
        other = λ n.
            let h = right_lengths fault offset side e n in (w.map ∙ rw h (refused_call c m (sym w.outcome ∙ e)).1, w.scratch ∙ rw h refl);
      }

-- every call
pub call_refusals : RefusalsClaim
call_refusals c m r m' p' s' w =
    record {
      wrong_buffer = λ h. w.outcome ∙ outcome_wrong c m h;
      wrong_buffer_only = λ offset side e. wrong_lengths c m r m' p' s' w WrongBuffer offset side e refl;
      out_of_range = λ h side o. w.outcome ∙ outcome_refused c m h SettingOutOfRange 0 side (range_moves c side o);
      out_of_range_only = λ offset side e.
          let h = right_lengths c m r m' p' s' w SettingOutOfRange offset side e (λ f. omega (arith, ap number_of f)) in
          (h, move_range c SettingOutOfRange offset side (refused_outcome c m h SettingOutOfRange offset side (sym w.outcome ∙ e)) refl);
      too_long = λ h i l. w.outcome ∙ outcome_refused c m h FileTooLong 0 0 (at_old (long_refused c.source c.old i (leb-false _ _ l)));
      too_long_only = λ offset side e.
          let h = right_lengths c m r m' p' s' w FileTooLong offset side e (λ f. omega (arith, ap number_of f)) in
          let l = move_long c FileTooLong offset side (refused_outcome c m h FileTooLong offset side (sym w.outcome ∙ e)) refl in
          (h, l.0, l.1);
      only = λ h fault offset side e. refused_outcome c m h fault offset side (sym w.outcome ∙ e);
      all = λ h fault offset side k. w.outcome ∙ outcome_refused c m h fault offset side k;
      located = located c m r m' p' s' w;
      leaves = leaves c m r m' p' s' w;
    }
