-- A call of the mover over plain values: the two loads that only check, and what follows from their ruling.
-- Assumes nothing.
use mathlib.Core.Bool.{true, false, false≢true}
use mathlib.Core.List.{List}
use mathlib.Core.Path.{◌≡◌, refl, sym, ap, ◌∙◌, subst}
use Prim.Native.Nat.{ℕ, ◌≤◌}
use borrow.Author.Tests.{eq-eqb, ne_eqb}
use lib.ListN.{length}
use Rattle.acx.specs.Call.{load}
use Rattle.pieces.specs.Pieces.{Outline}
use Rattle.acx.specs.Walk.{Verdict, accepted, refused, report, reported}
use Rattle.pieces.specs.declared.Bases.{Bases}
use Rattle.answer.proofs.Outcomes.{is_refused}
use Rattle.answer.specs.Checks.{need, pick}
use Rattle.answer.specs.declared.Fault.TheVariants.{WrongBuffer}
use Rattle.answer.specs.Report.{Outcome, refusal}
use Rattle.answer.specs.declared.Acceptance.{Acceptance}
use Rattle.answer.specs.declared.Refusal.{Refusal}
use Rattle.std.proofs.Common.{Ok, Err}
use Rattle.std.specs.Result.{is_err}
use Rattle.events.specs.Events.{blank, Ran, Noted, Did}
use Rattle.index.specs.Walk.{indexed}
use Rattle.moves.proofs.Rulings.{both, ranges, refused_leaves}
use Rattle.moves.proofs.Sources.{report_same, reports_accepted, counted, counted_refused}
use Rattle.moves.specs.Call.{Call, Ruling, allows, refuses, side, sides, ruling_of, sized, ruling, Allows, pieces_of, outcome_by, memory_by, outcome_of, memory_after, map_after, scratch_after, Moved}
use Rattle.moves.specs.Move.{moved}
use Rattle.moves.specs.Sources.{Source, file_in, the_index, judged_at, Counted}
use Rattle.mover.specs.Parts.{Judged, Done}

-- ---- one side

-- a load that only checks reports what a move looks at
pub walked_file : (form : ℕ) (b : Bases) (file : List ℕ) {m : List ℕ} {r : Outcome} {m₁ p₁ : List ℕ}
    → Did Outcome (reported b (load form b file)) false m blank r m₁ p₁
    → Did Outcome (reported b (judged_at (file_in form file) b)) false m blank r m₁ p₁
walked_file form b file d =
    record { answer = d.answer ∙ sym (report_same b (load form b file).answer (load form b file).events); reached = d.reached }

-- an index walked through leaves memory
pub walked_index : (b : Bases) (index : List ℕ) {m : List ℕ} {r : Outcome} {p₁ : List ℕ} → Noted Outcome (reported b (indexed b index)) blank r p₁
    → Did Outcome (reported b (judged_at (the_index index) b)) false m blank r m p₁
walked_index b index d = record { answer = d.answer; reached = record { memory = refl; map = d.map } }

module _ (b : Bases) (o : Ran (Verdict Outline)) (n : ℕ) {m : List ℕ} {r : Outcome} {m₁ p₁ : List ℕ}
    (d : Did Outcome (reported b o) false m blank r m₁ p₁) where
  answer_is : (v : Verdict Outline) → o.answer ≡ v → r ≡ report b v o.events
  answer_is v f = d.answer ∙ ap (λ (v : Verdict Outline). report b v o.events) f

  -- a walk that refused
  pub side_refused : {why : Refusal} {p' : List ℕ} → r ≡ Err why → p' ≡ blank
      → Judged b o (side n o.answer) m (refusal why.fault why.offset n) m₁ p'
  side_refused {why} {p'} e ep = by o.answer refl
    where
      with_side : Outcome → Outcome
      with_side (Ok counts) = Ok counts
      with_side (Err w) = refusal w.fault w.offset n

      by : (v : Verdict Outline) → o.answer ≡ v → Judged b o (side n o.answer) m (refusal why.fault why.offset n) m₁ p'
      by (accepted ps entry) f = absurd (false≢true (sym (ap is_refused (sym e ∙ answer_is (accepted ps entry) f))))
      by (refused h i) f =
          record {
            outcome = rw f (ap with_side (sym e ∙ answer_is (refused h i) f));
            memory = d.reached.memory;
            map = rw f ep;
          }

  -- a walk that did not
  pub side_accepted : {counts : Acceptance} → r ≡ Ok counts → Judged b o (side n o.answer) m r m₁ p₁
  side_accepted {counts} e = by o.answer refl
    where
      by : (v : Verdict Outline) → o.answer ≡ v → Judged b o (side n o.answer) m r m₁ p₁
      by (accepted ps entry) f = record { outcome = rw f (answer_is (accepted ps entry) f); memory = d.reached.memory; map = rw f d.reached.map }
      by (refused h i) f = absurd (false≢true (ap is_refused (sym e ∙ answer_is (refused h i) f)))

-- ---- both sides

-- whether a side is refused shows in its outcome
refused_side : (b : Bases) (o : Ran (Verdict Outline)) (n : ℕ) (v : Verdict Outline) → o.answer ≡ v → (r : Outcome)
    → r ≡ outcome_by b o (side n o.answer)
    → is_refused r ≡ is_refused (report b v o.events)
refused_side b o n (accepted ps entry) f r e =
    ap is_refused (e ∙ ap (λ (v : Verdict Outline). outcome_by b o (side n v)) f ∙ ap (λ (v : Verdict Outline). report b v o.events) f)
refused_side b o n (refused fault at) f r e = ap is_refused (e ∙ ap (λ (v : Verdict Outline). outcome_by b o (side n v)) f)

module _ {b b' : Bases} {o o' : Ran (Verdict Outline)} {m : List ℕ} {r : Outcome} {m₁ p₁ : List ℕ} (d : Judged b o (side 0 o.answer) m r m₁ p₁) where
  -- the old bases are at fault
  pub sides_old : {why : Refusal} → r ≡ Err why → Judged b' o' (sides o.answer o'.answer) m (Err why) m₁ p₁
  sides_old {why} e = by o.answer refl
    where
      by : (v : Verdict Outline) → o.answer ≡ v → Judged b' o' (sides o.answer o'.answer) m (Err why) m₁ p₁
      by (accepted ps entry) f = absurd (false≢true (sym (refused_side b o 0 (accepted ps entry) f r d.outcome) ∙ ap is_refused e))
      by (refused h i) f = record { outcome = rw f (sym e ∙ rw f at d.outcome); memory = d.memory; map = rw f (rw f at d.map) }

  -- the new ones decide
  pub sides_new : {counts : Acceptance} {r₂ : Outcome} {m₂ p₂ : List ℕ} → r ≡ Ok counts
      → Judged b' o' (side 1 o'.answer) m₁ r₂ m₂ p₂ → Judged b' o' (sides o.answer o'.answer) m r₂ m₂ p₂
  sides_new {counts} {r₂} {m₂} {p₂} e d₂ = by o.answer refl
    where
      by : (v : Verdict Outline) → o.answer ≡ v → Judged b' o' (sides o.answer o'.answer) m r₂ m₂ p₂
      by (accepted ps entry) f = record { outcome = rw f d₂.outcome; memory = d₂.memory ∙ d.memory; map = rw f d₂.map }
      by (refused h i) f = absurd (false≢true (ap is_refused (sym e) ∙ refused_side b o 0 (refused h i) f r d.outcome))

-- ---- the call

-- a refusal is what the program takes for one
refused_err : (r : Outcome) → is_refused r ≡ is_err r
refused_err (Ok counts) = refl
refused_err (Err why) = refl

module _ (h : Source) (old new : Bases) {m : List ℕ} {r : Outcome} {m₁ p₁ : List ℕ}
    (d : Judged new (judged_at h new) (ruling_of h old new) m r m₁ p₁) where
  module _ (e : is_err r ≡ false) where
    -- an accepted outcome is that of a move that is allowed
    pub judged_allows : Allows (ruling_of h old new)
    judged_allows = by (ruling_of h old new) d.outcome
      where
        by : (v : Ruling) → r ≡ outcome_by new (judged_at h new) v → Allows v
        by (allows ps) f = tt
        by (refuses fault at side) f = absurd (false≢true (sym e ∙ ap is_err f))

    -- and its bases are addresses
    pub judged_ranges : ((old.main ≤ 65535) × (old.zero ≤ 65535)) × ((new.main ≤ 65535) × (new.zero ≤ 65535))
    judged_ranges = ranges h old new judged_allows

  module _ {s' : List ℕ} (es : s' ≡ blank) where
    -- a refusal leaves memory as it was
    pub done_refused : is_err r ≡ true → Done h old new m r m₁ p₁ s'
    done_refused e =
        record {
          outcome = d.outcome;
          memory =
              d.memory
              ∙ sym
              (refused_leaves (judged_at h new) old new m (ruling_of h old new) (λ ps f. reports_accepted h ps new (both h old new ps f).1)
              (ap is_refused (sym d.outcome) ∙ refused_err r ∙ e)
              ).0;
          map = d.map;
          scratch = es;
        }

    -- an acceptance leaves memory as the move does
    pub done_moved : {m' : List ℕ} → is_err r ≡ false → m' ≡ moved old new (pieces_of (ruling_of h old new)) m₁ → Done h old new m r m' p₁ s'
    done_moved a e =
        record {
          outcome = d.outcome;
          memory = e ∙ ap (moved old new (pieces_of (ruling_of h old new))) d.memory ∙ by (ruling_of h old new) (judged_allows a);
          map = d.map;
          scratch = es;
        }
      where
        by : (v : Ruling) → Allows v → moved old new (pieces_of v) m ≡ memory_by old new v m
        by (allows ps) h = refl
        by (refuses fault at side) h = absurd h

-- the counts are those of a handler that is accepted, or none
outcome_counted : (h : Source) (b : Bases) (v : Ruling) {r : Outcome} → r ≡ outcome_by b (judged_at h b) v → Counted h.format (length h.bytes) r
outcome_counted h b (allows ps) e = subst (Counted h.format (length h.bytes)) (sym e) (counted h b)
outcome_counted h b (refuses fault at side) e =
    subst (Counted h.format (length h.bytes)) (sym e) (counted_refused h.format (length h.bytes) fault at side)

-- ---- whatever the buffers

module _ {c : Call} {m : List ℕ} where
  -- "Refusal 1 changes nothing"
  pub moved_wrong : {r : Outcome} → sized c m ≡ false → r ≡ refusal WrongBuffer 0 0 → Moved c m r m c.map c.scratch
  unfolding ruling need pick outcome_of memory_after map_after scratch_after
  moved_wrong h e =
      record {
        outcome = rw (h, e) refl;
        memory = rw h refl;
        map = rw h refl;
        scratch = rw h refl;
        counts = outcome_counted c.source c.new (refuses WrongBuffer 0 0) e;
      }

  -- so do a memory, a map and a scratch of another length
  pub moved_memory : {r : Outcome} → (length m ≡ 65536 → ⊥) → r ≡ refusal WrongBuffer 0 0 → Moved c m r m c.map c.scratch
  moved_memory h e = moved_wrong (rw (ne_eqb _ _ h) refl) e

  pub moved_map : {r : Outcome} → length m ≡ 65536 → (length c.map ≡ 65536 → ⊥) → r ≡ refusal WrongBuffer 0 0
      → Moved c m r m c.map c.scratch
  moved_map g h e = moved_wrong (rw (eq-eqb _ _ g, ne_eqb _ _ h) refl) e

  pub moved_scratch : {r : Outcome} → length m ≡ 65536 → length c.map ≡ 65536 → (length c.scratch ≡ 65536 → ⊥)
      → r ≡ refusal WrongBuffer 0 0 → Moved c m r m c.map c.scratch
  moved_scratch g i h e = moved_wrong (rw (eq-eqb _ _ g, eq-eqb _ _ i, ne_eqb _ _ h) refl) e

  -- with the right lengths it is the call that was done
  pub moved_sized : {r : Outcome} {m₀ m' p' s' : List ℕ} → c.answer_sized ≡ true → length m ≡ 65536 → length c.map ≡ 65536
      → length c.scratch ≡ 65536
      → Done c.source c.old c.new m₀ r m' p' s'
      → m₀ ≡ m
      → Moved c m r m' p' s'
  unfolding ruling need pick outcome_of memory_after map_after scratch_after
  moved_sized a g i h d em =
      let z : sized c m ≡ true = rw (eq-eqb _ _ g, eq-eqb _ _ i, eq-eqb _ _ h, a) refl in
      record {
        outcome = rw z d.outcome;
        memory = rw z (d.memory ∙ ap (memory_by c.old c.new (ruling_of c.source c.old c.new)) em);
        map = rw z d.map;
        scratch = rw z d.scratch;
        counts = outcome_counted c.source c.new (ruling_of c.source c.old c.new) d.outcome;
      }
