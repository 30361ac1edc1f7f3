-- A call of the builder: the lengths, the check of the file, and the index where that fits, in the definition's order.
-- Assumes nothing.
use mathlib.Core.Bool.{Bool, true, false, false≢true}
use mathlib.Core.List.{List}
use mathlib.Core.Path.{◌≡◌, refl, sym, ap, ◌∙◌, subst}
use Prim.Native.Nat.{ℕ, ◌≤◌, ◌<◌}
use native.Mathlib.Omega.{arith}
use borrow.Author.Tests.{eq-eqb, ne_eqb, le-leb, lt-leb}
use lib.Dec.{leb}
use lib.ListN.{length}
use Rattle.std.proofs.Common.{is_err}
use Rattle.acx.proofs.Calling.{range_bounds, load_admitted, load_few}
use Rattle.acx.specs.Call.{load, map_after}
use Rattle.acx.specs.Walk.{Verdict, accepted, refused, report as load_report, reported}
use Rattle.answer.specs.Checks.{need, pick}
use Rattle.answer.specs.Report.{IsAccepted, placed_of, adjusted_of, Outcome, refusal}
use Rattle.answer.specs.declared.Fault.TheVariants.{WrongBuffer, IndexTooLong}
use Rattle.events.specs.Events.{Event, marks, blank, Did}
use Rattle.pieces.specs.Pieces.{Piece}
use Rattle.pieces.specs.declared.Bases.{Bases}
use Rattle.records.specs.declared.Entry.{Entry}
use Rattle.words.specs.Runs.{put}
use Rattle.builder.specs.Build.{index_of, fitted, sized, build, report, room_after, Built}
use Rattle.builder.specs.Parts.{bytes_of, with_low}

-- ---- an index does not fit, or does

pub fitted_long : (ps : List Piece) (entry : Entry) → 65536 < length (index_of ps entry) → fitted (accepted ps entry) ≡ refused IndexTooLong 0
unfolding need
fitted_long ps entry h = rw (lt-leb _ _ h) refl

pub fitted_short : (ps : List Piece) (entry : Entry) → length (index_of ps entry) ≤ 65536 → fitted (accepted ps entry) ≡ accepted ps entry
unfolding need
fitted_short ps entry h = rw (le-leb _ _ h) refl

-- ---- the counts

-- those of a build are its load's, or none
counts_fitted : (b : Bases) (v : Verdict Piece) (es : List Event) (n : ℕ) → placed_of (load_report b v es) ≤ n → adjusted_of (load_report b v es) ≤ n
    → (placed_of (report b (fitted v) es) ≤ n) × (adjusted_of (report b (fitted v) es) ≤ n)
unfolding need
counts_fitted b (refused fault at) es n h k = (h, k)
counts_fitted b (accepted ps entry) es n h k = by (leb (length (index_of ps entry)) 65536)
  where
    by : (c : Bool)
        → (placed_of (report b (need refused c IndexTooLong 0 (accepted ps entry)) es) ≤ n)
        × (adjusted_of (report b (need refused c IndexTooLong 0 (accepted ps entry)) es) ≤ n)
    by true = (h, k)
    by false = (omega arith, omega arith)

-- ---- the check

-- the outcome of a verdict tells whether it is a refusal
reports_as : (b : Bases) (v w : Verdict Piece) (es : List Event) (o : Outcome) → w ≡ v → o ≡ load_report b w es
    → is_err (load_report b v es) ≡ is_err o
reports_as b v w es o f e = ap (λ (k : Outcome). is_err k) (ap (λ (k : Verdict Piece). load_report b k es) (sym f) ∙ sym e)

-- what the check did not refuse is accepted by a load, at bases in their ranges, and is not too long
pub check_accepts : (form : ℕ) (b : Bases) (file : List ℕ) {r : Outcome} → r ≡ (reported b (load form b file)).answer → is_err r ≡ false
    → IsAccepted (reported b (load form b file)).answer × (b.main ≤ 65535) × (b.zero ≤ 255) × (length file ≤ 65536)
check_accepts form b file {r} a e = by (load form b file).answer refl
  where
    by : (v : Verdict Piece) → (load form b file).answer ≡ v
        → IsAccepted (reported b (load form b file)).answer × (b.main ≤ 65535) × (b.zero ≤ 255) × (length file ≤ 65536)
    by (accepted ps entry) f =
        let w = load_admitted form b file ps entry f in
        let k = range_bounds form b w.range in
        (rw f tt, k.0, k.1, w.fits)
    by (refused g at) f = absurd (false≢true (sym (reports_as b (refused g at) (load form b file).answer (load form b file).events r f a ∙ e)))

module _ {form : ℕ} {b : Bases} {file p q : List ℕ} where
  -- ---- with the right buffers

  -- a call that did what its load comes to
  pub built_as : {r : Outcome} {p' q' : List ℕ} (v : Verdict Piece) → (load form b file).answer ≡ v → r ≡ report b (fitted v) (load form b file).events
      → p' ≡ map_after (fitted v) (load form b file).events
      → q' ≡ room_after (fitted v) q
      → Built form b file true p q r p' q'
  unfolding build need pick
  built_as {r} {p'} {q'} v e er ep eq =
      let es = (load form b file).events in
      let few = load_few form b file in
      let k = counts_fitted b (load form b file).answer es (length file) few.placed few.adjusted in
      let o : r ≡ report b (fitted (load form b file).answer) es = er ∙ ap (λ (w : Verdict Piece). report b (fitted w) es) (sym e) in
      record {
        outcome = o;
        map = ep ∙ ap (λ (w : Verdict Piece). map_after (fitted w) es) (sym e);
        room = eq ∙ ap (λ (w : Verdict Piece). room_after (fitted w) q) (sym e);
        placed_fits = rw o k.0;
        adjusted_fits = rw o k.1;
      }

  -- the map that it found does not matter
  pub built_map : {p₁ : List ℕ} {r : Outcome} {p' q' : List ℕ} → Built form b file true p₁ q r p' q' → Built form b file true p q r p' q'
  unfolding pick
  built_map d = record { outcome = d.outcome; map = d.map; room = d.room; placed_fits = d.placed_fits; adjusted_fits = d.adjusted_fits }

  module _ {r : Outcome} {q₁ p₁ : List ℕ} (d : Did Outcome (reported b (load form b file)) false q blank r q₁ p₁) where
    -- what was refused when it was checked is the refusal
    pub built_refused : {p' : List ℕ} → is_err r ≡ true → p' ≡ blank → Built form b file true p q r p' q₁
    built_refused {p'} e ep = by (load form b file).answer refl
      where
        by : (v : Verdict Piece) → (load form b file).answer ≡ v → Built form b file true p q r p' q₁
        by (accepted ps entry) f =
            absurd (false≢true (reports_as b (accepted ps entry) (load form b file).answer (load form b file).events r f d.answer ∙ e))
        by (refused g at) f =
            built_as (refused g at) f (d.answer ∙ ap (λ (w : Verdict Piece). load_report b w (load form b file).events) f) ep d.reached.memory

    -- what was not goes on with the room as it was
    pub built_checked : {s : Outcome} {p' q' : List ℕ} → Built form b file true p₁ q₁ s p' q' → Built form b file true p q s p' q'
    built_checked {s} {p'} {q'} c = built_map (subst (λ (l : List ℕ). Built form b file true p₁ l s p' q') d.reached.memory c)

  module _ (yes : IsAccepted (reported b (load form b file)).answer) {n : ℕ} (long : n ≡ length (bytes_of (load form b file).answer)) where
    -- an index that would not fit is refused
    pub built_long : {r : Outcome} {p' : List ℕ} → 65536 < n → r ≡ refusal IndexTooLong 0 0 → p' ≡ blank → Built form b file true p q r p' q
    built_long {r} {p'} h e ep = by (load form b file).answer refl
      where
        by : (v : Verdict Piece) → (load form b file).answer ≡ v → Built form b file true p q r p' q
        by (refused fault at) f = absurd (rw f at yes)
        by (accepted ps entry) f =
            let l = long ∙ ap (λ (w : Verdict Piece). length (bytes_of w)) f in
            let t : fitted (accepted ps entry) ≡ refused IndexTooLong 0 = fitted_long ps entry (omega (arith, l)) in
            let es = (load form b file).events in
            built_as (accepted ps entry) f (e ∙ ap (λ (w : Verdict Piece). report b w es) (sym t)) (ep ∙ ap (λ (w : Verdict Piece). map_after w es) (sym t))
            (ap (λ (w : Verdict Piece). room_after w q) (sym t))

    -- one that fits is in the room
    pub built_short : {r s : Outcome} {p' q' : List ℕ} → n ≤ 65536 → s ≡ (reported b (load form b file)).answer → r ≡ with_low n s
        → p' ≡ marks (load form b file).events blank
        → q' ≡ put blank 0 (bytes_of (load form b file).answer)
        → Built form b file true p q r p' q'
    built_short {r} {s} {p'} {q'} h e er ep eq = by (load form b file).answer refl
      where
        by : (v : Verdict Piece) → (load form b file).answer ≡ v → Built form b file true p q r p' q'
        by (refused fault at) f = absurd (rw f at yes)
        by (accepted ps entry) f =
            let l = long ∙ ap (λ (w : Verdict Piece). length (bytes_of w)) f in
            let t : fitted (accepted ps entry) ≡ accepted ps entry = fitted_short ps entry (omega (arith, l)) in
            let es = (load form b file).events in
            built_as (accepted ps entry) f
            (er
            ∙ ap (with_low n) (e ∙ ap (λ (w : Verdict Piece). load_report b w es) f)
            ∙ ap (λ (k : ℕ). with_low k (load_report b (accepted ps entry) es)) l
            ∙ ap (λ (w : Verdict Piece). report b w es) (sym t))
            (ep ∙ ap (λ (w : Verdict Piece). map_after w es) (sym t))
            (eq ∙ ap (λ (w : Verdict Piece). put blank 0 (bytes_of w)) f ∙ ap (λ (w : Verdict Piece). room_after w q) (sym t))

  -- ---- whatever the buffers

  -- "Refusal 1 changes nothing"
  pub built_wrong : {right : Bool} {r : Outcome} → right ≡ false → r ≡ refusal WrongBuffer 0 0 → Built form b file right p q r p q
  unfolding build need pick
  built_wrong h e =
      record {
        outcome = rw (h, e) refl;
        map = rw h refl;
        room = rw h refl;
        placed_fits = rw e (omega arith);
        adjusted_fits = rw e (omega arith);
      }

  -- so do a map and a room of another length, and what has the right lengths is a build
  pub wrong_map : {r : Outcome} → (length p ≡ 65536 → ⊥) → r ≡ refusal WrongBuffer 0 0 → Built form b file (sized p q) p q r p q
  wrong_map h e = built_wrong (rw (ne_eqb _ _ h) refl) e

  pub wrong_room : {r : Outcome} {p' : List ℕ} → length p ≡ 65536 → (length q ≡ 65536 → ⊥) → r ≡ refusal WrongBuffer 0 0 → p' ≡ p
      → Built form b file (sized p q) p q r p' q
  wrong_room g h e ep = rw ep (built_wrong (rw (eq-eqb _ _ g, ne_eqb _ _ h) refl) e)

  pub right_sizes : {r : Outcome} {p₀ q₀ p' q' : List ℕ} → length p ≡ 65536 → length q ≡ 65536 → Built form b file true p₀ q₀ r p' q' → p₀ ≡ p → q₀ ≡ q
      → Built form b file (sized p q) p q r p' q'
  right_sizes g h d ep eq = rw (eq-eqb _ _ g, eq-eqb _ _ h) (rw (ep, eq) at d)
