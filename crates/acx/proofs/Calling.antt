-- A load as a whole, over plain values: the settings and the file's length, the two walks and the lengths of the buffers.
-- Assumes nothing.
use mathlib.Core.Bool.{Bool, true, false, ◌&&◌, false≢true}
use mathlib.Core.List.{List}
use mathlib.Core.Path.{◌≡◌, refl, sym, ap, ◌∙◌, subst}
use Prim.Native.Nat.{ℕ, ◌≤◌}
use native.Mathlib.Omega.{arith}
use borrow.Author.Tests.{leb-true, eq-eqb, ne_eqb}
use lib.Dec.{leb}
use lib.ListN.{length}
use Rattle.std.proofs.Common.{Ok, Err}
use Rattle.std.specs.Result.{is_err}
use Rattle.answer.proofs.Checks.{and_true}
use Rattle.answer.proofs.Outcomes.{is_refused}
use Rattle.answer.specs.Checks.{need, pick}
use Rattle.answer.specs.Report.{placed_of, adjusted_of, Outcome, refusal}
use Rattle.answer.specs.declared.Fault.{Fault}
use Rattle.answer.specs.declared.Fault.TheVariants.{WrongBuffer, SettingOutOfRange, FileTooLong}
use Rattle.events.specs.Events.{Event, play, marks, blank, Ran, Did}
use Rattle.acx.proofs.Standing.{Stands, stands_first, stands_on}
use Rattle.acx.proofs.Turning.{refused_accepted}
use Rattle.acx.proofs.Walking.{accepted_keeps}
use Rattle.acx.specs.Call.{form_of, in_range, sized, load, call, memory_after, map_after, Loaded}
use Rattle.pieces.specs.Pieces.{Piece}
use Rattle.records.specs.declared.Entry.{Entry}
use Rattle.acx.specs.Walk.{Verdict, accepted, refused, at_once, judged, report, reported}
use Rattle.pieces.specs.declared.Bases.{Bases}
use Rattle.acx.specs.declared.Form.{Form}

-- ---- the settings and the file's length

-- bases in their ranges
pub range_bounds : (form : ℕ) (b : Bases) → in_range form b ≡ true → (b.main ≤ 65535) × (b.zero ≤ 255)
range_bounds form b e =
    let x = and_true (leb form 1 && leb b.main 65535) (leb b.zero 255) e in
    let y = and_true (leb form 1) (leb b.main 65535) x.0 in
    (leb-true _ _ y.1, leb-true _ _ x.1)

-- what an accepted load comes to: the settings are in range, the file is not too long, and its rules decide
pub record Admitted (form : ℕ) (b : Bases) (file : List ℕ) : Type 0 where
  pub range : in_range form b ≡ true
  pub fits : length file ≤ 65536
  pub by_rules : load form b file ≡ judged (form_of form) file b

-- an accepted load does
pub load_admitted : (form : ℕ) (b : Bases) (file : List ℕ) (ps : List Piece) (entry : Entry) → (load form b file).answer ≡ accepted ps entry → Admitted form b file
unfolding load need
load_admitted form b file ps entry e = by (in_range form b) (leb (length file) 65536) refl refl e
  where
    o : Ran (Verdict Piece)
    o = judged (form_of form) file b

    by : (c d : Bool) → in_range form b ≡ c → leb (length file) 65536 ≡ d
        → (need at_once c SettingOutOfRange 0 (need at_once d FileTooLong 0 o)).answer ≡ accepted ps entry
        → Admitted form b file
    by true true h k e = record { range = h; fits = leb-true _ _ k; by_rules = rw (h, k) refl }
    by true false h k e = absurd (refused_accepted e)
    by false d h k e = absurd (refused_accepted e)

-- ---- the counts

judged_counts : (form : Form) (file : List ℕ) (b : Bases)
    → (placed_of (reported b (judged form file b)).answer ≤ length file) × (adjusted_of (reported b (judged form file b)).answer ≤ length file)
judged_counts form file b = by (judged form file b).answer refl
  where
    by : (v : Verdict Piece) → (judged form file b).answer ≡ v
        → (placed_of (report b v (judged form file b).events) ≤ length file) × (adjusted_of (report b v (judged form file b).events) ≤ length file)
    by (accepted ps entry) e =
        let k = accepted_keeps file b (Stands b) (λ s r. stands_on file b s _ r) form ps entry (stands_first b _) e in
        let c = k.held.counts in
        (rw k.events (omega (arith, c, k.inside)), rw k.events (omega (arith, c, k.inside)))
    by (refused fault at) e = (omega arith, omega arith)

-- neither count of an outcome exceeds the file's length
pub record Few (n : ℕ) (b : Bases) (o : Ran (Verdict Piece)) : Type 0 where
  pub placed : placed_of (reported b o).answer ≤ n
  pub adjusted : adjusted_of (reported b o).answer ≤ n

few_need : (n : ℕ) (b : Bases) (c : Bool) (fault : Fault) (offset : ℕ) (o : Ran (Verdict Piece)) → Few n b o → Few n b (need at_once c fault offset o)
unfolding need
few_need n b true fault offset o h = h
few_need n b false fault offset o h = record { placed = omega arith; adjusted = omega arith }

-- of a load
pub load_few : (form : ℕ) (b : Bases) (file : List ℕ) → Few (length file) b (load form b file)
unfolding load
load_few form b file =
    let k = judged_counts (form_of form) file b in
    few_need _ b _ _ _ _ (few_need _ b _ _ _ _ (record { placed = k.0; adjusted = k.1 }))

-- ---- a call with the right buffers: first checked, then carried out

-- what was refused plays nothing
pub refused_memory : (b : Bases) (v : Verdict Piece) (es : List Event) (m : List ℕ) → is_refused (report b v es) ≡ true → memory_after v es m ≡ m
refused_memory b (accepted ps entry) es m e = absurd (false≢true e)
refused_memory b (refused fault at) es m e = refl

-- and leaves the map clear
pub refused_map : (b : Bases) (v : Verdict Piece) (es : List Event) → is_refused (report b v es) ≡ true → map_after v es ≡ blank
refused_map b (accepted ps entry) es e = absurd (false≢true e)
refused_map b (refused fault at) es e = refl

-- what was accepted plays its events
accepted_memory : (b : Bases) (v : Verdict Piece) (es : List Event) (m : List ℕ) → is_refused (report b v es) ≡ false → memory_after v es m ≡ play es m
accepted_memory b (accepted ps entry) es m e = refl
accepted_memory b (refused fault at) es m e = absurd (false≢true (sym e))

-- and leaves its marks
accepted_map : (b : Bases) (v : Verdict Piece) (es : List Event) → is_refused (report b v es) ≡ false → map_after v es ≡ marks es blank
accepted_map b (accepted ps entry) es e = refl
accepted_map b (refused fault at) es e = absurd (false≢true (sym e))

-- a refusal is an error
err_refused : (r : Outcome) → is_err r ≡ is_refused r
err_refused (Ok a) = refl
err_refused (Err e) = refl

module _ {form : ℕ} {b : Bases} {file m p : List ℕ} where
  -- a call that did what its load comes to
  carried : {r : Outcome} {m' p' : List ℕ} → r ≡ (reported b (load form b file)).answer
      → m' ≡ memory_after (load form b file).answer (load form b file).events m
      → p' ≡ map_after (load form b file).answer (load form b file).events
      → Loaded form b file true m p r m' p'
  unfolding call need pick
  carried e em ep =
      let few = load_few form b file in
      record { outcome = e; memory = em; map = ep; placed_fits = rw e few.placed; adjusted_fits = rw e few.adjusted }

  -- and what a call with the right buffers did
  pub loaded_right : {right : Bool} {r : Outcome} {m' p' : List ℕ} → right ≡ true → Loaded form b file right m p r m' p'
      → (r ≡ (reported b (load form b file)).answer)
      × (m' ≡ memory_after (load form b file).answer (load form b file).events m)
      × (p' ≡ map_after (load form b file).answer (load form b file).events)
  unfolding call need pick
  loaded_right {right} {r} {m'} {p'} e d =
      let c : Loaded form b file true m p r m' p' = subst (λ (t : Bool). Loaded form b file t m p r m' p') e d in
      (c.outcome, c.memory, c.map)

  module _ {r : Outcome} {m₁ p₁ : List ℕ} (d : Did Outcome (reported b (load form b file)) false m blank r m₁ p₁) where
    -- what was refused when it was checked is the refusal (memory was not written then)
    pub loaded_refused : {p' : List ℕ} → is_err r ≡ true → p' ≡ blank → Loaded form b file true m p r m₁ p'
    loaded_refused e ep =
        let o = load form b file in
        let k : is_refused (report b o.answer o.events) ≡ true = ap is_refused (sym d.answer) ∙ sym (err_refused r) ∙ e in
        carried d.answer (d.reached.memory ∙ sym (refused_memory b o.answer o.events m k))
        (ep ∙ sym (refused_map b o.answer o.events k))

    -- what was accepted is walked again, and written
    pub loaded_accepted : {r₂ : Outcome} {m₂ p₂ : List ℕ} → is_err r ≡ false
        → Did Outcome (reported b (load form b file)) true m₁ blank r₂ m₂ p₂
        → Loaded form b file true m p r₂ m₂ p₂
    loaded_accepted e d₂ =
        let o = load form b file in
        let k : is_refused (report b o.answer o.events) ≡ false = ap is_refused (sym d.answer) ∙ sym (err_refused r) ∙ e in
        carried d₂.answer
        (d₂.reached.memory ∙ ap (λ (t : List ℕ). play o.events t) d.reached.memory ∙ sym (accepted_memory b o.answer o.events m k))
        (d₂.reached.map ∙ sym (accepted_map b o.answer o.events k))

  -- ---- whatever the buffers

  -- "Refusal 1 changes nothing"
  pub loaded_wrong : {right : Bool} {r : Outcome} → right ≡ false → r ≡ refusal WrongBuffer 0 0 → Loaded form b file right m p r m p
  unfolding call need pick
  loaded_wrong h e =
      record {
        outcome = rw (h, e) refl;
        memory = rw h refl;
        map = rw h refl;
        placed_fits = rw e (omega arith);
        adjusted_fits = rw e (omega arith);
      }

  -- so do a memory and a map of another length, and what has the right lengths is a load
  pub loaded_memory : {r : Outcome} → (length m ≡ 65536 → ⊥) → r ≡ refusal WrongBuffer 0 0 → Loaded form b file (sized m p) m p r m p
  loaded_memory h e = loaded_wrong (rw (ne_eqb _ _ h) refl) e

  pub loaded_map_lem : {r : Outcome} {m' : List ℕ} → length m ≡ 65536 → (length p ≡ 65536 → ⊥) → r ≡ refusal WrongBuffer 0 0 → m' ≡ m
      → Loaded form b file (sized m p) m p r m' p
  loaded_map_lem g h e em = rw em (loaded_wrong (rw (eq-eqb _ _ g, ne_eqb _ _ h) refl) e)

  pub loaded_sized : {r : Outcome} {m₀ p₀ m' p' : List ℕ} → length m ≡ 65536 → length p ≡ 65536
      → Loaded form b file true m₀ p₀ r m' p' → m₀ ≡ m → p₀ ≡ p
      → Loaded form b file (sized m p) m p r m' p'
  loaded_sized g h d em ep = rw (eq-eqb _ _ g, eq-eqb _ _ h) (rw (em, ep) at d)
