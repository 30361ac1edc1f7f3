-- A load as a whole, over plain values: the two walks, the acceptance, the settings and the lengths.
-- Assumes nothing.
use mathlib.Core.Bool.{Bool, true, false}
use mathlib.Core.List.{List, [], ◌++◌}
use mathlib.Core.Path.{◌≡◌, refl, sym, ap, ◌∙◌}
use Prim.Native.Nat.{ℕ, ◌+◌, ◌*◌, ◌≤◌}
use native.Mathlib.Omega.{arith}
use borrow.Author.Tests.{leb-true, eqb-true, eq-eqb}
use lib.Dec.{leb, eqb}
use lib.ListN.{length}
use Rattle.std.proofs.Common.{Option, None, Ok, Err}
use Rattle.std.proofs.lemmas.Bool.{false_from_ne_true}
use Rattle.answer.proofs.Checks.{and_true}
use Rattle.answer.specs.Checks.{need, pick}
use Rattle.answer.specs.Report.{Outcome, acceptance, refusal, placed_of, adjusted_of}
use Rattle.answer.specs.declared.Failure.{Failure}
use Rattle.answer.specs.declared.Fault.{Fault}
use Rattle.answer.specs.declared.Fault.TheVariants.{WrongBuffer}
use Rattle.events.proofs.Checks.{check_passed}
use Rattle.events.specs.Events.{Event, play, marks, blank, placed_in, adjusted_in, Ran, Check}
use Rattle.events.specs.Walk.{leads}
use Rattle.words.proofs.Runs.{front_holds}
use Rattle.words.specs.Runs.{part, put}
use Rattle.effects.proofs.Ending.{Behind, behind_first, behind_on}
use Rattle.passes.proofs.Going.{stopped_finished, totals_in}
use Rattle.passes.proofs.Turning.{refused_finished, led_ends, blocks_hold}
use Rattle.passes.specs.Parts.{WalkEnd, walk_end, progress_of, Walked, Checked, Reported}
use Rattle.passes.specs.Buffers.{start_in, filled_up, Buffers, buffers}
use Rattle.passes.specs.Walk.{Inputs, inputs, Progress, Verdict, finished, refused, turn, blocks_of, begun}
use Rattle.passes.specs.declared.Totals.{Totals}
use Rattle.sdx.specs.Call.{in_range, listed, sized, at_once, opening, opened, admitting, load, call, report, memory_after, map_after, names_after, addresses_after, Loaded}

-- what a file comes to whose settings and length are right: its opening, then its blocks
unfoldable pub judged : List ℕ → Inputs → Ran Verdict
judged file g = opened g (opening file) (blocks_of file g)

-- ---- before the first block

-- the checks ask of the settings alone
pub admit_settings : (file names addresses : List ℕ) (low high : ℕ)
    → admitting file (inputs [] [] low high) ≡ admitting file (inputs names addresses low high)
unfolding admitting
admit_settings file names addresses low high = refl

-- where all have passed
pub record Admitted (file : List ℕ) (g : Inputs) : Type 0 where
  pub settings : in_range g ≡ true
  pub fits : length file ≤ 65536
  pub opens : opening file ≡ Ok tt

-- a load that was admitted passed each
pub admitted : (file : List ℕ) (g : Inputs) → admitting file g ≡ Ok tt → Admitted file g
unfolding admitting
admitted file g e =
    let x = check_passed _ _ _ _ e in
    let y = check_passed _ _ _ _ x.1 in
    record { settings = x.0; fits = leb-true _ _ y.0; opens = y.1 }

-- settings in range
pub range_bounds : (g : Inputs) → in_range g ≡ true → (g.low ≤ g.high) × (g.high ≤ 65535)
range_bounds g e = let x = and_true (leb g.low g.high) (leb g.high 65535) e in (leb-true _ _ x.0, leb-true _ _ x.1)

-- ---- first checked, then carried out

-- What a load does whose blocks come to o: it found b, and answers r and leaves b'.
record Carried (o : Ran Verdict) (b : Buffers) (r : Outcome) (b' : Buffers) : Type 0 where
  outcome : r ≡ report b.memory o.answer o.events
  memory : b'.memory ≡ memory_after o.answer o.events b.memory
  map : b'.map ≡ map_after o.answer o.events
  names : b'.names ≡ names_after o.answer b.names
  addresses : b'.addresses ≡ addresses_after o.answer b.addresses

-- what a stopped walk is reported as
abbrev reported_stop : WalkEnd → Outcome
reported_stop (Err e) = refusal e.fault e.offset 0
reported_stop (Ok t) = acceptance None 0 0 0 0

accepted_same : {start t : Option ℕ} {a b i j k l n q : ℕ} → start ≡ t → a ≡ b → i ≡ j → k ≡ l → n ≡ q
    → acceptance start a i k n ≡ acceptance t b j l q
accepted_same e f g h i = rw (e, f, g, h, i) refl

module _ {o : Ran Verdict} {m p ns ads m₁ p₁ : List ℕ} {r₁ : WalkEnd} (first : Checked o m r₁ m₁ p₁) where
  carried_refused : {d : Failure} → r₁ ≡ Err d → Carried o (buffers m p ns ads) (refusal d.fault d.offset 0) (buffers m₁ p₁ ns ads)
  carried_refused {d} e = by o.answer refl
    where
      by : (v : Verdict) → o.answer ≡ v → Carried o (buffers m p ns ads) (refusal d.fault d.offset 0) (buffers m₁ p₁ ns ads)
      by (finished z) f = absurd (stopped_finished (sym e ∙ first.answer ∙ ap (λ (v : Verdict). walk_end v o.events) f))
      by (refused k i z) f =
          record {
            outcome = rw f (ap reported_stop (sym e ∙ first.answer ∙ ap (λ (v : Verdict). walk_end v o.events) f));
            memory = rw f first.memory;
            map = rw f first.map;
            names = rw f refl;
            addresses = rw f refl;
          }

  -- the second walk does what the first one found, and the acceptance reports it
  carried_accepted : {t : Totals} {m₂ p₂ ns₂ ads₂ ns₃ ads₃ : List ℕ} {r₂ : WalkEnd} {r : Outcome} → r₁ ≡ Ok t → length ns ≡ 256
      → length ads ≡ 32 → Walked o true (buffers m₁ p₁ ns ads) r₂ (buffers m₂ p₂ ns₂ ads₂) → Reported t (buffers m₂ p₂ ns₂ ads₂) r ns₃ ads₃
      → Carried o (buffers m p ns ads) r (buffers m₂ p₂ ns₃ ads₃)
  carried_accepted {t} {m₂} {p₂} {ns₂} {ads₂} {ns₃} {ads₃} {r₂} {r} e room spots second answered = by o.answer refl
    where
      by : (v : Verdict) → o.answer ≡ v → Carried o (buffers m p ns ads) r (buffers m₂ p₂ ns₃ ads₃)
      by (refused k i z) f = absurd (stopped_finished (sym (ap (λ (v : Verdict). walk_end v o.events) f) ∙ sym first.answer ∙ e))
      by (finished z) f =
          let w : ◌≡◌ {A = WalkEnd} (Ok t) (walk_end (finished z) o.events) = sym e ∙ first.answer ∙ ap (λ (v : Verdict). walk_end v o.events) f in
          let n : t.named ≡ length z.addresses = ap (λ (q : WalkEnd). (totals_in q).named) w in
          let few : t.named ≤ 32 = (first.bounded.counts t e).0 in
          let bytes : length z.names ≡ 8 * t.named =
          ap (λ (v : Verdict). length (progress_of v).names) (sym f) ∙ second.eights
          ∙ ap (λ (v : Verdict). 8 * length (progress_of v).addresses) f ∙ ap (λ (i : ℕ). 8 * i) (sym n) in
          let memory : m₂ ≡ play o.events m = second.did.reached.memory ∙ ap (λ (l : List ℕ). play o.events l) first.memory in
          let map : p₂ ≡ marks o.events blank = second.did.reached.map ∙ ap (λ (q : List ℕ). marks o.events q) first.map in
          let names : part ns₂ 0 (8 * t.named) ≡ z.names =
          front_holds ns z.names ns₂ (8 * t.named) (second.names ∙ ap (λ (v : Verdict). put ns 0 (progress_of v).names) f) bytes
          (omega (arith, room, few)) in
          let addresses : part ads₂ 0 t.named ≡ z.addresses =
          front_holds ads z.addresses ads₂ t.named (second.addresses ∙ ap (λ (v : Verdict). put ads 0 (progress_of v).addresses) f) (sym n)
          (omega (arith, spots, few)) in
          record {
            outcome = rw f
                (answered.outcome
                ∙ accepted_same (ap (λ (q : List ℕ). start_in q m₂) map ∙ ap (λ (l : List ℕ). start_in (marks o.events blank) l) memory)
                (ap (λ (q : WalkEnd). (totals_in q).placed) w) (ap (λ (q : WalkEnd). (totals_in q).adjusted) w) n
                (ap (λ (q : WalkEnd). (totals_in q).low) w));
            memory = rw f memory;
            map = rw f map;
            names = rw f (answered.names ∙ ap (λ (l : List ℕ). filled_up 256 l) names);
            addresses = rw f (answered.addresses ∙ ap (λ (l : List ℕ). filled_up 32 l) addresses);
          }

-- what every turn keeps holds of every file that is accepted
module _ (file : List ℕ) (g : Inputs) (top : g.high ≤ 65535) (P : Progress → List Event → Type 0) (first : P (begun g) [])
    (keeps : (y z : Progress) (es : List Event) → P y es → (turn file g y (marks es blank)).answer ≡ leads z
    → P z (es ++ (turn file g y (marks es blank)).events)) where
  pub judged_holds : (z : Progress) → (judged file g).answer ≡ finished z → P z (judged file g).events
  unfolding judged
  judged_holds z e = by (opening file) e
    where
      by : (c : Check) → (opened g c (blocks_of file g)).answer ≡ finished z → P z (opened g c (blocks_of file g)).events
      by (Ok passed) f = blocks_hold file g top P first keeps z f
      by (Err failed) f = absurd (refused_finished f)

-- with the right buffers a call is a load
pub call_load : (file : List ℕ) (g : Inputs) (right : Bool) → right ≡ true → call file g right ≡ load file g
unfolding call need
call_load file g right h = ap (λ (t : Bool). need (at_once g) t WrongBuffer 0 (load file g)) h

-- ---- the counts

-- neither count of a finished load exceeds the file's length
pub record Few (n : ℕ) (o : Ran Verdict) : Type 0 where
  pub counts : (z : Progress) → o.answer ≡ finished z → placed_in o.events + adjusted_in o.events ≤ n

blocks_few : (file : List ℕ) (g : Inputs) → g.high ≤ 65535 → Few (length file) (blocks_of file g)
blocks_few file g top =
    let h = blocks_hold file g top (λ y es. Behind (length file) y.cursor es) (behind_first (length file) g.low) keeps in
    record { counts = λ z e. omega (arith, (h z e).counts, (h z e).inside) }
  where
    keeps : (y z : Progress) (es : List Event) → Behind (length file) y.cursor es → (turn file g y (marks es blank)).answer ≡ leads z
        → Behind (length file) z.cursor (es ++ (turn file g y (marks es blank)).events)
    keeps y z es h e = behind_on (length file) y.cursor z.cursor es _ (led_ends file g top y z (marks es blank) e) h

few_at_once : (n : ℕ) (g : Inputs) (fault : Fault) (offset : ℕ) → Few n (at_once g fault offset)
few_at_once n g fault offset = record { counts = λ z e. absurd (refused_finished e) }

load_few : (file : List ℕ) (g : Inputs) → Few (length file) (load file g)
unfolding load
load_few file g = by (admitting file g) refl
  where
    by : (c : Check) → admitting file g ≡ c → Few (length file) (opened g c (blocks_of file g))
    by (Ok passed) e = blocks_few file g (range_bounds g (admitted file g e).settings).1
    by (Err failed) e = few_at_once (length file) g failed.fault failed.offset

-- ---- whatever the buffers

reported_few : (n : ℕ) (m : List ℕ) (o : Ran Verdict) → Few n o
    → (placed_of (report m o.answer o.events) ≤ n) × (adjusted_of (report m o.answer o.events) ≤ n)
reported_few n m o h = by o.answer refl
  where
    by : (v : Verdict) → o.answer ≡ v → (placed_of (report m v o.events) ≤ n) × (adjusted_of (report m v o.events) ≤ n)
    by (finished z) e = let k = h.counts z e in (omega (arith, k), omega (arith, k))
    by (refused fault offset z) e = (omega arith, omega arith)

at_once_carried : (file : List ℕ) (g : Inputs) {m p ns ads p' : List ℕ} {d : Failure} {r : Outcome} → admitting file g ≡ Err d
    → r ≡ refusal d.fault d.offset 0 → p' ≡ blank → Carried (load file g) (buffers m p ns ads) r (buffers m p' ns ads)
unfolding load
at_once_carried file g e f clear = rw e (record { outcome = f; memory = refl; map = clear; names = refl; addresses = refl })

module _ (file : List ℕ) (g : Inputs) where
  -- some length is wrong: 1, and nothing is changed
  pub loaded_wrong : (right : Bool) (b : Buffers) (r : Outcome) → right ≡ false → r ≡ refusal WrongBuffer 0 0 → Loaded file g right b r b
  unfolding call need pick
  loaded_wrong right b r h e =
      record {
        outcome = rw (h, e) refl;
        memory = rw h refl;
        map = rw h refl;
        names = rw h refl;
        addresses = rw h refl;
        placed_fits = rw e (omega arith);
        adjusted_fits = rw e (omega arith);
      }

  -- a load with the right buffers
  loaded_right : (b : Buffers) (r : Outcome) (b' : Buffers) → Carried (load file g) b r b' → Loaded file g true b r b'
  unfolding call need pick
  loaded_right b r b' d =
      let few = reported_few (length file) b.memory (load file g) (load_few file g) in
      record {
        outcome = d.outcome;
        memory = d.memory;
        map = d.map;
        names = d.names;
        addresses = d.addresses;
        placed_fits = rw d.outcome few.0;
        adjusted_fits = rw d.outcome few.1;
      }

  -- (it clears the map before anything else, so what the map held does not matter)
  pub loaded_cleared : {m p p₀ ns ads : List ℕ} {r : Outcome} {b' : Buffers} → Loaded file g true (buffers m p₀ ns ads) r b'
      → Loaded file g true (buffers m p ns ads) r b'
  unfolding pick
  loaded_cleared d =
      record {
        outcome = d.outcome;
        memory = d.memory;
        map = d.map;
        names = d.names;
        addresses = d.addresses;
        placed_fits = d.placed_fits;
        adjusted_fits = d.adjusted_fits;
      }

  -- refused before the first block
  pub loaded_at_once : {m p ns ads p' : List ℕ} {d : Failure} {r : Outcome} → admitting file g ≡ Err d
      → r ≡ refusal d.fault d.offset 0 → p' ≡ blank → Loaded file g true (buffers m p ns ads) r (buffers m p' ns ads)
  loaded_at_once e f clear = loaded_right _ _ _ (at_once_carried file g e f clear)

  -- the blocks decide
  module _ (entered : admitting file g ≡ Ok tt) where
    load_blocks : load file g ≡ blocks_of file g
    unfolding load
    load_blocks = rw entered refl

    -- where the first walk stopped, the load is refused there
    pub blocks_refused : {m p ns ads m₁ p₁ : List ℕ} {r₁ : WalkEnd} → Checked (blocks_of file g) m r₁ m₁ p₁ → {d : Failure}
        {r : Outcome} → r₁ ≡ Err d → r ≡ refusal d.fault d.offset 0
        → Loaded file g true (buffers m p ns ads) r (buffers m₁ p₁ ns ads)
    blocks_refused first e er = rw er (loaded_right _ _ _ (rw load_blocks (carried_refused first e)))

    -- where it finished, the second walk carries the file out
    pub blocks_accepted : {m p ns ads m₁ p₁ : List ℕ} {r₁ : WalkEnd} → Checked (blocks_of file g) m r₁ m₁ p₁
        → {t : Totals} {m₂ p₂ ns₂ ads₂ ns₃ ads₃ : List ℕ} {r₂ : WalkEnd} {r : Outcome} → r₁ ≡ Ok t → length ns ≡ 256 → length ads ≡ 32
        → Walked (blocks_of file g) true (buffers m₁ p₁ ns ads) r₂ (buffers m₂ p₂ ns₂ ads₂) → Reported t (buffers m₂ p₂ ns₂ ads₂) r ns₃ ads₃
        → Loaded file g true (buffers m p ns ads) r (buffers m₂ p₂ ns₃ ads₃)
    blocks_accepted first e room spots second answered = loaded_right _ _ _ (rw load_blocks (carried_accepted first e room spots second answered))

-- ---- the lengths

-- all that is lent has its length
pub record Sizes (g : Inputs) (b : Buffers) : Type 0 where
  pub memory : length b.memory ≡ 65536
  pub map : length b.map ≡ 65536
  pub names : length b.names ≡ 256
  pub addresses : length b.addresses ≡ 32
  pub known : listed g ≡ true

-- so it is exactly where the test of the lengths holds
pub right_sizes : (g : Inputs) (b : Buffers) → sized g b ≡ true → Sizes g b
right_sizes g b e =
    let h = and_true (eqb (length b.memory) 65536) _ e in
    let i = and_true (eqb (length b.map) 65536) _ h.1 in
    let j = and_true (eqb (length b.names) 256) _ i.1 in
    let k = and_true (eqb (length b.addresses) 32) (listed g) j.1 in
    record {
      memory = eqb-true _ _ h.0;
      map = eqb-true _ _ i.0;
      names = eqb-true _ _ j.0;
      addresses = eqb-true _ _ k.0;
      known = k.1;
    }

module _ {file : List ℕ} {g : Inputs} {m p ns ads : List ℕ} {r : Outcome} where
  -- some length is wrong: 1, and all is as it was
  pub wrong_sizes : {m' p' ns' ads' : List ℕ} → (Sizes g (buffers m p ns ads) → ⊥) → r ≡ refusal WrongBuffer 0 0
      → m' ≡ m → p' ≡ p → ns' ≡ ns → ads' ≡ ads
      → Loaded file g (sized g (buffers m p ns ads)) (buffers m p ns ads) r (buffers m' p' ns' ads')
  wrong_sizes h e i j k l =
      rw (i, j, k, l) (loaded_wrong file g _ _ r (false_from_ne_true _ (λ f. h (right_sizes g (buffers m p ns ads) f))) e)

  -- and where none is, it is a load
  pub all_sizes : {m₀ p₀ ns₀ ads₀ : List ℕ} {b' : Buffers} → Sizes g (buffers m p ns ads) → Loaded file g true (buffers m₀ p₀ ns₀ ads₀) r b'
      → m₀ ≡ m → p₀ ≡ p → ns₀ ≡ ns → ads₀ ≡ ads
      → Loaded file g (sized g (buffers m p ns ads)) (buffers m p ns ads) r b'
  all_sizes s d i j k l =
      rw (eq-eqb _ _ s.memory, eq-eqb _ _ s.map, eq-eqb _ _ s.names, eq-eqb _ _ s.addresses, s.known) (rw (i, j, k, l) at d)

-- the known names have their bytes
pub known_bytes : (g : Inputs) → listed g ≡ true → length g.names ≡ 8 * length g.addresses
known_bytes g e = eqb-true _ _ (and_true (leb (length g.addresses) 256) _ e).1
