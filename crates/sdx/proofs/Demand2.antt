-- Demand 2 for SDX files, as specs/Demand2.antt states it.
-- Assumes nothing.
use mathlib.Core.Bool.{Bool, true, false, ◌&&◌, false≢true}
use mathlib.Core.List.{List, [], ◌∷◌, ◌++◌}
use mathlib.Core.Path.{◌≡◌, refl, sym, ap, ◌∙◌}
use Prim.Native.Nat.{ℕ, ◌≤◌}
use native.Mathlib.Omega.{arith}
use borrow.Author.Tests.{le-leb}
use lib.ListN.{length, get_or}
use Rattle.std.proofs.Common.{Option, None, Ok, Err}
use Rattle.answer.proofs.Outcomes.{is_refused}
use Rattle.answer.proofs.Checks.{and_true}
use Rattle.answer.specs.Checks.{need, pick}
use Rattle.answer.specs.Report.{Outcome, acceptance, placed_of, adjusted_of}
use Rattle.answer.specs.declared.Fault.TheVariants.{WrongBuffer}
use Rattle.events.proofs.Checks.{failed_passed}
use Rattle.events.proofs.Events.{length_play, length_marks, length_blank, blank_at}
use Rattle.events.proofs.Lists.{each_map}
use Rattle.events.specs.Events.{Event, adjust, play, marks, blank, placed_in, adjusted_in, Ran, Check}
use Rattle.words.specs.Runs.{Bytes}
use Rattle.passes.proofs.Turning.{refused_finished}
use Rattle.passes.specs.Buffers.{new_names_length, new_addresses_length, start_in, filled_up, Buffers}
use Rattle.passes.specs.Walk.{Inputs, Progress, Verdict, finished, refused, begun, blocks_of}
use Rattle.sdx.proofs.Calling.{judged, admitted, range_bounds, right_sizes}
use Rattle.sdx.proofs.Keeping.{Keeps, judged_keeps}
use Rattle.sdx.proofs.Lawful.{Lawful, marks_untouched, marks_last, play_others, put_held, play_fields}
use Rattle.sdx.specs.Call.{at_once, opening, opened, admitting, load, call, report, memory_after, map_after, names_after, addresses_after, sized, Loaded}
use Rattle.sdx.proofs.Rules.{follows_judged, followed}
use Rattle.sdx.specs.Demand2.{Among, Demand2, Asked, AcceptedCall, Claim}
use Rattle.sdx.specs.Rules.{Follows}

-- what the events of a file leave that kept to the rules
kept_demand2 : (file : List ℕ) (g : Inputs) (z : Progress) (es : List Event) (m : List ℕ) → Follows file g z es → Keeps file g z es
    → length m ≡ 65536
    → Demand2 file g z es m (play es m) (marks es blank) (placed_in es) (adjusted_in es)
kept_demand2 file g z es m f k n =
    let split : (before : List Event) (e : Event) (after : List Event) → Among es before e after → Lawful blank (before ++ (e ∷ after)) =
    λ before e after h. rw h.order at k.lawful in
    record {
      follows = f;
      effects = k.effects;
      by_rule = each_map (λ d h. h.by_rule) z.effects k.ruled;
      names = k.names;
      addresses = k.addresses;
      loaded = λ x byte h. put_held es blank m x byte n k.lawful h;
      fields = λ before after a amount h. rw h.order (play_fields before after a amount m n (split before (adjust 2 a amount) after h));
      others = λ x w. play_others es m x k.lawful w;
      lengths = (length_play es m, length_marks es blank ∙ length_blank);
      untouched_marks = λ x w. marks_untouched es blank x w ∙ blank_at x;
      last_marks = λ before after e x h t w. ap (λ (fs : List Event). get_or (marks fs blank) x 0) h.order
          ∙ marks_last before after e blank x length_blank (split before e after h) t w;
      placed_count = refl;
      adjusted_count = refl;
      placed_fits = omega (arith, k.passed.counts, k.passed.inside);
      adjusted_fits = omega (arith, k.passed.counts, k.passed.inside);
    }

-- Demand 2, of every accepted file, with all settings and in every memory
pub demand2 : (file : List ℕ) (g : Inputs) (z : Progress) (m : List ℕ) → g.high ≤ 65535 → Bytes file → length m ≡ 65536
    → (judged file g).answer ≡ finished z
    → Demand2 file g z (judged file g).events m (play (judged file g).events m) (marks (judged file g).events blank)
    (placed_in (judged file g).events) (adjusted_in (judged file g).events)
demand2 file g z m top bytes n e = kept_demand2 file g z (judged file g).events m (followed file g top z e) (judged_keeps file g top bytes z e) n

-- ---- of every call

-- an acceptance is of a call as asked
pub finished_asked : (file : List ℕ) (g : Inputs) (x : Bool) (b : Buffers) (z : Progress) → (call file g (x && sized g b)).answer ≡ finished z
    → Asked file g x b
unfolding call load need
finished_asked file g x b z e = by (x && sized g b) (admitting file g) refl refl e
  where
    by : (t : Bool) (c : Check) → x && sized g b ≡ t → admitting file g ≡ c
        → (need (at_once g) t WrongBuffer 0 (opened g c (blocks_of file g))).answer ≡ finished z
        → Asked file g x b
    by true (Ok passed) h i f =
        let s = and_true x (sized g b) h in
        let a = admitted file g i in
        record { lengths = s.0; buffers = s.1; settings = a.settings; fits = a.fits }
    by true (Err failed) h i f = absurd (refused_finished f)
    by false c h i f = absurd (refused_finished f)

-- and comes to what the file comes to
pub asked_judged : (file : List ℕ) (g : Inputs) (x : Bool) (b : Buffers) → Asked file g x b → call file g (x && sized g b) ≡ judged file g
unfolding call load judged admitting need
asked_judged file g x b a = rw (a.lengths, a.buffers, a.settings, le-leb _ _ a.fits) refl

-- the lengths are right, memory's among them, and so are the settings
asked_sized : {file : List ℕ} {g : Inputs} {x : Bool} {b : Buffers} → Asked file g x b → x && sized g b ≡ true
asked_sized a = rw (a.lengths, a.buffers) refl

pub asked_memory : (file : List ℕ) (g : Inputs) (x : Bool) (b : Buffers) → Asked file g x b → length b.memory ≡ 65536
asked_memory file g x b a = (right_sizes g b a.buffers).memory

pub asked_top : (file : List ℕ) (g : Inputs) (x : Bool) (b : Buffers) → Asked file g x b → g.high ≤ 65535
asked_top file g x b a = (range_bounds g a.settings).1

-- What a call as asked answers and leaves, of a file that the rules accept.
pub record Left (file : List ℕ) (g : Inputs) (z : Progress) (b : Buffers) (r : Outcome) (b' : Buffers) : Type 0 where
  pub outcome : r ≡ report b.memory (finished z) (judged file g).events
  pub memory : b'.memory ≡ play (judged file g).events b.memory
  pub map : b'.map ≡ marks (judged file g).events blank
  pub names : b'.names ≡ filled_up new_names_length z.names
  pub addresses : b'.addresses ≡ filled_up new_addresses_length z.addresses

-- such a call leaves what its events make
pub call_leaves : (file : List ℕ) (g : Inputs) (x : Bool) (b b' : Buffers) (r : Outcome) → Loaded file g (x && sized g b) b r b' → Asked file g x b → (z : Progress)
    → (judged file g).answer ≡ finished z
    → Left file g z b r b'
unfolding pick
call_leaves file g x b b' r d a z e =
    let c = asked_judged file g x b a in
    let o = call file g (x && sized g b) in
    let es = (judged file g).events in
    let j : (A : Type 0) (f : Verdict → List Event → A) → f o.answer o.events ≡ f (finished z) es =
    λ A f. ap (λ (o : Ran Verdict). f o.answer o.events) c ∙ ap (λ (v : Verdict). f v es) e in
    record {
      outcome = d.outcome ∙ j Outcome (λ v fs. report b.memory v fs);
      memory = d.memory ∙ j (List ℕ) (λ v fs. memory_after v fs b.memory);
      map = d.map ∙ ap (λ (t : Bool). pick t (map_after o.answer o.events) b.map) (asked_sized a) ∙ j (List ℕ) (λ v fs. map_after v fs);
      names = d.names ∙ j (List ℕ) (λ v fs. names_after v b.names);
      addresses = d.addresses ∙ j (List ℕ) (λ v fs. addresses_after v b.addresses);
    }

-- the number of new names, the start and low of an outcome
abbrev named_of : Outcome → ℕ
named_of (Ok a) = a.new_names
named_of (Err r) = 0

abbrev start_of : Outcome → Option ℕ
start_of (Ok a) = a.start
start_of (Err r) = None

abbrev low_of : Outcome → ℕ
low_of (Ok a) = a.low
low_of (Err r) = 0

-- what is reported as accepted was finished
reported_finished : (m : List ℕ) (v : Verdict) (es : List Event) → is_refused (report m v es) ≡ false → (z : Progress) × (v ≡ finished z)
reported_finished m (finished z) es e = (z, refl)
reported_finished m (refused fault offset z) es e = absurd (false≢true (sym e))

-- a call as asked of a file that the rules accept
accepted_call : (file : List ℕ) (g : Inputs) (x : Bool) (b b' : Buffers) (r : Outcome) (z : Progress) → Loaded file g (x && sized g b) b r b' → Bytes file → Asked file g x b
    → (judged file g).answer ≡ finished z
    → (start : Option ℕ) (placed adjusted named low : ℕ)
    → r ≡ acceptance start placed adjusted named low
    → AcceptedCall file g x b b' start placed adjusted named low
accepted_call file g x b b' r z d bytes a f start placed adjusted named low e =
    let l = call_leaves file g x b b' r d a z f in
    let s : acceptance start placed adjusted named low ≡ report b.memory (finished z) (judged file g).events = sym e ∙ l.outcome in
    let ep : placed ≡ placed_in (judged file g).events = ap placed_of s in
    let ea : adjusted ≡ adjusted_in (judged file g).events = ap adjusted_of s in
    record {
      asked = a;
      end = z;
      events = (judged file g).events;
      leaves = rw (l.memory, l.map, ep, ea) (demand2 file g z b.memory (asked_top file g x b a) bytes (asked_memory file g x b a) f);
      start_is = rw (l.memory, l.map) (ap start_of s);
      new_names = l.names;
      new_addresses = l.addresses;
      named_count = ap named_of s;
      low_after = ap low_of s;
    }

-- an accepted call
call_accepted : (file : List ℕ) (g : Inputs) (x : Bool) (b b' : Buffers) (r : Outcome) → Loaded file g (x && sized g b) b r b' → Bytes file → (start : Option ℕ)
    (placed adjusted named low : ℕ)
    → r ≡ acceptance start placed adjusted named low
    → AcceptedCall file g x b b' start placed adjusted named low
call_accepted file g x b b' r d bytes start placed adjusted named low e =
    let o = call file g (x && sized g b) in
    let y = reported_finished b.memory o.answer o.events (ap is_refused (sym d.outcome ∙ e)) in
    let a = finished_asked file g x b y.0 y.1 in
    let f = ap (λ (k : Ran Verdict). k.answer) (sym (asked_judged file g x b a)) ∙ y.1 in
    accepted_call file g x b b' r y.0 d bytes a f start placed adjusted named low e

-- a call as asked accepts every file that follows the rules
call_accepts : (file : List ℕ) (g : Inputs) (x : Bool) (b b' : Buffers) (r : Outcome) → Loaded file g (x && sized g b) b r b' → Asked file g x b → (z : Progress)
    (es : List Event)
    → Follows file g z es
    → r ≡ acceptance (start_in b'.map b'.memory) (placed_in es) (adjusted_in es) (length z.addresses) z.cursor.low
call_accepts file g x b b' r d a z es f =
    let j = follows_judged file g (asked_top file g x b a) z es f in
    let l = call_leaves file g x b b' r d a z (ap (λ (o : Ran Verdict). o.answer) j) in
    rw (← ap (λ (o : Ran Verdict). o.events) j, l.memory, l.map) l.outcome

-- Demand 2, of every call
pub call_demand2 : Claim
call_demand2 file bytes g x b b' r d = record { only = call_accepted file g x b b' r d bytes; all = call_accepts file g x b b' r d }

-- that a file has no block and nothing was loaded holds of none: an empty one has no first word, and any other has an end to reach
pub none_without_block : (g : Inputs) (m file : List ℕ) → ¬ Demand2 file g (begun g) [] m m blank 0 0
unfolding opening need
none_without_block g m [] h = failed_passed h.follows.opens
none_without_block g m (x ∷ xs) h = omega (arith, h.follows.ends)
