-- Two machines hold the same program: specs/Determinism.antt, of every two calls that keep the contract.
-- Assumes nothing.
use mathlib.Core.Bool.{Bool, true, ◌&&◌}
use mathlib.Core.List.{List, ◌∷◌, ◌++◌}
use mathlib.Core.Path.{◌≡◌, refl, sym, ap, ◌∙◌}
use Prim.Native.Nat.{ℕ}
use lib.ListN.{length, get_or}
use Rattle.std.proofs.Common.{Option}
use Rattle.answer.specs.Checks.{pick}
use Rattle.answer.specs.declared.Fault.{Fault}
use Rattle.answer.specs.Report.{Outcome, acceptance, refusal}
use Rattle.events.specs.Events.{Event, play, marks, blank, placed_in, adjusted_in, Ran}
use Rattle.words.specs.Runs.{Bytes}
use Rattle.passes.specs.Buffers.{Buffers}
use Rattle.passes.specs.Walk.{Inputs, Progress, Verdict, finished, refused}
use Rattle.sdx.proofs.Calling.{judged, call_load}
use Rattle.sdx.proofs.Demand2.{finished_asked, asked_judged, asked_memory, asked_top, Left, call_leaves}
use Rattle.sdx.proofs.Rules.{by_rules}
use Rattle.sdx.proofs.Keeping.{judged_keeps}
use Rattle.sdx.proofs.Lawful.{Lawful}
use Rattle.sdx.proofs.Same.{loaded_same, placed_same, start_same}
use Rattle.sdx.specs.Determinism.{SameClaim}
use Rattle.sdx.specs.Call.{load, call, report, map_after, sized, Loaded}
use Rattle.sdx.specs.Demand2.{Places, Among, Asked}
use Rattle.sdx.specs.Rules.{Accepts}

-- a load that finished is of a call as asked
load_asked : (file : List ℕ) (g : Inputs) (x : Bool) (b : Buffers) (z : Progress) → x && sized g b ≡ true → (load file g).answer ≡ finished z
    → Asked file g x b
load_asked file g x b z h e = finished_asked file g x b z (ap (λ (o : Ran Verdict). o.answer) (call_load file g (x && sized g b) h) ∙ e)

-- and comes to what the file comes to
load_judged : (file : List ℕ) (g : Inputs) (x : Bool) (b : Buffers) → x && sized g b ≡ true → Asked file g x b → load file g ≡ judged file g
load_judged file g x b h a = sym (call_load file g (x && sized g b) h) ∙ asked_judged file g x b a

module _ (file : List ℕ) (g : Inputs) (x y : Bool) (b₁ b₂ b d : Buffers) (r t : Outcome) (first : Loaded file g (x && sized g b₁) b₁ r b)
    (second : Loaded file g (y && sized g b₂) b₂ t d) (right₁ : x && sized g b₁ ≡ true) (right₂ : y && sized g b₂ ≡ true) (bytes : Bytes file) where
  -- two calls of a file that is accepted
  record Both (z : Progress) : Type 0 where
    judged_so : load file g ≡ judged file g
    memory₁ : length b₁.memory ≡ 65536
    memory₂ : length b₂.memory ≡ 65536
    lawful : Lawful blank (judged file g).events
    left₁ : Left file g z b₁ r b
    left₂ : Left file g z b₂ t d

  -- they leave the same events' memory, and names
  both : (z : Progress) → (load file g).answer ≡ finished z → Both z
  both z e =
      let a₁ = load_asked file g x b₁ z right₁ e in
      let a₂ = load_asked file g y b₂ z right₂ e in
      let j = load_judged file g x b₁ right₁ a₁ in
      let f : (judged file g).answer ≡ finished z = ap (λ (o : Ran Verdict). o.answer) (sym j) ∙ e in
      record {
        judged_so = j;
        memory₁ = asked_memory file g x b₁ a₁;
        memory₂ = asked_memory file g y b₂ a₂;
        lawful = (judged_keeps file g (asked_top file g x b₁ a₁) bytes z f).lawful;
        left₁ = call_leaves file g x b₁ b r first a₁ z f;
        left₂ = call_leaves file g y b₂ d t second a₂ z f;
      }

  module _ (z : Progress) (accepted : (load file g).answer ≡ finished z) where
    -- one start, and so one outcome
    same_outcome : r ≡ t
    same_outcome =
        let w = both z accepted in
        let es = (judged file g).events in
        let one = loaded_same b₁.memory b₂.memory w.memory₁ w.memory₂ es w.lawful in
        w.left₁.outcome
        ∙ ap (λ (s : Option ℕ). acceptance s (placed_in es) (adjusted_in es) (length z.addresses) z.cursor.low)
        (start_same (marks es blank) (play es b₁.memory) (play es b₂.memory) one)
        ∙ sym w.left₂.outcome

    -- one program
    same_placed : (before after : List Event) (e : Event) (x : ℕ) → Among (load file g).events before e after → Places x e
        → get_or b.memory x 0 ≡ get_or d.memory x 0
    same_placed before after e x h w =
        let k = both z accepted in
        let o : (judged file g).events ≡ before ++ (e ∷ after) = ap (λ (j : Ran Verdict). j.events) (sym k.judged_so) ∙ h.order in
        let l : Lawful blank (before ++ (e ∷ after)) = rw o at k.lawful in
        let was : (m : List ℕ) → get_or (play (judged file g).events m) x 0 ≡ get_or (play (before ++ (e ∷ after)) m) x 0 =
        λ m. ap (λ (es : List Event). get_or (play es m) x 0) o in
        ap (λ (m : List ℕ). get_or m x 0) k.left₁.memory
        ∙ was b₁.memory
        ∙ placed_same b₁.memory b₂.memory k.memory₁ k.memory₂ before after e x l w
        ∙ sym (was b₂.memory)
        ∙ ap (λ (m : List ℕ). get_or m x 0) (sym k.left₂.memory)

-- what a call with the right buffers reports of a file that is refused hangs on no memory
refused_outcome : (file : List ℕ) (g : Inputs) (right : Bool) (b b' : Buffers) (r : Outcome) → Loaded file g right b r b' → right ≡ true
    → (fault : Fault) (offset : ℕ) (z : Progress)
    → (load file g).answer ≡ refused fault offset z
    → r ≡ refusal fault offset 0
refused_outcome file g right b b' r d h fault offset z e =
    d.outcome
    ∙ ap (λ (o : Ran Verdict). report b.memory o.answer o.events) (call_load file g right h)
    ∙ ap (λ (v : Verdict). report b.memory v (load file g).events) e

-- nor does its map
the_map : (file : List ℕ) (g : Inputs) (right : Bool) (b b' : Buffers) (r : Outcome) → Loaded file g right b r b' → right ≡ true
    → b'.map ≡ map_after (load file g).answer (load file g).events
unfolding pick
the_map file g right b b' r d h =
    let o = call file g right in
    d.map
    ∙ ap (λ (t : Bool). pick t (map_after o.answer o.events) b.map) h
    ∙ ap (λ (k : Ran Verdict). map_after k.answer k.events) (call_load file g right h)

-- two calls with the right buffers
pub same_program : SameClaim
same_program file bytes g x y b₁ b₂ b d r t h i f s =
    let w = both file g x y b₁ b₂ b d r t f s h i bytes in
    let is : (z : Progress) (es : List Event) → Accepts file g z es → load file g ≡ record { answer = finished z; events = es } =
    (by_rules file g).accepts in
    let yes : (z : Progress) (es : List Event) → Accepts file g z es → (load file g).answer ≡ finished z =
    λ z es a. ap (λ (o : Ran Verdict). o.answer) (is z es a) in
    record {
      outcome = by (load file g).answer refl;
      map = the_map file g _ b₁ b r f h ∙ sym (the_map file g _ b₂ d t s i);
      program = λ z es a before after e k o.
          same_placed file g x y b₁ b₂ b d r t f s h i bytes z (yes z es a) before after e k
          (record { order = ap (λ (q : Ran Verdict). q.events) (is z es a) ∙ o.order });
      names = λ z es a. (w z (yes z es a)).left₁.names ∙ sym (w z (yes z es a)).left₂.names;
      addresses = λ z es a. (w z (yes z es a)).left₁.addresses ∙ sym (w z (yes z es a)).left₂.addresses;
    }
  where
    by : (v : Verdict) → (load file g).answer ≡ v → r ≡ t
    by (finished z) e = same_outcome file g x y b₁ b₂ b d r t f s h i bytes z e
    by (refused fault offset z) e = refused_outcome file g _ b₁ b r f h fault offset z e ∙ sym (refused_outcome file g _ b₂ d t s i fault offset z e)
