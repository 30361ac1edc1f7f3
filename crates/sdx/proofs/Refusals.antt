-- Which calls are refused, and what a refused call leaves: specs/Refusals.antt, of every call that keeps the contract.
-- Assumes nothing.
use mathlib.Core.Bool.{Bool, true, false, false≢true, ◌&&◌}
use mathlib.Core.List.{List}
use mathlib.Core.Path.{◌≡◌, refl, sym, ap, ◌∙◌}
use Prim.Native.Nat.{ℕ}
use Rattle.std.proofs.Common.{Ok, Err}
use Rattle.answer.proofs.Faults.{located_as}
use Rattle.answer.proofs.Outcomes.{is_refused, fault_in}
use Rattle.answer.specs.Checks.{pick}
use Rattle.answer.specs.Report.{Outcome, refusal}
use Rattle.answer.specs.declared.Fault.{Fault}
use Rattle.answer.specs.declared.Fault.TheVariants.{WrongBuffer}
use Rattle.events.specs.Events.{Event, blank, Ran}
use Rattle.passes.specs.Buffers.{Buffers}
use Rattle.passes.specs.Walk.{Inputs, Progress, Verdict, finished, refused}
use Rattle.sdx.proofs.Calling.{call_load}
use Rattle.sdx.proofs.Faults.{call_lies, call_causes}
use Rattle.sdx.proofs.Rules.{by_rules}
use Rattle.sdx.specs.Refusals.{Refusals, RefusalsClaim}
use Rattle.sdx.specs.Call.{load, call, report, memory_after, map_after, names_after, addresses_after, Loaded, sized}

-- what was refused leaves memory and new names, and a clear map
record Untouched (v : Verdict) (es : List Event) (m ns ads : List ℕ) : Type 0 where
  memory : memory_after v es m ≡ m
  map : map_after v es ≡ blank
  names : names_after v ns ≡ ns
  addresses : addresses_after v ads ≡ ads

refused_untouched : (v : Verdict) (es : List Event) (m ns ads : List ℕ) → is_refused (report m v es) ≡ true → Untouched v es m ns ads
refused_untouched (finished z) es m ns ads e = absurd (false≢true e)
refused_untouched (refused fault offset z) es m ns ads e = record { memory = refl; map = refl; names = refl; addresses = refl }

-- a call with the right buffers is not refused with 1, one with others is
module _ (file : List ℕ) (g : Inputs) (right : Bool) (b b' : Buffers) (r : Outcome) (d : Loaded file g right b r b') (fault : Fault) (offset side : ℕ)
    (e : r ≡ refusal fault offset side) where
  -- it is what the definition reports
  reported : (t : Bool) → right ≡ t → report b.memory (call file g t).answer (call file g t).events ≡ refusal fault offset side
  reported t h = ap (λ (s : Bool). report b.memory (call file g s).answer (call file g s).events) (sym h) ∙ sym d.outcome ∙ e

  right_late : right ≡ true → ¬ (fault ≡ WrongBuffer)
  right_late h f =
      false≢true
      (sym ((call_causes file g true b.memory).wrong_buffer_only offset side (reported true h ∙ ap (λ (k : Fault). refusal k offset side) f)))

  wrong_first : right ≡ false → fault ≡ WrongBuffer
  wrong_first h = ap fault_in (sym (reported false h) ∙ (call_causes file g false b.memory).wrong_buffer refl)

  untouched : Untouched (call file g right).answer (call file g right).events b.memory b.names b.addresses
  untouched = refused_untouched _ _ b.memory b.names b.addresses (ap is_refused (sym d.outcome ∙ e))

  map_is : (t : Bool) → right ≡ t
      → b'.map ≡ pick t (map_after (call file g right).answer (call file g right).events) b.map
  map_is t h =
      d.map ∙ ap (λ (s : Bool). pick s (map_after (call file g right).answer (call file g right).events) b.map) h

  map_first : (t : Bool) → right ≡ t → fault ≡ WrongBuffer → b'.map ≡ b.map
  unfolding pick
  map_first true h f = absurd (right_late h f)
  map_first false h f = map_is false h

  map_late : (t : Bool) → right ≡ t → ¬ (fault ≡ WrongBuffer) → b'.map ≡ blank
  unfolding pick
  map_late true h f = map_is true h ∙ untouched.map
  map_late false h f = absurd (f (wrong_first h))

-- the offset and the side of a refusal
abbrev offset_in : Outcome → ℕ
offset_in (Ok a) = 0
offset_in (Err r) = r.offset

abbrev side_in : Outcome → ℕ
side_in (Ok a) = 0
side_in (Err r) = r.side

-- an outcome that is a refusal is of a verdict that is one
reported_refused : (m : List ℕ) (v : Verdict) (es : List Event) (fault : Fault) (offset side : ℕ) → report m v es ≡ refusal fault offset side
    → ((y : Progress) × (v ≡ refused fault offset y)) × (side ≡ 0)
reported_refused m (finished z) es fault offset side e = absurd (false≢true (ap is_refused e))
reported_refused m (refused f i y) es fault offset side e =
    let k : f ≡ fault = ap fault_in e in
    let l : i ≡ offset = ap offset_in e in
    let s : 0 ≡ side = ap side_in e in
    ((y, ap (λ (d : Fault). refused d i y) k ∙ ap (λ (n : ℕ). refused fault n y) l), sym s)

-- every call, where the lengths are right or not
refusals : (file : List ℕ) (g : Inputs) (right : Bool) (b b' : Buffers) (r : Outcome) → Loaded file g right b r b' → Refusals file g right b r b'
refusals file g right b b' r d =
    let o = load file g in
    let load_is : right ≡ true → r ≡ report b.memory o.answer o.events =
    λ h. d.outcome ∙ ap (λ (c : Ran Verdict). report b.memory c.answer c.events) (call_load file g right h) in
    record {
      causes = rw d.outcome (call_causes file g right b.memory);
      only = λ h fault offset side e.
          let k = reported_refused b.memory o.answer o.events fault offset side (sym (load_is h) ∙ e) in
          ((k.0.0, (by_rules file g).refuses_only fault offset k.0.0 k.0.1), k.1);
      all = λ h fault offset w. load_is h ∙ ap (λ (v : Verdict). report b.memory v o.events) ((by_rules file g).refuses fault offset w.0 w.1);
      located = λ fault offset side e. located_as (rw d.outcome (call_lies file g right b.memory)) e;
      leaves = λ fault offset side e.
          let u = untouched file g right b b' r d fault offset side e in
          record {
            memory = d.memory ∙ u.memory;
            names = d.names ∙ u.names;
            addresses = d.addresses ∙ u.addresses;
            wrong_buffer = map_first file g right b b' r d fault offset side e right refl;
            other = map_late file g right b b' r d fault offset side e right refl;
          };
    }

pub call_refusals : RefusalsClaim
call_refusals file g others b b' r d = refusals file g (others && sized g b) b b' r d
