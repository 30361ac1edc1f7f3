-- Which calls are refused, and what a refused call leaves: specs/Refusals.antt, of every call that keeps the contract.
-- Assumes nothing.
use mathlib.Core.Bool.{Bool, true, false, ◌&&◌, false≢true}
use mathlib.Core.List.{List}
use mathlib.Core.Path.{◌≡◌, refl, sym, ap, ◌∙◌, subst}
use Prim.Native.Nat.{ℕ}
use lib.Dec.{leb}
use lib.ListN.{length}
use Rattle.answer.proofs.Faults.{located_as}
use Rattle.answer.proofs.Outcomes.{is_refused, fault_in}
use Rattle.answer.specs.Checks.{need, pick}
use Rattle.answer.specs.Report.{Located, Outcome, refusal}
use Rattle.answer.specs.declared.Fault.{Fault}
use Rattle.answer.specs.declared.Refusal.{Refusal}
use Rattle.answer.specs.declared.Fault.TheVariants.{WrongBuffer, SettingOutOfRange, FileTooLong}
use Rattle.events.specs.Events.{Event}
use Rattle.events.specs.Sizes.{file_limit}
use Rattle.pieces.specs.Pieces.{Piece}
use Rattle.pieces.specs.declared.Bases.{Bases}
use Rattle.acx.proofs.Calling.{refused_memory, refused_map, loaded_right}
use Rattle.acx.proofs.Faults.{call_lies, load_lies, call_causes, load_causes, load_late}
use Rattle.acx.proofs.Rules.{by_rules}
use Rattle.acx.specs.Call.{in_range, sized, load, call, Loaded}
use Rattle.acx.specs.Refusals.{RefusedCall, Refusals, RefusalsClaim}
use Rattle.acx.specs.Rules.{Refuses}
use Rattle.acx.specs.Walk.{Verdict, accepted, refused, report, reported}

module _ (form : ℕ) (b : Bases) (file m p : List ℕ) (r : Outcome) (m' p' : List ℕ) (fault : Fault) (at side : ℕ) (e : r ≡ refusal fault at side) where
  -- where a length is wrong, that is the fault
  refused_wrong : Loaded form b file false m p r m' p' → RefusedCall fault m p m' p'
  unfolding call need pick
  refused_wrong d = record { memory = d.memory; wrong_buffer = λ h. d.map; other = λ n. absurd (n (ap fault_in (sym e ∙ d.outcome))) }

  -- where all are right, it is another
  refused_right : Loaded form b file true m p r m' p' → RefusedCall fault m p m' p'
  refused_right d =
      let o = load form b file in
      let l = loaded_right refl d in
      let k : is_refused (report b o.answer o.events) ≡ true = ap is_refused (sym l.0 ∙ e) in
      record {
        memory = l.1 ∙ refused_memory b o.answer o.events m k;
        wrong_buffer = λ h. absurd (load_late form b file fault at side (sym l.0 ∙ e) h);
        other = λ n. l.2 ∙ refused_map b o.answer o.events k;
      }

-- ---- with the right buffers

module _ (form : ℕ) (b : Bases) (file : List ℕ) (at : ℕ) where
  -- what the rules refuse a load with is reported
  refuses_reported : (fault : Fault) → Refuses form b file fault at → (reported b (load form b file)).answer ≡ refusal fault at 0
  refuses_reported fault h = ap (λ (v : Verdict Piece). report b v (load form b file).events) ((by_rules form b file).refuses fault at h)

  -- where it lies
  pub refuses_located : (fault : Fault) → Refuses form b file fault at → Located (length file) fault at
  refuses_located fault h = located_as (load_lies form b file) (refuses_reported fault h)

  -- so they refuse it with 1 never
  pub refuses_sized : ¬ Refuses form b file WrongBuffer at
  refuses_sized h = load_late form b file WrongBuffer at 0 (refuses_reported WrongBuffer h) refl

  -- with 2 only where a setting is out of its range
  pub refuses_range : Refuses form b file SettingOutOfRange at → in_range form b ≡ false
  refuses_range h = ((load_causes form b file).out_of_range_only at 0 (refuses_reported SettingOutOfRange h)).1

  -- and with 3 only where the settings are in their ranges, and the file is too long
  pub refuses_long : Refuses form b file FileTooLong at → (in_range form b ≡ true) × (leb (length file) file_limit ≡ false)
  refuses_long h =
      let c = (load_causes form b file).too_long_only at 0 (refuses_reported FileTooLong h) in
      (c.1, c.2)

-- an outcome that is a refusal is of a verdict that is one
pub reported_refused : (b : Bases) (v : Verdict Piece) (es : List Event) (fault : Fault) (at side : ℕ) → report b v es ≡ refusal fault at side
    → (v ≡ refused fault at) × (side ≡ 0)
reported_refused b (accepted ps entry) es fault at side e = absurd (false≢true (ap is_refused e))
reported_refused b (refused f a) es fault at side e =
    let h : ◌≡◌ {A = Refusal} (record { fault = f; offset = a; side = 0 }) (record { fault = fault; offset = at; side = side }) = cc in
    (ap (λ (x : Refusal). refused x.fault x.offset) h, sym (ap (λ (x : Refusal). x.side) h))

-- every call, where the lengths are right or not
refusals : (form : ℕ) (b : Bases) (file : List ℕ) (right : Bool) (m p : List ℕ) (r : Outcome) (m' p' : List ℕ) → Loaded form b file right m p r m' p'
    → Refusals form b file right m p r m' p'
refusals form b file right m p r m' p' d =
    record {
      causes = rw d.outcome (call_causes form b file right);
      only = λ h fault at side e.
          let k = reported_refused b (load form b file).answer (load form b file).events fault at side (sym (loaded_right h d).0 ∙ e) in
          ((by_rules form b file).refuses_only fault at k.0, k.1);
      all = λ h fault at c. (loaded_right h d).0
          ∙ ap (λ (v : Verdict Piece). report b v (load form b file).events) ((by_rules form b file).refuses fault at c);
      located = λ fault at side e. located_as (rw d.outcome (call_lies form b file right)) e;
      leaves = λ fault at side e. by fault at side e right refl;
    }
  where
    by : (fault : Fault) (at side : ℕ) → r ≡ refusal fault at side → (t : Bool) → right ≡ t → RefusedCall fault m p m' p'
    by fault at side e true h = refused_right form b file m p r m' p' fault at side e (subst (λ (t : Bool). Loaded form b file t m p r m' p') h d)
    by fault at side e false h = refused_wrong form b file m p r m' p' fault at side e (subst (λ (t : Bool). Loaded form b file t m p r m' p') h d)

pub call_refusals : RefusalsClaim
call_refusals form b file answer_sized m p r m' p' d = refusals form b file (answer_sized && sized m p) m p r m' p' d
