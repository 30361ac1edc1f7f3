-- What a file is refused with: not 1, 2 or 3, which are left to lengths and settings, so that each has its one cause; and in the file, or at its end.
-- Assumes nothing.
use mathlib.Core.Bool.{Bool, true, false≢true}
use mathlib.Core.List.{List}
use mathlib.Core.Path.{◌≡◌, refl, sym, ap, ◌∙◌}
use Prim.Native.Nat.{ℕ}
use native.Mathlib.Omega.{arith}
use lib.Dec.{leb}
use lib.ListN.{length}
use Rattle.std.proofs.Common.{Ok, Err}
use Rattle.answer.specs.Report.{refusal}
use Rattle.records.specs.Records.{Read}
use Rattle.answer.proofs.Causes.{causes_of}
use Rattle.answer.proofs.Checks.{on_need}
use Rattle.answer.proofs.Faults.{is_early, OfFile, ByFile, Lies, early_located, by_file_lies}
use Rattle.answer.specs.Causes.{Causes}
use Rattle.answer.specs.Checks.{need, failure}
use Rattle.answer.specs.declared.Fault.{Fault}
use Rattle.answer.specs.declared.Fault.TheVariants.{WrongBuffer}
use Rattle.events.proofs.Faults.{CheckFaults, Checks, fails, Ending, from_ends}
use Rattle.events.specs.Events.{Event, blank, Ran, Check}
use Rattle.pieces.proofs.Faults.{applied_faults}
use Rattle.pieces.specs.Pieces.{Piece}
use Rattle.pieces.specs.declared.Bases.{Bases}
use Rattle.records.proofs.Reading.{Where, lies_as}
use Rattle.records.specs.declared.Record.TheVariants.{Code, Fixups, End}
use Rattle.events.specs.Sizes.{file_limit}
use Rattle.acx.specs.Call.{form_of, in_range, load, call}
use Rattle.acx.specs.Walk.{Verdict, accepted, refused, at_once, Progress, last_of, last_place, last_size, record_at, checked, judge, turn, records_from, records_of, opening, opened, judged, report, reported}
use Rattle.acx.specs.declared.Form.{Form}
use Rattle.acx.specs.declared.Form.TheVariants.{Disk, Device}

-- a verdict is no refusal, or one that the file decides
abbrev VerdictFaults : ℕ → Verdict Piece → Type 0
VerdictFaults len (accepted ps entry) = Unit {0}
VerdictFaults len (refused fault offset) = OfFile len fault offset

-- (the same as a record)
record Verdicts (len : ℕ) (v : Verdict Piece) : Type 0 where
  faults : VerdictFaults len v

-- where a record leads
judge_faults : (len : ℕ) (file : List ℕ) (b : Bases) (s : Progress) (c : Check) (r : Read) → CheckFaults len c → Where len s.at r
    → Ending (Verdicts len) (judge file b s c r)
judge_faults len file b s (Err e) r k l = record { faults = k }
judge_faults len file b s (Ok done) (Ok (Code kind address from n)) k l = tt
judge_faults len file b s (Ok done) (Ok (Fixups fixup from n)) k l = tt
judge_faults len file b s (Ok done) (Ok (End entry next)) k l = record { faults = tt }
judge_faults len file b s (Ok done) (Err e) k l = record { faults = l }

-- so every turn of a file, and all its records
turn_faults : (file : List ℕ) (b : Bases) (s : Progress) (map : List ℕ) → Ending (Verdicts (length file)) (turn file b s map).answer
unfolding turn checked
turn_faults file b s map =
    let r = record_at file s in
    let w = lies_as file s.at (last_of s.pieces) r refl in
    judge_faults (length file) file b s (checked file b s map).answer r
    (applied_faults file s.at b (last_place b s.pieces) (last_size s.pieces) r map w).faults w

records_faults : (file : List ℕ) (b : Bases) (at : ℕ) → Verdicts (length file) (records_of file b at).answer
unfolding records_from
records_faults file b at =
    from_ends (Verdicts (length file)) (turn file b) _ (λ s. record { faults = record { late = refl; place = omega arith } }) (turn_faults file b) _ _ blank

-- the opening
pub opening_faults : (form : Form) (file : List ℕ) → Checks (length file) (opening form file)
unfolding opening
opening_faults Disk file =
    on_need failure (Checks (length file)) _ _ _ _ (fails refl (omega arith))
    (λ _. on_need failure (Checks (length file)) _ _ _ _ (fails refl (omega arith))
    (λ _. record { faults = tt }))
opening_faults Device file = record { faults = tt }

opened_faults : (len : ℕ) (c : Check) (rest : Ran (Verdict Piece)) → CheckFaults len c → Verdicts len rest.answer → Verdicts len (opened c rest).answer
opened_faults len (Ok done) rest h i = i
opened_faults len (Err e) rest h i = record { faults = h }

-- the whole file
judged_faults : (form : Form) (file : List ℕ) (b : Bases) → Verdicts (length file) (judged form file b).answer
unfolding judged
judged_faults form file b = opened_faults _ (opening form file) _ (opening_faults form file).faults (records_faults file b _)

-- so a fault of its is one that it may be refused with
pub judged_decides : (form : Form) (file : List ℕ) (b : Bases) (fault : Fault) (at : ℕ) → (judged form file b).answer ≡ refused fault at
    → OfFile (length file) fault at
judged_decides form file b fault at e = let h : Verdicts (length file) (refused fault at) = rw (← e) (judged_faults form file b) in h.faults

report_faults : {len : ℕ} (b : Bases) (v : Verdict Piece) (es : List Event) → Verdicts len v → ByFile len (report b v es)
report_faults b (accepted ps entry) es h = record { decided = tt }
report_faults b (refused fault offset) es h = record { decided = h.faults }

-- so what is reported lies where it should
abbrev Reports : ℕ → Bases → Ran (Verdict Piece) → Type 0
Reports len b o = Lies len (reported b o).answer

early : (len : ℕ) (fault : Fault) → is_early fault ≡ true → Lies len (refusal fault 0 0)
early len fault e = record { lies = early_located len fault e }

-- of every call
pub call_lies : (form : ℕ) (b : Bases) (file : List ℕ) (right : Bool) → Lies (length file) (reported b (call form b file right)).answer
unfolding call load
call_lies form b file right =
    let P = Reports (length file) b in
    on_need at_once P _ _ _ _ (early _ _ refl)
    (λ _. on_need at_once P _ _ _ _ (early _ _ refl)
    (λ _. on_need at_once P _ _ _ _ (early _ _ refl)
    (λ _. by_file_lies _ (report_faults b _ (judged (form_of form) file b).events (judged_faults (form_of form) file b)))))

pub load_lies : (form : ℕ) (b : Bases) (file : List ℕ) → Lies (length file) (reported b (load form b file)).answer
unfolding call need
load_lies form b file = call_lies form b file true

-- why a call is refused with 1, 2 or 3
pub call_causes : (form : ℕ) (b : Bases) (file : List ℕ) (right : Bool)
    → Causes right (in_range form b) (leb (length file) file_limit) (reported b (call form b file right)).answer
unfolding call load need
call_causes form b file right =
    causes_of (length file) right (in_range form b) (leb (length file) file_limit) (λ h. rw h refl) (λ h i. rw (h, i) refl) (λ h i j. rw (h, i, j) refl)
    (λ h i j. rw (h, i, j) (report_faults b _ _ (judged_faults (form_of form) file b)))

-- so a load with the right buffers is refused with 2 or 3 exactly for its cause
pub load_causes : (form : ℕ) (b : Bases) (file : List ℕ)
    → Causes true (in_range form b) (leb (length file) file_limit) (reported b (load form b file)).answer
unfolding call need
load_causes form b file = call_causes form b file true

-- and never with 1
pub load_late : (form : ℕ) (b : Bases) (file : List ℕ) (fault : Fault) (at side : ℕ) → (reported b (load form b file)).answer ≡ refusal fault at side
    → ¬ (fault ≡ WrongBuffer)
load_late form b file fault at side e f =
    false≢true (sym ((load_causes form b file).wrong_buffer_only at side (e ∙ ap (λ (k : Fault). refusal k at side) f)))
