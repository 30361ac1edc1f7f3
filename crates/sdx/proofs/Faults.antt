-- What a file is refused with: not 1, 2 or 3, which are left to lengths and settings, so that each has its one cause; and in the file, or at its end.
-- Assumes nothing.
use mathlib.Core.Bool.{Bool, true}
use mathlib.Core.List.{List}
use mathlib.Core.Path.{◌≡◌, refl}
use Prim.Native.Nat.{ℕ, ◌≤◌}
use native.Mathlib.Omega.{arith}
use borrow.Author.Tests.{leb-true}
use lib.Dec.{leb}
use lib.ListN.{length}
use Rattle.std.proofs.Common.{Ok, Err}
use Rattle.answer.proofs.Causes.{causes_of}
use Rattle.answer.proofs.Checks.{on_need}
use Rattle.answer.proofs.Faults.{is_early, ByFile, Lies, of_file_located, early_located, by_file_lies}
use Rattle.answer.specs.Causes.{Causes}
use Rattle.answer.specs.Checks.{failure, need}
use Rattle.answer.specs.declared.Failure.{Failure}
use Rattle.answer.specs.Report.{Located}
use Rattle.answer.specs.declared.Fault.{Fault}
use Rattle.events.proofs.Faults.{CheckFaults, Checks, fails}
use Rattle.events.specs.Events.{Event, Ran, Check}
use Rattle.events.specs.Sizes.{file_limit}
use Rattle.passes.proofs.Faults.{Verdicts, blocks_faults}
use Rattle.passes.specs.Walk.{Inputs, Verdict, finished, refused, blocks_of}
use Rattle.sdx.proofs.Calling.{judged, admitted, range_bounds}
use Rattle.sdx.specs.Call.{in_range, at_once, opening, opened, admitting, load, call, report}

-- the opening
opening_faults : (file : List ℕ) → Checks (length file) (opening file)
unfolding opening
opening_faults file =
    on_need failure (Checks (length file)) _ _ _ _ (fails refl (omega arith))
    (λ _. on_need failure (Checks (length file)) _ _ _ _ (fails refl (omega arith))
    (λ _. record { faults = tt }))

-- and then the blocks
opened_faults : (len : ℕ) (g : Inputs) (c : Check) (rest : Ran Verdict) → CheckFaults len c → Verdicts len rest.answer
    → Verdicts len (opened g c rest).answer
opened_faults len g (Ok passed) rest h i = i
opened_faults len g (Err e) rest h i = record { faults = h }

judged_faults : (file : List ℕ) (g : Inputs) → g.high ≤ 65535 → Verdicts (length file) (judged file g).answer
unfolding judged
judged_faults file g top = opened_faults _ g (opening file) _ (opening_faults file).faults (blocks_faults file g top)

-- what is reported of it
report_faults : {len : ℕ} (memory : List ℕ) (v : Verdict) (es : List Event) → Verdicts len v → ByFile len (report memory v es)
report_faults memory (finished z) es h = record { decided = tt }
report_faults memory (refused fault offset z) es h = record { decided = h.faults }

-- ---- where the refusal of every call lies

-- a check passed, or failed so, at an offset up to n
abbrev CheckLies : ℕ → ℕ → Check → Type 0
CheckLies len n (Ok passed) = Unit {0}
CheckLies len n (Err e) = Located len e.fault e.offset × (e.offset ≤ n)

-- (the same as a record)
record Admits (len n : ℕ) (c : Check) : Type 0 where
  lies : CheckLies len n c

-- 2 and 3, at 0
early : (len n : ℕ) (fault : Fault) → is_early fault ≡ true → Admits len n (failure fault 0)
early len n fault e = record { lies = (early_located len fault e, omega arith) }

-- the opening of a file that is not too long
late : (file : List ℕ) (c : Check) → CheckFaults (length file) c → length file ≤ 65536 → Admits (length file) 65536 c
late file (Ok passed) h l = record { lies = tt }
late file (Err e) h l =
    let p = of_file_located h in
    record { lies = (p, omega (arith, p.within)) }

-- the checks before the first block
admitting_lies : (file : List ℕ) (g : Inputs) → Admits (length file) 65536 (admitting file g)
unfolding admitting
admitting_lies file g =
    let P = Admits (length file) 65536 in
    on_need failure P _ _ _ _ (early _ _ _ refl)
    (λ _. on_need failure P _ _ _ _ (early _ _ _ refl)
    (λ i. late file (opening file) (opening_faults file).faults (leb-true _ _ i)))

-- so what is refused before the first block has an offset with room in four bytes
pub admit_fits : (file : List ℕ) (g : Inputs) {d : Failure} → admitting file g ≡ Err d → d.offset ≤ 65536
admit_fits file g {d} e =
    let h : CheckLies (length file) 65536 (Err d) = rw e at (admitting_lies file g).lies in
    h.1

-- what is reported of a load into a memory
abbrev Reports : ℕ → List ℕ → Ran Verdict → Type 0
Reports len memory o = Lies len (report memory o.answer o.events)

pub call_lies : (file : List ℕ) (g : Inputs) (right : Bool) (memory : List ℕ)
    → Lies (length file) (report memory (call file g right).answer (call file g right).events)
unfolding call load
call_lies file g right memory =
    on_need (at_once g) (Reports (length file) memory) _ _ _ _ (record { lies = early_located _ _ refl })
    (λ _. by (admitting file g) refl (admitting_lies file g).lies)
  where
    by : (c : Check) → admitting file g ≡ c → CheckLies (length file) 65536 c → Reports (length file) memory (opened g c (blocks_of file g))
    by (Ok passed) e h =
        let top = (range_bounds g (admitted file g e).settings).1 in
        by_file_lies _ (report_faults memory _ (blocks_of file g).events (blocks_faults file g top))
    by (Err failed) e h = record { lies = h.0 }

-- ---- why a call is refused with 1, 2 or 3

pub call_causes : (file : List ℕ) (g : Inputs) (right : Bool) (memory : List ℕ)
    → Causes right (in_range g) (leb (length file) file_limit) (report memory (call file g right).answer (call file g right).events)
unfolding call load judged admitting need
call_causes file g right memory =
    causes_of (length file) right (in_range g) (leb (length file) file_limit) (λ h. rw h refl) (λ h i. rw (h, i) refl) (λ h i j. rw (h, i, j) refl)
    (λ h i j. rw (h, i, j) (report_faults memory _ _ (judged_faults file g (range_bounds g i).1)))
