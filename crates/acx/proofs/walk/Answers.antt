-- `acx::walk` meets its contract: the definition's walk has come to the cursor, with the memory and the map of its events (`Going`).
-- Assumes nothing.
use native.Mathlib.Nat.{le_refl}
use native.Mathlib.Omega.{arith}
use mathlib.Core.Path.{◌≡◌}
use Rattle.std.proofs.Common.{Ok, Err, Result, ℕ, rules, ap, refl}
use Rattle.std.proofs.lemmas.Result.{err_from_is_err_and}
use Rattle.std.specs.Result.{MatchResult, IsErrAnd}
use Rattle.answer.specs.Report.{refused_by}
use Rattle.answer.specs.declared.Failure.{Failure}
use Rattle.answer.specs.declared.Refusal.{Refusal}
use Rattle.records.specs.declared.Entry.{Entry}
use Rattle.records.specs.declared.Record.TheVariants.{End}
use Rattle.acx.proofs.Cursors.{tracks_inside, tracks_counts, tracks_found, tracks_ends_by}
use Rattle.acx.proofs.Going.{going_first, going_fails, going_offset, going_start, going_ends, going_on, going_further, going_ends_by, going_onward}
use Rattle.acx.proofs.walk.Goals.{in-Ok+in-Code-1, in-Err-1}
use Rattle.acx.proofs.walk.Goals as goal

pub loop-entry-init : goal.loop-entry-init
loop-entry-init c =
    rw c.first_cursor-cursor.ensures (going_first c.requires.1 c.requires.0)

-- what was refused of a part of the work
mapped : {A : Type 0} (r : Result A Failure) (q : Result A Refusal) → MatchResult r (λ x. q ≡ Ok x) (λ e. IsErrAnd q (λ k. k ≡ refused_by e)) → {k : Refusal} → q ≡ Err k
    → (e : Failure) × (r ≡ Err e) × (k ≡ refused_by e)
mapped (Ok x) q h f = absurd (let n : ◌≡◌ {A = ℕ} 0 1 = cc in omega arith)
mapped {A} (Err e) q h {k} f = let g : IsErrAnd {T = A} (Err k) (λ k. k ≡ refused_by e) = rw f at h in (e, refl, g)

pub apply-requires : goal.apply-requires
apply-requires c =
    let l = c.loop-entry in
    let w = l.invariant.came in
    ((tracks_counts w).0, tracks_ends_by w (tracks_found w c.read-found.ensures) _ (le_refl _), tracks_inside w)

pub map_err-requires : goal.map_err-requires
map_err-requires c =
    λ e h.
    let k = going_offset c.loop-entry.invariant c.read-found.ensures c.apply.ensures h in
    omega (arith, c.len.ensures.limited, k)

pub returns-in_err-map_err : goal.returns-in_err-map_err
returns-in_err-map_err c =
    let p = err_from_is_err_and c.from_residual.result c.from_residual.ensures.1 in
    let k = mapped c.apply.result c.map_err.result c.map_err.ensures.cases c.in_err-map_err.was in
    going_fails c.loop-entry.invariant c.read-found.ensures c.apply.ensures k.1 (rw (p.1, p.2) (ap Err k.2))

pub accepted-requires : goal.accepted-requires
accepted-requires c =
    let l = c.loop-entry in
    let passed : c.apply.result ≡ Ok tt = search rules in
    let is : c.read-found.result ≡ Ok (End c.in-Ok-End.entry c.in-Ok-End.field-0-1) = search rules in
    let k = tracks_counts l.invariant.came in
    let fits = going_start l.invariant c.read-found.ensures c.apply.ensures passed is in
    (fits, omega (arith, c.len.ensures.limited, k.0, k.1), omega (arith, c.len.ensures.limited, k.0, k.1))

pub returns-in-Ok-End : goal.returns-in-Ok-End
returns-in-Ok-End c =
    let l = c.loop-entry in
    let passed : c.apply.result ≡ Ok tt = search rules in
    let is : c.read-found.result ≡ Ok (End c.in-Ok-End.entry c.in-Ok-End.field-0-1) = search rules in
    rw c.accepted.ensures (going_ends l.invariant c.read-found.ensures c.apply.ensures passed is)

pub advance-cursor-requires : goal.advance-cursor-requires
advance-cursor-requires c =
    let l = c.loop-entry in
    let k = tracks_counts l.invariant.came in (
      omega (arith, c.len.ensures.limited, k.0, k.1),
      omega (arith, c.len.ensures.limited, k.0, k.1),
      going_ends_by l.invariant c.read-found.ensures c.apply.ensures (omega (arith, c.len.ensures.limited)),
    )

-- what the program goes on from is not the end record
not_end : (c : goal.After-advance-cursor) → (entry : Entry) (next : ℕ) → c.read-found.result ≡ Ok (End entry next) → ⊥
not_end c entry next e = elim c.match-found.branch [ in-Ok+in-Code-1 w ↦ search rules | in-Err-1 w ↦ search rules ]

pub loop-entry-smaller : goal.loop-entry-smaller
loop-entry-smaller c =
    let l = c.loop-entry in
    let passed : c.apply.result ≡ Ok tt = search rules in
    let on = going_onward l.invariant c.read-found.ensures c.apply.ensures passed (not_end c) in
    let a = rw (← c.advance-cursor.ensures) at (going_further l.invariant c.read-found.ensures c.apply.ensures on) in
    let g = rw (← c.advance-cursor.ensures) at (going_on l.invariant c.read-found.ensures c.apply.ensures passed on) in
    omega (arith, a, (tracks_counts g.came).0)

pub loop-entry-preserved : goal.loop-entry-preserved
loop-entry-preserved c =
    let l = c.loop-entry in
    let passed : c.apply.result ≡ Ok tt = search rules in
    let on = going_onward l.invariant c.read-found.ensures c.apply.ensures passed (not_end c) in
    rw c.advance-cursor.ensures (going_on l.invariant c.read-found.ensures c.apply.ensures passed on)
