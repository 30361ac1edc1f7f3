-- `index::walk` meets its contract: its entries decide, and the definition's walk over them has come to the cursor, with the map of its events (`Going`).
-- Assumes nothing.
use native.Mathlib.Nat.{le_refl}
use native.Mathlib.Omega.{arith}
use Rattle.index.proofs.Cursors.{tracks_counts, onward_else}
use Rattle.index.proofs.Going.{going_lies, going_unread, going_fails, going_start, going_ends, going_on, going_further}
use Rattle.index.proofs.walk.Goals as goal

pub returns-in-Err : goal.returns-in-Err
returns-in-Err c =
    let l = c.loop-found.invariant in
    rw l.0 (going_unread l.1 c.in-Err.ensures c.refused-in-Err.ensures)

pub apply-requires : goal.apply-requires
apply-requires c = going_lies c.loop-found.invariant.1 c.in-Ok.ensures _ (le_refl _)

pub returns-in-Err-apply : goal.returns-in-Err-apply
returns-in-Err-apply c =
    let l = c.loop-found.invariant in
    rw l.0 (going_fails l.1 c.in-Ok.ensures c.apply.ensures c.in-Err-apply.is c.refused-in-Err-apply.ensures)

pub accepted-requires : goal.accepted-requires
accepted-requires c =
    let l = c.loop-found.invariant.1 in
    let k = tracks_counts l.came in
    let fits = going_start l c.in-Ok.ensures c.apply.ensures c.in_default.is c.in-End.is in
    (fits, omega (arith, c.len.ensures, k), omega (arith, c.len.ensures, k))

pub returns-in-End : goal.returns-in-End
returns-in-End c =
    let l = c.loop-found.invariant in
    rw (l.0, c.accepted.ensures) (going_ends l.1 c.in-Ok.ensures c.apply.ensures c.in_default.is c.in-End.is)

pub advance-cursor-requires : goal.advance-cursor-requires
advance-cursor-requires c =
    let l = c.loop-found.invariant.1 in
    let k = tracks_counts l.came in (
      omega (arith, c.len.ensures, k),
      omega (arith, c.len.ensures, k),
      going_lies l c.in-Ok.ensures _ (omega (arith, c.len.ensures)),
    )

pub loop-found-smaller : goal.loop-found-smaller
loop-found-smaller c =
    let l = c.loop-found.invariant.1 in
    let on = onward_else _ c.in_default-found.not-End in
    let a = rw (← c.advance-cursor.ensures) at (going_further l c.in-Ok.ensures c.apply.ensures c.in_default.is on) in
    let g = rw (← c.advance-cursor.ensures) at (going_on l c.in-Ok.ensures c.apply.ensures c.in_default.is on) in
    omega (arith, a, (tracks_counts g.came).0)

pub loop-found-preserved : goal.loop-found-preserved
loop-found-preserved c =
    let l = c.loop-found.invariant in
    let on = onward_else _ c.in_default-found.not-End in
    (l.0, rw c.advance-cursor.ensures (going_on l.1 c.in-Ok.ensures c.apply.ensures c.in_default.is on))
