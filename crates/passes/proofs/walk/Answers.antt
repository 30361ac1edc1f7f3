-- `passes::walk` meets its contract: the definition's walk has come to the cursor, with the buffers as what it did left them (`Going`).
-- Assumes nothing.
use mathlib.Core.Path.{refl, sym, ◌∙◌}
use Prim.Native.Nat.{◌≤◌}
use native.Mathlib.Omega.{arith}
use Rattle.std.proofs.lemmas.Result.{err_from_is_err_and}
use Rattle.passes.proofs.Going.{whole, going_first, going_done, going_unread, found_fits, name_fits, room_fits, going_stops, going_falls, going_counts, going_on}
use Rattle.passes.proofs.walk.Goals as goal

pub loop-cursor-init : goal.loop-cursor-init
loop-cursor-init c =
    let top : c.lent.inside.high ≤ 65535 = omega arith in
    rw (c.first_cursor-cursor.ensures, c.requires)
    (going_first
    (record {
      short = omega (arith, c.len-end.ensures.length, c.len-end.ensures.limited);
      top = top;
      known = c.lent.invariant;
      clear = refl;
      room = omega arith;
      spots = omega arith;
    }))

pub returns-then-cursor-end : goal.returns-then-cursor-end
returns-then-cursor-end c =
    rw (← c.lent.view_is, c.total.ensures) (going_done c.loop-cursor.invariant (c.if-cursor-end.true ∙ c.len-end.ensures.length))

-- the fault of what was read, or of the block, is that of the walk
pub returns-in_err-found : goal.returns-in_err-found
returns-in_err-found c =
    let p = err_from_is_err_and c.from_residual.result c.from_residual.ensures.1 in
    rw (← c.lent.view_is, p.1, p.2) (going_unread c.loop-cursor.invariant (rw c.len-end.ensures.length at c.if-cursor-end.false) (sym c.in_err-found.was ∙ c.read.ensures.value))

pub apply-requires : goal.apply-requires
apply-requires c =
    let l = c.loop-cursor.invariant in
    (c.in_ok-found.ensures.in_memory, found_fits l (sym c.in_ok-found.was ∙ c.read.ensures.value))

pub returns-in_err-done : goal.returns-in_err-done
returns-in_err-done c =
    let p = err_from_is_err_and c.from_residual-in_err-done.result c.from_residual-in_err-done.ensures.1 in
    rw (← c.lent.view_is, p.1, p.2)
    (going_stops c.loop-cursor.invariant (sym c.in_ok-found.was ∙ c.read.ensures.value) (rw c.len-end.ensures.length at c.if-cursor-end.false) c.apply.ensures c.in_err-done.was)

pub store_name-requires : goal.store_name-requires
store_name-requires c =
    rw (whole c.part-all.ensures c.len-end.ensures.length) (name_fits c.loop-cursor.invariant (sym c.in_ok-found.was ∙ c.read.ensures.value))

-- both counts with the block's own stay within the file
pub overflow_add-fields : goal.overflow_add-fields
overflow_add-fields c =
    let l = c.loop-cursor.invariant in
    let k = going_counts l (sym c.in_ok-found.was ∙ c.read.ensures.value) (rw c.len-end.ensures.length at c.if-cursor-end.false) c.apply.ensures c.in_ok-done.was in
    omega (arith, k.1, l.lent.short)

pub advance-cursor-requires : goal.advance-cursor-requires
advance-cursor-requires c =
    let x = c.loop-cursor.invariant in
    let count = x.tabled.few in
    let named = x.counted.few in
    (omega (arith, count), omega (arith, named), room_fits x (sym c.in_ok-found.was ∙ c.read.ensures.value))

pub loop-cursor-smaller : goal.loop-cursor-smaller
loop-cursor-smaller c =
    rw c.advance-cursor.ensures
    (going_falls c.loop-cursor.invariant (sym c.in_ok-found.was ∙ c.read.ensures.value) (rw c.len-end.ensures.length at c.if-cursor-end.false) c.apply.ensures c.in_ok-done.was)

pub loop-cursor-preserved : goal.loop-cursor-preserved
loop-cursor-preserved c =
    rw (c.advance-cursor.ensures, c.placed_by-bytes.ensures)
    (going_on c.loop-cursor.invariant (sym c.in_ok-found.was ∙ c.read.ensures.value) (rw c.len-end.ensures.length at c.if-cursor-end.false) c.apply.ensures c.in_ok-done.was _ _
    (rw (whole c.part-all.ensures c.len-end.ensures.length) at c.store_name.ensures))
