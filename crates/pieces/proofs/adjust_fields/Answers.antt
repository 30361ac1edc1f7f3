-- `pieces::adjust_fields` meets its contract: the definition's list of fields has come to the field at hand, with the memory and the map that
-- the fields before it left (`Adjusting`).
-- Assumes nothing.
use mathlib.Core.Path.{ap, ◌∙◌}
use native.Mathlib.Nat.{suc-mul}
use native.Mathlib.Omega.{arith}
use lib.ListN.{length}
use Rattle.std.proofs.lemmas.List.{length-append}
use Rattle.std.proofs.lemmas.Result.{err_from_is_err_and}
use Rattle.fields.proofs.Listing.{item_next, item_none}
use Rattle.fields.specs.Fields.{item_size}
use Rattle.pieces.proofs.Fields.{adjusting_none, adjusting_more, adjusting_fails, adjusting_end}
use Rattle.pieces.proofs.adjust_fields.Goals as goal

pub loop-i-init : goal.loop-i-init
loop-i-init c =
    let e = c.enumerate-i-items.ensures in
    rw (c.into_iter-i-iterator.ensures.into_iter_gives, e.count, e.source, c.chunks_exact.ensures.rest)
    (c.chunks_exact.ensures.size ∙ c.item_size-step.ensures, omega arith, adjusting_none (omega arith))

pub loop-i-preserved : goal.loop-i-preserved
loop-i-preserved c =
    let l = c.loop-i.invariant in
    let s = c.in-Some.ensures.steps in
    let m = suc-mul c.loop-i.i-iterator.count (item_size c.args.fixup) in (
      s.0.0 ∙ l.0,
      rw s.2 (omega (arith, m, l.1, s.0.1.1, l.0, ap length s.0.1.0, length-append c.in-Some.item.now c.next.new.self.iter.rest.now)),
      adjusting_more (item_next c.args.fixup _ _ _ s.0.1.0 (s.0.1.1 ∙ l.0) c.field_at-field.ensures.0) l.2
          (cc (s.1, c.item_size-step.ensures)) c.adjust_field.ensures (rw s.2 (omega (arith, m))) c.in_ok-adjust_field.was,
    )

pub returns-in_err-adjust_field : goal.returns-in_err-adjust_field
returns-in_err-adjust_field c =
    let l = c.loop-i.invariant in
    let s = c.in-Some.ensures.steps in
    let p = err_from_is_err_and c.from_residual.result c.from_residual.ensures.1 in
    rw (p.1, p.2)
    (adjusting_fails (item_next c.args.fixup _ _ _ s.0.1.0 (s.0.1.1 ∙ l.0) c.field_at-field.ensures.0) l.2
    (cc (s.1, c.item_size-step.ensures)) c.adjust_field.ensures c.in_err-adjust_field.was)

pub returns : goal.returns
returns c =
    let l = c.loop-i.invariant in
    let s = c.in-None.ensures.steps in
    adjusting_end (item_none c.args.fixup _ (omega (arith, s.0.1, l.0))) l.2
