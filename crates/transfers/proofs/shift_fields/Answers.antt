-- `transfers::shift_fields` meets its contract: the definition's list of fields has come to the field at hand (`Shifting`).
-- Assumes nothing.
use mathlib.Core.Path.{◌∙◌}
use Rattle.fields.proofs.Listing.{item_next}
use Rattle.transfers.proofs.Shifting.{shifting_here, shifting_more}
use Rattle.transfers.proofs.shift_fields.Goals as goal

pub shift_field-requires : goal.shift_field-requires
shift_field-requires c =
    let l = c.loop-item.invariant in
    let s = c.in-Some.ensures.steps.1 in
    shifting_here (item_next c.args.fixup _ _ _ s.0 (s.1 ∙ l.0) c.field_at-field.ensures.0) l.1

pub loop-item-preserved : goal.loop-item-preserved
loop-item-preserved c =
    let l = c.loop-item.invariant in
    let s = c.in-Some.ensures.steps in (
      s.0 ∙ l.0,
      shifting_more (item_next c.args.fixup _ _ _ s.1.0 (s.1.1 ∙ l.0) c.field_at-field.ensures.0) l.1 c.amount.ensures c.amount-in-loop-item.ensures
          c.shift_field.ensures,
    )
