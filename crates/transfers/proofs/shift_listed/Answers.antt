-- `transfers::shift_listed` meets its contract: the definition's list of fields has come to the fixup at hand (`Shifting`), or ends at a bad kind.
-- Assumes nothing.
use mathlib.Core.Path.{◌∙◌}
use Rattle.entries.proofs.Listing.{first_listed}
use Rattle.transfers.proofs.Shifting.{shifting_here, shifting_more, shifting_end}
use Rattle.transfers.proofs.shift_listed.Goals as goal

pub returns-in_default : goal.returns-in_default
returns-in_default c =
    let l = c.loop-item.invariant in
    let s = c.in-Some.ensures.steps.1 in
    let n = first_listed c.args.kind _ _ _ s.0 (s.1 ∙ l.0) c.listed_at.ensures.0 in
    shifting_end (rw c.in_default.is at n) l.1

pub shift_field-requires : goal.shift_field-requires
shift_field-requires c =
    let l = c.loop-item.invariant in
    let s = c.in-Some.ensures.steps.1 in
    let n = first_listed c.args.kind _ _ _ s.0 (s.1 ∙ l.0) c.listed_at.ensures.0 in
    shifting_here (rw c.in-Some-listed_at.is at n) l.1

pub loop-item-preserved : goal.loop-item-preserved
loop-item-preserved c =
    let l = c.loop-item.invariant in
    let s = c.in-Some.ensures.steps in
    let n = first_listed c.args.kind _ _ _ s.1.0 (s.1.1 ∙ l.0) c.listed_at.ensures.0 in (
      s.0 ∙ l.0,
      shifting_more (rw c.in-Some-listed_at.is at n) l.1 c.amount.ensures c.amount-in-loop-item.ensures c.shift_field.ensures,
    )
