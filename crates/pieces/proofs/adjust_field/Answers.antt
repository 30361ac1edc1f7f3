-- `pieces::adjust_field` meets its contract: the field is marked, and written where its marks were not refused.
-- Assumes nothing.
use Rattle.std.proofs.Common.{rules}
use Rattle.std.proofs.lemmas.Result.{err_from_is_err_and}
use Rattle.pieces.proofs.Checks.{adjusting_refused, adjusting_inside, adjusting_done}
use Rattle.pieces.proofs.adjust_field.Goals as goal

pub write_field-requires : goal.write_field-requires
write_field-requires c =
    (c.requires.1, adjusting_inside _ _ _ _ _ _ _ _ (c.mark_field.ensures c.args.bases) c.in_ok-mark_field.was, search rules)

pub returns : goal.returns
returns c =
    adjusting_done _ _ _ _ _ _ _ _ (c.mark_field.ensures _) c.in_ok-mark_field.was c.write_field.ensures

pub returns-in_err-mark_field : goal.returns-in_err-mark_field
returns-in_err-mark_field c =
    let p = err_from_is_err_and c.from_residual.result c.from_residual.ensures.1 in
    rw (p.1, p.2) (adjusting_refused _ _ _ _ _ _ _ _ (c.mark_field.ensures _) c.in_err-mark_field.was)
