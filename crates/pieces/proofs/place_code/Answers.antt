-- `pieces::place_code` meets its contract: the code is marked, and written where its marks were not refused.
-- Assumes nothing.
use native.Mathlib.Omega.{arith}
use Rattle.std.proofs.lemmas.Result.{err_from_is_err_and}
use Rattle.pieces.proofs.Checks.{placing_refused, placing_room, placing_done}
use Rattle.pieces.proofs.place_code.Goals as goal

pub write_code-requires : goal.write_code-requires
write_code-requires c =
    omega (arith, c.requires, placing_room _ _ _ c.args.code.now _ _ _ c.mark_code.ensures c.in_ok-mark_code.was)

pub returns : goal.returns
returns c =
    placing_done _ _ _ _ _ _ _ c.mark_code.ensures c.in_ok-mark_code.was c.write_code.ensures

pub returns-in_err-mark_code : goal.returns-in_err-mark_code
returns-in_err-mark_code c =
    let p = err_from_is_err_and c.from_residual.result c.from_residual.ensures.1 in
    rw (p.1, p.2) (placing_refused _ _ _ _ _ _ _ c.mark_code.ensures c.in_err-mark_code.was)
