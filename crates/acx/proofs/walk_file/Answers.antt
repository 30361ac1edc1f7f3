-- `acx::walk_file` meets its contract: a wrong opening is refused at an offset that an answer has room for.
-- Assumes nothing.
use mathlib.Core.Path.{sym, ◌∙◌}
use native.Mathlib.Omega.{arith}
use Rattle.events.proofs.Faults.{check_within}
use Rattle.acx.proofs.Faults.{opening_faults}
use Rattle.acx.proofs.walk_file.Goals as goal

pub map_err-requires : goal.map_err-requires
map_err-requires c =
    λ e h.
    let k = check_within (opening_faults _ _) (sym c.opening.ensures ∙ h) in
    omega (arith, k, c.len.ensures.limited)
