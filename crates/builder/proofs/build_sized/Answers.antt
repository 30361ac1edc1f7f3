-- `builder::build_sized` meets its contract: the check left the room alone; where it refused, the map is cleared, and where it did not,
-- the file is accepted, at bases in their ranges.
-- Assumes nothing.
use mathlib.Core.Path.{◌≡◌, sym, ◌∙◌}
use native.Mathlib.Omega.{arith}
use Rattle.std.proofs.Common.{rules}
use Rattle.events.proofs.Events.{cleared}
use Rattle.builder.proofs.Building.{built_refused, built_checked, check_accepts}
use Rattle.builder.proofs.build_sized.Goals as goal

pub returns-then-is_err : goal.returns-then-is_err
returns-then-is_err c =
    built_refused c.walk_call-checked.ensures (sym c.is_err.ensures.value ∙ c.if-is_err.true)
    (cleared _ _ (omega arith) c.fill.ensures)

pub returns : goal.returns
returns c =
    let same : ◌≡◌ c.unwrap-file.result c.args.file.now = search rules in
    built_checked c.walk_call-checked.ensures (rw (same, c.bases-bases.ensures) at c.build_checked.ensures)

pub unwrap-file-requires : goal.unwrap-file-requires
unwrap-file-requires c =
    let fits = (check_accepts _ _ _ c.walk_call-checked.ensures.answer (sym c.is_err.ensures.value ∙ c.if-is_err.false)).3 in
    search (rules, fits)

pub bases-bases-requires : goal.bases-bases-requires
bases-bases-requires c =
    let k = check_accepts _ _ _ c.walk_call-checked.ensures.answer (sym c.is_err.ensures.value ∙ c.if-is_err.false) in
    (k.1, omega (arith, k.2))
