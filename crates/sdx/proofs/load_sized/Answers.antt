-- `sdx::load_sized` meets its contract: it clears the map, and the checks before the first block and then the blocks decide.
-- Assumes nothing.
use mathlib.Core.List.{[]}
use mathlib.Core.Path.{◌≡◌, ap}
use native.Mathlib.Omega.{arith}
use Rattle.std.proofs.Common.{rules, Ok, Err}
use Rattle.std.proofs.lemmas.Result.{err_from_is_err_and}
use Rattle.events.proofs.Events.{cleared}
use Rattle.passes.specs.Buffers.{buffers}
use Rattle.passes.specs.Walk.{inputs}
use Rattle.sdx.proofs.Calling.{admit_settings, admitted, range_bounds, loaded_cleared, loaded_at_once}
use Rattle.sdx.proofs.Faults.{admit_fits}
use Rattle.sdx.proofs.Mapped.{mapped}
use Rattle.sdx.proofs.load_sized.Goals as goal

pub map_err-requires : goal.map_err-requires
map_err-requires c =
    λ e h.
    let k = admit_fits _ _ (rw h at c.admit.ensures.err) in
    omega (arith, k)

pub returns-in_err-file : goal.returns-in_err-file
returns-in_err-file c =
    let p = err_from_is_err_and c.from_residual.result c.from_residual.ensures.1 in
    let k = mapped c.admit.result c.map_err.result c.map_err.ensures.cases c.in_err-file.was in
    loaded_at_once _ _ {d = k.0} (rw (← admit_settings _ _ _ _ _) (rw k.1 at c.admit.ensures.err)) (rw (p.1, p.2) (ap Err k.2))
    (cleared _ _ (omega arith) (c.fill.ensures.after (λ y e. e)))

pub overflow_cast-low : goal.overflow_cast-low
overflow_cast-low c =
    let done : c.admit.result ≡ Ok c.in_ok-file.file = search rules in
    let h = range_bounds (inputs [] [] c.args.low c.args.high) (admitted _ _ (rw done at c.admit.ensures.ok).1).settings in
    omega (arith, h.0, h.1)

pub overflow_cast-high : goal.overflow_cast-high
overflow_cast-high c =
    let done : c.admit.result ≡ Ok c.in_ok-file.file = search rules in
    let h = range_bounds (inputs [] [] c.args.low c.args.high) (admitted _ _ (rw done at c.admit.ensures.ok).1).settings in
    omega (arith, h.1)

pub returns : goal.returns
returns c =
    let done : c.admit.result ≡ Ok c.in_ok-file.file = search rules in
    let h = rw done at c.admit.ensures.ok in
    let new = c.load_blocks.new in
    loaded_cleared _ _ {b' = buffers new.memory new.map new.new_names new.new_addresses} (rw (h.0, c.new-lent.ensures) at c.load_blocks.ensures)
