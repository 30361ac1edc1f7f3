-- `transfers::gather_index` meets its contract: the entries have led to the offset, and the scratch holds the pieces so far (`Gathering`).
-- Assumes nothing.
use mathlib.Core.Path.{ap, ◌∙◌}
use Rattle.std.proofs.Common.{Ok}
use native.Mathlib.Omega.{arith}
use Rattle.transfers.proofs.Entries.{gathering_first, gathering_code}
use Rattle.transfers.proofs.gather_index.Goals as goal

pub loop-kind-init : goal.loop-kind-init
loop-kind-init c = gathering_first c.requires

pub part-requires : goal.part-requires
part-requires c = (gathering_code c.loop-kind.invariant c.read.ensures (c.in-Ok-Code.is ∙ ap Ok c.in-Ok-Code.field-0-is)).within

pub gather_entry-requires : goal.gather_entry-requires
gather_entry-requires c =
    let w = gathering_code c.loop-kind.invariant c.read.ensures (c.in-Ok-Code.is ∙ ap Ok c.in-Ok-Code.field-0-is) in
    rw c.part.ensures w.movable

pub overflow_add-at : goal.overflow_add-at
overflow_add-at c =
    let l = c.loop-kind.invariant in
    let w = gathering_code l c.read.ensures (c.in-Ok-Code.is ∙ ap Ok c.in-Ok-Code.field-0-is) in
    omega (arith, w.within, l.whole.fits)

pub loop-kind-smaller : goal.loop-kind-smaller
loop-kind-smaller c =
    let w = gathering_code c.loop-kind.invariant c.read.ensures (c.in-Ok-Code.is ∙ ap Ok c.in-Ok-Code.field-0-is) in
    omega (arith, w.behind, w.within)
