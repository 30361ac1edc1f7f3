-- `index::mark_fixups` meets its contract: the definition's fixups have come to the one at hand, with the map that those before it left (`Fixing`), at
-- whatever bases.
-- Assumes nothing.
use Rattle.std.proofs.Common.{◌∙◌, arith}
use Rattle.std.proofs.lemmas.Result.{err_from_is_err_and}
use Rattle.index.proofs.Fixing.{fixing_none, fixing_more, fixing_fails, fixing_end, fixups_left}
use Rattle.index.proofs.mark_fixups.Goals as goal

pub returns-in_err-mark_fixup : goal.returns-in_err-mark_fixup
returns-in_err-mark_fixup c =
    let l = c.loop-item.invariant in
    let s = c.in-Some.ensures.steps.1 in
    let p = err_from_is_err_and c.from_residual.result c.from_residual.ensures.1 in
    λ b. rw (p.1, p.2) (fixing_fails _ _ s.0 (s.1 ∙ l.0) (l.2 b) (c.mark_fixup.ensures b) c.in_err-mark_fixup.was)

pub loop-item-preserved : goal.loop-item-preserved
loop-item-preserved c =
    let l = c.loop-item.invariant in
    let s = c.in-Some.ensures.steps in (
      s.0 ∙ l.0,
      fixups_left _ _ _ s.1.0 (s.1.1 ∙ l.0) l.1,
      λ b. fixing_more _ _ s.1.0 (s.1.1 ∙ l.0) (l.2 b) (c.mark_fixup.ensures b) c.in_ok-mark_fixup.was,
    )

pub returns : goal.returns
returns c =
    let l = c.loop-item.invariant in
    λ b. fixing_end l.1 (omega (arith, c.in-None.ensures.steps.1, l.0)) (l.2 b)

pub loop-item-init : goal.loop-item-init
loop-item-init c =
    let r = c.into_iter-item-iterator.ensures.into_iter_gives in
    let k = c.chunks_exact-item-items.ensures in
    (rw r k.size, rw (r, k.rest) c.requires.0, λ b. rw (r, k.rest) fixing_none)
