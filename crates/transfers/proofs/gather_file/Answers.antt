-- `transfers::gather_file` meets its contract: the definition's walks at both pairs of bases have come to the cursors, and the scratch holds the pieces so
-- far (`Gathering`).
-- Assumes nothing.
use mathlib.Core.Path.{sym, ap, ◌∙◌}
use native.Mathlib.Omega.{arith}
use Rattle.acx.proofs.Cursors.{tracks_inside, tracks_counts, tracks_further, tracks_ends_by}
use Rattle.acx.specs.Walk.{opening_size}
use Rattle.transfers.proofs.Gathering.{walkable, gathering_first, gathering_read, gathering_end, gathering_onward, gathering_sound, gathering_sizes, found_is, next_old, next_new}
use Rattle.transfers.proofs.gather_file.Goals as goal

pub loop-found-init : goal.loop-found-init
loop-found-init c =
    let w = walkable _ _ _ _ _ (c.opening_size-at.ensures ∙ ap opening_size c.form_of.ensures)
    c.requires in
    (w, rw (c.first_cursor-source.ensures, c.first_cursor-target.ensures) (gathering_first w.opens))

pub returns-in-End : goal.returns-in-End
returns-in-End c =
    let l = c.loop-found.invariant in
    gathering_end l.1 l.0.yes_old l.0.yes_new (sym c.in-Ok.is ∙ c.read.ensures) c.in-End.is l.0.outlines

pub advance-source-requires : goal.advance-source-requires
advance-source-requires c =
    let l = c.loop-found.invariant in
    let k = tracks_counts l.1.at_old in (
      omega (arith, k.0, k.1, l.0.fits),
      omega (arith, k.0, k.1, l.0.fits),
      tracks_ends_by l.1.at_old (found_is l.1 l.0.yes_old l.0.yes_new (sym c.in-Ok.is ∙ c.read.ensures)) 65536 l.0.fits,
    )

pub advance-target-requires : goal.advance-target-requires
advance-target-requires c =
    let l = c.loop-found.invariant in
    let k = tracks_counts l.1.at_new in (
      omega (arith, k.0, k.1, l.0.fits),
      omega (arith, k.0, k.1, l.0.fits),
      tracks_ends_by l.1.at_new (found_is l.1 l.0.yes_old l.0.yes_new (sym c.in-Ok.is ∙ c.read.ensures)) 65536 l.0.fits,
    )

pub gather_record-requires : goal.gather_record-requires
gather_record-requires c =
    let l = c.loop-found.invariant in
    let x = l.1 in
    let u = l.0.yes_old in
    let v = l.0.yes_new in
    let r = sym c.in-Ok.is ∙ c.read.ensures in
    let on = gathering_onward x u v r c.in_default-found.not-End in
    rw (c.advance-source.ensures, c.advance-target.ensures) (
      gathering_sound x u v r on,
      omega (arith, tracks_inside (next_old x u v r on)),
      omega (arith, tracks_inside (next_new x u v r on)),
      gathering_sizes x u v r on,
    )

pub loop-found-smaller : goal.loop-found-smaller
loop-found-smaller c =
    let l = c.loop-found.invariant in
    let x = l.1 in
    let u = l.0.yes_old in
    let v = l.0.yes_new in
    let r = sym c.in-Ok.is ∙ c.read.ensures in
    let on = gathering_onward x u v r c.in_default-found.not-End in
    let f = tracks_further x.at_old (found_is x u v r) on in
    let i = (tracks_counts (next_old x u v r on)).0 in
    rw c.advance-source.ensures (omega (arith, f, i))

pub returns : goal.returns
returns c =
    let l = c.loop-found.invariant in
    absurd (gathering_read l.1 l.0.yes_old l.0.yes_new (sym c.in_default.is ∙ c.read.ensures))
