-- `builder::index_length` meets its contract: the definition's walk has come to the cursor, and the bytes of its pieces so far are counted
-- (`Counting`).
-- Assumes nothing.
use mathlib.Core.Path.{sym, ap, ◌∙◌}
use native.Mathlib.Omega.{arith}
use Rattle.acx.proofs.Cursors.{tracks_counts}
use Rattle.acx.specs.Walk.{opening_size}
use Rattle.builder.proofs.Walking.{walkable, read_some, read_ends_by, read_onward, read_further, counting_first, counting_end, counting_on}
use Rattle.builder.proofs.index_length.Goals as goal

pub loop-cursor-init : goal.loop-cursor-init
loop-cursor-init c =
    let w = walkable _ _ _ _ (c.opening_size-at.ensures ∙ ap opening_size c.form_of.ensures) c.requires in
    (w, rw c.first_cursor-cursor.ensures (counting_first w.opens))

pub returns-in-End : goal.returns-in-End
returns-in-End c =
    let l = c.loop-cursor.invariant in (
      counting_end l.1 (sym c.unwrap-found.ensures ∙ c.read.ensures) l.0.yes c.in-End.is c.entry_size-used.ensures.0 l.0.bytes,
      omega (arith, l.1.few, l.1.tracks.in_file, l.0.fits, c.entry_size-used.ensures.1),
    )

pub advance-cursor-requires : goal.advance-cursor-requires
advance-cursor-requires c = let l = c.loop-cursor.invariant in
    let k = tracks_counts l.1.tracks in
    (omega (arith, k.0, k.1, l.0.fits), omega (arith, k.0, k.1, l.0.fits), read_ends_by l.1.tracks (sym c.unwrap-found.ensures ∙ c.read.ensures) l.0.fits)

pub loop-cursor-smaller : goal.loop-cursor-smaller
loop-cursor-smaller c =
    let l = c.loop-cursor.invariant in
    let o = read_onward l.1.tracks (sym c.unwrap-found.ensures ∙ c.read.ensures) l.0.yes c.in_default.not-End in
    let f = read_further l.1.tracks (sym c.unwrap-found.ensures ∙ c.read.ensures) l.0.yes o in
    rw c.advance-cursor.ensures (omega (arith, f))

pub loop-cursor-preserved : goal.loop-cursor-preserved
loop-cursor-preserved c =
    let l = c.loop-cursor.invariant in
    let o = read_onward l.1.tracks (sym c.unwrap-found.ensures ∙ c.read.ensures) l.0.yes c.in_default.not-End in
    (l.0, rw c.advance-cursor.ensures (counting_on l.1 (sym c.unwrap-found.ensures ∙ c.read.ensures) l.0.yes o c.entry_size-used.ensures.0))

pub unwrap-found-requires : goal.unwrap-found-requires
unwrap-found-requires c =
    let l = c.loop-cursor.invariant in
    read_some l.1.tracks c.read.ensures l.0.yes

pub entry_size-used-requires : goal.entry_size-used-requires
entry_size-used-requires c = let l = c.loop-cursor.invariant in
    read_ends_by l.1.tracks (sym c.unwrap-found.ensures ∙ c.read.ensures) l.0.fits
