-- `builder::write_index` meets its contract: the definition's walk has come to the cursor, and the room holds its pieces so far (`Filling`).
-- Assumes nothing.
use mathlib.Core.Path.{sym, ap, ◌∙◌}
use native.Mathlib.Omega.{arith}
use Rattle.acx.proofs.Cursors.{tracks_counts}
use Rattle.acx.specs.Walk.{opening_size}
use Rattle.builder.proofs.Filling.{filling_first, filling_sound, filling_end_room, filling_end, filling_room, filling_on}
use Rattle.builder.proofs.Walking.{walkable, walkable_short, read_some, read_ends_by, read_onward, read_further}
use Rattle.builder.proofs.write_index.Goals as goal

pub loop-entry-init : goal.loop-entry-init
loop-entry-init c =
    let w = walkable _ _ _ _ (c.opening_size-at.ensures ∙ ap opening_size c.form_of.ensures) c.requires.0 in
    (w, rw c.first_cursor-cursor.ensures (filling_first w.opens c.open_index.ensures))

pub returns-in-End : goal.returns-in-End
returns-in-End c =
    let l = c.loop-entry.invariant in
    let k = walkable_short l.0 c.requires.1 in
    filling_end l.1 (sym c.unwrap-found.ensures ∙ c.read.ensures) l.0.yes c.in-End.is c.write_end.ensures l.0.bytes

pub write_record-requires : goal.write_record-requires
write_record-requires c =
    let l = c.loop-entry.invariant in
    let k = walkable_short l.0 c.requires.1 in
    let o = read_onward l.1.tracks (sym c.unwrap-found.ensures ∙ c.read.ensures) l.0.yes c.in_default.not-End in
    let room = filling_room l.1 (sym c.unwrap-found.ensures ∙ c.read.ensures) l.0.yes o k in
    (filling_sound l.1 (sym c.unwrap-found.ensures ∙ c.read.ensures), room)

pub next_front-front-requires : goal.next_front-front-requires
next_front-front-requires c =
    let l = c.loop-entry.invariant in
    let k = walkable_short l.0 c.requires.1 in
    let o = read_onward l.1.tracks (sym c.unwrap-found.ensures ∙ c.read.ensures) l.0.yes c.in_default.not-End in
    (read_ends_by l.1.tracks (sym c.unwrap-found.ensures ∙ c.read.ensures) l.0.fits, omega (arith, filling_room l.1 (sym c.unwrap-found.ensures ∙ c.read.ensures) l.0.yes o k))

pub advance-cursor-requires : goal.advance-cursor-requires
advance-cursor-requires c =
    let l = c.loop-entry.invariant in
    let t = tracks_counts l.1.tracks in
    (omega (arith, t.0, t.1, l.0.fits), omega (arith, t.0, t.1, l.0.fits), read_ends_by l.1.tracks (sym c.unwrap-found.ensures ∙ c.read.ensures) l.0.fits)

pub loop-entry-smaller : goal.loop-entry-smaller
loop-entry-smaller c =
    let l = c.loop-entry.invariant in
    let o = read_onward l.1.tracks (sym c.unwrap-found.ensures ∙ c.read.ensures) l.0.yes c.in_default.not-End in
    rw c.advance-cursor.ensures (omega (arith, read_further l.1.tracks (sym c.unwrap-found.ensures ∙ c.read.ensures) l.0.yes o))

pub loop-entry-preserved : goal.loop-entry-preserved
loop-entry-preserved c =
    let l = c.loop-entry.invariant in
    let o = read_onward l.1.tracks (sym c.unwrap-found.ensures ∙ c.read.ensures) l.0.yes c.in_default.not-End in
    (l.0, rw (c.advance-cursor.ensures, c.next_front-front.ensures) (filling_on l.1 (sym c.unwrap-found.ensures ∙ c.read.ensures) l.0.yes o c.write_record.ensures))

pub unwrap-found-requires : goal.unwrap-found-requires
unwrap-found-requires c =
    let l = c.loop-entry.invariant in
    read_some l.1.tracks c.read.ensures l.0.yes

pub write_end-requires : goal.write_end-requires
write_end-requires c =
    let l = c.loop-entry.invariant in
    let k = walkable_short l.0 c.requires.1 in
    filling_end_room l.1 (sym c.unwrap-found.ensures ∙ c.read.ensures) l.0.yes c.in-End.is k
