-- `index::mark_entry` meets its contract: the code is marked, and then its fixups, where its marks were not refused.
-- Assumes nothing.
use Rattle.std.proofs.lemmas.Result.{err_from_is_err_and}
use Rattle.index.proofs.Applying.{code_room, coding_refused, coding_fixed}
use Rattle.index.proofs.mark_entry.Goals as goal

pub returns-in_err-mark_code : goal.returns-in_err-mark_code
returns-in_err-mark_code c =
    let p = err_from_is_err_and c.from_residual.result c.from_residual.ensures.1 in
    rw (p.1, p.2) (coding_refused _ _ _ _ _ _ c.place_of-place.ensures.0 c.limit.ensures.0 c.mark_code.ensures c.in_err-mark_code.was)

pub returns : goal.returns
returns c =
    coding_fixed _ _ _ _ _ _ c.place_of-place.ensures.0 c.limit.ensures.0 c.mark_code.ensures c.in_ok-mark_code.was
    (c.mark_fixups.ensures _)

pub mark_fixups-requires : goal.mark_fixups-requires
mark_fixups-requires c =
    let room = code_room _ _ _ _ c.mark_code.ensures c.limit.ensures.1 c.in_ok-mark_code.was in
    (c.requires.1, room)
