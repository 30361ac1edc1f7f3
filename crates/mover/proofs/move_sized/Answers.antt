-- `mover::move_sized` meets its contract: an acceptance is carried out at bases that are in their ranges.
-- Assumes nothing.
use mathlib.Core.Path.{sym, ◌∙◌}
use Rattle.moves.specs.Sources.{source_of}
use Rattle.mover.proofs.Judging.{judged_ranges}
use Rattle.pieces.specs.Pieces.{bases_of}
use Rattle.mover.proofs.move_sized.Goals as goal

pub bases-requires : goal.bases-requires
bases-requires c =
    (judged_ranges (source_of c.args.format c.args.bytes.now) (bases_of c.args.old) (bases_of c.args.new) c.judge-outcome.ensures
    (sym c.is_err.ensures.value ∙ c.if-is_err.false)
    ).0

pub bases-requires-2 : goal.bases-requires-2
bases-requires-2 c =
    (judged_ranges (source_of c.args.format c.args.bytes.now) (bases_of c.args.old) (bases_of c.args.new) c.judge-outcome.ensures
    (sym c.is_err.ensures.value ∙ c.if-is_err.false)
    ).1
