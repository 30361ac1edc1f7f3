-- `transfers::carry` meets its contract: what is gathered in the scratch and taken from there by the map is the move.
-- Assumes nothing.
use native.Mathlib.Omega.{arith}
use Rattle.events.proofs.Events.{cleared}
use Rattle.moves.specs.Sources.{source_of}
use Rattle.transfers.proofs.Overlay.{overlaid_moved}
use Rattle.transfers.proofs.carry.Goals as goal

pub returns : goal.returns
returns c =
    let h = source_of c.args.format c.args.bytes.now in (
      overlaid_moved h c.args.old c.args.new c.requires.0 _ c.requires.1 _ _ _ _ (omega arith) (omega arith) c.gather.ensures c.commit.ensures,
      cleared _ _ (omega arith) c.fill.ensures,
    )
