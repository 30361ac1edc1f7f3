-- `transfers::gather` meets its contract: where a move is allowed, the bytes are not too many for a file.
-- Assumes nothing.
use Rattle.moves.specs.Sources.{source_of}
use Rattle.transfers.proofs.Gathering.{allowed_file}
use Rattle.transfers.proofs.gather.Goals as goal

pub unwrap-file-requires : goal.unwrap-file-requires
unwrap-file-requires c = allowed_file (source_of c.args.format c.args.bytes.now) c.args.old c.args.new c.requires _ c.new.ensures.too_long
