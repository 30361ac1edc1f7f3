-- `transfers::shift_field` meets its contract: one change of the field after another is one, in either width.
-- Assumes nothing.
use Rattle.transfers.proofs.Shifting.{shifted_field}
use Rattle.transfers.proofs.shift_field.Goals as goal

pub returns : goal.returns
returns c =
    shifted_field _ _ _ _ _ _ _ _ c.width-width.ensures.0 c.requires c.take_off.ensures c.add.ensures
