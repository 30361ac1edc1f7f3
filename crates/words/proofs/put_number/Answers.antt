-- `words::put_number` meets its contract: the bytes that the library makes are the digits of the number.
-- Assumes nothing.
use Rattle.std.proofs.Common.{◌≡◌, ap, ◌∙◌, length, arith, rules}
use Rattle.std.specs.Int.{to_le_bytes}
use Rattle.std.proofs.Common.{w32}
use Rattle.words.proofs.Lent.{back_is}
use Rattle.words.proofs.Numbers.{digits_four}
use Rattle.words.specs.Numbers.{store, digits}
use Rattle.words.specs.Runs.{put}
use Rattle.words.proofs.put_number.Goals as goal

pub returns : goal.returns
unfolding store digits
returns c =
    let s = c.args in
    let made : c.copy_from_slice.new.self ≡ to_le_bytes w32 s.number = search rules in
    let are = made ∙ digits_four s.number in
    (back_is s.at 4 s.bytes.now _ c.requires (ap length are) ∙ ap (put s.bytes.now s.at) are, omega arith)
