-- The examples hold: the definitions are computed.
-- Assumes nothing.
use mathlib.Core.Path.{refl}
use Rattle.answer.specs.Checks.{need, pick}
use Rattle.words.specs.Numbers.{number, digits, big_digits, big_value}
use Rattle.words.specs.Runs.{part}
use Rattle.entries.specs.Bytes.{fixup_bytes, code_bytes, end_bytes, with_length, code_entries, index_bytes}
use Rattle.entries.specs.Entries.{read_code, read_end, read, fields_to, all_suit}
use Rattle.entries.specs.Examples.{ExamplesHold}

pub examples_hold : ExamplesHold
unfolding need pick number digits big_digits big_value part fixup_bytes code_bytes end_bytes with_length code_entries index_bytes read_code read_end read fields_to all_suit
examples_hold = record { P1 = refl; many = refl; entries = refl; after_00 = refl; after_0_a = refl; after_01 = refl; unused_lsb = refl }
