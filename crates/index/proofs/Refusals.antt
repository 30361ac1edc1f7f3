-- Why an index is refused: never with 1, with 2 and 3 only for their causes.
-- Assumes nothing.
use mathlib.Core.Bool.{true, false}
use mathlib.Core.List.{List}
use mathlib.Core.Path.{◌≡◌, ap}
use Prim.Native.Nat.{ℕ, ◌<◌}
use native.Mathlib.Omega.{arith}
use borrow.Author.Tests.{lt-leb}
use lib.Dec.{leb}
use lib.ListN.{length}
use Rattle.acx.specs.Call.{in_range}
use Rattle.answer.specs.Report.{number_of}
use Rattle.answer.specs.declared.Fault.{Fault}
use Rattle.answer.specs.declared.Fault.TheVariants.{WrongBuffer, SettingOutOfRange, FileTooLong}
use Rattle.events.specs.Events.{marks, blank}
use Rattle.events.specs.Sizes.{file_limit}
use Rattle.pieces.specs.declared.Bases.{Bases}
use Rattle.index.proofs.Faults.{checked_fault}
use Rattle.index.specs.Rules.{Fails, empty, of_version, in_entry, Refuses, out_of_range, too_long, by_index}
use Rattle.index.specs.Walk.{formless}

-- what is in an index comes after 1, 2 and 3
fails_late : (index : List ℕ) (b : Bases) (fault : Fault) (offset : ℕ) → Fails index b fault offset → 3 < number_of fault
fails_late index b fault offset (empty e) = omega arith
fails_late index b fault offset (of_version l v) = omega arith
fails_late index b fault offset (in_entry {offset = i} {s = s} {es = es} l v t c) = omega (arith, (checked_fault index b s (marks es blank) fault i c).late)

module _ (b : Bases) (index : List ℕ) where
  pub refuses_sized : (fault : Fault) (at : ℕ) → Refuses b index fault at → ¬ (fault ≡ WrongBuffer)
  refuses_sized fault at (out_of_range r) e = omega (arith, ap number_of e)
  refuses_sized fault at (too_long r l) e = omega (arith, ap number_of e)
  refuses_sized fault at (by_index r l f) e = omega (arith, ap number_of e, fails_late index b fault at f)

  pub refuses_range : (fault : Fault) (at : ℕ) → Refuses b index fault at → fault ≡ SettingOutOfRange → in_range formless b ≡ false
  refuses_range fault at (out_of_range r) e = r
  refuses_range fault at (too_long r l) e = absurd (omega (arith, ap number_of e))
  refuses_range fault at (by_index r l f) e = absurd (omega (arith, ap number_of e, fails_late index b fault at f))

  pub refuses_long : (fault : Fault) (at : ℕ) → Refuses b index fault at → fault ≡ FileTooLong → (in_range formless b ≡ true) × (leb (length index) file_limit ≡ false)
  refuses_long fault at (out_of_range r) e = absurd (omega (arith, ap number_of e))
  refuses_long fault at (too_long r l) e = (r, lt-leb _ _ l)
  refuses_long fault at (by_index r l f) e = absurd (omega (arith, ap number_of e, fails_late index b fault at f))
