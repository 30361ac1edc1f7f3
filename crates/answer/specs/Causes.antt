-- Which calls are refused: before their file is read, "1, 2, 3 come in that order, then the file from its front"; and all that is said of the refusals of
-- a call.
-- Assumes nothing.
use Rattle.std.specs.Prelude.{Bool, true, false, ◌≡◌, ℕ}
use Rattle.answer.specs.Report.{Outcome, refusal, Located}
use Rattle.answer.specs.declared.Fault.{Fault}
use Rattle.answer.specs.declared.Fault.TheVariants.{WrongBuffer, SettingOutOfRange, FileTooLong}

-- Why a call answered r: whether the lengths of all that is lent are right, its settings in range, and its file not too long.
pub record Causes (lengths settings fits : Bool) (r : Outcome) : Type 0 where
  -- 1 exactly if a length is wrong
  pub wrong_buffer : lengths ≡ false → r ≡ refusal WrongBuffer 0 0
  pub wrong_buffer_only : (offset side : ℕ) → r ≡ refusal WrongBuffer offset side → lengths ≡ false
  -- otherwise 2 exactly if a setting is out of its range
  pub out_of_range : lengths ≡ true → settings ≡ false → r ≡ refusal SettingOutOfRange 0 0
  pub out_of_range_only : (offset side : ℕ) → r ≡ refusal SettingOutOfRange offset side → (lengths ≡ true) × (settings ≡ false)
  -- otherwise 3 exactly if the file is too long
  pub too_long : lengths ≡ true → settings ≡ true → fits ≡ false → r ≡ refusal FileTooLong 0 0
  pub too_long_only : (offset side : ℕ) → r ≡ refusal FileTooLong offset side → (lengths ≡ true) × (settings ≡ true) × (fits ≡ false)

-- How a call that answered r is refused: whether the lengths of all that is lent are right, its settings in range, and its file of len bytes not too long;
-- with which faults the rules refuse it, and where, if the lengths are right (`Refuses`); and what it leaves if it is refused with a fault (`Leaves`).
pub record RefusedExactly (right settings fits : Bool) (len : ℕ) (Refuses : Fault → ℕ → Type 0) (Leaves : Fault → Type 0) (r : Outcome) : Type 0 where
  -- "1, 2, 3 come in that order": each exactly for its cause
  pub causes : Causes right settings fits r
  -- with the right lengths it is refused exactly as the rules say, with the first fault and its offset (neither a load nor a build has a side: 0)
  pub only : right ≡ true → (fault : Fault) (offset side : ℕ) → r ≡ refusal fault offset side → Refuses fault offset × (side ≡ 0)
  pub all : right ≡ true → (fault : Fault) (offset : ℕ) → Refuses fault offset → r ≡ refusal fault offset 0
  -- its offset is that of a byte of the file; of 5 the file's length, of 1 to 4 zero
  pub located : (fault : Fault) (offset side : ℕ) → r ≡ refusal fault offset side → Located len fault offset
  pub leaves : (fault : Fault) (offset side : ℕ) → r ≡ refusal fault offset side → Leaves fault
