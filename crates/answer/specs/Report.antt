-- What a call reports, in numbers (document 01, "What the bench lends" and "Numbers a bench can show").
-- Assumes nothing.
use Rattle.std.specs.Prelude.{List, [], ◌∷◌, ◌≡◌, ℕ, ◌^◌, ◌≤◌, ◌<◌, get_or, Option, Some, None, Result, Ok, Err}
use Rattle.words.specs.Numbers.{encoded, decoded}
use Rattle.answer.specs.declared.Fault.{Fault}
use Rattle.answer.specs.declared.Fault.TheVariants.{WrongBuffer, SettingOutOfRange, FileTooLong, WrongOpening, CutShort, NotKnown, BlockTaken, BlockMissing, LengthNotAllowed, DoesNotFit, CounterUnusable, FieldNotLoaded, AdjustedTwice, NameUnknown, TooManyNames, NameOutsideBlock, PiecesOverlap, FixupUnsuited, BytesAfterEnd, StartTooHigh, WrongVersion, IndexTooLong}
use Rattle.answer.specs.declared.Acceptance.{Acceptance}
use Rattle.answer.specs.declared.Failure.{Failure}
use Rattle.answer.specs.declared.Refusal.{Refusal}

-- how a call ends: accepted with its counts, or refused with one fault
abbrev pub Outcome : Type 0
Outcome = Result Acceptance Refusal

abbrev pub acceptance : Option ℕ → ℕ → ℕ → ℕ → ℕ → Outcome
acceptance start placed adjusted names low = Ok (record { start = start; placed = placed; adjusted = adjusted; new_names = names; low = low })

abbrev pub refusal : Fault → ℕ → ℕ → Outcome
refusal fault offset side = Err (record { fault = fault; offset = offset; side = side })

-- what a failure is refused with
abbrev pub refused_by : Failure → Refusal
refused_by failure = record { fault = failure.fault; offset = failure.offset; side = 0 }

-- the table "Numbers a bench can show"; 24 and 25 by document 02, wish 5
abbrev pub number_of : Fault → ℕ
number_of WrongBuffer = 1  -- memory, map, scratch, room for an index, new-name buffers or C answer of another length; known names not eight bytes per address, or over 256
number_of SettingOutOfRange = 2  -- a setting outside its range
number_of FileTooLong = 3  -- file longer than 65,536, and an index
number_of WrongOpening = 4  -- wrong opening
number_of CutShort = 5  -- cut short
number_of NotKnown = 6  -- unknown type, flag, block number or memory kind
number_of BlockTaken = 7  -- block number used before, or an eighth relocatable block
number_of BlockMissing = 8  -- block not there yet
number_of LengthNotAllowed = 9  -- end below start, or a record length not allowed
number_of DoesNotFit = 10  -- doesn't fit
number_of CounterUnusable = 11  -- place not set, or counter too high
number_of FieldNotLoaded = 12  -- field not loaded
number_of AdjustedTwice = 13  -- byte adjusted twice
number_of NameUnknown = 14  -- name unknown
number_of TooManyNames = 15  -- a 33rd new name
number_of NameOutsideBlock = 16  -- new name outside its block
number_of PiecesOverlap = 17  -- two ACX pieces share an address
number_of FixupUnsuited = 18  -- fixup kind doesn't suit the code before it
number_of BytesAfterEnd = 19  -- bytes after the end record
number_of StartTooHigh = 20  -- start above 65,535
number_of WrongVersion = 24  -- another version of the index
number_of IndexTooLong = 25  -- the index wouldn't fit

-- "start present (1 or 0), start address", and "an absent number is zero wherever it is reported or written"
abbrev pub present : Option ℕ → ℕ
present None = 0
present (Some a) = 1

abbrev pub address : Option ℕ → ℕ
address None = 0
address (Some a) = a

-- "nine four-byte numbers, low byte first, in the order number, offset, side, start present (1 or 0), start address, placed, adjusted, new
-- names, low".
-- "An acceptance reports number 0"; "a refusal reports its number and the offset .., all else zero"
abbrev pub numbers_of : Outcome → List ℕ
numbers_of (Ok a) = 0 ∷ 0 ∷ 0 ∷ present a.start ∷ address a.start ∷ a.placed ∷ a.adjusted ∷ a.new_names ∷ a.low ∷ []
numbers_of (Err r) = number_of r.fault ∷ r.offset ∷ r.side ∷ 0 ∷ 0 ∷ 0 ∷ 0 ∷ 0 ∷ 0 ∷ []

-- the call was accepted
abbrev pub IsAccepted : Outcome → Type 0
IsAccepted (Ok a) = Unit {0}
IsAccepted (Err r) = ⊥

-- the counts of an outcome, "an absent number is zero"
abbrev pub placed_of : Outcome → ℕ
placed_of (Ok a) = a.placed
placed_of (Err r) = 0

abbrev pub adjusted_of : Outcome → ℕ
adjusted_of (Ok a) = a.adjusted
adjusted_of (Err r) = 0

-- "the number is also returned"
abbrev pub number_returned : Outcome → ℕ
number_returned outcome = get_or (numbers_of outcome) 0 0

-- "an answer of 36 bytes"
abbrev pub answer_length : ℕ
answer_length = 36

-- each number in four bytes, "low byte first"
unfoldable pub answer_bytes : Outcome → List ℕ
answer_bytes outcome = encoded 4 (numbers_of outcome)

-- the nine numbers that an answer holds
abbrev pub numbers_in : List ℕ → List ℕ
numbers_in answer = decoded 4 9 answer

-- Where a refusal lies in a file of so many bytes.
pub record Located (len : ℕ) (fault : Fault) (offset : ℕ) : Type 0 where
  -- "0 for 1 to 4"
  pub at_front : number_of fault ≤ 4 → offset ≡ 0
  -- document 02, wish 6: "for 5 the file's length"
  pub at_end : number_of fault ≡ 5 → offset ≡ len
  -- any other at a byte of the file: "the first byte of the field or item at fault"
  pub at_byte : 5 < number_of fault → offset < len
  -- so it is at most the file's length
  pub within : offset ≤ len

-- What an answer is that was written for an outcome: its bytes are the outcome's.
pub record Written (outcome : Outcome) (answer : List ℕ) : Type 0 where
  pub bytes : answer ≡ answer_bytes outcome
  -- they read back as its numbers, each of which has room in four bytes
  pub reads_back : numbers_in answer ≡ numbers_of outcome
  pub below : (i : ℕ) → i < 9 → get_or (numbers_of outcome) i 0 < 256 ^ 4
