-- Outcomes told apart: by what they are, and by their nine numbers.
-- Assumes nothing.
use mathlib.Core.Bool.{Bool, true, false}
use mathlib.Core.List.{List, [], ◌∷◌}
use mathlib.Core.Path.{◌≡◌, refl, sym, ap, ◌∙◌}
use Prim.Native.Nat.{ℕ, zero, suc, ◌≤◌}
use native.Mathlib.Omega.{arith}
use borrow.Author.Tests.{leb-true}
use lib.Dec.{leb}
use lib.ListN.{get_or}
use Rattle.answer.specs.Report.{Outcome, acceptance, refusal, present, address, number_of, numbers_of}
use Rattle.answer.specs.declared.Fault.{Fault}
use Rattle.answer.specs.declared.Fault.TheVariants.{WrongBuffer, SettingOutOfRange, FileTooLong, WrongOpening, CutShort, NotKnown, BlockTaken, BlockMissing, LengthNotAllowed, DoesNotFit, CounterUnusable, FieldNotLoaded, AdjustedTwice, NameUnknown, TooManyNames, NameOutsideBlock, PiecesOverlap, FixupUnsuited, BytesAfterEnd, StartTooHigh, WrongVersion, IndexTooLong}
use Rattle.std.proofs.Common.{Option, Some, None, Ok, Err}

-- whether it is a refusal
abbrev pub is_refused : Outcome → Bool
is_refused (Ok a) = false
is_refused (Err r) = true

-- the fault of a refusal
abbrev pub fault_in : Outcome → Fault
fault_in (Ok a) = WrongBuffer
fault_in (Err r) = r.fault

-- ---- by their numbers

-- the fault with a number
abbrev fault_with : ℕ → Fault
fault_with n =
    get_or
    (WrongBuffer
    ∷ WrongBuffer
    ∷ SettingOutOfRange
    ∷ FileTooLong
    ∷ WrongOpening
    ∷ CutShort
    ∷ NotKnown
    ∷ BlockTaken
    ∷ BlockMissing
    ∷ LengthNotAllowed
    ∷ DoesNotFit
    ∷ CounterUnusable
    ∷ FieldNotLoaded
    ∷ AdjustedTwice
    ∷ NameUnknown
    ∷ TooManyNames
    ∷ NameOutsideBlock
    ∷ PiecesOverlap
    ∷ FixupUnsuited
    ∷ BytesAfterEnd
    ∷ StartTooHigh
    ∷ WrongBuffer
    ∷ WrongBuffer
    ∷ WrongBuffer
    ∷ WrongVersion
    ∷ IndexTooLong
    ∷ [])
    n WrongBuffer

-- the number of a fault is from 1 to 25, and no other fault has it
numbered : (f : Fault) → (leb 1 (number_of f) ≡ true) × (leb (number_of f) 25 ≡ true) × (fault_with (number_of f) ≡ f)
numbered WrongBuffer = (refl, refl, refl)
numbered SettingOutOfRange = (refl, refl, refl)
numbered FileTooLong = (refl, refl, refl)
numbered WrongOpening = (refl, refl, refl)
numbered CutShort = (refl, refl, refl)
numbered NotKnown = (refl, refl, refl)
numbered BlockTaken = (refl, refl, refl)
numbered BlockMissing = (refl, refl, refl)
numbered LengthNotAllowed = (refl, refl, refl)
numbered DoesNotFit = (refl, refl, refl)
numbered CounterUnusable = (refl, refl, refl)
numbered FieldNotLoaded = (refl, refl, refl)
numbered AdjustedTwice = (refl, refl, refl)
numbered NameUnknown = (refl, refl, refl)
numbered TooManyNames = (refl, refl, refl)
numbered NameOutsideBlock = (refl, refl, refl)
numbered PiecesOverlap = (refl, refl, refl)
numbered FixupUnsuited = (refl, refl, refl)
numbered BytesAfterEnd = (refl, refl, refl)
numbered StartTooHigh = (refl, refl, refl)
numbered WrongVersion = (refl, refl, refl)
numbered IndexTooLong = (refl, refl, refl)

pub number_bounds : (f : Fault) → (1 ≤ number_of f) × (number_of f ≤ 25)
number_bounds f = (leb-true _ _ (numbered f).0, leb-true _ _ (numbered f).1)

-- the start that is reported as present or not, at an address
abbrev start_from : ℕ → ℕ → Option ℕ
start_from zero a = None
start_from (suc n) a = Some a

-- the outcome with nine numbers
abbrev outcome_by : ℕ → List ℕ → Outcome
outcome_by zero ns = acceptance (start_from (get_or ns 3 0) (get_or ns 4 0)) (get_or ns 5 0) (get_or ns 6 0) (get_or ns 7 0) (get_or ns 8 0)
outcome_by (suc n) ns = refusal (fault_with (suc n)) (get_or ns 1 0) (get_or ns 2 0)

abbrev outcome_with : List ℕ → Outcome
outcome_with ns = outcome_by (get_or ns 0 0) ns

start_back : (s : Option ℕ) → start_from (present s) (address s) ≡ s
start_back None = refl
start_back (Some a) = refl

refused_by : (n : ℕ) (ns : List ℕ) → 1 ≤ n → outcome_by n ns ≡ refusal (fault_with n) (get_or ns 1 0) (get_or ns 2 0)
refused_by zero ns h = absurd (omega arith)
refused_by (suc n) ns h = refl

-- it is the one whose numbers they are
outcome_back : (o : Outcome) → outcome_with (numbers_of o) ≡ o
outcome_back (Ok a) = ap (λ (s : Option ℕ). acceptance s a.placed a.adjusted a.new_names a.low) (start_back a.start)
outcome_back (Err r) =
    refused_by (number_of r.fault) (numbers_of (Err r)) (number_bounds r.fault).0
    ∙ ap (λ (f : Fault). refusal f r.offset r.side) (numbered r.fault).2

-- so two outcomes with the same numbers are one
pub numbers_one : (o k : Outcome) → numbers_of o ≡ numbers_of k → o ≡ k
numbers_one o k e = sym (outcome_back o) ∙ ap outcome_with e ∙ outcome_back k
