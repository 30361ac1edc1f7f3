-- What all calls from C have in common: the answer (document 01, "What the bench lends", "C calls"), and what C can tell by it.
-- Assumes nothing.
use Rattle.std.specs.Prelude.{Bool, true, false, List, ◌≡◌, ℕ, ◌≤◌, eqb, length}
use Rattle.answer.specs.Report.{Outcome, refusal, number_returned, answer_length, Written, IsAccepted}
use Rattle.answer.specs.declared.Fault.TheVariants.{WrongBuffer}

-- "an answer of 36 bytes"
abbrev pub answer_sized : List ℕ → Bool
answer_sized answer = eqb (length answer) answer_length

-- What a call returns and writes as its answer: it had this outcome and found the answer a, and returns r and leaves a'.
pub record Answered (outcome : Outcome) (a : List ℕ) (r : ℕ) (a' : List ℕ) : Type 0 where
  -- "the number is also returned"
  pub returned : r ≡ number_returned outcome
  -- "It is written on every outcome"
  pub written : answer_sized a ≡ true → Written outcome a'
  -- "unless its own length is wrong (1)"
  pub unwritten : answer_sized a ≡ false → (a' ≡ a) × (outcome ≡ refusal WrongBuffer 0 0)

-- What C can tell by the number r that it was returned and the answer a' that it finds where it lent a.
pub record Told (o : Outcome) (a : List ℕ) (r : ℕ) (a' : List ℕ) : Type 0 where
  -- the outcome: no other is answered so
  pub only : (k : Outcome) → Answered k a r a' → k ≡ o
  -- 0 exactly on an acceptance
  pub accepted : IsAccepted o → r ≡ 0
  pub accepted_only : r ≡ 0 → IsAccepted o
  -- and 1 to 25 on a refusal
  pub refused : ¬ IsAccepted o → (1 ≤ r) × (r ≤ 25)
  -- what it lent with another length it finds as it was
  pub unchanged : answer_sized a ≡ false → a' ≡ a

-- of every call: each has an outcome that is answered (`answered` in the four records `Called`)
abbrev pub ToldClaim : Type 0
ToldClaim = (o : Outcome) (a : List ℕ) (r : ℕ) (a' : List ℕ) → Answered o a r a' → Told o a r a'
