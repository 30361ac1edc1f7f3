-- There are nine numbers, the answer has its length, whatever the outcome, and it reads back where each number has room in its bytes.
-- Assumes nothing.
use mathlib.Core.List.{List}
use mathlib.Core.Path.{◌≡◌, refl, sym, ap, ◌∙◌, subst}
use Prim.Native.Nat.{ℕ, ◌*◌, ◌^◌, ◌<◌}
use native.Mathlib.Omega.{arith}
use lib.ListN.{length, get_or}
use Rattle.words.proofs.Numbers.{length_encoded, reads_back}
use Rattle.words.specs.Numbers.{encoded, decoded}
use Rattle.answer.specs.Report.{Outcome, numbers_of, answer_length, answer_bytes, Written}
use Rattle.std.proofs.Common.{Ok, Err}

pub length_numbers : (outcome : Outcome) → length (numbers_of outcome) ≡ 9
length_numbers (Ok a) = refl
length_numbers (Err r) = refl

pub length_answer : (outcome : Outcome) → length (answer_bytes outcome) ≡ answer_length
unfolding answer_bytes
length_answer outcome = length_encoded 4 (numbers_of outcome) ∙ ap (λ n. 4 * n) (length_numbers outcome)

-- an answer that holds all nine numbers, none of them too large
pub written : (o : Outcome) (ns answer : List ℕ) → ns ≡ numbers_of o → answer ≡ encoded 4 ns → ((j : ℕ) → j < 9 → get_or ns j 0 < 256 ^ 4)
    → Written o answer
unfolding answer_bytes
written o ns answer en ea f =
    let nine : length ns ≡ 9 = ap length en ∙ length_numbers o in
    record {
      bytes = ea ∙ ap (encoded 4) en;
      reads_back = ap (λ (n : ℕ). decoded 4 n answer) (sym nine) ∙ reads_back 4 ns answer ea (λ j h. f j (omega arith)) ∙ en;
      below = λ j h. subst (λ (l : List ℕ). get_or l j 0 < 256 ^ 4) en (f j h);
    }
