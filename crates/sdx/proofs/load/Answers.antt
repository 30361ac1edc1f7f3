-- `sdx::load` meets its contract: where a length is wrong it touches nothing.
-- Assumes nothing.
use mathlib.Core.Path.{sym, ◌∙◌}
use Rattle.std.proofs.Common.{rules}
use Rattle.std.proofs.lemmas.Bool.{true≢false}
use Rattle.passes.specs.Walk.{inputs}
use Rattle.sdx.proofs.Calling.{wrong_sizes, known_bytes}
use Rattle.sdx.proofs.load.Goals as goal

pub returns-then-not-is_listed : goal.returns-then-not-is_listed
returns-then-not-is_listed c =
    wrong_sizes (λ s. true≢false (sym s.known ∙ sym c.is_listed.ensures ∙ c.if-not-is_listed.true)) c.refused-wrong.ensures (search rules) (search rules) (search rules) (search rules)

pub returns-in_default : goal.returns-in_default
returns-in_default c =
    wrong_sizes (λ s. c.in_default.ensures.cases s.memory) c.refused-wrong.ensures (search rules) (search rules) (search rules) (search rules)

pub returns-in_default-as_mut_array : goal.returns-in_default-as_mut_array
returns-in_default-as_mut_array c =
    wrong_sizes (λ s. c.in_default-as_mut_array.ensures.cases s.map) c.refused-wrong.ensures (search rules) (search rules) (search rules) (search rules)

pub returns-in_default-as_mut_array-2 : goal.returns-in_default-as_mut_array-2
returns-in_default-as_mut_array-2 c =
    wrong_sizes (λ s. c.in_default-as_mut_array-2.ensures.cases s.names) c.refused-wrong.ensures (search rules) (search rules) (search rules) (search rules)

pub returns-in_default-as_mut_array-3 : goal.returns-in_default-as_mut_array-3
returns-in_default-as_mut_array-3 c =
    wrong_sizes (λ s. c.in_default-as_mut_array-3.ensures.cases s.addresses) c.refused-wrong.ensures (search rules) (search rules) (search rules) (search rules)

pub load_sized-requires : goal.load_sized-requires
load_sized-requires c = known_bytes (inputs _ _ 0 0) (sym c.is_listed.ensures ∙ c.if-not-is_listed.false)
