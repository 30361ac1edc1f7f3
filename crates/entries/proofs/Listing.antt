-- The fixups of an entry, taken from the front: the first three bytes, the bytes after them, and what they list.
-- Assumes nothing.
use mathlib.Core.List.{List, [], ◌∷◌, ◌++◌}
use mathlib.Core.Path.{◌≡◌, refl, sym, ap, ◌∙◌}
use Prim.Native.Nat.{ℕ, ◌<◌}
use native.Mathlib.Omega.{arith}
use lib.ListN.{length, get_or}
use Rattle.std.proofs.Common.{Option}
use Rattle.fields.specs.declared.Field.{Field}
use Rattle.records.specs.Records.{type_of}
use Rattle.records.specs.declared.Kind.{Kind}
use Rattle.entries.specs.Entries.{listed, joined, fields_to}

-- three bytes are a fixup, before those after it
pub fixup_next : (items item rest : List ℕ) → items ≡ item ++ rest → length item ≡ 3
    → items ≡ get_or item 0 0 ∷ get_or item 1 0 ∷ get_or item 2 0 ∷ rest
fixup_next items [] rest s n = absurd (omega (arith, n))
fixup_next items (t ∷ []) rest s n = absurd (omega (arith, n))
fixup_next items (t ∷ i ∷ []) rest s n = absurd (omega (arith, n))
fixup_next items (t ∷ i ∷ lsb ∷ []) rest s n = s
fixup_next items (t ∷ i ∷ lsb ∷ x ∷ xs) rest s n = absurd (omega (arith, n))

-- what it lists comes before what those after it do
pub first_listed : (kind : Kind) (items item rest : List ℕ) {l : Option Field} → items ≡ item ++ rest → length item ≡ 3
    → l ≡ listed kind (type_of (get_or item 0 0)) (get_or item 1 0) (get_or item 2 0)
    → fields_to kind items ≡ joined l (fields_to kind rest)
unfolding fields_to
first_listed kind items item rest s n e =
    ap (fields_to kind) (fixup_next items item rest s n) ∙ ap (λ (o : Option Field). joined o (fields_to kind rest)) (sym e)

-- fewer than three bytes list nothing
pub none_listed : (kind : Kind) (items : List ℕ) → length items < 3 → fields_to kind items ≡ []
unfolding fields_to
none_listed kind [] h = refl
none_listed kind (t ∷ []) h = refl
none_listed kind (t ∷ index ∷ []) h = refl
none_listed kind (t ∷ index ∷ lsb ∷ items) h = absurd (omega arith)
