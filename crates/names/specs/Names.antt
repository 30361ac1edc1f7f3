-- Lists of names, "eight bytes each", one after the other, and which definition of a name holds.
-- Assumes nothing.
use Rattle.std.specs.Prelude.{Bool, true, false, ◌&&◌, List, [], ◌∷◌, ℕ, zero, suc, ◌*◌, ◌/◌, eqb, length, Option, Some, None}
use Rattle.answer.specs.Checks.{pick}
use Rattle.words.specs.Runs.{part}
use Rattle.names.specs.declared.Definition.{Definition}
use Rattle.names.specs.declared.Definition.TheVariants.{Own, Lent}

-- whether two runs of bytes are the same
unfoldable pub same : List ℕ → List ℕ → Bool
same [] [] = true
same [] (y ∷ ys) = false
same (x ∷ xs) [] = false
same (x ∷ xs) (y ∷ ys) = eqb x y && same xs ys

-- "eight bytes each"
abbrev pub name_size : ℕ
name_size = 8

-- the name with this index
abbrev pub name_at : List ℕ → ℕ → List ℕ
name_at names i = part names (name_size * i) name_size

-- the last of the first k names that is this one, in all eight bytes
unfoldable pub newest_of : ℕ → List ℕ → List ℕ → Option ℕ
newest_of zero names name = None
newest_of (suc k) names name = pick (same (name_at names k) name) (Some k) (newest_of k names name)

-- the newest of a list stands last
unfoldable pub newest : List ℕ → List ℕ → Option ℕ
newest names name = newest_of (length names / name_size) names name

-- what was found among this file's own names holds, else what was found in the lent list
abbrev pub or_lent : Option ℕ → Option ℕ → Option Definition
or_lent (Some i) lent = Some (Own i)
or_lent None (Some i) = Some (Lent i)
or_lent None None = None

-- "The newest definition holds: this file's, latest first, then the lent list from its end."
unfoldable pub look_up : List ℕ → List ℕ → List ℕ → Option Definition
look_up own lent name = or_lent (newest own name) (newest lent name)
