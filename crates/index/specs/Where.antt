-- Where an index may go, as a file may (acx/specs/Where.antt): accepted at one pair of bases, it is accepted at another exactly where its outlines and its
-- start fit. Proved in proofs/Where.antt (`accepted_where_fits : WhereClaim`).
-- Assumes nothing.
use Rattle.std.specs.Prelude.{true, List, ◌≡◌, ℕ}
use Rattle.acx.specs.Call.{in_range}
use Rattle.acx.specs.Where.{AcceptedWhere}
use Rattle.pieces.specs.Pieces.{Outline}
use Rattle.pieces.specs.declared.Bases.{Bases}
use Rattle.records.specs.declared.Entry.{Entry}
use Rattle.index.specs.Rules.{Accepts, Refuses}
use Rattle.index.specs.Walk.{formless}

-- of every index that is accepted at some bases, at every pair of bases in their ranges
abbrev pub WhereClaim : Type 0
WhereClaim =
    (index : List ℕ) (a : Bases) (os : List Outline) (entry : Entry) → Accepts a index os entry → (b : Bases) → in_range formless b ≡ true
    → AcceptedWhere (Accepts b index) (Refuses b index) os os entry b
