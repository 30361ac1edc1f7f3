-- Where a handler may go: of a file that is accepted at one pair of bases, whether it is accepted at another, and with which fault it is refused where
-- it is not. Proved in proofs/Where.antt (`accepted_where_fits : WhereClaim`).
-- Assumes nothing.
use Rattle.std.specs.Prelude.{true, List, ◌∷◌, map, ◌≡◌, ℕ, ◌+◌, ◌≤◌, ◌<◌}
use Rattle.answer.specs.Report.{address}
use Rattle.answer.specs.declared.Fault.{Fault}
use Rattle.answer.specs.declared.Fault.TheVariants.{DoesNotFit, PiecesOverlap, StartTooHigh}
use Rattle.events.specs.Lists.{Each}
use Rattle.pieces.specs.AtBases.{start_of}
use Rattle.pieces.specs.Pieces.{Piece, Outline, outline, place_of, limit_of}
use Rattle.pieces.specs.Places.{PiecesApart, PiecesFit}
use Rattle.pieces.specs.declared.Bases.{Bases}
use Rattle.records.specs.declared.Entry.{Entry}
use Rattle.acx.specs.Call.{in_range}
use Rattle.acx.specs.Rules.{Accepts, Refuses}

-- The pieces fit at the bases, and the start does (with flag 0 there is none, and its address is 0).
pub record HandlerFits (b : Bases) (os : List Outline) (entry : Entry) : Type 0 where
  pub pieces : PiecesFit b os
  -- "sum ≤ 65,535 for flags 1, 2"
  pub start : address (start_of b entry) ≤ 65535

-- The pieces, which stand latest first, do not fit at the bases. The fault is that of the piece that comes first in the file, by the first of its checks
-- that fails: "Place + n ≤ 65,536, for 0A ≤ 256 (10); no address already placed (17)".
pub data PiecesUnfit (b : Bases) : List Outline → Fault → Type 0 where
  earlier : {o : Outline} {os : List Outline} {fault : Fault} → PiecesUnfit b os fault → PiecesUnfit b (o ∷ os) fault
  too_high : {o : Outline} {os : List Outline} → PiecesFit b os → limit_of o.kind < place_of b o + o.size → PiecesUnfit b (o ∷ os) DoesNotFit
  overlaps : {o : Outline} {os : List Outline} → PiecesFit b os → place_of b o + o.size ≤ limit_of o.kind → ¬ Each (PiecesApart b o) os
      → PiecesUnfit b (o ∷ os) PiecesOverlap

-- The pieces or the start do not fit, and this is the first fault: the end record's check comes last, "sum ≤ 65,535 for flags 1, 2 (20)".
pub data HandlerUnfit (b : Bases) (os : List Outline) (entry : Entry) : Fault → Type 0 where
  of_pieces : {fault : Fault} → PiecesUnfit b os fault → HandlerUnfit b os entry fault
  of_start : PiecesFit b os → 65535 < address (start_of b entry) → HandlerUnfit b os entry StartTooHigh

-- What is said of a handler with these outlines and this entry, at bases in their ranges. Whoever judges it says of which pieces it is accepted and with
-- what it is refused: a load by pieces, and an index (crates/index) by outlines.
pub record AcceptedWhere {P : Type 0} (Accepts : List P → Entry → Type 0) (Refuses : Fault → ℕ → Type 0) (os : List Outline) (ps : List P) (entry : Entry)
    (b : Bases) : Type 0 where
  -- it is accepted exactly if they fit there, with the same pieces and the same entry
  pub accepts : HandlerFits b os entry → Accepts ps entry
  pub accepts_only : (qs : List P) (other : Entry) → Accepts qs other → HandlerFits b os entry × (qs ≡ ps) × (other ≡ entry)
  -- it is refused exactly if they do not, with the first of 10 and 17 in file order, then 20 (at which offset, outlines can't say)
  pub refuses : (fault : Fault) → HandlerUnfit b os entry fault → (offset : ℕ) × Refuses fault offset
  pub refuses_only : (fault : Fault) (offset : ℕ) → Refuses fault offset → HandlerUnfit b os entry fault

-- The claim: of every file that is accepted at some bases, at every pair of bases in their ranges. (That calls answer as `Accepts` and `Refuses` say
-- stands in Demand2.antt, `Exactly`, and in Refusals.antt.)
abbrev pub WhereClaim : Type 0
WhereClaim =
    (form : ℕ) (file : List ℕ) (a : Bases) (ps : List Piece) (entry : Entry) → Accepts form a file ps entry → (b : Bases) → in_range form b ≡ true
    → AcceptedWhere (Accepts form b file) (Refuses form b file) (map outline ps) ps entry b
