-- Which index is built from which file, and what that comes to: "an index built from a file stands for that file and its loads" (document 02, wish 5).
-- Proved in proofs/Built.antt: `one_index : OneIndexClaim`, `gives_back : GivesBackClaim` and `agrees : AgreesClaim`.
-- Assumes nothing.
use Rattle.std.specs.Prelude.{true, List, map, ◌≡◌, ℕ, ◌≤◌, length}
use Rattle.acx.specs.Call.{in_range}
use Rattle.acx.specs.Rules.{Accepts as FileAccepts, Refuses as FileRefuses}
use Rattle.acx.specs.Where.{AcceptedWhere}
use Rattle.answer.specs.declared.Fault.{Fault}
use Rattle.entries.specs.Bytes.{room_size, index_bytes}
use Rattle.pieces.specs.Pieces.{Piece, Outline, outline}
use Rattle.pieces.specs.declared.Bases.{Bases}
use Rattle.records.specs.declared.Entry.{Entry}
use Rattle.words.specs.Runs.{Bytes}
use Rattle.index.specs.Rules.{Accepts, Refuses}
use Rattle.index.specs.Walk.{formless}

-- "Build it from a file at given bases": the index of the pieces and the entry that a load there accepts
pub record BuiltFrom (form : ℕ) (file index : List ℕ) : Type 0 where
  pub bases : Bases
  pub pieces : List Piece
  pub entry : Entry
  pub accepts : FileAccepts form bases file pieces entry
  pub is : index ≡ index_bytes (map outline pieces) entry
  -- "the bench lends 65,536 bytes"
  pub fits : length index ≤ room_size

-- A file has one index, from whatever bases it is built.
abbrev pub OneIndexClaim : Type 0
OneIndexClaim = (form : ℕ) (file index other : List ℕ) → BuiltFrom form file index → BuiltFrom form file other → index ≡ other

-- It gives back the file's outlines and entry: it is accepted with them exactly where they fit, at every pair of bases in their ranges.
abbrev pub GivesBackClaim : Type 0
GivesBackClaim =
    (form : ℕ) (file index : List ℕ) → Bytes file → (built : BuiltFrom form file index) → (b : Bases) → in_range formless b ≡ true
    → AcceptedWhere (Accepts b index) (Refuses b index) (map outline built.pieces) (map outline built.pieces) built.entry b

-- At a pair of bases, in their ranges or not, an index is judged as a file is.
pub record Agrees (form : ℕ) (file index : List ℕ) (b : Bases) : Type 0 where
  -- accepted exactly where the file is, with its outlines and its entry
  pub accepts : (ps : List Piece) (entry : Entry) → FileAccepts form b file ps entry → Accepts b index (map outline ps) entry
  pub accepts_only : (os : List Outline) (entry : Entry) → Accepts b index os entry
      → (ps : List Piece) × FileAccepts form b file ps entry × (os ≡ map outline ps)
  -- refused exactly where the file is, with the same fault; the offset is its own
  pub refuses : (fault : Fault) (at : ℕ) → FileRefuses form b file fault at → (offset : ℕ) × Refuses b index fault offset
  pub refuses_only : (fault : Fault) (offset : ℕ) → Refuses b index fault offset → (at : ℕ) × FileRefuses form b file fault at

-- every index built from a file agrees with it, everywhere
abbrev pub AgreesClaim : Type 0
AgreesClaim = (form : ℕ) (file index : List ℕ) → Bytes file → BuiltFrom form file index → (b : Bases) → Agrees form file index b
