-- What a move goes by: a file in its form, or an index (document 02, wish 5); what it comes to at a pair of bases; and which index stands for which file.
-- Assumes nothing.
use Rattle.std.specs.Prelude.{Bool, List, map, ◌≡◌, ℕ, ◌≤◌}
use Rattle.acx.specs.Call.{load, in_range}
use Rattle.acx.specs.Rules.{Accepts, Refuses}
use Rattle.acx.specs.Walk.{Verdict, accepted, refused}
use Rattle.answer.specs.Report.{Outcome, placed_of, adjusted_of, Located}
use Rattle.answer.specs.declared.Fault.{Fault}
use Rattle.events.specs.Events.{Ran}
use Rattle.index.specs.Built.{BuiltFrom}
use Rattle.index.specs.Rules.{LocatedEntry, Accepts as IndexAccepts, Refuses as IndexRefuses}
use Rattle.index.specs.Walk.{formless, indexed}
use Rattle.pieces.specs.Pieces.{Piece, Outline, outline}
use Rattle.pieces.specs.declared.Bases.{Bases}
use Rattle.records.specs.declared.Entry.{Entry}
use Rattle.moves.specs.declared.Format.{Format}
use Rattle.moves.specs.declared.Format.TheVariants.{File, Index}

-- a file in its form (0 disk, 1 device), or an index
pub record Source : Type 0 where
  pub format : Format
  pub bytes : List ℕ

abbrev pub source_of : Format → List ℕ → Source
source_of format bytes = record { format = format; bytes = bytes }

abbrev pub file_in : ℕ → List ℕ → Source
file_in form file = source_of (File form) file

abbrev pub the_index : List ℕ → Source
the_index index = source_of Index index

-- ---- at a pair of bases

-- a verdict with outlines in place of pieces
abbrev pub without_code : Verdict Piece → Verdict Outline
without_code (accepted ps entry) = accepted (map outline ps) entry
without_code (refused fault at) = refused fault at

-- the verdict of a load of the file, with outlines, and its events; an index is "accepted where its entries are"
abbrev pub judged_by : Format → List ℕ → Bases → Ran (Verdict Outline)
judged_by (File form) file b = record { answer = without_code (load form b file).answer; events = (load form b file).events }
judged_by Index index b = indexed b index

abbrev pub judged_at : Source → Bases → Ran (Verdict Outline)
judged_at h b = judged_by h.format h.bytes b

-- A file is accepted with these outlines and this entry: "A handler is one file with its form, disk or device, accepted where a load in that form accepts it".
pub record FileAccepted (form : ℕ) (file : List ℕ) (b : Bases) (os : List Outline) (entry : Entry) : Type 0 where
  pub pieces : List Piece
  pub outlines : os ≡ map outline pieces
  pub accepts : Accepts form b file pieces entry

-- by the rules in plain steps: "Any other index is itself the handler, accepted where its entries are"
abbrev pub AcceptedBy : Format → List ℕ → Bases → List Outline → Entry → Type 0
AcceptedBy (File form) file b os entry = FileAccepted form file b os entry
AcceptedBy Index index b os entry = IndexAccepts b index os entry

abbrev pub RefusedBy : Format → List ℕ → Bases → Fault → ℕ → Type 0
RefusedBy (File form) file b fault offset = Refuses form b file fault offset
RefusedBy Index index b fault offset = IndexRefuses b index fault offset

-- The handler is accepted at the bases, with these outlines.
pub record AcceptedAt (h : Source) (os : List Outline) (b : Bases) : Type 0 where
  pub entry : Entry
  pub accepts : AcceptedBy h.format h.bytes b os entry

-- It is refused there, with a fault at an offset.
pub record RefusedAt (h : Source) (b : Bases) (fault : Fault) (offset : ℕ) : Type 0 where
  pub refuses : RefusedBy h.format h.bytes b fault offset

-- its settings there are in their ranges
abbrev pub form_of : Format → ℕ
form_of (File form) = form
form_of Index = formless

abbrev pub ranged : Source → Bases → Bool
ranged h b = in_range (form_of h.format) b

-- ---- what its counts and its refusals keep

-- "neither exceeds the file's length"; "bytes placed may here exceed the index's length"
abbrev pub Counted : Format → ℕ → Outcome → Type 0
Counted (File form) len r = (placed_of r ≤ len) × (adjusted_of r ≤ len)
Counted Index len r = adjusted_of r ≤ len

-- where a refusal lies in so many bytes: of a file at "the first byte of the field or item at fault" (wish 6); "refusal offsets are those of its
-- entries" (wish 5)
abbrev pub LocatedIn : Format → ℕ → Fault → ℕ → Type 0
LocatedIn (File form) len fault offset = Located len fault offset
LocatedIn Index len fault offset = LocatedEntry len fault offset

-- ---- which stands for which

-- "an index built from a file stands for that file and its loads"; whatever a handler is, it stands for itself
pub data StandsFor : Source → Source → Type 0 where
  itself : {h : Source} → StandsFor h h
  built : {form : ℕ} {file index : List ℕ} → BuiltFrom form file index → StandsFor (the_index index) (file_in form file)
