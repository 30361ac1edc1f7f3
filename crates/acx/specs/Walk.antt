-- A file, record by record: "Then records to the end record".
-- The records are a walk by turns (`events`, specs/Walk.antt), one record to a turn; `from_turn` (proofs/Walks.antt there) is the equation to read.
-- Assumes nothing.
use Rattle.std.specs.Prelude.{List, [], ◌∷◌, ◌++◌, ℕ, ◌+◌, leb, eqb, length, Option, Some, None, Ok, Err}
use Rattle.answer.specs.Report.{Outcome, acceptance, refusal}
use Rattle.answer.specs.Checks.{need, failure}
use Rattle.answer.specs.declared.Fault.{Fault}
use Rattle.answer.specs.declared.Fault.TheVariants.{WrongOpening, CutShort}
use Rattle.events.specs.Events.{Event, blank, placed_in, adjusted_in, Ran, Check}
use Rattle.events.specs.Walk.{Turn, ends, leads, from, bytes_left}
use Rattle.fields.specs.Fields.{fields_of}
use Rattle.records.specs.Records.{Read, read}
use Rattle.fields.specs.declared.Field.{Field}
use Rattle.records.specs.declared.Entry.{Entry}
use Rattle.records.specs.declared.Kind.{Kind}
use Rattle.records.specs.declared.Record.TheVariants.{Code, Fixups, End}
use Rattle.words.specs.Numbers.{value}
use Rattle.words.specs.Runs.{part}
use Rattle.pieces.specs.AtBases.{start_of, applied}
use Rattle.pieces.specs.Pieces.{Piece, size, outline, place_of}
use Rattle.pieces.specs.declared.Bases.{Bases}
use Rattle.acx.specs.declared.Form.{Form}
use Rattle.acx.specs.declared.Form.TheVariants.{Disk, Device}

-- what a file comes to: the pieces of the handler, latest first, and its end record's entry; or its first fault and the offset of the first byte at
-- fault. A load goes by pieces, a move by their outlines. (The entry, not the start: at main base 8192 an absolute start 8192 and a relative start 0
-- are one address, but not one handler.)
pub data Verdict (P : Type 0) : Type 0 where
  accepted : List P → Entry → Verdict P
  refused : Fault → ℕ → Verdict P

-- ---- the opening

-- "Disk form opens F0 FF (under two bytes 5, else 4); device form has no opening." (F0 FF, low byte first, is the word FFF0) Offsets: "0 for 1 to 4";
-- document 02, wish 6, "for 5 the file's length".
unfoldable pub opening : Form → List ℕ → Check
opening Disk file =
    need failure (leb 2 (length file)) CutShort (length file)
    (need failure (eqb (value 2 file 0) 0xFFF0) WrongOpening 0
    (Ok tt))
opening Device file = Ok tt

-- where the records begin
abbrev pub opening_size : Form → ℕ
opening_size Disk = 2
opening_size Device = 0

-- ---- one record

-- where a walk stands: the next record's offset, and the pieces so far, latest first
pub record Progress : Type 0 where
  pub at : ℕ
  pub pieces : List Piece

-- before the first record
abbrev pub begun : ℕ → Progress
begun at = record { at = at; pieces = [] }

-- "the last code record before it"
abbrev pub last_of : List Piece → Option Kind
last_of [] = None
last_of (p ∷ ps) = Some p.kind

-- where it was placed
abbrev pub last_place : Bases → List Piece → ℕ
last_place b [] = 0
last_place b (p ∷ ps) = place_of b (outline p)

-- and how many code bytes it has
abbrev pub last_size : List Piece → ℕ
last_size [] = 0
last_size (p ∷ ps) = size p

-- the next record
abbrev pub record_at : List ℕ → Progress → Read
record_at file s = read file s.at (last_of s.pieces)

-- what it comes to at the bases, over a map
unfoldable pub checked : List ℕ → Bases → Progress → List ℕ → Ran Check
checked file b s map = applied file s.at b (last_place b s.pieces) (last_size s.pieces) (record_at file s) map

-- the fields of a fixup record are the last piece's
abbrev pub with_fields : List Field → List Piece → List Piece
with_fields fs [] = []
with_fields fs (p ∷ ps) = record { kind = p.kind; address = p.address; code = p.code; fields = p.fields ++ fs } ∷ ps

-- where the walk stands after a record that passed: code is a piece more, fixups are fields more
abbrev pub stepped : List ℕ → Progress → Read → Progress
stepped file s (Ok (Code kind address from n)) =
    record { at = from + n; pieces = record { kind = kind; address = address; code = part file from n; fields = [] } ∷ s.pieces }
stepped file s (Ok (Fixups fixup from n)) = record { at = from + n; pieces = with_fields (fields_of fixup (part file from n)) s.pieces }
stepped file s (Ok (End entry next)) = s
stepped file s (Err e) = s

-- where a record leads: on to the next; or the walk ends, accepted at the end record, refused at a fault
abbrev pub judge : List ℕ → Bases → Progress → Check → Read → Turn Progress (Verdict Piece)
judge file b s (Err e) r = ends (refused e.fault e.offset)
judge file b s (Ok done) (Ok (Code kind address from n)) = leads (stepped file s (Ok (Code kind address from n)))
judge file b s (Ok done) (Ok (Fixups fixup from n)) = leads (stepped file s (Ok (Fixups fixup from n)))
judge file b s (Ok done) (Ok (End entry next)) = ends (accepted s.pieces entry)
judge file b s (Ok done) (Err e) = ends (refused e.fault e.offset)

-- one record: read, checked at the bases, and where that leads
unfoldable pub turn : List ℕ → Bases → Progress → List ℕ → Ran (Turn Progress (Verdict Piece))
turn file b s map =
    record { answer = judge file b s (checked file b s map).answer (record_at file s); events = (checked file b s map).events }

-- ---- the walk

-- the records from some progress on, over a map
unfoldable pub records_from : List ℕ → Bases → Progress → List ℕ → Ran (Verdict Piece)
records_from file b s map = from (turn file b) (λ z. refused CutShort (length file)) (λ z. bytes_left file z.at) s map

-- all records from an offset on, over a clear map
abbrev pub records_of : List ℕ → Bases → ℕ → Ran (Verdict Piece)
records_of file b at = records_from file b (begun at) blank

-- a refusal before the first record
abbrev pub at_once : {P : Type 0} → Fault → ℕ → Ran (Verdict P)
at_once fault offset = record { answer = refused fault offset; events = [] }

-- the records, where the opening passed
abbrev pub opened : Check → Ran (Verdict Piece) → Ran (Verdict Piece)
opened (Ok done) rest = rest
opened (Err e) rest = at_once e.fault e.offset

-- the whole file in its form, at its bases
unfoldable pub judged : Form → List ℕ → Bases → Ran (Verdict Piece)
judged form file b = opened (opening form file) (records_of file b (opening_size form))

-- ---- what is reported

-- "the start (present or not, address), the number of bytes placed and of fields adjusted"; "A refusal reports its number and the offset"
abbrev pub report : {P : Type 0} → Bases → Verdict P → List Event → Outcome
report b (accepted ps entry) es = acceptance (start_of b entry) (placed_in es) (adjusted_in es) 0 0
report b (refused fault at) es = refusal fault at 0

-- the same with the events that led to it
abbrev pub reported : {P : Type 0} → Bases → Ran (Verdict P) → Ran Outcome
reported b o = record { answer = report b o.answer o.events; events = o.events }
