-- A call of the builder, whatever comes in: document 02, wish 5, "Build it from a file at given bases, in file order, with its load's map, answer and
-- refusals but no memory".
-- Assumes nothing.
use Rattle.std.specs.Prelude.{Bool, ◌&&◌, List, map, ◌≡◌, ℕ, ◌≤◌, leb, eqb, length}
use Rattle.acx.specs.Call.{load, map_after}
use Rattle.acx.specs.Walk.{Verdict, accepted, refused, at_once}
use Rattle.answer.specs.Checks.{need, pick}
use Rattle.answer.specs.Report.{Outcome, acceptance, refusal, placed_of, adjusted_of}
use Rattle.answer.specs.declared.Fault.TheVariants.{WrongBuffer, IndexTooLong}
use Rattle.entries.specs.Bytes.{room_size, index_bytes}
use Rattle.events.specs.Events.{Event, blank, placed_in, adjusted_in, Ran}
use Rattle.events.specs.Sizes.{memory_size}
use Rattle.pieces.specs.AtBases.{start_of}
use Rattle.pieces.specs.Pieces.{Piece, outline}
use Rattle.pieces.specs.declared.Bases.{Bases}
use Rattle.records.specs.declared.Entry.{Entry}
use Rattle.words.specs.Runs.{put}

-- the index of the pieces and the entry that a load accepts
abbrev pub index_of : List Piece → Entry → List ℕ
index_of ps entry = index_bytes (map outline ps) entry

-- "after the load's refusals, 25 at offset 0 where the index wouldn't fit" in the 65,536 bytes that the bench lends
abbrev pub fitted : Verdict Piece → Verdict Piece
fitted (accepted ps entry) = need refused (leb (length (index_of ps entry)) room_size) IndexTooLong 0 (accepted ps entry)
fitted (refused fault at) = refused fault at

-- "A map of 65,536 bytes"; "the bench lends 65,536 bytes (else 1)"
abbrev pub sized : List ℕ → List ℕ → Bool
sized map room = eqb (length map) memory_size && eqb (length room) room_size

-- a build where the lengths of all that is lent are right, or are not: 1 first
unfoldable pub build : ℕ → Bases → List ℕ → Bool → Ran (Verdict Piece)
build form b file right =
    need at_once right WrongBuffer 0 (record { answer = fitted (load form b file).answer; events = (load form b file).events })

-- "its load's .. answer", and "low in the answer is how many were used"
abbrev pub report : Bases → Verdict Piece → List Event → Outcome
report b (accepted ps entry) es = acceptance (start_of b entry) (placed_in es) (adjusted_in es) 0 (length (index_of ps entry))
report b (refused fault at) es = refusal fault at 0

-- the room after a build: "The unfilled rest of any room lent for output is zero after an acceptance"; a refusal leaves "any other room lent for output as
-- [it was]"
abbrev pub room_after : Verdict Piece → List ℕ → List ℕ
room_after (accepted ps entry) room = put blank 0 (index_of ps entry)
room_after (refused fault at) room = room

-- What a call promises, where the lengths of all that is lent are right or not: it found the map p and the room q, and answers r and leaves p' and q'.
pub record Built (form : ℕ) (b : Bases) (file : List ℕ) (right : Bool) (p q : List ℕ) (r : Outcome) (p' q' : List ℕ) : Type 0 where
  pub outcome : r ≡ report b (build form b file right).answer (build form b file right).events
  -- ("Refusal 1 changes nothing")
  pub map : p' ≡ pick right (map_after (build form b file right).answer (build form b file right).events) p
  pub room : q' ≡ room_after (build form b file right).answer q
  -- "neither exceeds the file's length"
  pub placed_fits : placed_of r ≤ length file
  pub adjusted_fits : adjusted_of r ≤ length file
