-- Indexes by hand, and what they come to. The theorems speak of indexes that were built and of what is accepted; what refuses a hand-made index is the
-- definition alone, so here it is held to the words of document 02, wish 5. `ExamplesHold` is the statement, proved in proofs/Examples.antt.
-- Assumes nothing.
use Rattle.std.specs.Prelude.{List, [], ◌∷◌, map, ◌≡◌, ℕ}
use Rattle.acx.specs.Walk.{Verdict, accepted, refused}
use Rattle.answer.specs.declared.Fault.{Fault}
use Rattle.answer.specs.declared.Fault.TheVariants.{SettingOutOfRange, CutShort, NotKnown, LengthNotAllowed, DoesNotFit, FieldNotLoaded, AdjustedTwice, PiecesOverlap, FixupUnsuited, BytesAfterEnd, StartTooHigh, WrongVersion}
use Rattle.entries.specs.Examples.{piece, field, P1Outlines, P1Entry, P1Index, many_outlines, many_entry, many_index}
use Rattle.fields.specs.declared.Fixup.TheVariants.{LowByte, Word}
use Rattle.pieces.specs.Pieces.{Outline, bases_at}
use Rattle.pieces.specs.declared.Bases.{Bases}
use Rattle.records.specs.declared.Entry.TheVariants.{Nowhere, Relative}
use Rattle.records.specs.declared.Kind.TheVariants.{Main}
use Rattle.index.specs.Walk.{indexed}

-- ---- what a row says

-- an index at a pair of bases, and its verdict
pub record Example : Type 0 where
  pub bases : Bases
  pub index : List ℕ
  pub verdict : Verdict Outline

abbrev pub at : Bases → List ℕ → Verdict Outline → Example
at bases index verdict = record { bases = bases; index = index; verdict = verdict }

-- the bases of most rows
abbrev pub row_bases : Bases
row_bases = bases_at 32 128

-- a refusal there
abbrev pub refuses : Fault → ℕ → List ℕ → Example
refuses fault offset index = at row_bases index (refused fault offset)

-- ---- the rows

abbrev pub examples : List Example
examples =
    -- P1's index, where its file is loaded, and at bases where it does not fit
    at (bases_at 8192 128) P1Index (accepted P1Outlines P1Entry)
    ∷ at (bases_at 65533 128) P1Index (accepted P1Outlines P1Entry)
    ∷ at (bases_at 65534 128) P1Index (refused DoesNotFit 1)
    ∷ at row_bases many_index (accepted many_outlines many_entry)
    -- "main base 0 to 65,535, zero-page base 0 to 255": 2, whatever the index
    ∷ at (bases_at 65536 128) [] (refused SettingOutOfRange 0)
    ∷ at (bases_at 32 256) P1Index (refused SettingOutOfRange 0)
    -- "an empty index is 5, then 24, at offset 0, for another version"
    ∷ refuses CutShort 0 []
    ∷ refuses WrongVersion 0 (0x02 ∷ [])
    ∷ refuses WrongVersion 0 (0x00 ∷ 0x00 ∷ 0x04 ∷ 0x0B ∷ 0x00 ∷ 0x00 ∷ 0x00 ∷ [])
    -- "5 if cut": no entry, half a length word, an entry without its last byte
    ∷ refuses CutShort 1 (0x01 ∷ [])
    ∷ refuses CutShort 1 (0x01 ∷ 0x00 ∷ [])
    ∷ refuses CutShort 1 (0x01 ∷ 0x00 ∷ 0x04 ∷ 0x0B ∷ 0x00 ∷ 0x00 ∷ [])
    -- no end entry: the next entry would begin at the end
    ∷ refuses CutShort 7 (0x01 ∷ 0x00 ∷ 0x04 ∷ 0x00 ∷ 0x00 ∷ 0x00 ∷ 0x01 ∷ [])
    -- "9 if empty"
    ∷ refuses LengthNotAllowed 1 (0x01 ∷ 0x00 ∷ 0x00 ∷ [])
    -- "6": a fixup's type and an unknown one, whatever the length
    ∷ refuses NotKnown 1 (0x01 ∷ 0x00 ∷ 0x01 ∷ 0x02 ∷ [])
    ∷ refuses NotKnown 1 (0x01 ∷ 0x00 ∷ 0x04 ∷ 0x0C ∷ 0x00 ∷ 0x00 ∷ 0x00 ∷ [])
    -- "9 where its length is wrong or its code passes 253": code of 1, 5 and 6 bytes after its length; an end of 3, and of 5, though its flag is
    -- not known either
    ∷ refuses LengthNotAllowed 1 (0x01 ∷ 0x00 ∷ 0x01 ∷ 0x00 ∷ [])
    ∷ refuses LengthNotAllowed 1 (0x01 ∷ 0x00 ∷ 0x05 ∷ 0x00 ∷ 0x00 ∷ 0x00 ∷ 0x01 ∷ 0x02 ∷ [])
    ∷ refuses LengthNotAllowed 1 (0x01 ∷ 0x00 ∷ 0x06 ∷ 0x00 ∷ 0x00 ∷ 0x00 ∷ 0x01 ∷ 0x02 ∷ 0x00 ∷ [])
    ∷ refuses LengthNotAllowed 1 (0x01 ∷ 0x00 ∷ 0x03 ∷ 0x0B ∷ 0x00 ∷ 0x00 ∷ [])
    ∷ refuses LengthNotAllowed 1 (0x01 ∷ 0x00 ∷ 0x05 ∷ 0x0B ∷ 0x09 ∷ 0x00 ∷ 0x00 ∷ 0x00 ∷ [])
    -- 254 bytes of code, which would not fit either
    ∷ refuses LengthNotAllowed 1 (0x01 ∷ 0x00 ∷ 0x04 ∷ 0x00 ∷ 0xFF ∷ 0xFF ∷ 0xFE ∷ [])
    -- "as for records": the flag 3 (6)
    ∷ refuses NotKnown 1 (0x01 ∷ 0x00 ∷ 0x04 ∷ 0x0B ∷ 0x03 ∷ 0x00 ∷ 0x00 ∷ [])
    -- code too high (10), in memory and in zero page, though its fixup is bad too
    ∷ refuses DoesNotFit 1 (0x01 ∷ 0x00 ∷ 0x07 ∷ 0x00 ∷ 0xFF ∷ 0xE0 ∷ 0x01 ∷ 0x03 ∷ 0x00 ∷ 0x00 ∷ [])
    ∷ refuses DoesNotFit 1 (0x01 ∷ 0x00 ∷ 0x04 ∷ 0x0A ∷ 0x00 ∷ 0x7F ∷ 0x02 ∷ [])
    -- two pieces share an address (17): the second is at fault
    ∷ refuses PiecesOverlap 7 (0x01 ∷ 0x00 ∷ 0x04 ∷ 0x00 ∷ 0x00 ∷ 0x00 ∷ 0x02 ∷ 0x00 ∷ 0x04 ∷ 0x01 ∷ 0x00 ∷ 0x21 ∷ 0x01 ∷ [])
    -- "18 for any bad kind": 03 after 00, 02 after 0A, 05 after 01, unknown, and a type that is no fixup's
    ∷ refuses FixupUnsuited 1 (0x01 ∷ 0x00 ∷ 0x07 ∷ 0x00 ∷ 0x00 ∷ 0x00 ∷ 0x01 ∷ 0x03 ∷ 0x00 ∷ 0x00 ∷ [])
    ∷ refuses FixupUnsuited 1 (0x01 ∷ 0x00 ∷ 0x07 ∷ 0x0A ∷ 0x00 ∷ 0x00 ∷ 0x01 ∷ 0x02 ∷ 0x00 ∷ 0x00 ∷ [])
    ∷ refuses FixupUnsuited 1 (0x01 ∷ 0x00 ∷ 0x07 ∷ 0x01 ∷ 0x00 ∷ 0x00 ∷ 0x01 ∷ 0x05 ∷ 0x00 ∷ 0x00 ∷ [])
    ∷ refuses FixupUnsuited 1 (0x01 ∷ 0x00 ∷ 0x07 ∷ 0x00 ∷ 0x00 ∷ 0x00 ∷ 0x01 ∷ 0x0C ∷ 0x00 ∷ 0x00 ∷ [])
    ∷ refuses FixupUnsuited 1 (0x01 ∷ 0x00 ∷ 0x07 ∷ 0x00 ∷ 0x00 ∷ 0x00 ∷ 0x01 ∷ 0x00 ∷ 0x00 ∷ 0x00 ∷ [])
    -- "each fixup in turn 18 for any bad kind, 12, 13": the first lies outside, before the second's bad kind; the second's bad kind, before the third lies
    -- outside; a kind is looked at before where its field lies
    ∷ refuses FieldNotLoaded 1 (0x01 ∷ 0x00 ∷ 0x0A ∷ 0x00 ∷ 0x00 ∷ 0x00 ∷ 0x01 ∷ 0x02 ∷ 0x09 ∷ 0x00 ∷ 0x0C ∷ 0x00 ∷ 0x00 ∷ [])
    ∷ refuses FixupUnsuited 1
    (0x01 ∷ 0x00 ∷ 0x0D ∷ 0x00 ∷ 0x00 ∷ 0x00 ∷ 0x01 ∷ 0x02 ∷ 0x00 ∷ 0x00 ∷ 0x0C ∷ 0x00 ∷ 0x00 ∷ 0x02 ∷ 0x09 ∷ 0x00 ∷ [])
    ∷ refuses FixupUnsuited 1 (0x01 ∷ 0x00 ∷ 0x07 ∷ 0x00 ∷ 0x00 ∷ 0x00 ∷ 0x01 ∷ 0x0C ∷ 0x09 ∷ 0x00 ∷ [])
    -- a word's second byte lies outside (12)
    ∷ refuses FieldNotLoaded 1 (0x01 ∷ 0x00 ∷ 0x07 ∷ 0x00 ∷ 0x00 ∷ 0x00 ∷ 0x02 ∷ 0x06 ∷ 0x01 ∷ 0x00 ∷ [])
    -- a byte adjusted twice (13): as a word's second and as a byte
    ∷ refuses AdjustedTwice 1 (0x01 ∷ 0x00 ∷ 0x0A ∷ 0x00 ∷ 0x00 ∷ 0x00 ∷ 0x02 ∷ 0x06 ∷ 0x00 ∷ 0x00 ∷ 0x02 ∷ 0x01 ∷ 0x00 ∷ [])
    -- "unused LSBs ignored"
    ∷ at row_bases (0x01 ∷ 0x00 ∷ 0x0A ∷ 0x00 ∷ 0x00 ∷ 0x00 ∷ 0x03 ∷ 0x06 ∷ 0x01 ∷ 0x63 ∷ 0x02 ∷ 0x00 ∷ 0x63 ∷ 0x00 ∷ 0x04 ∷ 0x0B ∷ 0x02 ∷ 0x00 ∷ 0x00 ∷ [])
    (accepted (piece Main 0 3 (field Word 1 0 ∷ field LowByte 0 0 ∷ []) ∷ []) (Relative 0))
    -- the start is too high (20): "refusal offsets are those of its entries"
    ∷ refuses StartTooHigh 7 (0x01 ∷ 0x00 ∷ 0x04 ∷ 0x00 ∷ 0x00 ∷ 0x00 ∷ 0x01 ∷ 0x00 ∷ 0x04 ∷ 0x0B ∷ 0x02 ∷ 0xFF ∷ 0xE0 ∷ [])
    -- a byte after the end entry (19), at that entry's offset
    ∷ refuses BytesAfterEnd 1 (0x01 ∷ 0x00 ∷ 0x04 ∷ 0x0B ∷ 0x00 ∷ 0x00 ∷ 0x00 ∷ 0x00 ∷ [])
    -- 20 before 19
    ∷ refuses StartTooHigh 1 (0x01 ∷ 0x00 ∷ 0x04 ∷ 0x0B ∷ 0x02 ∷ 0xFF ∷ 0xE0 ∷ 0x00 ∷ [])
    -- flag 0 with an address: there is no start
    ∷ at row_bases (0x01 ∷ 0x00 ∷ 0x04 ∷ 0x0B ∷ 0x00 ∷ 0x12 ∷ 0x34 ∷ []) (accepted [] Nowhere)
    ∷ []

-- ---- the statement: each index comes to its verdict

abbrev pub ExamplesHold : Type 0
ExamplesHold = map (λ (e : Example). (indexed e.bases e.index).answer) examples ≡ map (λ (e : Example). e.verdict) examples
