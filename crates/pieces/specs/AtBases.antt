-- What was read of a file (`records`), a record or the fault for which it is none, at its bases: what is left to check, against the map as the records
-- before it left it.
-- Each check names its offset by document 02, wish 6: "in .. fixup lists the item, .. for 10 and 17 the address .., for 19 the first byte too many,
-- for 20 the start's first byte".
-- Assumes nothing.
use Rattle.std.specs.Prelude.{not, List, [], ◌∷◌, ℕ, ◌+◌, ◌≤◌, leb, length, Option, Some, None, Ok, Err}
use Rattle.answer.specs.Checks.{need}
use Rattle.answer.specs.Report.{address as address_of}
use Rattle.answer.specs.declared.Fault.TheVariants.{DoesNotFit, PiecesOverlap, FieldNotLoaded, AdjustedTwice, StartTooHigh, BytesAfterEnd}
use Rattle.events.specs.Events.{place, adjusted_mark, mark_one, Ran, Check, failed, passed}
use Rattle.events.specs.Walk.{after}
use Rattle.fields.specs.Fields.{item_size, fields_of}
use Rattle.records.specs.declared.Entry.{Entry}
use Rattle.records.specs.declared.Entry.TheVariants.{Nowhere, Fixed, Relative}
use Rattle.fields.specs.declared.Field.{Field}
use Rattle.records.specs.Records.{Read}
use Rattle.records.specs.declared.Record.TheVariants.{Code, Fixups, End}
use Rattle.words.specs.Runs.{part, all_zero, contains}
use Rattle.pieces.specs.Pieces.{place_at, limit_of, width, adjustment}
use Rattle.pieces.specs.declared.Bases.{Bases}

-- code at a place, whose address stands at an offset: "Place + n ≤ 65,536, for 0A ≤ 256 (10); no address already placed (17)"
unfoldable pub placing : ℕ → ℕ → ℕ → List ℕ → List ℕ → Ran Check
placing at a limit code map =
    need failed (leb (a + length code) limit) DoesNotFit at
    (need failed (all_zero (part map a (length code))) PiecesOverlap at
    (passed (place a code ∷ [])))

-- the fields of n code bytes at a place, "Item by item: index inside the record, for words index + 1 too (12); no byte adjusted before (13)". The first
-- item stands at an offset, each later one so many bytes after the one before it.
unfoldable pub adjusting : ℕ → ℕ → Bases → ℕ → ℕ → List Field → List ℕ → Ran Check
adjusting at step b a n [] map = passed []
adjusting at step b a n (f ∷ fs) map =
    need failed (leb (f.index + width f) n) FieldNotLoaded at
    (need failed (not (contains adjusted_mark (part map (a + f.index) (width f)))) AdjustedTwice at
    (after (adjustment b a f ∷ []) (adjusting (at + step) step b a n fs (mark_one (adjustment b a f) map))))

-- "flag 0 none, 1 absolute, 2 plus main base"
abbrev pub start_of : Bases → Entry → Option ℕ
start_of b Nowhere = None
start_of b (Fixed a) = Some a
start_of b (Relative a) = Some (b.main + a)

-- "sum ≤ 65,535 for flags 1, 2 (20); nothing after (19)", where the start's address stands at an offset
unfoldable pub ending : ℕ → Bases → Entry → ℕ → ℕ → Ran Check
ending at b entry next file_length =
    need failed (leb (address_of (start_of b entry)) 65535) StartTooHigh at
    (need failed (leb file_length next) BytesAfterEnd next
    (passed []))

-- the record that was read, if one was, lies below an offset
abbrev pub EndsBy : ℕ → Read → Type 0
EndsBy limit (Ok (Code kind address from n)) = from + n ≤ limit
EndsBy limit (Ok (Fixups fixup from n)) = from + n ≤ limit
EndsBy limit (Ok (End entry next)) = next ≤ limit
EndsBy limit (Err e) = Unit {0}

-- what was read at an offset of the file, where the last code record before it has k bytes at a: a record (its address, if it has one, begins at its
-- third byte), or the fault for which it is none
unfoldable pub applied : List ℕ → ℕ → Bases → ℕ → ℕ → Read → List ℕ → Ran Check
applied file at b a k (Ok (Code kind address from n)) map = placing (at + 2) (place_at b kind address) (limit_of kind) (part file from n) map
applied file at b a k (Ok (Fixups fixup from n)) map = adjusting from (item_size fixup) b a k (fields_of fixup (part file from n)) map
applied file at b a k (Ok (End entry next)) map = ending (at + 2) b entry next (length file)
applied file at b a k (Err e) map = failed e.fault e.offset
