-- An index at a pair of bases, entry by entry: document 02, wish 5, "Any other index is itself the handler, accepted where its entries are".
-- The entries are a walk by turns (`events`, specs/Walk.antt), one entry to a turn, as the records of a file are (`acx`).
-- Assumes nothing.
use Rattle.std.specs.Prelude.{List, [], ◌∷◌, ℕ, ◌+◌, leb, eqb, length, get_or, replicate, Ok, Err}
use Rattle.acx.specs.Call.{in_range}
use Rattle.acx.specs.Walk.{Verdict, accepted, refused, at_once}
use Rattle.answer.specs.Checks.{need}
use Rattle.answer.specs.declared.Fault.TheVariants.{SettingOutOfRange, FileTooLong, CutShort, FixupUnsuited, WrongVersion}
use Rattle.entries.specs.Bytes.{version}
use Rattle.entries.specs.Entries.{Read, read, fields_to, all_suit}
use Rattle.entries.specs.declared.IndexEntry.{IndexEntry}
use Rattle.entries.specs.declared.IndexEntry.TheVariants.{Code, End}
use Rattle.events.specs.Events.{blank, Ran, Check, failed, passed}
use Rattle.events.specs.Sizes.{file_limit}
use Rattle.events.specs.Walk.{Turn, ends, leads, and_then, from, bytes_left}
use Rattle.pieces.specs.AtBases.{placing, adjusting, ending}
use Rattle.pieces.specs.Pieces.{Outline, place_at, limit_of}
use Rattle.pieces.specs.declared.Bases.{Bases}
use Rattle.records.specs.declared.Kind.{Kind}
use Rattle.words.specs.Runs.{part}

-- ---- one entry

-- the fixups of n code bytes of a kind at a place: "each fixup in turn 18 for any bad kind, 12, 13". The fields before the first bad kind are checked, 12
-- and 13 in turn; then that kind is at fault.
unfoldable pub fixing : ℕ → Bases → Kind → ℕ → ℕ → List ℕ → List ℕ → Ran Check
fixing at b kind a n items map =
    let fields = adjusting at 0 b a n (fields_to kind items) map in
    and_then map fields.answer fields.events (λ after. need failed (all_suit kind items) FixupUnsuited at (passed []))

-- a code entry: "then as for records", 10 and 17 (of code that is not there only the length is looked at: zeros stand for it), and its fixups
unfoldable pub coding : ℕ → Bases → Kind → ℕ → ℕ → List ℕ → List ℕ → Ran Check
coding at b kind address n items map =
    let code = placing at (place_at b kind address) (limit_of kind) (replicate n 0) map in
    and_then map code.answer code.events (λ after. fixing at b kind (place_at b kind address) n items after)

-- the entry at an offset, at its bases: of the end record 20, then 19
unfoldable pub applied : List ℕ → ℕ → Bases → IndexEntry → List ℕ → Ran Check
applied index at b (Code kind address n from count) map = coding at b kind address n (part index from count) map
applied index at b (End entry next) map = ending at b entry next (length index)

-- ---- the walk

-- where a walk stands: the next entry's offset, and the outlines so far, latest first
pub record Progress : Type 0 where
  pub at : ℕ
  pub outlines : List Outline

-- before the first entry, which stands behind the version
abbrev pub begun : Progress
begun = record { at = 1; outlines = [] }

-- the next entry
abbrev pub entry_at : List ℕ → Progress → Read
entry_at index s = read index s.at

-- what reading it came to: an entry as its part says at the bases, over a map; a fault at once
abbrev pub checked_as : List ℕ → Bases → Progress → Read → List ℕ → Ran Check
checked_as index b s (Ok e) map = applied index s.at b e map
checked_as index b s (Err fault) map = failed fault s.at

-- what it comes to at the bases, over a map
unfoldable pub checked : List ℕ → Bases → Progress → List ℕ → Ran Check
checked index b s map = checked_as index b s (entry_at index s) map

-- the outline of a code entry with these fixups
abbrev pub outline_of : Kind → ℕ → ℕ → List ℕ → Outline
outline_of kind address n items = record { kind = kind; address = address; size = n; fields = fields_to kind items }

-- where the walk stands after an entry that passed: a code entry is an outline more
abbrev pub stepped : List ℕ → Progress → Read → Progress
stepped index s (Ok (Code kind address n from count)) =
    record { at = from + count; outlines = outline_of kind address n (part index from count) ∷ s.outlines }
stepped index s (Ok (End entry next)) = s
stepped index s (Err fault) = s

-- where an entry leads: on to the next; or the walk ends, accepted at the end entry, refused at a fault. "refusal offsets are those of its entries"
abbrev pub judge : List ℕ → Progress → Check → Read → Turn Progress (Verdict Outline)
judge index s (Err e) r = ends (refused e.fault s.at)
judge index s (Ok done) (Ok (Code kind address n from count)) = leads (stepped index s (Ok (Code kind address n from count)))
judge index s (Ok done) (Ok (End entry next)) = ends (accepted s.outlines entry)
judge index s (Ok done) (Err fault) = ends (refused fault s.at)

-- one entry: read, checked at the bases, and where that leads
unfoldable pub turn : List ℕ → Bases → Progress → List ℕ → Ran (Turn Progress (Verdict Outline))
turn index b s map =
    record { answer = judge index s (checked index b s map).answer (entry_at index s); events = (checked index b s map).events }

-- the entries from some progress on, over a map
unfoldable pub entries_from : List ℕ → Bases → Progress → List ℕ → Ran (Verdict Outline)
entries_from index b s map = from (turn index b) (λ z. refused CutShort z.at) (λ z. bytes_left index z.at) s map

-- the whole index: "an empty index is 5, then 24, at offset 0, for another version"
unfoldable pub judged : List ℕ → Bases → Ran (Verdict Outline)
judged index b =
    need at_once (leb 1 (length index)) CutShort 0
    (need at_once (eqb (get_or index 0 0) version) WrongVersion 0
    (entries_from index b begun blank))

-- ---- a call

-- "main base 0 to 65,535, zero-page base 0 to 255": an index has no form, and both forms have these
abbrev pub formless : ℕ
formless = 0

-- "Refusals: 1 to 3 as for a file", with the right buffers: 2, then 3, then the index
unfoldable pub indexed : Bases → List ℕ → Ran (Verdict Outline)
indexed b index =
    need at_once (in_range formless b) SettingOutOfRange 0
    (need at_once (leb (length index) file_limit) FileTooLong 0
    (judged index b))
