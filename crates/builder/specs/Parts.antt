-- The parts of a build. Only the contracts of the inner functions of `builder` cite this: what `build` promises stands in Build.antt.
-- Assumes nothing.
use Rattle.std.specs.Prelude.{List, [], ◌≡◌, ℕ, ◌+◌, ◌-◌, ◌*◌, ◌/◌, ◌≤◌, length, get_or, Option, unwrap_or, Ok, Err}
use Rattle.acx.specs.Walk.{Verdict, accepted, refused}
use Rattle.answer.specs.Report.{Outcome, acceptance}
use Rattle.entries.specs.Bytes.{fixup_bytes, code_bytes, with_length}
use Rattle.fields.specs.Fields.{item_size, fields_of}
use Rattle.fields.specs.declared.Fixup.{Fixup}
use Rattle.pieces.specs.Pieces.{Piece, Outline}
use Rattle.records.specs.declared.Kind.{Kind}
use Rattle.records.specs.declared.Kind.TheVariants.{Main}
use Rattle.records.specs.declared.Record.{Record}
use Rattle.records.specs.declared.Record.TheVariants.{Code, Fixups, End}
use Rattle.words.specs.Numbers.{big_store}
use Rattle.words.specs.Runs.{part, put}
use Rattle.builder.specs.Build.{index_of}
use Rattle.builder.specs.declared.Front.{Front}

-- the index of a file that is accepted
abbrev pub bytes_of : Verdict Piece → List ℕ
bytes_of (accepted ps entry) = index_of ps entry
bytes_of (refused fault at) = []

-- an outcome with another low
abbrev pub with_low : ℕ → Outcome → Outcome
with_low low (Ok a) = acceptance a.start a.placed a.adjusted a.new_names low
with_low low (Err r) = Err r

-- code without fields
abbrev pub bare : Kind → ℕ → ℕ → Outline
bare kind address n = record { kind = kind; address = address; size = n; fields = [] }

-- the kind of the last code record (where there is none, no fixups stand)
abbrev pub kind_of : Option Kind → Kind
kind_of last = unwrap_or last Main

-- how many bytes of the index a record brings
abbrev pub brings : Record → ℕ
brings (Code kind address from n) = 6
brings (Fixups fixup from n) = 3 * (n / item_size fixup)
brings (End entry next) = 6

-- how far the room is filled behind a record
abbrev pub front_after : Front → Record → Front
front_after f (Code kind address from n) = record { entry = f.used; used = f.used + 6 }
front_after f (Fixups fixup from n) = record { entry = f.entry; used = f.used + 3 * (n / item_size fixup) }
front_after f (End entry next) = f

-- a room with the fixups that items list behind its last entry, whose length counts them
unfoldable pub closed : Kind → Fixup → List ℕ → Front → List ℕ → List ℕ
closed kind fixup items f room =
    big_store 2 (put room f.used (fixup_bytes kind (fields_of fixup items))) f.entry
    (f.used + 3 * (length items / item_size fixup) - f.entry - 2)

-- the room after a record
unfoldable pub room_with : List ℕ → Option Kind → Front → List ℕ → Record → List ℕ
room_with file last f room (Code kind address from n) = put room f.used (with_length (code_bytes (bare kind address n)))
room_with file last f room (Fixups fixup from n) = closed (kind_of last) fixup (part file from n) f room
room_with file last f room (End entry next) = room

-- a record at an offset of the file may be written: code is as long as its length byte says, which counts the address too; fixups lie in the file, and
-- there is an entry for them
abbrev pub Sound : List ℕ → ℕ → Front → Record → Type 0
Sound file at f (Code kind address from n) = (at + 2 ≤ length file) × (get_or file (at + 1) 0 ≡ n + 2)
Sound file at f (Fixups fixup from n) = (from + n ≤ length file) × (f.entry + 2 ≤ f.used)
Sound file at f (End entry next) = Unit {0}
