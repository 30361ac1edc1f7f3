-- The cursor, in which the program keeps where its walk stands, and where an entry lies. Only the contracts of inner functions cite this.
-- Assumes nothing.
use Rattle.std.specs.Prelude.{◌≡◌, ℕ, ◌+◌, ◌/◌, ◌%◌, ◌≤◌}
use Rattle.entries.specs.declared.IndexEntry.{IndexEntry}
use Rattle.entries.specs.declared.IndexEntry.TheVariants.{Code, End}
use Rattle.index.specs.declared.Cursor.{Cursor}

-- the cursor before the first entry
abbrev pub first_cursor : Cursor
first_cursor = record { at = 1; placed = 0; adjusted = 0 }

-- the cursor after an entry that passed: each of its fixups, of three bytes, is a field adjusted
abbrev pub advanced : Cursor → IndexEntry → Cursor
advanced c (Code kind address n from count) = record { at = from + count; placed = c.placed + n; adjusted = c.adjusted + count / 3 }
advanced c (End entry next) = c

-- an entry that was read lies below an offset; its code is at most 253 bytes, and its fixups are three bytes each
abbrev pub Lies : ℕ → IndexEntry → Type 0
Lies limit (Code kind address n from count) = (from + count ≤ limit) × (n ≤ 253) × (count % 3 ≡ 0)
Lies limit (End entry next) = next ≤ limit
