-- An index as it is read, with no base in mind: its entries one after another, and what it holds.
-- Assumes nothing.
use mathlib.Core.Bool.{true}
use mathlib.Core.List.{List}
use mathlib.Core.Path.{◌≡◌}
use Prim.Native.Nat.{ℕ, ◌≤◌}
use lib.ListN.{length, get_or}
use Rattle.std.proofs.Common.{Ok, Err}
use Rattle.entries.specs.Bytes.{version}
use Rattle.entries.specs.Entries.{Read, all_suit}
use Rattle.entries.specs.declared.IndexEntry.TheVariants.{Code, End}
use Rattle.pieces.specs.Pieces.{Outline}
use Rattle.records.specs.declared.Entry.{Entry}
use Rattle.words.specs.Runs.{part}
use Rattle.index.specs.Walk.{Progress, begun, entry_at, stepped}

-- a code entry whose fixups all have a kind that suits it
abbrev pub Readable : List ℕ → Read → Type 0
Readable index (Ok (Code kind address n from count)) = all_suit kind (part index from count) ≡ true
Readable index (Ok (End entry next)) = ⊥
Readable index (Err fault) = ⊥

-- the entries of an index, one after another, lead to a progress
pub data Leads (index : List ℕ) : Progress → Type 0 where
  at_first : Leads index begun
  and_then : {s : Progress} → Leads index s → Readable index (entry_at index s) → Leads index (stepped index s (entry_at index s))

-- An index holds these outlines and ends with this entry.
pub record Holds (index : List ℕ) (os : List Outline) (entry : Entry) : Type 0 where
  pub there : 1 ≤ length index
  pub versioned : get_or index 0 0 ≡ version
  pub last : Progress
  pub entries : Leads index last
  pub end : entry_at index last ≡ Ok (End entry (length index))
  pub outlines : os ≡ last.outlines
