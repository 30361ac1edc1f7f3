-- The rules for an index in plain steps: one entry after another, each by what the wish says of a single entry (`begun`, `entry_at`, `checked` and
-- `stepped` in Walk.antt). No walk is in it; that the definition's walk comes to this, both ways, is the claim at the end, proved in proofs/Rules.antt
-- (`by_rules : RulesClaim`; `refusals_located : LocatedClaim` in proofs/Faults.antt).
-- (An entry of an index is an `IndexEntry`; an `Entry` is what the end record says of the start, by its flag.)
-- Assumes nothing.
use Rattle.std.specs.Prelude.{true, false, List, [], ◌≡◌, ℕ, ◌+◌, ◌≤◌, ◌<◌, length, get_or, Ok, Err}
use Rattle.acx.specs.Call.{in_range}
use Rattle.acx.specs.Rules.{ByRules}
use Rattle.answer.specs.Checks.{failure}
use Rattle.answer.specs.Report.{number_of}
use Rattle.answer.specs.declared.Fault.{Fault}
use Rattle.answer.specs.declared.Fault.TheVariants.{SettingOutOfRange, FileTooLong, CutShort, WrongVersion}
use Rattle.entries.specs.Bytes.{version}
use Rattle.entries.specs.Entries.{Read}
use Rattle.entries.specs.declared.IndexEntry.TheVariants.{Code, End}
use Rattle.events.specs.Events.{Event, marks, blank, passed}
use Rattle.events.specs.Sizes.{file_limit}
use Rattle.events.specs.Trace.{Trace, NextStep}
use Rattle.pieces.specs.Pieces.{Outline}
use Rattle.pieces.specs.declared.Bases.{Bases}
use Rattle.records.specs.declared.Entry.{Entry}
use Rattle.index.specs.Walk.{Progress, begun, entry_at, checked, stepped, formless, indexed}

-- ---- the index

-- a code entry: it is not the last, and no fault
abbrev pub Onward : Read → Type 0
Onward (Ok (Code kind address n from count)) = Unit {0}
Onward (Ok (End entry next)) = ⊥
Onward (Err fault) = ⊥

-- The entry at s passes, over the map as the events es left it, and leads on to z by the events fs.
abbrev pub NextEntry : List ℕ → Bases → Progress → List Event → Progress → List Event → Type 0
NextEntry index b s es z fs = NextStep Onward (entry_at index) (checked index b) (stepped index) s es z fs

-- It is the end entry, passes, and ends the index: the outlines so far are those of the handler.
pub record EndEntry (index : List ℕ) (b : Bases) (s : Progress) (es : List Event) (os : List Outline) (entry : Entry) : Type 0 where
  pub is : entry_at index s ≡ Ok (End entry (length index))
  pub passes : checked index b s (marks es blank) ≡ passed []
  pub outlines : os ≡ s.outlines

-- An index follows the rules at its bases, with these outlines and this entry.
pub record Follows (index : List ℕ) (b : Bases) (os : List Outline) (entry : Entry) : Type 0 where
  -- "one version byte, 1"
  pub there : 1 ≤ length index
  pub versioned : get_or index 0 0 ≡ version
  -- "then entries": each begins where the one before it ended
  pub last : Progress
  pub events : List Event
  pub entries : Trace (NextEntry index b) begun last events
  pub end : EndEntry index b last events os entry

-- An index breaks a rule first with this fault, at this offset.
pub data Fails (index : List ℕ) (b : Bases) : Fault → ℕ → Type 0 where
  -- "an empty index is 5"
  empty : length index ≡ 0 → Fails index b CutShort 0
  -- "then 24, at offset 0, for another version"
  of_version : 1 ≤ length index → ¬ (get_or index 0 0 ≡ version) → Fails index b WrongVersion 0
  -- "refusal offsets are those of its entries": in an entry after others that passed, wherever in it
  in_entry : {fault : Fault} {offset : ℕ} {s : Progress} {es : List Event} → 1 ≤ length index → get_or index 0 0 ≡ version
      → Trace (NextEntry index b) begun s es
      → (checked index b s (marks es blank)).answer ≡ failure fault offset
      → Fails index b fault s.at

-- ---- with the right buffers

-- It is accepted: its settings are in range, it is not too long, and it follows the rules.
pub record Accepts (b : Bases) (index : List ℕ) (os : List Outline) (entry : Entry) : Type 0 where
  pub settings : in_range formless b ≡ true
  pub fits : length index ≤ file_limit
  pub follows : Follows index b os entry

-- It is refused with a fault, at an offset: "1 to 3 as for a file", then the index from its front.
pub data Refuses (b : Bases) (index : List ℕ) : Fault → ℕ → Type 0 where
  out_of_range : in_range formless b ≡ false → Refuses b index SettingOutOfRange 0
  too_long : in_range formless b ≡ true → file_limit < length index → Refuses b index FileTooLong 0
  by_index : {fault : Fault} {at : ℕ} → in_range formless b ≡ true → length index ≤ file_limit → Fails index b fault at → Refuses b index fault at

-- ---- the claims

-- Where a refusal lies in an index of so many bytes.
pub record LocatedEntry (len : ℕ) (fault : Fault) (offset : ℕ) : Type 0 where
  -- "0 for 1 to 4"; "24, at offset 0"
  pub at_front : number_of fault ≤ 4 → offset ≡ 0
  pub of_version : fault ≡ WrongVersion → offset ≡ 0
  -- an entry that is cut begins in the index, or would begin at its end
  pub within : offset ≤ len
  -- any other has its length word there
  pub at_entry : 5 < number_of fault → ¬ (fault ≡ WrongVersion) → offset + 2 ≤ len

-- of every index that is refused
abbrev pub LocatedClaim : Type 0
LocatedClaim = (b : Bases) (index : List ℕ) (fault : Fault) (offset : ℕ) → Refuses b index fault offset → LocatedEntry (length index) fault offset

-- The definition accepts and refuses exactly so: of every index, at all settings.
abbrev pub RulesClaim : Type 0
RulesClaim = (b : Bases) (index : List ℕ) → ByRules (Accepts b index) (Refuses b index) (indexed b index).answer
