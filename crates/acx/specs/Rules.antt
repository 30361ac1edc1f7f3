-- The rules for a file in plain steps: one record after another, each by what the document says of a single record (`opening`, `begun`, `record_at`,
-- `checked` and `stepped` in Walk.antt). No walk is in it; that the loader's walk comes to this, both ways, is the claim at the end, proved in
-- proofs/Rules.antt (`by_rules : RulesClaim`).
-- Assumes nothing.
use Rattle.std.specs.Prelude.{true, false, List, [], ◌≡◌, ℕ, ◌≤◌, ◌<◌, length, Ok, Err}
use Rattle.answer.specs.Checks.{failure}
use Rattle.records.specs.Records.{Read}
use Rattle.answer.specs.declared.Fault.{Fault}
use Rattle.answer.specs.declared.Fault.TheVariants.{SettingOutOfRange, FileTooLong}
use Rattle.events.specs.Events.{Event, marks, blank, passed}
use Rattle.events.specs.Sizes.{file_limit}
use Rattle.events.specs.Trace.{Trace, NextStep}
use Rattle.records.specs.declared.Entry.{Entry}
use Rattle.records.specs.declared.Record.TheVariants.{Code, Fixups, End}
use Rattle.pieces.specs.Pieces.{Piece}
use Rattle.pieces.specs.declared.Bases.{Bases}
use Rattle.acx.specs.Call.{form_of, in_range, load}
use Rattle.acx.specs.Walk.{Verdict, accepted, refused, Progress, begun, record_at, checked, stepped, opening, opening_size}
use Rattle.acx.specs.declared.Form.{Form}

-- ---- the file

-- code or fixups: the record is not the last, and no fault
abbrev pub Onward : Read → Type 0
Onward (Ok (Code kind address from n)) = Unit {0}
Onward (Ok (Fixups fixup from n)) = Unit {0}
Onward (Ok (End entry next)) = ⊥
Onward (Err e) = ⊥

-- The record at which a load stands at s passes, over the map as the events es left it, and leads on to z by the events fs.
abbrev pub NextRecord : List ℕ → Bases → Progress → List Event → Progress → List Event → Type 0
NextRecord file b s es z fs = NextStep Onward (record_at file) (checked file b) (stepped file) s es z fs

-- It is an end record, passes, and ends the file: the pieces so far are the handler, and its entry says where that starts.
pub record EndRecord (file : List ℕ) (b : Bases) (s : Progress) (es : List Event) (ps : List Piece) (entry : Entry) : Type 0 where
  pub is : record_at file s ≡ Ok (End entry (length file))
  pub passes : checked file b s (marks es blank) ≡ passed []
  pub pieces : ps ≡ s.pieces

-- A file in its form follows the rules at its bases, with these pieces and this entry.
pub record Follows (form : Form) (file : List ℕ) (b : Bases) (ps : List Piece) (entry : Entry) : Type 0 where
  -- "Disk form opens F0 FF ..; device form has no opening."
  pub opens : opening form file ≡ Ok tt
  -- "Then records to the end record": each begins where the one before it ended
  pub last : Progress
  pub events : List Event
  pub records : Trace (NextRecord file b) (begun (opening_size form)) last events
  pub end : EndRecord file b last events ps entry

-- A file breaks a rule first with this fault, at this offset: in its opening, or in a record after others that passed.
pub data Fails (form : Form) (file : List ℕ) (b : Bases) : Fault → ℕ → Type 0 where
  in_opening : {fault : Fault} {at : ℕ} → opening form file ≡ failure fault at → Fails form file b fault at
  in_record : {fault : Fault} {at : ℕ} {s : Progress} {es : List Event} → opening form file ≡ Ok tt
      → Trace (NextRecord file b) (begun (opening_size form)) s es
      → (checked file b s (marks es blank)).answer ≡ failure fault at
      → Fails form file b fault at

-- ---- a load of it, with the right buffers

-- It is accepted: its settings are in range, it is not too long, and it follows the rules.
pub record Accepts (form : ℕ) (b : Bases) (file : List ℕ) (ps : List Piece) (entry : Entry) : Type 0 where
  pub settings : in_range form b ≡ true
  pub fits : length file ≤ file_limit
  pub follows : Follows (form_of form) file b ps entry

-- It is refused with a fault, at an offset: "1, 2, 3 come in that order, then the file from its front".
pub data Refuses (form : ℕ) (b : Bases) (file : List ℕ) : Fault → ℕ → Type 0 where
  out_of_range : in_range form b ≡ false → Refuses form b file SettingOutOfRange 0
  too_long : in_range form b ≡ true → file_limit < length file → Refuses form b file FileTooLong 0
  by_file : {fault : Fault} {at : ℕ} → in_range form b ≡ true → length file ≤ file_limit → Fails (form_of form) file b fault at
      → Refuses form b file fault at

-- ---- the claim

-- A verdict is what rules say: accepted and refused exactly so. (Of a load by pieces; crates/index says it of an index, by outlines.)
pub record ByRules {P : Type 0} (Accepts : List P → Entry → Type 0) (Refuses : Fault → ℕ → Type 0) (v : Verdict P) : Type 0 where
  pub accepts : (ps : List P) (entry : Entry) → Accepts ps entry → v ≡ accepted ps entry
  pub accepts_only : (ps : List P) (entry : Entry) → v ≡ accepted ps entry → Accepts ps entry
  pub refuses : (fault : Fault) (at : ℕ) → Refuses fault at → v ≡ refused fault at
  pub refuses_only : (fault : Fault) (at : ℕ) → v ≡ refused fault at → Refuses fault at

-- of every file, at all settings: the loader's definition
abbrev pub RulesClaim : Type 0
RulesClaim = (form : ℕ) (b : Bases) (file : List ℕ) → ByRules (Accepts form b file) (Refuses form b file) (load form b file).answer
