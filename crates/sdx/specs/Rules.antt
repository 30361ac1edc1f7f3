-- The rules for a file in plain steps: one block after another, each by what the document says of a single block (`block_at` and `stepped` of
-- `passes`, `applied` of `effects`), a body by its items (specs/Rules.antt of `updates`). No walk is in it; that the loader's walk comes to this,
-- both ways, is the claim at the end, proved in proofs/Rules.antt (`by_rules : RulesClaim`).
-- Assumes nothing.
use Rattle.std.specs.Prelude.{true, false, List, ◌≡◌, ℕ, ◌≤◌, ◌<◌, length, Result, Ok, Err}
use Rattle.answer.specs.Checks.{failure}
use Rattle.answer.specs.declared.Failure.{Failure}
use Rattle.answer.specs.declared.Fault.{Fault}
use Rattle.answer.specs.declared.Fault.TheVariants.{SettingOutOfRange, FileTooLong}
use Rattle.blocks.specs.Blocks.{amount_of}
use Rattle.blocks.specs.declared.Block.{Block}
use Rattle.blocks.specs.declared.Block.TheVariants.{Plain, Relocatable, Update, NewName}
use Rattle.effects.specs.Effects.{applied}
use Rattle.events.specs.Events.{Event, marks, blank}
use Rattle.events.specs.Sizes.{file_limit}
use Rattle.events.specs.Trace.{Trace}
use Rattle.passes.specs.Walk.{Inputs, Progress, finished, refused, stepped, block_at, begun}
use Rattle.updates.specs.Bodies.{done}
use Rattle.updates.specs.Rules.{FollowsBody, FailsBody}
use Rattle.sdx.specs.Call.{in_range, opening, load}

-- ---- one block

-- a block that is no body does this over the map, and ends there
abbrev pub AtOnce : List ℕ → Inputs → Progress → List ℕ → Block → ℕ → List Event → Type 0
AtOnce file g y map found end fs =
    applied file g.addresses y.addresses y.cursor (Ok found) map ≡ record { answer = done end; events = fs }

-- any block; a body does it item by item
abbrev pub Does : List ℕ → Inputs → Progress → List ℕ → Block → ℕ → List Event → Type 0
Does file g y map (Plain address from size) end fs = AtOnce file g y map (Plain address from size) end fs
Does file g y map (Relocatable reserves number offset from size) end fs = AtOnce file g y map (Relocatable reserves number offset from size) end fs
Does file g y map (Update source from) end fs =
    FollowsBody file y.cursor.table (amount_of y.cursor.table g.addresses y.addresses source) from map end fs
Does file g y map (NewName from address) end fs = AtOnce file g y map (NewName from address) end fs

-- a block breaks a rule first with this fault, at this offset: as it is read, or in its body
abbrev pub Breaks : List ℕ → Inputs → Progress → List ℕ → Result Block Failure → Fault → ℕ → Type 0
Breaks file g y map (Ok (Plain address from size)) fault at = ⊥
Breaks file g y map (Ok (Relocatable reserves number offset from size)) fault at = ⊥
Breaks file g y map (Ok (Update source from)) fault at =
    FailsBody file y.cursor.table (amount_of y.cursor.table g.addresses y.addresses source) from map fault at
Breaks file g y map (Ok (NewName from address)) fault at = ⊥
Breaks file g y map (Err e) fault at = (fault ≡ e.fault) × (at ≡ e.offset)

-- The block at which a load stands at y, over the map as the events es left it, leads on to z by the events fs.
pub record NextBlock (file : List ℕ) (g : Inputs) (y : Progress) (es : List Event) (z : Progress) (fs : List Event) : Type 0 where
  pub found : Block
  pub is : block_at file g y ≡ Ok found
  pub end : ℕ
  pub does : Does file g y (marks es blank) found end fs
  pub leads_to : z ≡ stepped file y found fs end

-- ---- the file

-- A file follows the rules with these inputs, to z by the events es.
pub record Follows (file : List ℕ) (g : Inputs) (z : Progress) (es : List Event) : Type 0 where
  -- "The first word must be FFFA to FFFF"
  pub opens : opening file ≡ Ok tt
  -- "A file is blocks until its end": each is read where the one before it ended, with the table and the names as those before it left them
  pub blocks : Trace (NextBlock file g) (begun g) z es
  pub ends : z.cursor.at ≡ length file

-- A file breaks a rule first with this fault, at this offset: in its opening, or before its end in the block at which a load stands at y, after
-- others that passed.
pub data Fails (file : List ℕ) (g : Inputs) : Fault → ℕ → Progress → Type 0 where
  in_opening : {fault : Fault} {at : ℕ} → opening file ≡ failure fault at → Fails file g fault at (begun g)
  in_block : {fault : Fault} {at : ℕ} {y : Progress} {es : List Event} → opening file ≡ Ok tt → Trace (NextBlock file g) (begun g) y es
      → ¬ (y.cursor.at ≡ length file)
      → Breaks file g y (marks es blank) (block_at file g y) fault at
      → Fails file g fault at y

-- ---- a load of it, with the right buffers

-- It is accepted: its settings are in range, it is not too long, and it follows the rules.
pub record Accepts (file : List ℕ) (g : Inputs) (z : Progress) (es : List Event) : Type 0 where
  pub settings : in_range g ≡ true
  pub fits : length file ≤ file_limit
  pub follows : Follows file g z es

-- It is refused with a fault, at an offset, where it stands at some progress: "1, 2, 3 come in that order, then the file from its front".
pub data Refuses (file : List ℕ) (g : Inputs) : Fault → ℕ → Progress → Type 0 where
  out_of_range : in_range g ≡ false → Refuses file g SettingOutOfRange 0 (begun g)
  too_long : in_range g ≡ true → file_limit < length file → Refuses file g FileTooLong 0 (begun g)
  by_file : {fault : Fault} {at : ℕ} {y : Progress} → in_range g ≡ true → length file ≤ file_limit → Fails file g fault at y
      → Refuses file g fault at y

-- ---- the claim

-- The loader's definition accepts and refuses exactly so.
pub record ByRules (file : List ℕ) (g : Inputs) : Type 0 where
  pub accepts : (z : Progress) (es : List Event) → Accepts file g z es → load file g ≡ record { answer = finished z; events = es }
  pub accepts_only : (z : Progress) → (load file g).answer ≡ finished z → Accepts file g z (load file g).events
  pub refuses : (fault : Fault) (at : ℕ) (y : Progress) → Refuses file g fault at y → (load file g).answer ≡ refused fault at y
  pub refuses_only : (fault : Fault) (at : ℕ) (y : Progress) → (load file g).answer ≡ refused fault at y → Refuses file g fault at y

-- of every file, whatever the inputs
abbrev pub RulesClaim : Type 0
RulesClaim = (file : List ℕ) (g : Inputs) → ByRules file g
