-- The rules for a body in plain steps: one item after another, each by what the document says of a single item (`read` of `items`, `carried` in
-- Bodies.antt). That the walk over items comes to this, both ways, is the claim at the end, proved in proofs/Rules.antt (`by_rules : RulesClaim`).
-- Assumes nothing.
use Rattle.std.specs.Prelude.{List, ◌≡◌, ℕ, Option, Some, Result, Ok, Err}
use Rattle.answer.specs.Checks.{failure}
use Rattle.answer.specs.declared.Failure.{Failure}
use Rattle.answer.specs.declared.Fault.{Fault}
use Rattle.events.specs.Events.{Event, marks, passed}
use Rattle.events.specs.Trace.{Trace}
use Rattle.items.specs.Items.{read}
use Rattle.items.specs.declared.Item.{Item}
use Rattle.items.specs.declared.Item.TheVariants.{End, Move, Adjust}
use Rattle.items.specs.declared.Slot.{Slot}
use Rattle.updates.specs.Bodies.{carried, BodyState, broken, done, begun, body}

-- the next item
abbrev pub item_at : List ℕ → List (Option Slot) → BodyState → Result Item Failure
item_at file table s = read file table s.at s.counter

-- where an item leads that is not the last, and no fault: behind it, with the counter as it sets it
abbrev pub LeadsTo : Result Item Failure → BodyState → Type 0
LeadsTo (Err e) z = ⊥
LeadsTo (Ok (End next)) z = ⊥
LeadsTo (Ok (Move counter next)) z = z ≡ record { at = next; counter = Some counter }
LeadsTo (Ok (Adjust counter next)) z = z ≡ record { at = next; counter = Some counter }

-- The item at which a body stands at s passes, over the map p as the events es left it, and leads on to z by the events fs.
pub record NextItem (file : List ℕ) (table : List (Option Slot)) (amount : ℕ) (p : List ℕ) (s : BodyState) (es : List Event) (z : BodyState) (fs : List Event) : Type 0 where
  pub passes : carried s.at amount (item_at file table s) (marks es p) ≡ passed fs
  pub leads_to : LeadsTo (item_at file table s) z

-- A body whose words grow by the amount, from an offset on over the map p, follows the rules: item after item to its FC, behind which it ends, by
-- the events es.
pub record FollowsBody (file : List ℕ) (table : List (Option Slot)) (amount at : ℕ) (p : List ℕ) (end : ℕ) (es : List Event) : Type 0 where
  pub last : BodyState
  pub items : Trace (NextItem file table amount p) (begun at) last es
  pub is : item_at file table last ≡ Ok (End end)

-- It breaks a rule first with this fault, at this offset, in an item after others that passed.
pub record FailsBody (file : List ℕ) (table : List (Option Slot)) (amount at : ℕ) (p : List ℕ) (fault : Fault) (offset : ℕ) : Type 0 where
  pub last : BodyState
  pub events : List Event
  pub items : Trace (NextItem file table amount p) (begun at) last events
  pub fails : (carried last.at amount (item_at file table last) (marks events p)).answer ≡ failure fault offset

-- The definition of a body comes to exactly this.
pub record ByRules (file : List ℕ) (table : List (Option Slot)) (amount at : ℕ) (p : List ℕ) : Type 0 where
  pub follows : (end : ℕ) (es : List Event) → FollowsBody file table amount at p end es
      → body file table amount at p ≡ record { answer = done end; events = es }
  pub follows_only : (end : ℕ) → (body file table amount at p).answer ≡ done end
      → FollowsBody file table amount at p end (body file table amount at p).events
  pub fails : (fault : Fault) (offset : ℕ) → FailsBody file table amount at p fault offset
      → (body file table amount at p).answer ≡ broken fault offset
  pub fails_only : (fault : Fault) (offset : ℕ) → (body file table amount at p).answer ≡ broken fault offset
      → FailsBody file table amount at p fault offset

-- of every body
abbrev pub RulesClaim : Type 0
RulesClaim = (file : List ℕ) (table : List (Option Slot)) (amount at : ℕ) (p : List ℕ) → ByRules file table amount at p
