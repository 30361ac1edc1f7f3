-- The program's loop over a body: its cursor, memory and map at each turn are those of the definition's walk, which has come to the same place.
-- Assumes nothing.
use mathlib.Core.Bool.{Bool}
use mathlib.Core.List.{List, [], ◌++◌}
use mathlib.Core.Path.{◌≡◌, refl, sym, ap, ◌∙◌}
use Prim.Native.Nat.{ℕ, ◌+◌, ◌<◌, ◌≤◌}
use native.Mathlib.Omega.{arith}
use lib.ListN.{length}
use Rattle.std.proofs.Common.{Option, Result, Ok, Err}
use Rattle.answer.specs.declared.Failure.{Failure}
use Rattle.answer.specs.declared.Fault.TheVariants.{CutShort}
use Rattle.events.proofs.Events.{adjusted_append, did_none, reached_none, reached_more}
use Rattle.events.proofs.Walks.{walk_begins, walk_goes_on, walk_ends}
use Rattle.events.specs.Events.{Event, marks, adjusted_in, Ran, Reached, Did, Check}
use Rattle.events.specs.Walk.{Turn, ends, leads, after, bytes_left}
use Rattle.items.proofs.Reading.{lies_as}
use Rattle.items.specs.Items.{read}
use Rattle.items.specs.declared.Item.{Item}
use Rattle.items.specs.declared.Item.TheVariants.{End, Move, Adjust}
use Rattle.items.specs.declared.Slot.{Slot}
use Rattle.updates.proofs.Turning.{Onward, adjusts, carried_counts, turn_falls, turn_further}
use Rattle.updates.specs.Bodies.{applied, carried, BodyState, Stop, broken, done, judge, turn, items, body, Ended, ended_at, ended}
use Rattle.updates.specs.Cursor.{first_cursor, advanced}
use Rattle.updates.specs.declared.Cursor.{Cursor}

-- ---- the cursor

-- the definition's place at a cursor
abbrev pub state_of : Cursor → BodyState
state_of c = record { at = c.at; counter = c.counter }

-- an item that passed leads to the cursor after it, which counts the words that it adjusted
judge_on : (c : Cursor) (item : Item) → Onward item → judge (Ok tt) (Ok item) ≡ leads (state_of (advanced c item))
judge_on c (End next) o = absurd o
judge_on c (Move counter next) o = refl
judge_on c (Adjust counter next) o = refl

advanced_counts : (c : Cursor) (item : Item) → (advanced c item).adjusted ≡ c.adjusted + adjusts (Ok item)
advanced_counts c (End next) = omega arith
advanced_counts c (Move counter next) = omega arith
advanced_counts c (Adjust counter next) = refl

-- an item that is not the end leads on
pub onward_unless_end : (item : Item) → ((next : ℕ) → item ≡ End next → ⊥) → Onward item
onward_unless_end (End next) unlike = absurd (unlike next refl)
onward_unless_end (Move counter next) unlike = tt
onward_unless_end (Adjust counter next) unlike = tt

-- a word that an item adjusts lies in memory
pub item_fits : (file : List ℕ) (table : List (Option Slot)) (at : ℕ) (from : Option ℕ) (item : Item) → Ok item ≡ read file table at from
    → (counter next : ℕ) → item ≡ Adjust counter next → counter ≤ 65534
item_fits file table at from item is counter next e = (lies_as file table at from (Ok (Adjust counter next)) (sym is ∙ ap (λ (i : Item). Ok i) e)).2

-- ---- a turn of the loop

-- the body began at an offset with memory m₀ and the map p₀, and stands at the cursor c with m and p
pub record Going (file : List ℕ) (table : List (Option Slot)) (amount first : ℕ) (write : Bool) (m₀ p₀ : List ℕ) (c : Cursor) (m p : List ℕ) : Type 0 where
  pub events : List Event
  pub so_far : body file table amount first p₀ ≡ after events (items file table amount (state_of c) (marks events p₀))
  pub reached : Reached events write m₀ p₀ m p
  pub counted : c.adjusted ≡ adjusted_in events
  pub behind : first + c.adjusted ≤ c.at
  pub inside : c.at ≤ length file

module _ {file : List ℕ} {table : List (Option Slot)} {amount first : ℕ} {write : Bool} {m₀ p₀ : List ℕ} where
  -- before the first item
  pub going_first : first ≤ length file → Going file table amount first write m₀ p₀ (first_cursor first) m₀ p₀
  unfolding items adjusted_in
  going_first l =
      record {
        events = [];
        so_far = walk_begins (turn file table amount) (λ z. broken CutShort (length file)) (λ s. bytes_left file s.at) (turn_falls file table amount) _ p₀;
        reached = reached_none write m₀ p₀;
        counted = refl;
        behind = omega arith;
        inside = l;
      }

  module _ {c : Cursor} {m p : List ℕ} (x : Going file table amount first write m₀ p₀ c m p) where
    module _ {item : Result Item Failure} {r : Check} {m' p' : List ℕ} (is : item ≡ read file table c.at c.counter)
        (d : Did Check (carried c.at amount item p) write m p r m' p') where
      -- the definition's turn
      here : Ran (Turn BodyState Stop)
      here = turn file table amount (state_of c) (marks x.events p₀)

      here_is : here ≡ record { answer = judge r item; events = (carried c.at amount item p).events }
      unfolding here turn
      here_is = rw (← is, ← x.reached.map, d.answer) refl

      now : Reached (x.events ++ here.events) write m₀ p₀ m' p'
      now = rw here_is (reached_more x.events write m₀ p₀ m p m' p' _ r x.reached d)

      -- a turn that ends the body
      ended_is : (a : Stop) → judge r item ≡ ends a → body file table amount first p₀ ≡ record { answer = a; events = x.events ++ here.events }
      unfolding here items
      ended_is a e =
          walk_ends (turn file table amount) (λ z. broken CutShort (length file)) (λ s. bytes_left file s.at) (turn_falls file table amount) _ x.events (state_of c) p₀
          x.so_far
          a (ap (λ (o : Ran (Turn BodyState Stop)). o.answer) here_is ∙ e)

      -- a fault ends the body
      pub going_fails : {e : Failure} → r ≡ Err e → Did Ended (ended (body file table amount first p₀)) write m₀ p₀ (Err e) m' p'
      going_fails {e} f =
          let o = ended_is (broken e.fault e.offset) (ap (λ (k : Check). judge k item) f) in
          rw o (record { answer = refl; reached = now })

      -- what a passed item adjusts
      now_counts : r ≡ Ok tt → adjusted_in (x.events ++ here.events) ≡ c.adjusted + adjusts item
      now_counts e =
          let f : adjusted_in here.events ≡ adjusts item =
          ap (λ (o : Ran (Turn BodyState Stop)). adjusted_in o.events) here_is ∙ carried_counts c.at amount item p (sym d.answer ∙ e) in
          omega (arith, adjusted_append x.events here.events, x.counted, f)

    -- what is no item ends the body with its fault
    pub going_unread : {e : Failure} → Err e ≡ read file table c.at c.counter
        → Did Ended (ended (body file table amount first p₀)) write m₀ p₀ (Err e) m p
    going_unread {e} is = going_fails {item = Err e} is (did_none (Err e) write m p) refl

    module _ {item : Item} {m' p' : List ℕ} (is : Ok item ≡ read file table c.at c.counter)
        (d : Did Check (applied c.at amount item p) write m p (Ok tt) m' p') where
      -- after FC the body is done, with as many fields adjusted as the cursor counted
      pub going_ends : {next : ℕ} → item ≡ End next → Did Ended (ended (body file table amount first p₀)) write m₀ p₀ (ended_at next c.adjusted) m' p'
      going_ends {next} f =
          let o = ended_is is d (done next) (ap (λ (i : Item). judge (Ok tt) (Ok i)) f) in
          let n : adjusted_in (x.events ++ (here is d).events) ≡ c.adjusted = omega (arith, now_counts is d refl, ap (λ (i : Item). adjusts (Ok i)) f) in
          let g : Did Ended (ended (body file table amount first p₀)) write m₀ p₀ (ended_at next (adjusted_in (x.events ++ (here is d).events))) m' p' =
          rw o (record { answer = refl; reached = now is d }) in
          rw n at g

      here_leads : Onward item → (here is d).answer ≡ leads (state_of (advanced c item))
      here_leads o = ap (λ (t : Ran (Turn BodyState Stop)). t.answer) (here_is is d) ∙ judge_on c item o

      -- the cursor moves on
      pub going_further : Onward item → c.at < (advanced c item).at
      unfolding here
      going_further o = (turn_further file table amount (state_of c) (state_of (advanced c item)) (marks x.events p₀) (here_leads o)).0

      -- and the loop stands behind the item
      pub going_on : Onward item → Going file table amount first write m₀ p₀ (advanced c item) m' p'
      unfolding here items
      going_on o =
          let z = state_of (advanced c item) in
          let t = turn_further file table amount (state_of c) z (marks x.events p₀) (here_leads o) in
          let n = now_counts is d refl in
          let k = advanced_counts c item in
          record {
            events = x.events ++ (here is d).events;
            so_far = walk_goes_on (turn file table amount) (λ z. broken CutShort (length file)) (λ s. bytes_left file s.at) (turn_falls file table amount) _ x.events
                (state_of c) p₀
                x.so_far z (here_leads o);
            reached = now is d;
            counted = k ∙ sym n;
            behind = omega (arith, k, n, t.2, x.behind, adjusted_append x.events (here is d).events, x.counted);
            inside = t.1;
          }
