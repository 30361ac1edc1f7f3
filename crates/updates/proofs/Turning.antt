-- One turn of a body: where it leads, what it adjusts, and that it moves on.
-- Assumes nothing.
use mathlib.Core.List.{List}
use mathlib.Core.Path.{◌≡◌, refl, sym, ap, ◌∙◌}
use Prim.Native.Nat.{ℕ, suc, ◌+◌, ◌<◌, ◌≤◌}
use native.Mathlib.Omega.{arith}
use lib.ListN.{length}
use Rattle.std.proofs.Common.{Option, Result, Ok, Err}
use Rattle.answer.proofs.Checks.{on_need}
use Rattle.answer.specs.declared.Failure.{Failure}
use Rattle.answer.specs.declared.Fault.{Fault}
use Rattle.events.proofs.Walks.{ends_leads, leads_same, ends_same}
use Rattle.events.specs.Events.{Event, adjust, adjusted_in, Ran, Check, failed}
use Rattle.events.specs.Lists.{Each}
use Rattle.events.specs.Walk.{ends, leads, bytes_left}
use Rattle.items.proofs.Reading.{Where, lies_as}
use Rattle.items.specs.Items.{read}
use Rattle.items.specs.declared.Item.{Item}
use Rattle.items.specs.declared.Item.TheVariants.{End, Move, Adjust}
use Rattle.items.specs.declared.Slot.{Slot}
use Rattle.updates.specs.Bodies.{adjusting, carried, BodyState, Stop, broken, done, judge, turn}

-- ---- what is adjusted

-- an event that adjusts a word of memory by the amount
pub record Adjusts (amount : ℕ) (e : Event) : Type 0 where
  pub address : ℕ
  pub fits : address ≤ 65534
  pub same : e ≡ adjust 2 address amount

-- a word: at most one event, one where it passed, and each of the kind above
abbrev Counts : Check → ℕ → Type 0
Counts (Ok passed) n = n ≡ 1
Counts (Err e) n = n ≡ 0

record Word (amount a : ℕ) (o : Ran Check) : Type 0 where
  counts : Counts o.answer (adjusted_in o.events)
  each : a ≤ 65534 → Each (Adjusts amount) o.events

word_none : {amount a : ℕ} {fault : Fault} {offset : ℕ} → Word amount a (failed fault offset)
unfolding adjusted_in
word_none = record { counts = refl; each = λ _. tt }

adjusting_word_lem : (at amount a : ℕ) (map : List ℕ) → Word amount a (adjusting at amount a map)
unfolding adjusting adjusted_in
adjusting_word_lem at amount a map =
    let P = Word amount a in
    on_need failed P _ _ _ _ word_none
    (λ _. on_need failed P _ _ _ _ word_none
    (λ _. record { counts = refl; each = λ h. (record { address = a; fits = h; same = refl }, tt) }))

-- ---- an item that passed

-- it leads on
abbrev pub Onward : Item → Type 0
Onward (End next) = ⊥
Onward (Move counter next) = Unit {0}
Onward (Adjust counter next) = Unit {0}

-- the words that it adjusts
abbrev pub adjusts : Result Item Failure → ℕ
adjusts (Err e) = 0
adjusts (Ok (End next)) = 0
adjusts (Ok (Move counter next)) = 0
adjusts (Ok (Adjust counter next)) = 1

-- where it passed, its events adjust so many
pub carried_counts : (at amount : ℕ) (item : Result Item Failure) (map : List ℕ) → (carried at amount item map).answer ≡ Ok tt
    → adjusted_in (carried at amount item map).events ≡ adjusts item
unfolding adjusted_in
carried_counts at amount (Err f) map e = refl
carried_counts at amount (Ok (End next)) map e = refl
carried_counts at amount (Ok (Move counter next)) map e = refl
carried_counts at amount (Ok (Adjust counter next)) map e =
    let h : Counts (Ok tt) (adjusted_in (adjusting at amount counter map).events) = rw e at (adjusting_word_lem at amount counter map).counts in
    h

carried_each : (len at amount : ℕ) (item : Result Item Failure) (map : List ℕ) → Where len at item
    → Each (Adjusts amount) (carried at amount item map).events
carried_each len at amount (Err e) map w = tt
carried_each len at amount (Ok (End next)) map w = tt
carried_each len at amount (Ok (Move counter next)) map w = tt
carried_each len at amount (Ok (Adjust counter next)) map w = (adjusting_word_lem at amount counter map).each w.2

-- ---- where a turn leads

-- a turn that leads on passed, and moved on inside the file
pub record Leads (len : ℕ) (s z : BodyState) (check : Check) (item : Result Item Failure) : Type 0 where
  pub passed : check ≡ Ok tt
  pub further : s.at < z.at
  pub inside : z.at ≤ len
  pub counts : s.at + adjusts item ≤ z.at

judge_leads : (len : ℕ) (s z : BodyState) (check : Check) (item : Result Item Failure) → Where len s.at item → judge check item ≡ leads z
    → Leads len s z check item
judge_leads len s z (Err f) item w e = absurd (ends_leads e)
judge_leads len s z (Ok passed) (Err f) w e = absurd (ends_leads e)
judge_leads len s z (Ok passed) (Ok (End next)) w e = absurd (ends_leads e)
judge_leads len s z (Ok passed) (Ok (Move counter next)) w e =
    let f : next ≡ z.at = ap (λ (t : BodyState). t.at) (leads_same e) in
    record { passed = refl; further = omega arith; inside = omega arith; counts = omega arith }
judge_leads len s z (Ok passed) (Ok (Adjust counter next)) w e =
    let f : next ≡ z.at = ap (λ (t : BodyState). t.at) (leads_same e) in
    record { passed = refl; further = omega arith; inside = omega arith; counts = omega arith }

module _ (file : List ℕ) (table : List (Option Slot)) (amount : ℕ) where
  turn_leads : (s z : BodyState) (map : List ℕ) → (turn file table amount s map).answer ≡ leads z
      → Leads (length file) s z (carried s.at amount (read file table s.at s.counter) map).answer (read file table s.at s.counter)
  unfolding turn
  turn_leads s z map e =
      judge_leads (length file) s z _ (read file table s.at s.counter) (lies_as file table s.at s.counter _ refl) e

  -- each turn that leads on brings the bytes left down
  pub turn_falls : (s z : BodyState) (map : List ℕ) → (turn file table amount s map).answer ≡ leads z → bytes_left file z.at < bytes_left file s.at
  turn_falls s z map e =
      let h = turn_leads s z map e in
      let i : s.at < z.at = h.further in
      let j : z.at ≤ length file = h.inside in
      omega arith

  -- it stays in the file, and moves on by as many bytes at least as it adjusts words
  pub turn_further : (s z : BodyState) (map : List ℕ) → (turn file table amount s map).answer ≡ leads z
      → (s.at < z.at) × (z.at ≤ length file) × (s.at + adjusted_in (turn file table amount s map).events ≤ z.at)
  unfolding turn
  turn_further s z map e =
      let h = turn_leads s z map e in
      let k = carried_counts s.at amount (read file table s.at s.counter) map h.passed in
      (h.further, h.inside, rw k h.counts)

  -- every event of a turn adjusts a word by the amount
  pub turn_each : (s : BodyState) (map : List ℕ) → Each (Adjusts amount) (turn file table amount s map).events
  unfolding turn
  turn_each s map =
      carried_each (length file) s.at amount (read file table s.at s.counter) map
      (lies_as file table s.at s.counter _ refl)

-- ---- where a turn ends a body

abbrev next_of : Stop → ℕ
next_of (broken fault offset) = 0
next_of (done next) = suc next

-- a body that broke at a fault is not done, and one that is done ends at one offset
pub broken_done : {fault : Fault} {offset next : ℕ} → broken fault offset ≡ done next → ⊥
broken_done {fault} {offset} {next} e = let z : 0 ≡ suc next = ap next_of e in omega arith

pub done_same : {n k : ℕ} → done n ≡ done k → n ≡ k
done_same {n} {k} e = let z : suc n ≡ suc k = ap next_of e in omega arith

judge_done : (len at next : ℕ) (check : Check) (item : Result Item Failure) → Where len at item → judge check item ≡ ends (done next)
    → (at < next) × (next ≤ len) × (check ≡ Ok tt) × (adjusts item ≡ 0)
judge_done len at next (Err f) item w e = absurd (broken_done (ends_same e))
judge_done len at next (Ok passed) (Err f) w e = absurd (broken_done (ends_same e))
judge_done len at next (Ok passed) (Ok (End end)) w e =
    let f : end ≡ next = done_same (ends_same e) in
    (omega arith, omega arith, refl, refl)
judge_done len at next (Ok passed) (Ok (Move counter end)) w e = absurd (ends_leads (sym e))
judge_done len at next (Ok passed) (Ok (Adjust counter end)) w e = absurd (ends_leads (sym e))

-- a turn that ends a body moved on inside the file, and adjusted nothing
pub turn_done : (file : List ℕ) (table : List (Option Slot)) (amount : ℕ) (s : BodyState) (map : List ℕ) (next : ℕ)
    → (turn file table amount s map).answer ≡ ends (done next)
    → (s.at < next) × (next ≤ length file) × (adjusted_in (turn file table amount s map).events ≡ 0)
unfolding turn
turn_done file table amount s map next e =
    let h = judge_done (length file) s.at next _ (read file table s.at s.counter)
    (lies_as file table s.at s.counter _ refl) e in
    (h.0, h.1, carried_counts s.at amount (read file table s.at s.counter) map h.2 ∙ h.3)
