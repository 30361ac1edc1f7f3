-- One turn of a walk: what it comes to where it leads on or finishes, and that what every such turn keeps holds of every file that finishes.
-- Assumes nothing.
use mathlib.Core.Bool.{Bool, true, false}
use mathlib.Core.List.{List, [], ◌∷◌, ◌++◌, append-nil}
use mathlib.Core.Path.{◌≡◌, refl, sym, ap, ◌∙◌}
use Prim.Native.Nat.{ℕ, ◌/◌, ◌≤◌, ◌<◌}
use native.Mathlib.Omega.{arith}
use borrow.Author.Tests.{eqb-true, eqb-false, eq-eqb, ne_eqb}
use lib.Dec.{eqb}
use lib.ListN.{length}
use Rattle.std.proofs.Common.{Result, Ok, Err}
use Rattle.std.proofs.lemmas.Result.{IfOk-at_ok}
use Rattle.answer.specs.Checks.{pick}
use Rattle.answer.specs.declared.Failure.{Failure}
use Rattle.answer.specs.declared.Fault.{Fault}
use Rattle.answer.specs.declared.Fault.TheVariants.{CutShort}
use Rattle.blocks.proofs.Lying.{BlockFaults, read_lies, read_faults}
use Rattle.blocks.specs.Bounds.{Fits}
use Rattle.blocks.specs.declared.Block.{Block}
use Rattle.events.proofs.Walks.{ends_leads, leads_same, ends_same, walk_keeps}
use Rattle.events.specs.Events.{Event, marks, blank, Ran}
use Rattle.events.specs.Walk.{Turn, ends, leads, bytes_left}
use Rattle.updates.specs.Bodies.{Stop, broken, done}
use Rattle.updates.proofs.Faults.{Stops}
use Rattle.updates.proofs.Turning.{broken_done}
use Rattle.effects.proofs.Ending.{Ends, applied_ends, advanced_at}
use Rattle.effects.proofs.Faults.{applied_faults}
use Rattle.effects.specs.Effects.{advanced, name_in, address_in}
use Rattle.passes.specs.Parts.{progress_of}
use Rattle.passes.specs.Walk.{Inputs, Progress, Verdict, finished, refused, judge, block_at, applied_at, carried, turn, blocks_from, begun, blocks_of, stepped}

-- a refusal is no end of a file
pub refused_finished : {fault : Fault} {offset : ℕ} {y z : Progress} → refused fault offset y ≡ finished z → ⊥
refused_finished e = let n : ◌≡◌ {A = ℕ} 0 1 = cc in omega arith

-- ---- where a turn leads

-- a turn that leads on is a block that is carried out
pub record Led (file : List ℕ) (g : Inputs) (y z : Progress) (map : List ℕ) : Type 0 where
  pub found : Block
  pub read_as : block_at file g y ≡ Ok found
  pub next : ℕ
  pub more : y.cursor.at ≡ length file → ⊥
  pub done_at : (applied_at file g y (Ok found) map).answer ≡ done next
  pub leads_to : stepped file y found (applied_at file g y (Ok found) map).events next ≡ z
  pub events : (turn file g y map).events ≡ (applied_at file g y (Ok found) map).events

-- one that finishes a file is at its end
pub record Finishes (file : List ℕ) (g : Inputs) (y z : Progress) (map : List ℕ) : Type 0 where
  pub at_end : y.cursor.at ≡ length file
  pub state : y ≡ z
  pub events : (turn file g y map).events ≡ []

-- what was read breaks a rule with this fault: it is no block, or its body does
abbrev pub Broke : List ℕ → Inputs → Progress → List ℕ → Fault → ℕ → Result Block Failure → Type 0
Broke file g y map fault offset (Err e) = (e.fault ≡ fault) × (e.offset ≡ offset)
Broke file g y map fault offset (Ok found) = (applied_at file g y (Ok found) map).answer ≡ broken fault offset

-- and one that refuses it breaks a rule
pub record Refuses (file : List ℕ) (g : Inputs) (y z : Progress) (map : List ℕ) (fault : Fault) (offset : ℕ) : Type 0 where
  pub more : y.cursor.at ≡ length file → ⊥
  pub broke : Broke file g y map fault offset (block_at file g y)
  pub state : y ≡ z

module _ (file : List ℕ) (g : Inputs) (y : Progress) (map : List ℕ) where
  -- at the file's end a turn finishes the walk and does nothing
  pub turn_end : y.cursor.at ≡ length file → turn file g y map ≡ record { answer = ends (finished y); events = [] }
  unfolding turn pick
  turn_end e = rw (eq-eqb _ _ e) refl

  -- before the file's end what is read there decides
  pub turn_block : (y.cursor.at ≡ length file → ⊥) → turn file g y map ≡ carried file g y (block_at file g y) map
  unfolding turn pick
  turn_block h = rw (ne_eqb _ _ h) refl

  -- what was read ends a walk where it breaks a rule
  pub carried_broken : (found : Result Block Failure) (fault : Fault) (offset : ℕ) → (applied_at file g y found map).answer ≡ broken fault offset
      → carried file g y found map ≡ record { answer = ends (refused fault offset y); events = (applied_at file g y found map).events }
  unfolding applied_at
  carried_broken (Ok found) fault offset e =
      let o = applied_at file g y (Ok found) map in
      ap (λ (s : Stop). record { answer = judge file y found o.events s; events = o.events }) e
  carried_broken (Err f) fault offset e =
      let k : f.fault ≡ fault = cc in
      let i : f.offset ≡ offset = cc in
      rw (k, i) refl

  -- the progress behind what was read, where that is a block
  abbrev pub behind_read : Result Block Failure → Block → ℕ → Progress
  behind_read found block next =
      record {
        cursor = advanced y.cursor found next;
        names = y.names ++ name_in file found;
        addresses = y.addresses ++ address_in found;
        effects = record { at = y.cursor.at; block = block; events = (applied_at file g y found map).events } ∷ y.effects;
      }

  -- it is one, and leads a walk on, where it is done
  pub record LeadsOn (found : Result Block Failure) (next : ℕ) : Type 0 where
    pub block : Block
    pub on : carried file g y found map ≡ record { answer = leads (behind_read found block next); events = (applied_at file g y found map).events }

  pub carried_done : (found : Result Block Failure) (next : ℕ) → (applied_at file g y found map).answer ≡ done next → LeadsOn found next
  unfolding applied_at
  carried_done (Ok found) next e =
      let o = applied_at file g y (Ok found) map in
      record { block = found; on = ap (λ (s : Stop). record { answer = judge file y found o.events s; events = o.events }) e }
  carried_done (Err f) next e = absurd (broken_done e)

  -- every turn that leads on is such a block
  pub turn_led : (z : Progress) → (turn file g y map).answer ≡ leads z → Led file g y z map
  turn_led z e = by (eqb y.cursor.at (length file)) refl
    where
      stops : (found : Block) → block_at file g y ≡ Ok found → (s : Stop) → (applied_at file g y (Ok found) map).answer ≡ s
          → (y.cursor.at ≡ length file → ⊥)
          → judge file y found (applied_at file g y (Ok found) map).events s ≡ leads z
          → Led file g y z map
      stops found i (broken fault offset) o h f = absurd (ends_leads f)
      stops found i (done next) o h f =
          record {
            found = found;
            read_as = i;
            next = next;
            more = h;
            done_at = o;
            leads_to = leads_same f;
            events = ap (λ (r : Ran (Turn Progress Verdict)). r.events) (turn_block h)
                ∙ ap (λ (r : Result Block Failure). (carried file g y r map).events) i;
          }

      reads : (r : Result Block Failure) → block_at file g y ≡ r → (y.cursor.at ≡ length file → ⊥) → (carried file g y r map).answer ≡ leads z
          → Led file g y z map
      reads (Err f) i h k = absurd (ends_leads k)
      reads (Ok found) i h k = stops found i (applied_at file g y (Ok found) map).answer refl h k

      by : (b : Bool) → eqb y.cursor.at (length file) ≡ b → Led file g y z map
      by true h =
          absurd (ends_leads (sym (ap (λ (r : Ran (Turn Progress Verdict)). r.answer) (turn_end (eqb-true _ _ h))) ∙ e))
      by false h =
          let more = eqb-false _ _ h in
          reads (block_at file g y) refl more
          (sym (ap (λ (r : Ran (Turn Progress Verdict)). r.answer) (turn_block more)) ∙ e)

  -- a turn finishes a file at its end alone, and does nothing there
  pub turn_finished : (z : Progress) → (turn file g y map).answer ≡ ends (finished z) → Finishes file g y z map
  turn_finished z e = by (eqb y.cursor.at (length file)) refl
    where
      stops : (found : Block) (es : List Event) (s : Stop) → judge file y found es s ≡ ends (finished z) → ⊥
      stops found es (broken fault offset) f = refused_finished (ends_same f)
      stops found es (done next) f = ends_leads (sym f)

      reads : (r : Result Block Failure) → (carried file g y r map).answer ≡ ends (finished z) → ⊥
      reads (Err f) k = refused_finished (ends_same k)
      reads (Ok found) k = stops found _ (applied_at file g y (Ok found) map).answer k

      by : (t : Bool) → eqb y.cursor.at (length file) ≡ t → Finishes file g y z map
      by true h =
          let k = turn_end (eqb-true _ _ h) in
          record {
            at_end = eqb-true _ _ h;
            state = ap progress_of (ends_same (sym (ap (λ (r : Ran (Turn Progress Verdict)). r.answer) k) ∙ e));
            events = ap (λ (r : Ran (Turn Progress Verdict)). r.events) k;
          }
      by false h =
          absurd
          (reads (block_at file g y)
          (sym (ap (λ (r : Ran (Turn Progress Verdict)). r.answer) (turn_block (eqb-false _ _ h))) ∙ e))

  -- and refuses one where a rule is broken, before its end
  pub turn_refused : (fault : Fault) (offset : ℕ) (z : Progress) → (turn file g y map).answer ≡ ends (refused fault offset z)
      → Refuses file g y z map fault offset
  turn_refused fault offset z e = by (eqb y.cursor.at (length file)) refl
    where
      -- (what was read is this)
      refuses : (r : Result Block Failure) → block_at file g y ≡ r → (y.cursor.at ≡ length file → ⊥) → Broke file g y map fault offset r → y ≡ z
          → Refuses file g y z map fault offset
      refuses r i h b e = record { more = h; broke = rw i b; state = e }

      stops : (found : Block) → block_at file g y ≡ Ok found → (s : Stop) → (applied_at file g y (Ok found) map).answer ≡ s
          → (y.cursor.at ≡ length file → ⊥)
          → judge file y found (applied_at file g y (Ok found) map).events s ≡ ends (refused fault offset z)
          → Refuses file g y z map fault offset
      stops found j (broken f i) o h w =
          let v : refused f i y ≡ refused fault offset z = ends_same w in
          let k : broken f i ≡ broken fault offset = cc in
          refuses (Ok found) j h (o ∙ k) cc
      stops found j (done next) o h w = absurd (ends_leads (sym w))

      reads : (r : Result Block Failure) → block_at file g y ≡ r → (y.cursor.at ≡ length file → ⊥)
          → (carried file g y r map).answer ≡ ends (refused fault offset z)
          → Refuses file g y z map fault offset
      reads (Err f) j h w =
          let v : refused f.fault f.offset y ≡ refused fault offset z = ends_same w in
          let k : f.fault ≡ fault = cc in
          let i : f.offset ≡ offset = cc in
          refuses (Err f) j h (k, i) cc
      reads (Ok found) j h w = stops found j (applied_at file g y (Ok found) map).answer refl h w

      by : (t : Bool) → eqb y.cursor.at (length file) ≡ t → Refuses file g y z map fault offset
      by true h =
          absurd
          (refused_finished (sym (ends_same (sym (ap (λ (r : Ran (Turn Progress Verdict)). r.answer) (turn_end (eqb-true _ _ h))) ∙ e))))
      by false h =
          let more = eqb-false _ _ h in
          reads (block_at file g y) refl more
          (sym (ap (λ (r : Ran (Turn Progress Verdict)). r.answer) (turn_block more)) ∙ e)

-- where what was read breaks a rule, the fault is one of the file
pub block_faults : (file : List ℕ) (g : Inputs) (y : Progress) (found : Result Block Failure) (map : List ℕ) → BlockFaults (length file) found
    → Stops (length file) (applied_at file g y found map).answer
unfolding applied_at
block_faults file g y found map h = applied_faults file g.addresses y.addresses y.cursor found map h

-- where blocks lie and end, with high below 65,536
module _ (file : List ℕ) (g : Inputs) (top : g.high ≤ 65535) where
  -- what the next block says lies past its offset and in the file, in memory, in the table or in a list of names
  pub block_fits : (y : Progress) {found : Block} → block_at file g y ≡ Ok found
      → Fits (length file) y.cursor (length g.names / 8) (length y.names / 8) found
  block_fits y e = IfOk-at_ok (Fits (length file) y.cursor (length g.names / 8) (length y.names / 8)) e (read_lies file g.high g.names y.names y.cursor top)

  -- where there is none, the fault is one of the file
  pub read_faulty : (y : Progress) → BlockFaults (length file) (block_at file g y)
  read_faulty y = read_faults file g.high g.names y.names y.cursor top

  -- a turn that leads on ends further on, by as many bytes at least as it places and as it adjusts
  pub led_ends : (y z : Progress) (map : List ℕ) → (turn file g y map).answer ≡ leads z
      → Ends (length file) y.cursor.at z.cursor.at (turn file g y map).events
  unfolding applied_at
  led_ends y z map e =
      let l = turn_led file g y map z e in
      let f = applied_ends file g.addresses y.addresses y.cursor (Ok l.found) map _ _ (block_fits y l.read_as) l.next l.done_at in
      let a = ap (λ (p : Progress). p.cursor.at) (sym l.leads_to)
      ∙ advanced_at file g.addresses y.addresses y.cursor (Ok l.found) map l.next l.done_at in
      rw (a, l.events) f

  -- so fewer bytes are left after it
  pub turn_falls : (y z : Progress) (map : List ℕ) → (turn file g y map).answer ≡ leads z → bytes_left file z.cursor.at < bytes_left file y.cursor.at
  turn_falls y z map e = let l = led_ends y z map e in omega (arith, l.further, l.inside)

  -- ---- what every turn keeps

  -- it holds of every file that finishes
  module _ (P : Progress → List Event → Type 0) (first : P (begun g) [])
      (keeps : (y z : Progress) (es : List Event) → P y es → (turn file g y (marks es blank)).answer ≡ leads z
      → P z (es ++ (turn file g y (marks es blank)).events)) where
    pub blocks_hold : (z : Progress) → (blocks_of file g).answer ≡ finished z → P z (blocks_of file g).events
    unfolding blocks_from
    blocks_hold z e =
        let x = walk_keeps (turn file g) (λ y. refused CutShort (length file) y) (λ y. bytes_left file y.cursor.at) turn_falls P blank keeps (begun g) first in
        let t = turn_finished file g x.state (marks x.before blank) z (x.answer ∙ ap ends e) in
        let es : (blocks_of file g).events ≡ x.before = x.events ∙ ap (λ (fs : List Event). x.before ++ fs) t.events ∙ append-nil x.before in
        rw (es, ← t.state) x.held
