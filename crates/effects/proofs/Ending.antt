-- Where a block that is carried out ends, what it places, and what it comes to in the program's terms.
-- Assumes nothing.
use mathlib.Core.Bool.{true, false}
use mathlib.Core.List.{List, [], ◌++◌}
use mathlib.Core.Path.{◌≡◌, refl, ap}
use Prim.Native.Nat.{ℕ, ◌+◌, ◌≤◌, ◌<◌}
use native.Mathlib.Omega.{arith}
use lib.ListN.{length}
use Rattle.std.proofs.Common.{Result, Ok, Err}
use Rattle.std.specs.Prelude.{IfOk}
use Rattle.answer.specs.Checks.{failure}
use Rattle.answer.specs.declared.Failure.{Failure}
use Rattle.answer.specs.declared.Fault.{Fault}
use Rattle.blocks.specs.Blocks.{amount_of}
use Rattle.blocks.specs.Bounds.{Fits}
use Rattle.blocks.specs.declared.Block.{Block}
use Rattle.blocks.specs.declared.Block.TheVariants.{Plain, Relocatable, Update, NewName}
use Rattle.blocks.specs.declared.Cursor.{Cursor}
use Rattle.events.proofs.Events.{placed_append, adjusted_append}
use Rattle.events.specs.Events.{Event, placed_in, adjusted_in}
use Rattle.updates.proofs.Bounds.{body_bounds, body_places_none}
use Rattle.updates.proofs.Turning.{broken_done, done_same}
use Rattle.updates.specs.Bodies.{Stop, broken, done, Ended, ended_at, counted}
use Rattle.words.proofs.Runs.{length_part}
use Rattle.effects.specs.Effects.{placed_by, applied, advanced, first_cursor}

-- a block that is carried out ends further on, in the file, and as many bytes further on at least as it places and as it adjusts
pub record Ends (len at next : ℕ) (es : List Event) : Type 0 where
  pub further : at < next
  pub inside : next ≤ len
  pub behind : at + placed_in es + adjusted_in es ≤ next

-- it does so whatever its kind
pub applied_ends : (file lent own : List ℕ) (c : Cursor) (found : Result Block Failure) (map : List ℕ) (n k : ℕ) → IfOk found (Fits (length file) c n k)
    → (next : ℕ) → (applied file lent own c found map).answer ≡ done next → Ends (length file) c.at next (applied file lent own c found map).events
unfolding placed_in adjusted_in
applied_ends file lent own c (Ok (Plain address from size)) map n k f next e =
    let l = f.lies in
    let t : from + size ≡ next = done_same e in
    let s = length_part file from size l.1 in
    record { further = omega (arith, l.0); inside = omega (arith, l.1); behind = omega (arith, l.0) }
applied_ends file lent own c (Ok (Relocatable true number offset from size)) map n k f next e =
    let l = f.lies in
    let t : from ≡ next = done_same e in
    record { further = omega (arith, l.0); inside = omega (arith, l.1); behind = omega (arith, l.0) }
applied_ends file lent own c (Ok (Relocatable false number offset from size)) map n k f next e =
    let l = f.lies in
    let t : from + size ≡ next = done_same e in
    let s = length_part file from size l.1 in
    record { further = omega (arith, l.0); inside = omega (arith, l.1); behind = omega (arith, l.0) }
applied_ends file lent own c (Ok (Update source from)) map n k f next e =
    let l = f.lies in
    let amount = amount_of c.table lent own source in
    let b = body_bounds file c.table amount from map l.1 next e in
    let p = body_places_none file c.table amount from map in
    record { further = omega (arith, b.0, l.0); inside = b.1; behind = omega (arith, b.2, p, l.0) }
applied_ends file lent own c (Ok (NewName from address)) map n k f next e =
    let l = f.lies in
    let t : from + 8 ≡ next = done_same e in
    record { further = omega (arith, l.0); inside = omega (arith, l.1); behind = omega (arith, l.0) }
applied_ends file lent own c (Err fault) map n k f next e = absurd (broken_done e)

-- and there the cursor stands
pub advanced_at : (file lent own : List ℕ) (c : Cursor) (found : Result Block Failure) (map : List ℕ) (next : ℕ)
    → (applied file lent own c found map).answer ≡ done next → (advanced c found next).at ≡ next
advanced_at file lent own c (Ok (Plain address from size)) map next e = refl
advanced_at file lent own c (Ok (Relocatable reserves number offset from size)) map next e = refl
advanced_at file lent own c (Ok (Update source from)) map next e = refl
advanced_at file lent own c (Ok (NewName from address)) map next e = refl
advanced_at file lent own c (Err fault) map next e = absurd (broken_done e)

-- the events so far are no more than the bytes behind the cursor
pub record Behind (len : ℕ) (c : Cursor) (es : List Event) : Type 0 where
  pub inside : c.at ≤ len
  pub counts : placed_in es + adjusted_in es ≤ c.at

-- before the first block
pub behind_first : (len low : ℕ) → Behind len (first_cursor low) []
unfolding placed_in adjusted_in
behind_first len low = record { inside = omega arith; counts = omega arith }

-- a block more keeps that
pub behind_on : (len : ℕ) (c d : Cursor) (es fs : List Event) → Ends len c.at d.at fs → Behind len c es → Behind len d (es ++ fs)
behind_on len c d es fs x h =
    record { inside = x.inside; counts = omega (arith, h.counts, x.behind, placed_append es fs, adjusted_append es fs) }

-- what a block carried out places is what its kind says
pub placed_by_lem : (file lent own : List ℕ) (c : Cursor) (found : Result Block Failure) (map : List ℕ) (n k : ℕ) → IfOk found (Fits (length file) c n k)
    → (next : ℕ) → (applied file lent own c found map).answer ≡ done next → placed_in (applied file lent own c found map).events ≡ placed_by found
unfolding placed_in
placed_by_lem file lent own c (Ok (Plain address from size)) map n k f next e = let l = length_part file from size f.lies.1 in omega (arith, l)
placed_by_lem file lent own c (Ok (Relocatable true number offset from size)) map n k f next e = refl
placed_by_lem file lent own c (Ok (Relocatable false number offset from size)) map n k f next e =
    let l = length_part file from size f.lies.1 in omega (arith, l)
placed_by_lem file lent own c (Ok (Update source from)) map n k f next e = body_places_none file c.table _ from map
placed_by_lem file lent own c (Ok (NewName from address)) map n k f next e = refl
placed_by_lem file lent own c (Err fault) map n k f next e = refl

-- what an end in the program's terms says
abbrev next_in : Ended → ℕ
next_in (Ok d) = d.next
next_in (Err e) = 0

abbrev adjusted_by : Ended → ℕ
adjusted_by (Ok d) = d.adjusted
adjusted_by (Err e) = 0

-- an end in the program's terms is the same end in the definition's
pub stop_broken : (s : Stop) (es : List Event) (fault : Fault) (offset : ℕ) → counted s es ≡ failure fault offset → s ≡ broken fault offset
stop_broken (broken f i) es fault offset e =
    let same : ◌≡◌ {A = Failure} (record { fault = f; offset = i }) (record { fault = fault; offset = offset }) = cc in
    ap (λ (x : Failure). broken x.fault x.offset) same
stop_broken (done next) es fault offset e = let z : ◌≡◌ {A = ℕ} 0 1 = cc in absurd (omega arith)

pub stop_done : (s : Stop) (es : List Event) (next adjusted : ℕ) → counted s es ≡ ended_at next adjusted → (s ≡ done next) × (adjusted_in es ≡ adjusted)
stop_done (broken f i) es next adjusted e = let z : ◌≡◌ {A = ℕ} 0 1 = cc in absurd (omega arith)
stop_done (done k) es next adjusted e = (ap done (ap next_in e), ap adjusted_by e)
