-- One entry at its bases, over plain values: its code is marked and then its fixups, and each kind of entry comes to what its part comes to.
-- Assumes nothing.
use mathlib.Core.List.{List}
use mathlib.Core.Path.{◌≡◌, refl, sym, ap, ◌∙◌}
use Prim.Native.Nat.{ℕ, ◌+◌, ◌≤◌}
use native.Mathlib.Omega.{arith}
use lib.ListN.{replicate}
use Rattle.answer.specs.Checks.{failure}
use Rattle.std.proofs.Common.{Ok}
use Rattle.answer.specs.declared.Fault.{Fault}
use Rattle.events.proofs.Events.{marks_append, length_run}
use Rattle.events.specs.Events.{marks, Ran, Noted, Check}
use Rattle.pieces.proofs.Applying.{ending_none}
use Rattle.pieces.proofs.Checks.{placing_passed}
use Rattle.pieces.specs.AtBases.{placing, ending}
use Rattle.pieces.specs.Pieces.{place_at, limit_of}
use Rattle.pieces.specs.declared.Bases.{Bases}
use Rattle.records.specs.declared.Entry.{Entry}
use Rattle.records.specs.declared.Kind.{Kind}
use Rattle.events.specs.Walk.{and_then}
use Rattle.index.specs.Walk.{fixing, coding}

-- ---- a part of the work, and another after it

module _ {o : Ran Check} (next : List ℕ → Ran Check) {p : List ℕ} {r : Check} {p' : List ℕ} (d : Noted Check o p r p') where
  -- one that failed is all that was done
  noted_stops : {fault : Fault} {offset : ℕ} → r ≡ failure fault offset → Noted Check (and_then p o.answer o.events next) p (failure fault offset) p'
  noted_stops e =
      let z : o.answer ≡ failure _ _ = sym d.answer ∙ e in
      rw z (record { answer = refl; map = d.map })

  -- after one that passed the other is done, over the map as it was left
  noted_then : {s : Check} {p'' : List ℕ} → r ≡ Ok tt → Noted Check (next p') p' s p'' → Noted Check (and_then p o.answer o.events next) p s p''
  noted_then {s} {p''} e n =
      let z : o.answer ≡ Ok tt = sym d.answer ∙ e in
      let q = d.map in
      rw z
      (record {
        answer = n.answer ∙ ap (λ (l : List ℕ). (next l).answer) q;
        map =
            n.map
            ∙ ap (λ (l : List ℕ). marks (next l).events l) q
            ∙ sym (marks_append o.events (next (marks o.events p)).events p);
      })

-- ---- a code entry

-- code that passes lies in memory
pub code_room : (at place limit n : ℕ) {p : List ℕ} {r : Check} {p' : List ℕ} → Noted Check (placing at place limit (replicate n 0) p) p r p'
    → limit ≤ 65536
    → r ≡ Ok tt
    → place + n ≤ 65536
code_room at place limit n {p} d l e = omega (arith, l, (placing_passed at place limit (replicate n 0) p (sym d.answer ∙ e)).0, length_run n 0)

module _ (at : ℕ) (b : Bases) (kind : Kind) (address n : ℕ) (items : List ℕ) {place limit : ℕ} (ep : place ≡ place_at b kind address)
    (el : limit ≡ limit_of kind) {p : List ℕ} {r : Check} {p' : List ℕ} (d : Noted Check (placing at place limit (replicate n 0) p) p r p') where
  -- code that fails is all that was marked
  pub coding_refused : {fault : Fault} {offset : ℕ} → r ≡ failure fault offset
      → Noted Check (coding at b kind address n items p) p (failure fault offset) p'
  unfolding coding
  coding_refused e = rw (← ep, ← el) (noted_stops (λ q. fixing at b kind place n items q) d e)

  -- where it passes its fixups decide
  pub coding_fixed : {s : Check} {p'' : List ℕ} → r ≡ Ok tt → Noted Check (fixing at b kind place n items p') p' s p''
      → Noted Check (coding at b kind address n items p) p s p''
  unfolding coding
  coding_fixed e f = rw (← ep, ← el) (noted_then (λ q. fixing at b kind place n items q) d e f)

-- ---- the end record

-- it marks nothing
pub ending_noted : (at : ℕ) (b : Bases) (entry : Entry) (next len : ℕ) {r : Check} (p : List ℕ) → r ≡ (ending at b entry next len).answer
    → Noted Check (ending at b entry next len) p r p
unfolding marks
ending_noted at b entry next len p e =
    let z = ending_none at b entry next len in
    record { answer = e; map = rw z refl }
