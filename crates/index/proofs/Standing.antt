-- Where a walk over an index can stand: what was placed and adjusted is at most so much for the bytes behind it.
-- Assumes nothing.
use mathlib.Core.List.{List, ◌∷◌, map}
use mathlib.Core.Path.{◌≡◌, ap, ◌∙◌}
use Prim.Native.Nat.{ℕ, ◌+◌, ◌*◌, ◌/◌, ◌≤◌}
use native.Mathlib.Omega.{arith}
use lib.ListN.{length, replicate}
use Rattle.std.proofs.Common.{Ok, Err}
use Rattle.entries.proofs.Reading.{lies_as, fixups_all}
use Rattle.entries.specs.Entries.{fields_to, Read}
use Rattle.entries.specs.declared.IndexEntry.TheVariants.{Code, End}
use Rattle.events.proofs.Events.{placed_append, adjusted_append, length_run}
use Rattle.events.specs.Events.{place, placed_in, adjusted_in}
use Rattle.pieces.proofs.PieceEvents.{placed_adjustments, adjusted_adjustments}
use Rattle.pieces.specs.Pieces.{Outline, place_of, adjustments, events}
use Rattle.pieces.specs.declared.Bases.{Bases}
use Rattle.records.specs.declared.Kind.{Kind}
use Rattle.words.proofs.Runs.{length_part}
use Rattle.words.specs.Runs.{part}
use Rattle.index.proofs.Hollow.{hollow}
use Rattle.index.proofs.Turning.{passed_code}
use Rattle.index.specs.Rules.{Onward}
use Rattle.index.specs.Walk.{Progress, begun, entry_at, checked, stepped}

-- what the outlines so far place and adjust
abbrev pub placed_by : Bases → List Outline → ℕ
placed_by b os = placed_in (events b (map hollow os))

abbrev pub adjusted_by : Bases → List Outline → ℕ
adjusted_by b os = adjusted_in (events b (map hollow os))

-- an outline more
outline_more : (b : Bases) (o : Outline) (os : List Outline)
    → (placed_by b (o ∷ os) ≡ placed_by b os + o.size) × (adjusted_by b (o ∷ os) ≡ adjusted_by b os + length o.fields)
unfolding events placed_in adjusted_in
outline_more b o os =
    let es = events b (map hollow os) in
    let a = place_of b o in (
      placed_append es (place a (replicate o.size 0) ∷ adjustments b a o.fields)
          ∙ omega (arith, length_run o.size 0, placed_adjustments b a o.fields),
      adjusted_append es (place a (replicate o.size 0) ∷ adjustments b a o.fields) ∙ omega (arith, adjusted_adjustments b a o.fields),
    )

-- three bytes of an entry are a field
thirds : (n k : ℕ) → 3 * n ≡ k → n ≡ k / 3
thirds n k e = omega arith

module _ (index : List ℕ) (b : Bases) (s : Progress) (map : List ℕ) (kind : Kind) (address n from count : ℕ)
    (is : entry_at index s ≡ Ok (Code kind address n from count)) (ok : (checked index b s map).answer ≡ Ok tt) where
  -- the fields of a code entry that passed are a third of its fixups' bytes
  pub fields_counted : 3 * length (fields_to kind (part index from count)) ≡ count
  fields_counted =
      fixups_all kind (part index from count) (passed_code index b s map kind address n from count is ok).suited
      ∙ length_part index from count (lies_as index s.at _ is).1

  -- so the counts after it
  pub counts_after : (placed_by b (stepped index s (Ok (Code kind address n from count))).outlines ≡ placed_by b s.outlines + n)
      × (adjusted_by b (stepped index s (Ok (Code kind address n from count))).outlines ≡ adjusted_by b s.outlines + count / 3)
  counts_after =
      let fs = fields_to kind (part index from count) in
      let x = outline_more b (record { kind = kind; address = address; size = n; fields = fs }) s.outlines in
      (x.0, x.1 ∙ ap (λ (k : ℕ). adjusted_by b s.outlines + k) (thirds (length fs) count fields_counted))

-- a walk stands so: an entry has six bytes and its fixups, and at most 253 bytes of code
pub record Stands (b : Bases) (s : Progress) : Type 0 where
  pub placed : placed_by b s.outlines ≤ 43 * s.at
  pub adjusted : adjusted_by b s.outlines ≤ s.at

-- before the first entry
pub stands_first : (b : Bases) → Stands b begun
unfolding events placed_in adjusted_in
stands_first b = record { placed = omega arith; adjusted = omega arith }

-- every entry that passes leads to where a walk can stand
pub stands_on : (index : List ℕ) (b : Bases) (s : Progress) (map : List ℕ) (e : Read) → Stands b s → entry_at index s ≡ e → Onward e
    → (checked index b s map).answer ≡ Ok tt
    → Stands b (stepped index s e)
stands_on index b s map (Ok (Code kind address n from count)) h is o c =
    let w = lies_as index s.at _ is in
    let k = counts_after index b s map kind address n from count is c in
    record { placed = omega (arith, k.0, h.placed, w.0, w.2); adjusted = omega (arith, k.1, h.adjusted, w.0) }
stands_on index b s map (Ok (End entry next)) h is o c = absurd o
stands_on index b s map (Err fault) h is o c = absurd o
