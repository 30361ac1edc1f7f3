-- A code entry, over plain values: what it comes to where its code and its fixups pass, and where its code fails.
-- Assumes nothing.
use mathlib.Core.Bool.{true}
use mathlib.Core.List.{List, [], ◌∷◌, ◌++◌, append-nil}
use mathlib.Core.Path.{◌≡◌, refl, sym, ap, ◌∙◌}
use Prim.Native.Nat.{ℕ, ◌+◌, ◌≤◌}
use native.Mathlib.Omega.{arith}
use lib.ListN.{length, get_or, replicate}
use Rattle.std.proofs.Common.{Ok, Err}
use Rattle.answer.specs.Checks.{need, failure}
use Rattle.answer.specs.declared.Fault.{Fault}
use Rattle.answer.specs.declared.Fault.TheVariants.{FixupUnsuited}
use Rattle.entries.specs.Entries.{fields_to, all_suit}
use Rattle.events.proofs.Checks.{failed_passed, need_passed}
use Rattle.events.proofs.Events.{length_run, length_marks, fill_inside}
use Rattle.events.proofs.Lists.{each_map}
use Rattle.events.specs.Events.{Event, place, marks, Ran, passed, Check}
use Rattle.events.specs.Lists.{Each, Pairwise}
use Rattle.fields.specs.declared.Field.{Field}
use Rattle.pieces.proofs.Checks.{placing_passed, adjusting_all, limit_le}
use Rattle.pieces.proofs.Marks.{fields_fresh}
use Rattle.pieces.proofs.Passing.{fresh_passes}
use Rattle.pieces.specs.AtBases.{placing, adjusting}
use Rattle.pieces.specs.Pieces.{place_at, limit_of, adjustments}
use Rattle.pieces.specs.Places.{Inside, FieldsApart}
use Rattle.pieces.specs.declared.Bases.{Bases}
use Rattle.records.specs.declared.Kind.{Kind}
use Rattle.words.specs.Runs.{Within, part, put, all_zero}
use Rattle.events.specs.Walk.{and_then}
use Rattle.index.specs.Walk.{fixing, coding}

-- two parts of the work that passed, one after the other
both_passed : (map : List ℕ) (c : Check) (es : List Event) (next : List ℕ → Ran Check) → (and_then map c es next).answer ≡ Ok tt
    → (c ≡ Ok tt) × ((next (marks es map)).answer ≡ Ok tt) × ((and_then map c es next).events ≡ es ++ (next (marks es map)).events)
both_passed map (Ok done) es next e = (refl, e, refl)
both_passed map (Err f) es next e = absurd (failed_passed e)

-- after a part that passed the other decides
second_answers : (map : List ℕ) (c : Check) (es : List Event) (next : List ℕ → Ran Check) → c ≡ Ok tt
    → (and_then map c es next).answer ≡ (next (marks es map)).answer
second_answers map c es next e = rw e refl

-- one that failed decides
first_fails : (map : List ℕ) (c : Check) (es : List Event) (next : List ℕ → Ran Check) (fault : Fault) (offset : ℕ) → c ≡ failure fault offset
    → (and_then map c es next).answer ≡ failure fault offset
first_fails map c es next fault offset e = rw e refl

module _ (at : ℕ) (b : Bases) (kind : Kind) (address n : ℕ) (items map : List ℕ) where
  -- where its code goes
  abbrev a : ℕ
  a = place_at b kind address

  -- zeros that stand for it, the map after it, and the fields
  abbrev zeros : List ℕ
  zeros = replicate n 0

  abbrev code : Ran Check
  code = placing at a (limit_of kind) zeros map

  abbrev left : List ℕ
  left = marks code.events map

  abbrev fields : Ran Check
  fields = adjusting at 0 b a n (fields_to kind items) left

  -- what passed: its code, and all its fixups
  pub record CodePassed : Type 0 where
    pub below : a + n ≤ limit_of kind
    pub clear : all_zero (part map a n) ≡ true
    pub adjusts : (adjusting at 0 b a n (fields_to kind items) (marks (place a zeros ∷ []) map)).answer ≡ Ok tt
    pub suited : all_suit kind items ≡ true
    pub events : (coding at b kind address n items map).events ≡ place a zeros ∷ adjustments b a (fields_to kind items)

  pub code_passed : (coding at b kind address n items map).answer ≡ Ok tt → CodePassed
  unfolding coding fixing
  code_passed e =
      let l : length zeros ≡ n = length_run n 0 in
      let x = both_passed map code.answer code.events _ e in
      let c = placing_passed at a (limit_of kind) zeros map x.0 in
      let y = both_passed left fields.answer fields.events _ x.1 in
      let z = need_passed (all_suit kind items) FixupUnsuited at (passed []) y.1 in
      record {
        below = rw l at c.0;
        clear = rw l at c.1;
        adjusts = ap (λ (es : List Event). (adjusting at 0 b a n (fields_to kind items) (marks es map)).answer) (sym c.2) ∙ y.0;
        suited = z.0;
        events =
            x.2
            ∙ ap (λ (es : List Event). code.events ++ es)
            (y.2
            ∙ ap (λ (o : Ran Check). fields.events ++ o.events) z.1
            ∙ append-nil fields.events
            ∙ adjusting_all at 0 b a n (fields_to kind items) left y.0)
            ∙ ap (λ (es : List Event). es ++ adjustments b a (fields_to kind items)) c.2;
      }

  -- so its fields lie in the code, and apart
  pub code_sound : length map ≡ 65536 → CodePassed → Each (Inside n) (fields_to kind items) × Pairwise FieldsApart (fields_to kind items)
  code_sound h c =
      let q : List ℕ = marks (place a zeros ∷ []) map in
      let room : a + n ≤ length q = omega (arith, c.below, limit_le kind, length_marks (place a zeros ∷ []) map, h) in
      let f = fields_fresh at 0 b a n (fields_to kind items) [] q room tt c.adjusts in
      (f.inside, f.distinct)

  -- where the code fails, the entry does
  pub code_fails : (fault : Fault) (offset : ℕ) → (placing at a (limit_of kind) zeros map).answer ≡ failure fault offset
      → (coding at b kind address n items map).answer ≡ failure fault offset
  unfolding coding
  code_fails fault offset e = first_fails map code.answer code.events _ fault offset e

  -- where code and fixups pass, it does
  pub code_passes : (placing at a (limit_of kind) zeros map).answer ≡ Ok tt
      → (adjusting at 0 b a n (fields_to kind items) (marks (place a zeros ∷ []) map)).answer ≡ Ok tt
      → all_suit kind items ≡ true
      → (coding at b kind address n items map).answer ≡ Ok tt
  unfolding coding fixing need
  code_passes e f g =
      let c = placing_passed at a (limit_of kind) zeros map e in
      let h : fields.answer ≡ Ok tt = ap (λ (es : List Event). (adjusting at 0 b a n (fields_to kind items) (marks es map)).answer) c.2 ∙ f in
      second_answers map code.answer code.events _ e
      ∙ second_answers left fields.answer fields.events _ h
      ∙ rw g refl

-- code that was placed just now is marked 1
placed_ones : (a n : ℕ) (map : List ℕ) → a + n ≤ length map → (x : ℕ) → Within a n x
    → get_or (marks (place a (replicate n 0) ∷ []) map) x 0 ≡ 1
unfolding marks
placed_ones a n map h x w = ap (λ (k : ℕ). get_or (put map a (replicate k 1)) x 0) (length_run n 0) ∙ fill_inside map a n 1 x h w

-- so fields that lie in it and apart pass
pub placed_adjusts : (at : ℕ) (b : Bases) (a n : ℕ) (fs : List Field) (map : List ℕ) → a + n ≤ length map → Each (Inside n) fs → Pairwise FieldsApart fs
    → (adjusting at 0 b a n fs (marks (place a (replicate n 0) ∷ []) map)).answer ≡ Ok tt
placed_adjusts at b a n fs map h i d =
    let q : List ℕ = marks (place a (replicate n 0) ∷ []) map in
    let room : a + n ≤ length q = omega (arith, h, length_marks (place a (replicate n 0) ∷ []) map) in
    fresh_passes at 0 b a n fs q room i d
    (each_map (λ f k j w e. let one = placed_ones a n map h (a + j) (omega arith, omega arith) in omega (arith, one, e)) fs i)
