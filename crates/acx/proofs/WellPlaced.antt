-- The pieces of a file so far are well placed: every record that passes keeps it so.
-- Assumes nothing.
use mathlib.Core.Bool.{true}
use mathlib.Core.List.{List, [], ◌∷◌, map}
use mathlib.Core.Path.{◌≡◌, sym, ap, ◌∙◌}
use Prim.Native.Nat.{ℕ, ◌+◌, ◌≤◌}
use native.Mathlib.Omega.{arith}
use lib.ListN.{length}
use Rattle.std.proofs.Common.{Ok, Err}
use Rattle.records.specs.Records.{Read}
use Rattle.events.proofs.Events.{length_marks, length_blank, blank_at}
use Rattle.events.proofs.Lists.{each_map, each_append, pairwise_append}
use Rattle.events.specs.Events.{marks, blank}
use Rattle.events.specs.Lists.{Each}
use Rattle.records.proofs.Reading.{AfterCode, lies_as, fixups_after}
use Rattle.fields.specs.Fields.{item_size, fields_of}
use Rattle.fields.specs.declared.Field.{Field}
use Rattle.records.specs.declared.Entry.{Entry}
use Rattle.records.specs.declared.Kind.{Kind}
use Rattle.records.specs.declared.Record.TheVariants.{Code, Fixups, End}
use Rattle.words.proofs.Runs.{length_part}
use Rattle.words.specs.Runs.{part, all_zero}
use Rattle.pieces.proofs.Checks.{placing_passed, limit_le}
use Rattle.pieces.proofs.Loads.{Fits}
use Rattle.pieces.proofs.Marks.{marks_outside, marks_plain, marks_fields, marks_some, code_apart, fields_fresh}
use Rattle.acx.proofs.Standing.{Stands, stands_first, stands_on}
use Rattle.acx.proofs.Turning.{code_answers, fixups_passed}
use Rattle.acx.proofs.Walking.{Passes, EndedAt, accepted_keeps}
use Rattle.pieces.specs.AtBases.{adjusting}
use Rattle.pieces.specs.Places.{FieldsApart, Inside, PiecesFit, WellPlaced, Marked}
use Rattle.acx.specs.Rules.{Onward}
use Rattle.acx.specs.Demand2.{FromFile}
use Rattle.pieces.specs.Pieces.{Piece, size, Outline, outline, place_of, limit_of, events}
use Rattle.acx.specs.Walk.{accepted, Progress, last_of, last_place, last_size, record_at, with_fields, stepped, opening_size, judged}
use Rattle.pieces.specs.declared.Bases.{Bases}
use Rattle.acx.specs.declared.Form.{Form}

-- pieces below their limits lie in memory
pub fits_memory : (b : Bases) (n : ℕ) (os : List Outline) → n ≡ 65536 → PiecesFit b os → Each (Fits b n) os
fits_memory b n os e h = each_map (λ o i. omega (arith, i, e, limit_le o.kind)) os h.below

-- and in the map, which is as long
pub fits_map : (b : Bases) (os : List Outline) → PiecesFit b os → Each (Fits b (length blank)) os
fits_map b os h = fits_memory b (length blank) os length_blank h

-- and the map has their marks
pub marked_events : (b : Bases) (ps : List Piece) → WellPlaced b (map outline ps) → Marked b (map outline ps) (marks (events b ps) blank)
marked_events b ps h =
    let inside = h.sound.inside in
    let clear = fits_map b (map outline ps) h.fit in
    record {
      size = length_marks (events b ps) blank ∙ length_blank;
      untouched = λ x w. marks_outside b ps blank inside x w ∙ blank_at x;
      placed = marks_plain b ps blank inside clear h.fit.apart;
      adjusted = marks_fields b ps blank inside clear h.fit.apart;
    }

-- code that found room and nothing placed fits with the pieces before it
pub code_fits : (b : Bases) (p : Piece) (ps : List Piece) → Each (λ o. Each (Inside o.size) o.fields) (map outline ps) → PiecesFit b (map outline ps)
    → place_of b (outline p) + size p ≤ limit_of p.kind
    → all_zero (part (marks (events b ps) blank) (place_of b (outline p)) (size p)) ≡ true
    → PiecesFit b (map outline (p ∷ ps))
code_fits b p ps i h l z =
    let some = marks_some b ps blank i (fits_map b (map outline ps) h) h.apart in
    record { below = (l, h.below); apart = (code_apart b (outline p) (map outline ps) (marks (events b ps) blank) some z, h.apart) }

-- fields more change no place
pub fields_fit : (b : Bases) (fs : List Field) (ps : List Piece) → PiecesFit b (map outline ps) → PiecesFit b (map outline (with_fields fs ps))
fields_fit b fs [] h = h
fields_fit b fs (p ∷ ps) h = record { below = h.below; apart = h.apart }

module _ (file : List ℕ) (b : Bases) where
  -- the pieces so far are well placed, and from the file
  abbrev PlacedSoFar : List Piece → Type 0
  PlacedSoFar ps = WellPlaced b (map outline ps) × FromFile file ps

  -- before the first record
  placed_first : PlacedSoFar []
  placed_first = (record { fit = record { below = tt; apart = tt }; sound = record { inside = tt; distinct = tt } }, tt)

  -- a code record: its piece found room and nothing placed there
  placed_code : (s : Progress) (kind : Kind) (address from n : ℕ) → PlacedSoFar s.pieces → record_at file s ≡ Ok (Code kind address from n) → Passes file b s
      → PlacedSoFar (stepped file s (Ok (Code kind address from n))).pieces
  placed_code s kind address from n (h, k) e c =
      let ps = s.pieces in
      let p : Piece = record { kind = kind; address = address; code = part file from n; fields = [] } in
      let w = lies_as file s.at (last_of ps) _ e in
      let l : length (part file from n) ≡ n = length_part file from n w.1 in
      let x = placing_passed _ _ _ _ _ (code_answers file b s _ kind address from n e c) in (
        record {
          fit = code_fits b p ps h.sound.inside h.fit x.0 x.1;
          sound = record { inside = (tt, h.sound.inside); distinct = (tt, h.sound.distinct) };
        },
        ((from, omega (arith, l, w.1), ap (part file from) (sym l)), k),
      )

  -- fields more: each lay in the last code and met none before it
  placed_fields : (at step : ℕ) (fs : List Field) (ps : List Piece) → PlacedSoFar ps → AfterCode (last_of ps)
      → (adjusting at step b (last_place b ps) (last_size ps) fs (marks (events b ps) blank)).answer ≡ Ok tt → PlacedSoFar (with_fields fs ps)
  placed_fields at step fs [] h m c = absurd m
  placed_fields at step fs (p ∷ ps) (h, k) m c =
      let map' : List ℕ = marks (events b (p ∷ ps)) blank in
      let fits = fits_map b (map outline (p ∷ ps)) h.fit in
      let threes = marks_fields b (p ∷ ps) blank h.sound.inside fits h.fit.apart in
      let room : place_of b (outline p) + size p ≤ length map' = rw (length_marks (events b (p ∷ ps)) blank) fits.0 in
      let x = fields_fresh at step b (place_of b (outline p)) (size p) fs p.fields map' room threes.0 c in (
        record {
          fit = fields_fit b fs (p ∷ ps) h.fit;
          sound = record {
            inside = (each_append (Inside (size p)) p.fields fs h.sound.inside.0 x.inside, h.sound.inside.1);
            distinct = (pairwise_append FieldsApart p.fields fs h.sound.distinct.0 x.distinct x.cross, h.sound.distinct.1);
          };
        },
        k,
      )

  -- every record that passes
  placed_on : (s : Progress) (r : Read) → PlacedSoFar s.pieces → record_at file s ≡ r → Onward r → Passes file b s → PlacedSoFar (stepped file s r).pieces
  placed_on s (Ok (Code kind address from n)) h e o c = placed_code s kind address from n h e c
  placed_on s (Ok (Fixups fixup from n)) h e o c =
      placed_fields from (item_size fixup) (fields_of fixup (part file from n)) s.pieces h (fixups_after file s.at (last_of s.pieces) fixup from n e)
      (fixups_passed file b s _ fixup from n e c)
  placed_on s (Ok (End entry next)) h e o c = absurd o
  placed_on s (Err f) h e o c = absurd o

  -- an accepted file: its pieces are well placed, what was placed and adjusted is in its bytes, and its events are those of the pieces
  pub placed_well : (form : Form) (ps : List Piece) (entry : Entry) → (judged form file b).answer ≡ accepted ps entry
      → EndedAt (λ s. PlacedSoFar s.pieces × Stands b s) file b ps entry (judged form file b).events
  placed_well form ps entry e =
      accepted_keeps file b (λ s. PlacedSoFar s.pieces × Stands b s)
      (λ s r h q o c. (placed_on s r h.0 q o c, stands_on file b s _ r h.1 q o c))
      form ps entry (placed_first, stands_first b (opening_size form)) e
