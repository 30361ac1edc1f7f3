-- What an accepted index comes to: its outlines are well placed, the counts are bounded by its length, and with bytes its numbers are small.
-- Assumes nothing.
use mathlib.Core.Bool.{true}
use mathlib.Core.List.{List, [], ◌∷◌, map}
use mathlib.Core.Path.{◌≡◌, sym, ap, ◌∙◌, subst}
use Prim.Native.Nat.{ℕ, ◌+◌, ◌*◌, ◌≤◌, ◌<◌}
use native.Mathlib.Omega.{arith}
use lib.ListN.{length}
use Rattle.entries.specs.Entries.{Read}
use Rattle.std.proofs.Common.{Ok, Err}
use Rattle.acx.proofs.WellPlaced.{code_fits}
use Rattle.acx.specs.Call.{in_range}
use Rattle.acx.specs.Walk.{Verdict, accepted}
use Rattle.answer.specs.Report.{address as address_of}
use Rattle.entries.proofs.Reading.{FieldBytes, lies_as, addressed_as, fields_bytes}
use Rattle.records.specs.Types.{address_in}
use Rattle.entries.specs.declared.IndexEntry.TheVariants.{Code, End}
use Rattle.events.proofs.Events.{length_marks, length_blank, length_run}
use Rattle.events.specs.Events.{marks, blank, placed_in, adjusted_in, Ran, Check}
use Rattle.events.specs.Lists.{Each}
use Rattle.pieces.proofs.Applying.{ending_passed}
use Rattle.pieces.specs.AtBases.{start_of}
use Rattle.pieces.specs.Pieces.{Outline, outline, place_of, limit_of, events}
use Rattle.pieces.specs.Places.{Inside, PiecesFit, FieldsSound, WellPlaced}
use Rattle.pieces.specs.declared.Bases.{Bases}
use Rattle.records.specs.declared.Entry.{Entry}
use Rattle.records.specs.declared.Kind.{Kind}
use Rattle.words.proofs.Runs.{bytes_part}
use Rattle.words.specs.Runs.{Bytes, part, all_zero}
use Rattle.index.proofs.Coding.{code_sound}
use Rattle.index.proofs.Hollow.{hollow, hollow_outlines}
use Rattle.index.proofs.Standing.{Stands, stands_first, stands_on}
use Rattle.index.proofs.Turning.{end_answers, passed_code}
use Rattle.index.proofs.Walking.{index_admitted, Passes, accepted_keeps}
use Rattle.index.specs.Rules.{Onward}
use Rattle.index.specs.Walk.{Progress, entry_at, stepped, formless, indexed}

-- ---- its outlines

-- the fields lie inside, of outlines and of the pieces that stand for them
pub hollow_inside : (os : List Outline) → Each (λ o. Each (Inside o.size) o.fields) os
    → Each (λ o. Each (Inside o.size) o.fields) (map outline (map hollow os))
hollow_inside os h = subst (λ (qs : List Outline). Each (λ o. Each (Inside o.size) o.fields) qs) (sym (hollow_outlines os)) h

-- an outline that found room and nothing placed fits with those before it
pub outline_fits : (b : Bases) (o : Outline) (os : List Outline) → FieldsSound os → PiecesFit b os → place_of b o + o.size ≤ limit_of o.kind
    → all_zero (part (marks (events b (map hollow os)) blank) (place_of b o) o.size) ≡ true
    → PiecesFit b (o ∷ os)
outline_fits b o os h f l z =
    let n = length_run o.size 0 in
    subst (PiecesFit b) (hollow_outlines (o ∷ os))
    (code_fits b (hollow o) (map hollow os) (hollow_inside os h.inside) (subst (PiecesFit b) (sym (hollow_outlines os)) f) (rw n l) (rw n z))

module _ (index : List ℕ) (b : Bases) where
  -- a code entry that passes: its outline found room and nothing placed there, and its fields are sound
  placed_code : (s : Progress) (kind : Kind) (address n from count : ℕ) → WellPlaced b s.outlines → entry_at index s ≡ Ok (Code kind address n from count)
      → Passes index b s
      → WellPlaced b (stepped index s (Ok (Code kind address n from count))).outlines
  placed_code s kind address n from count h is c =
      let left : List ℕ = marks (events b (map hollow s.outlines)) blank in
      let x = passed_code index b s left kind address n from count is c in
      let y = code_sound s.at b kind address n (part index from count) left (length_marks (events b (map hollow s.outlines)) blank ∙ length_blank) x in
      record {
        fit = outline_fits b _ s.outlines h.sound h.fit x.below x.clear;
        sound = record { inside = (y.0, h.sound.inside); distinct = (y.1, h.sound.distinct) };
      }

  -- every entry that passes
  pub placed_on : (s : Progress) (e : Read) → WellPlaced b s.outlines → entry_at index s ≡ e → Onward e → Passes index b s
      → WellPlaced b (stepped index s e).outlines
  placed_on s (Ok (Code kind address n from count)) h is o c = placed_code s kind address n from count h is c
  placed_on s (Ok (End entry next)) h is o c = absurd o
  placed_on s (Err fault) h is o c = absurd o

-- before the first entry
pub placed_first : (b : Bases) → WellPlaced b []
placed_first b = record { fit = record { below = tt; apart = tt }; sound = record { inside = tt; distinct = tt } }

-- ---- the index

-- What an accepted index comes to.
pub record Indexed (b : Bases) (index : List ℕ) (os : List Outline) (entry : Entry) : Type 0 where
  pub settings : in_range formless b ≡ true
  pub fits : length index ≤ 65536
  pub well_placed : WellPlaced b os
  pub start : address_of (start_of b entry) ≤ 65535
  pub events : (indexed b index).events ≡ events b (map hollow os)
  -- at most 253 bytes are placed for six of the index, and a field is adjusted for three
  pub placed_fits : placed_in (indexed b index).events ≤ 43 * length index
  pub adjusted_fits : adjusted_in (indexed b index).events ≤ length index

pub index_accepted : (b : Bases) (index : List ℕ) (os : List Outline) (entry : Entry) → (indexed b index).answer ≡ accepted os entry
    → Indexed b index os entry
index_accepted b index os entry e =
    let w = index_admitted b index os entry e in
    let x = accepted_keeps index b (λ s. WellPlaced b s.outlines × Stands b s)
    (λ s r h is o c. (placed_on index b s r h.0 is o c, stands_on index b s _ r h.1 is o c))
    os entry (placed_first b, stands_first b) (ap (λ (q : Ran (Verdict Outline)). q.answer) (sym w.by_index) ∙ e) in
    let es = ap (λ (q : Ran (Verdict Outline)). q.events) w.by_index ∙ x.events in
    let os_are = x.end.outlines in
    let stands = x.held.1 in
    record {
      settings = w.range;
      fits = w.fits;
      well_placed = subst (WellPlaced b) (sym os_are) x.held.0;
      start =
          (ending_passed _ b entry (length index) (length index)
          (end_answers index b x.last _ entry (length index) x.end.is (ap (λ (o : Ran Check). o.answer) x.end.passes))
          ).0;
      events = es;
      placed_fits = rw (es, os_are) (omega (arith, stands.placed, x.inside));
      adjusted_fits = rw (es, os_are) (omega (arith, stands.adjusted, x.inside));
    }

-- ---- in an index of bytes

-- the numbers of an outline
abbrev pub OutlineBytes : Outline → Type 0
OutlineBytes o = (o.address < 65536) × (o.size ≤ 253) × Each FieldBytes o.fields

outlines_bytes : (index : List ℕ) (s : Progress) (e : Read) → Bytes index → Each OutlineBytes s.outlines → entry_at index s ≡ e → Onward e
    → Each OutlineBytes (stepped index s e).outlines
outlines_bytes index s (Ok (Code kind address n from count)) b h is o = (
  (addressed_as index s.at _ b is, (lies_as index s.at _ is).2, fields_bytes kind (part index from count) (bytes_part index from count b)),
  h,
)
outlines_bytes index s (Ok (End entry next)) b h is o = absurd o
outlines_bytes index s (Err fault) b h is o = absurd o

-- of an accepted index, and of its entry
pub accepted_bytes : (b : Bases) (index : List ℕ) (os : List Outline) (entry : Entry) → Bytes index → (indexed b index).answer ≡ accepted os entry
    → Each OutlineBytes os × (address_in entry < 65536)
accepted_bytes b index os entry bytes e =
    let w = index_admitted b index os entry e in
    let x = accepted_keeps index b (λ s. Each OutlineBytes s.outlines) (λ s r h is o c. outlines_bytes index s r bytes h is o)
    os entry tt (ap (λ (q : Ran (Verdict Outline)). q.answer) (sym w.by_index) ∙ e) in
    (subst (λ (qs : List Outline). Each OutlineBytes qs) (sym x.end.outlines) x.held, addressed_as index x.last.at _ bytes x.end.is)
