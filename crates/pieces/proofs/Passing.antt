-- What passes a record's checks: code where there is room and nothing placed, and fields that lie in the code, apart from each other and from all that
-- are marked (the other direction of `code_apart` and `fields_fresh`); and why code or an end record is refused.
-- Assumes nothing.
use mathlib.Core.Bool.{Bool, true, false}
use mathlib.Core.List.{List, [], ◌∷◌, map}
use mathlib.Core.Path.{◌≡◌, refl, sym, ap, ◌∙◌}
use Prim.Native.Nat.{ℕ, suc, ◌+◌, ◌≤◌, ◌<◌}
use native.Mathlib.Omega.{arith}
use borrow.Author.Tests.{le-leb, ne_eqb, leb-true, leb-false}
use lib.Dec.{leb}
use lib.ListN.{length, get_or, replicate}
use Rattle.std.proofs.Common.{Ok}
use Rattle.answer.specs.Checks.{need, failure}
use Rattle.answer.specs.Report.{address}
use Rattle.answer.specs.declared.Failure.{Failure}
use Rattle.answer.specs.declared.Fault.{Fault}
use Rattle.answer.specs.declared.Fault.TheVariants.{DoesNotFit, PiecesOverlap, StartTooHigh, BytesAfterEnd}
use Rattle.events.proofs.Checks.{failed_passed}
use Rattle.events.proofs.Events.{length_marks, length_blank, blank_at, fill_outside}
use Rattle.events.proofs.Lists.{each_map, each_zip}
use Rattle.events.specs.Events.{place, marks, blank, Check, failed, passed}
use Rattle.events.specs.Lists.{Each, Pairwise}
use Rattle.fields.specs.declared.Field.{Field}
use Rattle.words.proofs.Runs.{length_put, length_part, part_at, all_zero_lem}
use Rattle.words.specs.Runs.{part, put, all_zero, contains}
use Rattle.pieces.proofs.Marks.{marks_outside}
use Rattle.records.specs.declared.Entry.{Entry}
use Rattle.pieces.specs.AtBases.{placing, adjusting, start_of, ending}
use Rattle.pieces.specs.Places.{In, PiecesApart, FieldsApart, Inside}
use Rattle.pieces.specs.Pieces.{Piece, Outline, outline, place_of, width, events}
use Rattle.pieces.specs.declared.Bases.{Bases}

-- ---- code

-- why code was refused: it ends above its limit, or an address is placed already
pub data Unplaced (a n limit : ℕ) (p : List ℕ) : Fault → Type 0 where
  ends_above : limit < a + n → Unplaced a n limit p DoesNotFit
  taken : a + n ≤ limit → all_zero (part p a n) ≡ false → Unplaced a n limit p PiecesOverlap

pub placing_failed : (at a limit : ℕ) (code p : List ℕ) (fault : Fault) (offset : ℕ) → (placing at a limit code p).answer ≡ failure fault offset
    → Unplaced a (length code) limit p fault
unfolding placing need
placing_failed at a limit code p fault offset e = by (leb (a + length code) limit) (all_zero (part p a (length code))) refl refl e
  where
    same : {f : Fault} → Unplaced a (length code) limit p f → ◌≡◌ {A = Check} (failure f at) (failure fault offset) → Unplaced a (length code) limit p fault
    same {f} u e =
        let h : ◌≡◌ {A = Failure} (record { fault = f; offset = at }) (record { fault = fault; offset = offset }) = cc in
        rw (← ap (λ (x : Failure). x.fault) h) u

    by : (s t : Bool) → leb (a + length code) limit ≡ s → all_zero (part p a (length code)) ≡ t
        → (need failed s DoesNotFit at (need failed t PiecesOverlap at (passed (place a code ∷ [])))).answer ≡ failure fault offset
        → Unplaced a (length code) limit p fault
    by true true f g e = absurd (failed_passed (sym e))
    by true false f g e = same (taken (leb-true _ _ f) g) e
    by false t f g e = same (ends_above (leb-false _ _ f)) e

-- where a piece lies apart from all that were placed, the map is clear
pub apart_clear : (b : Bases) (o : Outline) (ps : List Piece) → Each (λ q. Each (Inside q.size) q.fields) (map outline ps)
    → place_of b o + o.size ≤ 65536
    → Each (PiecesApart b o) (map outline ps)
    → all_zero (part (marks (events b ps) blank) (place_of b o) o.size) ≡ true
apart_clear b o ps i l d =
    let q : List ℕ = marks (events b ps) blank in
    let room : place_of b o + o.size ≤ length q = omega (arith, l, length_marks (events b ps) blank, length_blank) in
    all_zero_lem (part q (place_of b o) o.size)
    (λ x lt.
    let lt' : x < o.size = omega (arith, lt, length_part q (place_of b o) o.size room) in
    part_at q (place_of b o) o.size x lt'
    ∙ marks_outside b ps blank i (place_of b o + x)
    (each_map (λ r k w. k (place_of b o + x) (omega arith, omega arith) w) (map outline ps) d)
    ∙ blank_at (place_of b o + x))

-- ---- the end

-- why an end record that ends its file was refused: its start is no address
pub ending_failed : (at : ℕ) (b : Bases) (entry : Entry) (len : ℕ) (fault : Fault) (offset : ℕ) → (ending at b entry len len).answer ≡ failure fault offset
    → (fault ≡ StartTooHigh) × (65535 < address (start_of b entry))
unfolding ending need
ending_failed at b entry len fault offset e = by (leb (address (start_of b entry)) 65535) refl (rw (le-leb len len (omega arith)) at e)
  where
    by : (s : Bool) → leb (address (start_of b entry)) 65535 ≡ s
        → (need failed s StartTooHigh at (need failed true BytesAfterEnd len (passed []))).answer ≡ failure fault offset
        → (fault ≡ StartTooHigh) × (65535 < address (start_of b entry))
    by true f e = absurd (failed_passed (sym e))
    by false f e =
        let h : ◌≡◌ {A = Failure} (record { fault = StartTooHigh; offset = at }) (record { fault = fault; offset = offset }) = cc in
        (ap (λ (x : Failure). x.fault) (sym h), leb-false _ _ f)

-- ---- fields

-- a run in which no byte is v
contains_none : (v : ℕ) (l : List ℕ) → ((x : ℕ) → x < length l → get_or l x 0 ≡ v → ⊥) → contains v l ≡ false
unfolding contains
contains_none v [] h = refl
contains_none v (b ∷ l) h = rw (ne_eqb b v (h 0 (omega arith)), contains_none v l (λ x lt. h (suc x) (omega arith))) refl

-- no byte of the field is marked 3
abbrev pub Unmarked : List ℕ → ℕ → Field → Type 0
Unmarked map a f = (j : ℕ) → In j f → get_or map (a + j) 0 ≡ 3 → ⊥

-- such fields pass
pub fresh_passes : (at step : ℕ) (b : Bases) (a n : ℕ) (fs : List Field) (map : List ℕ) → a + n ≤ length map → Each (Inside n) fs
    → Pairwise FieldsApart fs → Each (Unmarked map a) fs → (adjusting at step b a n fs map).answer ≡ Ok tt
unfolding adjusting need
fresh_passes at step b a n [] map l i d u = refl
fresh_passes at step b a n (f ∷ fs) map l i d u =
    let k = width f in
    let room : a + f.index + k ≤ length map = omega (arith, i.0, l) in
    let no_three : contains 3 (part map (a + f.index) k) ≡ false =
    contains_none 3 (part map (a + f.index) k)
    (λ x lt e.
    let lt' : x < k = omega (arith, lt, length_part map (a + f.index) k room) in
    let y : a + f.index + x ≡ a + (f.index + x) = omega arith in
    u.0 (f.index + x) (omega arith) (ap (λ (z : ℕ). get_or map z 0) (sym y) ∙ sym (part_at map (a + f.index) k x lt') ∙ e)) in
    let map' : List ℕ = put map (a + f.index) (replicate k 3) in
    let l' : length map' ≡ length map = length_put map (a + f.index) (replicate k 3) in
    rw (le-leb _ _ i.0, no_three)
    (fresh_passes (at + step) step b a n fs map' (rw l' l) i.1 d.1
    (each_zip
    (λ g w apart j h e. w j h (sym (fill_outside map (a + f.index) k 3 (a + j) (λ v. apart j (omega arith) h)) ∙ e))
    fs u.1 d.0))
