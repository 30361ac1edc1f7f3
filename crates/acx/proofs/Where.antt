-- A file whose records can be read, with sound fields, is accepted wherever its pieces and its start fit, and refused where they do not: specs/Where.antt.
-- Assumes nothing.
use mathlib.Core.Bool.{false≢true}
use mathlib.Core.List.{List, [], ◌∷◌, map}
use mathlib.Core.Path.{◌≡◌, refl, sym, ap, ◌∙◌, subst}
use Prim.Native.Nat.{ℕ, ◌+◌, ◌≤◌}
use native.Mathlib.Omega.{arith}
use lib.ListN.{length}
use Rattle.std.proofs.Common.{Ok, Err}
use Rattle.answer.specs.Checks.{failure}
use Rattle.records.specs.Records.{Read}
use Rattle.answer.specs.declared.Fault.{Fault}
use Rattle.events.proofs.Events.{length_marks}
use Rattle.events.proofs.Lists.{each_map, each_zip, each_split, pairwise_split}
use Rattle.events.specs.Events.{Event, marks, blank, Ran, Check}
use Rattle.events.specs.Trace.{Trace, at_start, after_step}
use Rattle.fields.specs.Fields.{item_size, fields_of}
use Rattle.fields.specs.declared.Field.{Field}
use Rattle.fields.specs.declared.Fixup.{Fixup}
use Rattle.records.proofs.Reading.{AfterCode, fixups_after}
use Rattle.records.specs.declared.Entry.{Entry}
use Rattle.records.specs.declared.Kind.{Kind}
use Rattle.records.specs.declared.Record.TheVariants.{Code, Fixups, End}
use Rattle.words.specs.Runs.{part}
use Rattle.pieces.proofs.Applying.{ending_passed}
use Rattle.pieces.proofs.Checks.{placing_passed, limit_le}
use Rattle.pieces.proofs.Marks.{marks_plain}
use Rattle.pieces.proofs.Passing.{Unplaced, ends_above, taken, placing_failed, apart_clear, ending_failed, fresh_passes}
use Rattle.pieces.specs.AtBases.{adjusting}
use Rattle.pieces.specs.Pieces.{Piece, size, outline, place_of, limit_of, events}
use Rattle.pieces.specs.Places.{FieldsApart, Inside, PiecesFit, FieldsSound}
use Rattle.pieces.specs.declared.Bases.{Bases}
use Rattle.acx.proofs.Cursors.{Tracks, tracks_first, tracks_ends, tracks_on}
use Rattle.acx.proofs.Demand2.{well_placed_of}
use Rattle.acx.proofs.Settling.{Settles, fits, unfit, settled_where}
use Rattle.acx.proofs.Unfit.{unfit_fields}
use Rattle.acx.proofs.Rules.{judged_records, load_judged, by_rules}
use Rattle.acx.proofs.Turning.{turn_is, checked_fixups, end_answers, code_answers}
use Rattle.acx.proofs.Walking.{opening_fits, Passes}
use Rattle.acx.proofs.WellPlaced.{fits_map, code_fits, fields_fit}
use Rattle.acx.specs.Call.{form_of, load}
use Rattle.acx.specs.Rules.{Onward, NextRecord, Follows}
use Rattle.acx.specs.Walk.{Verdict, refused, Progress, begun, last_of, last_place, last_size, record_at, checked, with_fields, stepped, records_of, opening, opening_size, judged}
use Rattle.acx.specs.Where.{PiecesUnfit, earlier, too_high, overlaps, HandlerUnfit, of_pieces, of_start, WhereClaim}
use Rattle.acx.specs.declared.Cursor.{Cursor}
use Rattle.acx.specs.declared.Form.{Form}

-- ---- a file as it is read, with no base in mind

-- the records of a file, one after another, lead from one progress to another
pub data Leads (file : List ℕ) (first : Progress) : Progress → Type 0 where
  at_first : Leads file first first
  and_then : {s : Progress} → Leads file first s → Onward (record_at file s) → Leads file first (stepped file s (record_at file s))

-- A file in its form holds these pieces and ends with this entry.
pub record Holds (form : Form) (file : List ℕ) (ps : List Piece) (entry : Entry) : Type 0 where
  pub opens : opening form file ≡ Ok tt
  pub last : Progress
  pub records : Leads file (begun (opening_size form)) last
  pub end : record_at file last ≡ Ok (End entry (length file))
  pub pieces : ps ≡ last.pieces

-- so does every file that follows the rules at some bases
trace_leads : (file : List ℕ) (b : Bases) (first s : Progress) (es : List Event) → Trace (NextRecord file b) first s es → Leads file first s
trace_leads file b first s es at_start = at_first
trace_leads file b first s es (after_step {y = y} {es = fs} t x) =
    subst (Leads file first) (sym x.leads_to) (and_then (trace_leads file b first y fs t) x.onward)

follows_holds : (form : Form) (file : List ℕ) (b : Bases) (ps : List Piece) (entry : Entry) → Follows form file b ps entry → Holds form file ps entry
follows_holds form file b ps entry h =
    record {
      opens = h.opens;
      last = h.last;
      records = trace_leads file b _ h.last h.events h.records;
      end = h.end.is;
      pieces = h.end.pieces;
    }

-- ---- sound fields

-- with fewer fields they are sound too
sound_fewer : (fs : List Field) (ps : List Piece) → FieldsSound (map outline (with_fields fs ps)) → FieldsSound (map outline ps)
sound_fewer fs [] h = h
sound_fewer fs (p ∷ ps) h =
    record {
      inside = ((each_split (Inside (size p)) p.fields fs h.inside.0).0, h.inside.1);
      distinct = ((pairwise_split FieldsApart p.fields fs h.distinct.0).0, h.distinct.1);
    }

-- so they were before a record
sound_before : (file : List ℕ) (s : Progress) (r : Read) → FieldsSound (map outline (stepped file s r).pieces) → FieldsSound (map outline s.pieces)
sound_before file s (Ok (Code kind address from n)) h = record { inside = h.inside.1; distinct = h.distinct.1 }
sound_before file s (Ok (Fixups fixup from n)) h = sound_fewer (fields_of fixup (part file from n)) s.pieces h
sound_before file s (Ok (End entry next)) h = h
sound_before file s (Err f) h = h

-- fields that are sound with those before them pass, wherever the pieces fit
fields_pass : (at step : ℕ) (b : Bases) (fs : List Field) (ps : List Piece) → FieldsSound (map outline (with_fields fs ps)) → AfterCode (last_of ps)
    → PiecesFit b (map outline ps)
    → (adjusting at step b (last_place b ps) (last_size ps) fs (marks (events b ps) blank)).answer ≡ Ok tt
fields_pass at step b fs [] h m f = absurd m
fields_pass at step b fs (p ∷ ps) h m f =
    let map' : List ℕ = marks (events b (p ∷ ps)) blank in
    let inside = (sound_fewer fs (p ∷ ps) h).inside in
    let fits = fits_map b (map outline (p ∷ ps)) f in
    let room : place_of b (outline p) + size p ≤ length map' = rw (length_marks (events b (p ∷ ps)) blank) fits.0 in
    let plain = (marks_plain b (p ∷ ps) blank inside fits f.apart).0 in
    let i = (each_split (Inside (size p)) p.fields fs h.inside.0).1 in
    let d = pairwise_split FieldsApart p.fields fs h.distinct.0 in
    fresh_passes at step b (place_of b (outline p)) (size p) fs map' room i d.1
    (each_zip (λ f k v j w e. let one = plain j (omega arith) (each_map (λ g a y. a j y w) p.fields v) in omega (arith, one, e)) fs i d.2)

-- ---- the walk at a pair of bases

module _ (file : List ℕ) (b : Bases) (first : ℕ) where
  -- it comes to where the records lead, where the pieces fit so far; else it has ended with their fault
  data Comes (s : Progress) : Type 0 where
    so_far : PiecesFit b (map outline s.pieces) → (c : Cursor) → Tracks file b first c s → Comes s
    ended : {fault : Fault} {offset : ℕ} → PiecesUnfit b (map outline s.pieces) fault → (records_of file b first).answer ≡ refused fault offset → Comes s

  -- a record that fails ends it
  stops : (s : Progress) (c : Cursor) (fault : Fault) (offset : ℕ) → Tracks file b first c s
      → (checked file b s (marks (events b s.pieces) blank)).answer ≡ failure fault offset
      → (records_of file b first).answer ≡ refused fault offset
  stops s c fault offset t e = ap (λ (o : Ran (Verdict Piece)). o.answer) (tracks_ends t _ (turn_is file b s _ (failure fault offset) _ e refl))

  -- code
  module _ (s : Progress) (c : Cursor) (kind : Kind) (address from n : ℕ) (is : record_at file s ≡ Ok (Code kind address from n))
      (h : FieldsSound (map outline s.pieces)) (f : PiecesFit b (map outline s.pieces)) (t : Tracks file b first c s) where
    abbrev left : List ℕ
    left = marks (events b s.pieces) blank

    abbrev p : Piece
    p = record { kind = kind; address = address; code = part file from n; fields = [] }

    -- refused code does not fit
    unplaced : (fault : Fault) → Unplaced (place_of b (outline p)) (size p) (limit_of kind) left fault → PiecesUnfit b (map outline (p ∷ s.pieces)) fault
    unplaced fault (ends_above l) = too_high f l
    unplaced fault (taken l z) =
        let low : place_of b (outline p) + size p ≤ 65536 = omega (arith, l, limit_le kind) in
        overlaps f l (λ d. false≢true (sym z ∙ apart_clear b (outline p) s.pieces h.inside low d))

    comes_code : (v : Check) → (checked file b s left).answer ≡ v → Comes (stepped file s (Ok (Code kind address from n)))
    comes_code (Ok done) e =
        let x = placing_passed _ _ _ _ _ (code_answers file b s left kind address from n is e) in
        so_far (code_fits b p s.pieces h.inside f x.0 x.1) _ (tracks_on t is tt e)
    comes_code (Err failed) e =
        let x = placing_failed _ _ _ _ _ failed.fault failed.offset (code_answers file b s left kind address from n is e) in
        ended (unplaced failed.fault x) (stops s c failed.fault failed.offset t e)

  -- fixups
  comes_fixups : (s : Progress) (c : Cursor) (fixup : Fixup) (from n : ℕ) → record_at file s ≡ Ok (Fixups fixup from n)
      → FieldsSound (map outline (stepped file s (Ok (Fixups fixup from n))).pieces) → PiecesFit b (map outline s.pieces) → Tracks file b first c s
      → Comes (stepped file s (Ok (Fixups fixup from n)))
  comes_fixups s c fixup from n is h f t =
      let fs = fields_of fixup (part file from n) in
      let passes : Passes file b s =
      ap (λ (o : Ran Check). o.answer) (checked_fixups file b s _ fixup from n is)
      ∙ fields_pass from (item_size fixup) b fs s.pieces h (fixups_after file s.at (last_of s.pieces) fixup from n is) f in
      so_far (fields_fit b fs s.pieces f) _ (tracks_on t is tt passes)

  -- every record that is read
  comes_on : (s : Progress) (r : Read) → record_at file s ≡ r → Onward r → FieldsSound (map outline (stepped file s r).pieces) → Comes s
      → Comes (stepped file s r)
  comes_on s (Ok (Code kind address from n)) is o h (so_far f c t) =
      comes_code s c kind address from n is (sound_before file s (Ok (Code kind address from n)) h) f t (checked file b s _).answer refl
  comes_on s (Ok (Code kind address from n)) is o h (ended m e) = ended (earlier m) e
  comes_on s (Ok (Fixups fixup from n)) is o h (so_far f c t) = comes_fixups s c fixup from n is h f t
  comes_on s (Ok (Fixups fixup from n)) is o h (ended m e) = ended (unfit_fields (fields_of fixup (part file from n)) s.pieces m) e
  comes_on s (Ok (End entry next)) is o h x = absurd o
  comes_on s (Err f) is o h x = absurd o

  -- all of them
  comes : (s : Progress) → first ≤ length file → Leads file (begun first) s → FieldsSound (map outline s.pieces) → Comes s
  comes s l at_first h = so_far (record { below = tt; apart = tt }) _ (tracks_first l)
  comes z l (and_then {s = s} x o) h = comes_on s (record_at file s) refl o h (comes s l x (sound_before file s (record_at file s) h))

-- ---- the whole file

module _ (form : Form) (file : List ℕ) (b : Bases) where
  -- at the end record the start decides
  ends_at : (s : Progress) (entry : Entry) → record_at file s ≡ Ok (End entry (length file)) → Comes file b (opening_size form) s
      → Settles b (map outline s.pieces) s.pieces entry (records_of file b (opening_size form)).answer
  ends_at s entry is (ended m e) = subst (Settles b (map outline s.pieces) s.pieces entry) (sym e) (unfit (of_pieces m))
  ends_at s entry is (so_far f c t) = by (checked file b s (marks (events b s.pieces) blank)).answer refl
    where
      by : (v : Check) → (checked file b s (marks (events b s.pieces) blank)).answer ≡ v
          → Settles b (map outline s.pieces) s.pieces entry (records_of file b (opening_size form)).answer
      by (Ok done) e =
          let x = ending_passed _ b entry (length file) (length file) (end_answers file b s _ entry (length file) is e) in
          let v = ap (λ (o : Ran (Verdict Piece)). o.answer) (tracks_ends t _ (turn_is file b s _ (Ok tt) _ e is)) in
          subst (Settles b (map outline s.pieces) s.pieces entry) (sym v) (fits (record { pieces = f; start = x.0 }))
      by (Err failed) e =
          let x = ending_failed _ b entry (length file) failed.fault failed.offset (end_answers file b s _ entry (length file) is e) in
          subst (Settles b (map outline s.pieces) s.pieces entry) (sym (stops file b (opening_size form) s c failed.fault failed.offset t e))
          (unfit (subst (HandlerUnfit b (map outline s.pieces) entry) (sym x.0) (of_start f x.1)))

  -- a file that holds sound pieces
  pub settles : (ps : List Piece) (entry : Entry) → Holds form file ps entry → FieldsSound (map outline ps) → Settles b (map outline ps) ps entry (judged form file b).answer
  settles ps entry h s =
      let e = ap (λ (o : Ran (Verdict Piece)). o.answer) (judged_records form file b h.opens) in
      let sound : FieldsSound (map outline h.last.pieces) = subst (λ (qs : List Piece). FieldsSound (map outline qs)) h.pieces s in
      let c = comes file b (opening_size form) h.last (opening_fits form file h.opens) h.records sound in
      subst (Settles b (map outline ps) ps entry) (sym e)
      (subst (λ (qs : List Piece). Settles b (map outline qs) qs entry (records_of file b (opening_size form)).answer) (sym h.pieces) (ends_at h.last entry h.end c))

-- of every file that is accepted at some bases
pub accepted_where_fits : WhereClaim
accepted_where_fits form file a ps entry h b r =
    let judged_here = ap (λ (o : Ran (Verdict Piece)). o.answer) (load_judged form b file r h.fits) in
    let at_a = ap (λ (o : Ran (Verdict Piece)). o.answer) (sym (load_judged form a file h.settings h.fits)) ∙ (by_rules form a file).accepts ps entry h in
    let sound = (well_placed_of (form_of form) file a ps entry at_a).0.sound in
    let s : Settles b (map outline ps) ps entry (load form b file).answer =
    subst (Settles b (map outline ps) ps entry) (sym judged_here)
    (settles (form_of form) file b ps entry (follows_holds (form_of form) file a ps entry h.follows) sound) in
    settled_where s (by_rules form b file)
