-- What a file or an index comes to, where it is accepted and where it is refused: laws of every source, by its format.
-- Assumes nothing.
use mathlib.Core.Bool.{true, false}
use mathlib.Core.List.{List, [], ◌∷◌, map}
use mathlib.Core.Path.{◌≡◌, refl, sym, ap, ◌∙◌, subst}
use Prim.Native.Nat.{ℕ, ◌+◌, ◌≤◌, ◌<◌}
use native.Mathlib.Omega.{arith}
use lib.Dec.{leb}
use lib.ListN.{length}
use Rattle.acx.proofs.Calling.{range_bounds, load_few}
use Rattle.acx.proofs.Demand2.{placed_total, adjusted_total}
use Rattle.acx.proofs.Refusals.{refuses_located, refuses_sized, refuses_range, refuses_long}
use Rattle.acx.proofs.Rules.{by_rules}
use Rattle.acx.specs.Call.{load, map_after as loaded_map}
use Rattle.acx.specs.Demand2.{total}
use Rattle.acx.specs.Rules.{out_of_range, too_long}
use Rattle.acx.specs.Walk.{Verdict, accepted, refused, report, reported}
use Rattle.answer.proofs.Faults.{early_located}
use Rattle.answer.proofs.Outcomes.{is_refused}
use Rattle.answer.specs.Report.{acceptance, refusal, adjusted_of}
use Rattle.answer.specs.declared.Fault.{Fault}
use Rattle.answer.specs.declared.Fault.TheVariants.{WrongBuffer, SettingOutOfRange, FileTooLong}
use Rattle.events.specs.Events.{Event, marks, blank, placed_in, adjusted_in, Ran}
use Rattle.events.specs.Sizes.{file_limit}
use Rattle.index.proofs.Hollow.{hollow, hollow_outlines, same_marks}
use Rattle.index.proofs.Indexed.{index_accepted}
use Rattle.index.proofs.Rules.{by_rules as index_rules}
use Rattle.index.proofs.Faults.{refusals_located}
use Rattle.index.proofs.Refusals.{refuses_sized as index_sized, refuses_range as index_range, refuses_long as index_long}
use Rattle.index.proofs.Where.{accepted_where_fits}
use Rattle.index.specs.Rules.{out_of_range as index_out_of_range, too_long as index_too_long}
use Rattle.index.specs.Walk.{indexed}
use Rattle.pieces.specs.AtBases.{start_of}
use Rattle.pieces.specs.Pieces.{Piece, Outline, outline, events}
use Rattle.pieces.specs.Places.{WellPlaced}
use Rattle.pieces.specs.declared.Bases.{Bases}
use Rattle.records.specs.declared.Entry.{Entry}
use Rattle.moves.proofs.Files.{file_judged, file_placed, file_events, file_accepted, same_pieces}
use Rattle.moves.specs.Demand3.{Report}
use Rattle.moves.specs.Sources.{Source, source_of, without_code, judged_at, AcceptedBy, RefusedBy, AcceptedAt, RefusedAt, form_of, ranged, Counted, LocatedIn}
use Rattle.moves.specs.declared.Format.{Format}
use Rattle.moves.specs.declared.Format.TheVariants.{File, Index}

-- ---- what outlines and an entry report at a pair of bases

-- the map of a load of pieces with these outlines: of their code only the length is looked at
unfoldable pub marks_for : Bases → List Outline → List ℕ
marks_for b os = marks (events b (map hollow os)) blank

-- the answer and the map
abbrev pub report_for : Bases → List Outline → Entry → Report
report_for b os entry =
    record { outcome = acceptance (start_of b entry) (total (λ o. o.size) os) (total (λ o. length o.fields) os) 0 0; map = marks_for b os }

-- a sum over outlines is one over their pieces
total_outlines : (n : Outline → ℕ) (ps : List Piece) → total n (map outline ps) ≡ total (λ p. n (outline p)) ps
total_outlines n [] = refl
total_outlines n (p ∷ ps) = ap (λ (k : ℕ). n (outline p) + k) (total_outlines n ps)

-- what is accepted with the events of pieces reports what their outlines do
reports_by : (b : Bases) (o : Ran (Verdict Outline)) (os : List Outline) (entry : Entry) (ps : List Piece) → o.answer ≡ accepted os entry → os ≡ map outline ps
    → o.events ≡ events b ps
    → ◌≡◌ {A = Report} (record { outcome = (reported b o).answer; map = loaded_map o.answer o.events }) (report_for b os entry)
unfolding marks_for
reports_by b o os entry ps e i es =
    let n : placed_in (events b ps) ≡ total (λ q. q.size) os =
    placed_total b ps ∙ sym (total_outlines (λ q. q.size) ps) ∙ ap (total (λ q. q.size)) (sym i) in
    let k : adjusted_in (events b ps) ≡ total (λ q. length q.fields) os =
    adjusted_total b ps ∙ sym (total_outlines (λ q. length q.fields) ps) ∙ ap (total (λ q. length q.fields)) (sym i) in
    let l : marks (events b ps) blank ≡ marks (events b (map hollow os)) blank =
    sym (same_marks b ps blank) ∙ ap (λ (qs : List Outline). marks (events b (map hollow qs)) blank) (sym i) in
    ap (λ (v : Verdict Outline). record { outcome = report b v o.events; map = loaded_map v o.events }) e
    ∙ ap (λ (gs : List Event). record { outcome = report b (accepted os entry) gs; map = marks gs blank }) es
    ∙ ap (λ (t : ℕ). record { outcome = acceptance (start_of b entry) t (adjusted_in (events b ps)) 0 0; map = marks (events b ps) blank }) n
    ∙ ap (λ (t : ℕ). record { outcome = acceptance (start_of b entry) (total (λ q. q.size) os) t 0 0; map = marks (events b ps) blank }) k
    ∙ ap (λ (t : List ℕ). record { outcome = (report_for b os entry).outcome; map = t }) l

-- ---- accepted

-- without its code a verdict reports the same, and leaves the same map
pub report_same : (b : Bases) (v : Verdict Piece) (es : List Event) → report b (without_code v) es ≡ report b v es
report_same b (accepted ps entry) es = refl
report_same b (refused fault at) es = refl

pub map_same : (v : Verdict Piece) (es : List Event) → loaded_map (without_code v) es ≡ loaded_map v es
map_same (accepted ps entry) es = refl
map_same (refused fault at) es = refl

-- what a source reports at a pair of bases
abbrev pub report_at : Source → Bases → Report
report_at h b = record { outcome = (reported b (judged_at h b)).answer; map = loaded_map (judged_at h b).answer (judged_at h b).events }

-- What is found of a source that is accepted.
pub record Found (h : Source) (b : Bases) (os : List Outline) (entry : Entry) : Type 0 where
  pub judged : (judged_at h b).answer ≡ accepted os entry
  pub settings : ranged h b ≡ true
  pub fits : length h.bytes ≤ 65536
  pub placed : WellPlaced b os
  pub reports : report_at h b ≡ report_for b os entry

found_by : (f : Format) (bytes : List ℕ) (b : Bases) (os : List Outline) (entry : Entry) → AcceptedBy f bytes b os entry → Found (source_of f bytes) b os entry
found_by (File form) file b os entry h =
    let e = file_judged form file os b h in
    record {
      judged = e;
      settings = h.accepts.settings;
      fits = h.accepts.fits;
      placed = file_placed form file os b h;
      reports = reports_by b (judged_at (source_of (File form) file) b) os entry h.pieces e h.outlines (file_events form file os b h);
    }
found_by Index index b os entry h =
    let e = (index_rules b index).accepts os entry h in
    let x = index_accepted b index os entry e in
    record {
      judged = e;
      settings = x.settings;
      fits = x.fits;
      placed = x.well_placed;
      reports = reports_by b (indexed b index) os entry (map hollow os) e (sym (hollow_outlines os)) x.events;
    }

module _ (h : Source) (os : List Outline) (b : Bases) (x : AcceptedAt h os b) where
  pub found : Found h b os x.entry
  found = found_by h.format h.bytes b os x.entry x.accepts

  -- its pieces are well placed
  pub well_placed_at : WellPlaced b os
  well_placed_at = found.placed

  -- it reports what they do
  pub report_at_lem : report_at h b ≡ report_for b os x.entry
  report_at_lem = found.reports

  -- which is no refusal
  pub reports_accepted : is_refused (reported b (judged_at h b)).answer ≡ false
  reports_accepted = ap (λ (r : Report). is_refused r.outcome) report_at_lem

  -- both bases are addresses
  pub range_at : (b.main ≤ 65535) × (b.zero ≤ 65535)
  range_at =
      let k = range_bounds (form_of h.format) b found.settings in
      (k.0, omega (arith, k.1))

-- and where it is judged so it is accepted
pub accepted_by_format : (f : Format) (bytes : List ℕ) (os : List Outline) (b : Bases) (entry : Entry) → (judged_at (source_of f bytes) b).answer ≡ accepted os entry
    → AcceptedBy f bytes b os entry
accepted_by_format (File form) file os b entry e = file_accepted form file os b entry e
accepted_by_format Index index os b entry e = (index_rules b index).accepts_only os entry e

abbrev pub accepted_as : (h : Source) (os : List Outline) (b : Bases) (entry : Entry) → (judged_at h b).answer ≡ accepted os entry → AcceptedAt h os b
accepted_as h os b entry e = record { entry = entry; accepts = accepted_by_format h.format h.bytes os b entry e }

-- accepted at two pairs of bases it has the same pieces and entry at both
same_by : (f : Format) (bytes : List ℕ) (ps qs : List Outline) (b c : Bases) (first last : Entry) → AcceptedBy f bytes b ps first → AcceptedBy f bytes c qs last
    → (ps ≡ qs) × (first ≡ last)
same_by (File form) file ps qs b c first last h k =
    let x = same_pieces form file ps qs b c h k in
    (h.outlines ∙ ap (map outline) (sym x.0) ∙ sym k.outlines, sym x.1)
same_by Index index ps qs b c first last h k =
    let x = (accepted_where_fits index b ps first h c k.settings).accepts_only qs last k in
    (sym x.1, sym x.2)

pub same_at : (h : Source) (ps qs : List Outline) (b c : Bases) (x : AcceptedAt h ps b) (y : AcceptedAt h qs c) → (ps ≡ qs) × (x.entry ≡ y.entry)
same_at h ps qs b c x y = same_by h.format h.bytes ps qs b c x.entry y.entry x.accepts y.accepts

-- ---- refused

refused_by_format : (f : Format) (bytes : List ℕ) (b : Bases) (fault : Fault) (at : ℕ) → (judged_at (source_of f bytes) b).answer ≡ refused fault at
    → RefusedBy f bytes b fault at
refused_by_format (File form) file b fault at e = (by_rules form b file).refuses_only fault at (by (load form b file).answer e)
  where
    by : (v : Verdict Piece) → without_code v ≡ refused fault at → v ≡ refused fault at
    by (accepted ps entry) e = let n : ◌≡◌ {A = ℕ} 0 1 = cc in absurd (omega arith)
    by (refused f i) e =
        let k : f ≡ fault = cc in
        let l : i ≡ at = cc in
        ap (λ (g : Fault). refused g i) k ∙ ap (refused fault) l
refused_by_format Index index b fault at e = (index_rules b index).refuses_only fault at e

format_refused : (f : Format) (bytes : List ℕ) (b : Bases) (fault : Fault) (at : ℕ) → RefusedBy f bytes b fault at
    → (judged_at (source_of f bytes) b).answer ≡ refused fault at
format_refused (File form) file b fault at h = ap without_code ((by_rules form b file).refuses fault at h)
format_refused Index index b fault at h = (index_rules b index).refuses fault at h

module _ (h : Source) (b : Bases) (fault : Fault) (at : ℕ) where
  -- it is refused exactly where it is judged so
  pub refused_as : (judged_at h b).answer ≡ refused fault at → RefusedAt h b fault at
  refused_as e = record { refuses = refused_by_format h.format h.bytes b fault at e }

  pub judged_refused : RefusedAt h b fault at → (judged_at h b).answer ≡ refused fault at
  judged_refused x = format_refused h.format h.bytes b fault at x.refuses

-- ---- with which fault

sized_by : (f : Format) (bytes : List ℕ) (b : Bases) (fault : Fault) (at : ℕ) → RefusedBy f bytes b fault at → ¬ (fault ≡ WrongBuffer)
sized_by (File form) file b fault at h e = refuses_sized form b file at (subst (λ (f : Fault). RefusedBy (File form) file b f at) e h)
sized_by Index index b fault at h e = index_sized b index fault at h e

range_by : (f : Format) (bytes : List ℕ) (b : Bases) (fault : Fault) (at : ℕ) → RefusedBy f bytes b fault at → fault ≡ SettingOutOfRange
    → ranged (source_of f bytes) b ≡ false
range_by (File form) file b fault at h e = refuses_range form b file at (subst (λ (f : Fault). RefusedBy (File form) file b f at) e h)
range_by Index index b fault at h e = index_range b index fault at h e

by_range : (f : Format) (bytes : List ℕ) (b : Bases) → ranged (source_of f bytes) b ≡ false → RefusedBy f bytes b SettingOutOfRange 0
by_range (File form) file b r = out_of_range r
by_range Index index b r = index_out_of_range r

long_by : (f : Format) (bytes : List ℕ) (b : Bases) (fault : Fault) (at : ℕ) → RefusedBy f bytes b fault at → fault ≡ FileTooLong
    → (ranged (source_of f bytes) b ≡ true) × (leb (length bytes) file_limit ≡ false)
long_by (File form) file b fault at h e = refuses_long form b file at (subst (λ (f : Fault). RefusedBy (File form) file b f at) e h)
long_by Index index b fault at h e = index_long b index fault at h e

by_length : (f : Format) (bytes : List ℕ) (b : Bases) → ranged (source_of f bytes) b ≡ true → file_limit < length bytes → RefusedBy f bytes b FileTooLong 0
by_length (File form) file b r l = too_long r l
by_length Index index b r l = index_too_long r l

located_by : (f : Format) (bytes : List ℕ) (b : Bases) (fault : Fault) (at : ℕ) → RefusedBy f bytes b fault at → LocatedIn f (length bytes) fault at
located_by (File form) file b fault at h = refuses_located form b file at fault h
located_by Index index b fault at h = refusals_located b index fault at h

-- 1 lies in front of either
pub located_wrong : (f : Format) (len : ℕ) → LocatedIn f len WrongBuffer 0
located_wrong (File form) len = early_located len WrongBuffer refl
located_wrong Index len =
    record { at_front = λ l. refl; of_version = λ e. refl; within = omega arith; at_entry = λ l. absurd (omega arith) }

module _ (h : Source) (b : Bases) (fault : Fault) (at : ℕ) (x : RefusedAt h b fault at) where
  -- never with a wrong length
  pub refused_sized : ¬ (fault ≡ WrongBuffer)
  refused_sized = sized_by h.format h.bytes b fault at x.refuses

  -- with 2 only where a setting is out of its range
  pub refused_range : fault ≡ SettingOutOfRange → ranged h b ≡ false
  refused_range = range_by h.format h.bytes b fault at x.refuses

  -- with 3 only where the settings are in their ranges, and it is too long
  pub refused_long : fault ≡ FileTooLong → (ranged h b ≡ true) × (leb (length h.bytes) file_limit ≡ false)
  refused_long = long_by h.format h.bytes b fault at x.refuses

  -- where it lies
  pub refused_located : LocatedIn h.format (length h.bytes) fault at
  refused_located = located_by h.format h.bytes b fault at x.refuses

-- and always for these causes
pub range_refused : (h : Source) (b : Bases) → ranged h b ≡ false → RefusedAt h b SettingOutOfRange 0
range_refused h b r = record { refuses = by_range h.format h.bytes b r }

pub long_refused : (h : Source) (b : Bases) → ranged h b ≡ true → file_limit < length h.bytes → RefusedAt h b FileTooLong 0
long_refused h b r l = record { refuses = by_length h.format h.bytes b r l }

-- ---- its counts

-- "neither exceeds the file's length"; of an index only the fields adjusted do not
counted_by : (f : Format) (bytes : List ℕ) (b : Bases) → Counted f (length bytes) (reported b (judged_at (source_of f bytes) b)).answer
counted_by (File form) file b =
    let few = load_few form b file in
    let e = report_same b (load form b file).answer (load form b file).events in
    (rw e few.placed, rw e few.adjusted)
counted_by Index index b = by (indexed b index).answer refl
  where
    by : (v : Verdict Outline) → (indexed b index).answer ≡ v → adjusted_of (report b v (indexed b index).events) ≤ length index
    by (accepted os entry) e = (index_accepted b index os entry e).adjusted_fits
    by (refused fault at) e = omega arith

pub counted : (h : Source) (b : Bases) → Counted h.format (length h.bytes) (reported b (judged_at h b)).answer
counted h b = counted_by h.format h.bytes b

-- a refusal counts nothing
pub counted_refused : (f : Format) (len : ℕ) (fault : Fault) (offset side : ℕ) → Counted f len (refusal fault offset side)
counted_refused (File form) len fault offset side = (omega arith, omega arith)
counted_refused Index len fault offset side = omega arith
