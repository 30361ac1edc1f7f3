-- Demand 2 for ACX files, as specs/Demand2.antt states it.
-- Assumes nothing.
use mathlib.Core.Bool.{Bool, true, false, ◌&&◌, false≢true}
use mathlib.Core.List.{List, [], ◌∷◌, map}
use mathlib.Core.Path.{◌≡◌, refl, sym, ap, ◌∙◌, subst}
use Prim.Native.Nat.{ℕ, ◌≤◌}
use native.Mathlib.Omega.{arith}
use borrow.Author.Tests.{eq-eqb, eqb-true}
use lib.Dec.{eqb}
use lib.ListN.{length, get_or}
use Rattle.std.proofs.Common.{Option, None, Ok, Err}
use Rattle.answer.proofs.Checks.{and_true}
use Rattle.answer.proofs.Outcomes.{is_refused}
use Rattle.answer.specs.Checks.{need}
use Rattle.answer.specs.Report.{placed_of, adjusted_of, Outcome, acceptance}
use Rattle.answer.specs.declared.Fault.{Fault}
use Rattle.answer.specs.declared.Fault.TheVariants.{WrongBuffer}
use Rattle.events.proofs.Checks.{failed_passed}
use Rattle.events.proofs.Events.{placed_append, adjusted_append, length_play}
use Rattle.events.proofs.Lists.{image_each}
use Rattle.events.specs.Lists.{Each}
use Rattle.events.specs.Events.{Event, place, play, marks, blank, placed_in, adjusted_in, Ran}
use Rattle.acx.proofs.Calling.{load_admitted, loaded_right}
use Rattle.acx.proofs.WellPlaced.{fits_memory, marked_events, placed_well}
use Rattle.pieces.proofs.Loads.{piece_at, laid, play_laid, laid_outside, laid_plain, laid_fields}
use Rattle.pieces.proofs.PieceEvents.{placed_adjustments, adjusted_adjustments}
use Rattle.acx.proofs.Rules.{followed, follows_judged, load_judged}
use Rattle.acx.proofs.Standing.{Stands}
use Rattle.acx.specs.Call.{form_of, sized, load, call, memory_after, map_after, Loaded}
use Rattle.acx.specs.Demand2.{FromFile, total, Demand2, Asked, AcceptedCall, Claim}
use Rattle.acx.specs.Rules.{Follows, Accepts}
use Rattle.pieces.specs.AtBases.{start_of}
use Rattle.pieces.specs.Pieces.{Piece, size, outline, adjustments, events}
use Rattle.pieces.specs.Places.{Placed, WellPlaced, Marked}
use Rattle.records.specs.declared.Entry.{Entry}
use Rattle.acx.specs.Walk.{Verdict, accepted, refused, at_once, opening, judged, report, reported}
use Rattle.pieces.specs.declared.Bases.{Bases}
use Rattle.acx.specs.declared.Form.{Form}
use Rattle.acx.specs.declared.Form.TheVariants.{Disk}

-- the pieces of an accepted file are well placed, and from the file
pub well_placed_of : (form : Form) (file : List ℕ) (b : Bases) (ps : List Piece) (entry : Entry) → (judged form file b).answer ≡ accepted ps entry
    → WellPlaced b (map outline ps) × FromFile file ps
well_placed_of form file b ps entry e = (placed_well file b form ps entry e).held.0

-- the counts of the events of pieces are sums over the pieces
pub placed_total : (b : Bases) (ps : List Piece) → placed_in (events b ps) ≡ total size ps
unfolding events placed_in
placed_total b [] = refl
placed_total b (p ∷ ps) =
    placed_append (events b ps) (place (piece_at b p) p.code ∷ adjustments b (piece_at b p) p.fields)
    ∙ omega (arith, placed_total b ps, placed_adjustments b (piece_at b p) p.fields)

pub adjusted_total : (b : Bases) (ps : List Piece) → adjusted_in (events b ps) ≡ total (λ p. length p.fields) ps
unfolding events adjusted_in
adjusted_total b [] = refl
adjusted_total b (p ∷ ps) =
    adjusted_append (events b ps) (place (piece_at b p) p.code ∷ adjustments b (piece_at b p) p.fields)
    ∙ omega (arith, adjusted_total b ps, adjusted_adjustments b (piece_at b p) p.fields)

-- what the events of well-placed pieces make of memory and map
loads : (form : Form) (file : List ℕ) (b : Bases) (ps : List Piece) (entry : Entry) (at : ℕ) (m : List ℕ) → Follows form file b ps entry
    → WellPlaced b (map outline ps) × FromFile file ps → at ≤ length file → Stands b (record { at = at; pieces = ps }) → length m ≡ 65536
    → Demand2 form file b ps entry m (play (events b ps) m) (marks (events b ps) blank) (placed_in (events b ps)) (adjusted_in (events b ps))
loads form file b ps entry at m f (h, k) l s n =
    let os = map outline ps in
    let inside = h.sound.inside in
    let fits = fits_memory b (length m) os n h.fit in
    let e : play (events b ps) m ≡ laid b ps m = play_laid b ps m fits inside in
    let outside : (x : ℕ) → Each (λ p. ¬ Placed b x (outline p)) ps → Each (λ o. ¬ Placed b x o) os =
    λ x w. image_each outline (λ o. ¬ Placed b x o) ps w in
    record {
      follows = f;
      well_placed = h;
      from_file = k;
      loaded = rw e (laid_plain b ps m fits h.fit.apart);
      fields = rw e (laid_fields b ps m fits h.fit.apart h.sound);
      others = λ x w. ap (λ (t : List ℕ). get_or t x 0) e ∙ laid_outside b ps m x (outside x w);
      lengths = length_play (events b ps) m;
      marks = marked_events b ps h;
      placed_count = placed_total b ps;
      adjusted_count = adjusted_total b ps;
      placed_fits = omega (arith, s.counts, l);
      adjusted_fits = omega (arith, s.counts, l);
    }

-- Demand 2, of every accepted file, at every pair of bases and in every memory
pub demand2 : (form : Form) (file : List ℕ) (b : Bases) (ps : List Piece) (entry : Entry) → (judged form file b).answer ≡ accepted ps entry
    → (m : List ℕ) → length m ≡ 65536
    → Demand2 form file b ps entry m (play (judged form file b).events m) (marks (judged form file b).events blank)
    (placed_in (judged form file b).events) (adjusted_in (judged form file b).events)
demand2 form file b ps entry e m n =
    let x = placed_well file b form ps entry e in
    rw x.events (loads form file b ps entry x.at m (followed form file b ps entry e) x.held.0 x.inside x.held.1 n)

-- ---- of every call

abbrev start_in : Outcome → Option ℕ
start_in (Ok a) = a.start
start_in (Err r) = None

-- a load that accepts reports the start and the counts of the pieces
pub load_reports : (form : ℕ) (b : Bases) (file : List ℕ) (ps : List Piece) (entry : Entry) → Accepts form b file ps entry
    → (reported b (load form b file)).answer ≡ acceptance (start_of b entry) (total size ps) (total (λ p. length p.fields) ps) 0 0
load_reports form b file ps entry h =
    let e = follows_judged (form_of form) file b ps entry h.follows in
    let o = judged (form_of form) file b in
    ap (λ (k : Ran (Verdict Piece)). (reported b k).answer) (load_judged form b file h.settings h.fits)
    ∙ ap (λ (v : Verdict Piece). report b v o.events) e
    ∙ ap (λ (es : List Event). report b (accepted ps entry) es) (placed_well file b (form_of form) ps entry e).events
    ∙ ap (λ (n : ℕ). acceptance (start_of b entry) n (adjusted_in (events b ps)) 0 0) (placed_total b ps)
    ∙ ap (λ (n : ℕ). acceptance (start_of b entry) (total size ps) n 0 0) (adjusted_total b ps)

-- and its map has their marks
pub load_marks : (form : ℕ) (b : Bases) (file : List ℕ) (ps : List Piece) (entry : Entry) → Accepts form b file ps entry
    → Marked b (map outline ps) (marks (load form b file).events blank)
load_marks form b file ps entry h =
    let x = placed_well file b (form_of form) ps entry (follows_judged (form_of form) file b ps entry h.follows) in
    let es = ap (λ (o : Ran (Verdict Piece)). o.events) (load_judged form b file h.settings h.fits) ∙ x.events in
    subst (λ (gs : List Event). Marked b (map outline ps) (marks gs blank)) (sym es) (marked_events b ps x.held.0.0)

-- an outcome that is accepted held its check
need_held : (b : Bases) (c : Bool) (fault : Fault) (offset : ℕ) (o : Ran (Verdict Piece)) → is_refused (reported b (need at_once c fault offset o)).answer ≡ false → c ≡ true
unfolding need
need_held b true fault offset o e = refl
need_held b false fault offset o e = absurd (false≢true (sym e))

-- what the right lengths are
pub right_lengths : (x : Bool) (m p : List ℕ) → x && sized m p ≡ true → (x ≡ true) × (length m ≡ 65536) × (length p ≡ 65536)
right_lengths x m p e =
    let y = and_true x (sized m p) e in
    let z = and_true (eqb (length m) 65536) (eqb (length p) 65536) y.1 in
    (y.0, eqb-true _ _ z.0, eqb-true _ _ z.1)

module _ (form : ℕ) (b : Bases) (file : List ℕ) (x : Bool) (m p : List ℕ) (r : Outcome) (m' p' : List ℕ)
    (d : Loaded form b file (x && sized m p) m p r m' p') where
  -- an acceptance had buffers of the right lengths
  held : is_refused r ≡ false → x && sized m p ≡ true
  unfolding call
  held e = need_held b (x && sized m p) WrongBuffer 0 (load form b file) (ap is_refused (sym d.outcome) ∙ e)

  -- an acceptance leaves what demand 2 says
  call_demand2 : (start : Option ℕ) (placed adjusted names low : ℕ) → r ≡ acceptance start placed adjusted names low
      → AcceptedCall form b file x m p start placed adjusted m' p'
  call_demand2 start placed adjusted names low e =
      let t = held (ap is_refused e) in
      let l = loaded_right t d in
      by (right_lengths x m p t) l.1 l.2 (sym e ∙ l.0) (load form b file).answer refl
    where
      o : Ran (Verdict Piece)
      o = load form b file

      by : (x ≡ true) × (length m ≡ 65536) × (length p ≡ 65536)
          → m' ≡ memory_after o.answer o.events m
          → p' ≡ map_after o.answer o.events
          → acceptance start placed adjusted names low ≡ (reported b o).answer
          → (v : Verdict Piece) → o.answer ≡ v
          → AcceptedCall form b file x m p start placed adjusted m' p'
      by n em ep eo (refused fault at) f = absurd (false≢true (ap is_refused (eo ∙ ap (λ (v : Verdict Piece). report b v o.events) f)))
      by n em ep eo (accepted ps entry) f =
          let k = judged (form_of form) file b in
          let w = load_admitted form b file ps entry f in
          let g : k.answer ≡ accepted ps entry = ap (λ (q : Ran (Verdict Piece)). q.answer) (sym w.by_rules) ∙ f in
          let em' : m' ≡ play k.events m = em ∙ ap (λ (v : Verdict Piece). memory_after v o.events m) f
          ∙ ap (λ (q : Ran (Verdict Piece)). play q.events m) w.by_rules in
          let ep' : p' ≡ marks k.events blank = ep ∙ ap (λ (v : Verdict Piece). map_after v o.events) f
          ∙ ap (λ (q : Ran (Verdict Piece)). marks q.events blank) w.by_rules in
          let eo' : acceptance start placed adjusted names low ≡ report b (accepted ps entry) k.events =
          eo ∙ ap (λ (v : Verdict Piece). report b v o.events) f ∙ ap (λ (q : Ran (Verdict Piece)). report b (accepted ps entry) q.events) w.by_rules in
          let en : placed ≡ placed_in k.events = ap placed_of eo' in
          let ea : adjusted ≡ adjusted_in k.events = ap adjusted_of eo' in
          record {
            asked = record { answer = n.0; memory = n.1; map = n.2; settings = w.range; fits = w.fits };
            pieces = ps;
            entry = entry;
            starts = ap start_in eo';
            leaves = rw (em', ep', en, ea) (demand2 (form_of form) file b ps entry g m n.1);
          }

  -- a call as asked accepts every file that follows the rules, with its start and counts
  call_accepts : Asked form b file x m p → (ps : List Piece) (entry : Entry) → Follows (form_of form) file b ps entry
      → r ≡ acceptance (start_of b entry) (total size ps) (total (λ p. length p.fields) ps) 0 0
  call_accepts a ps entry f =
      let t : x && sized m p ≡ true = rw (a.answer, eq-eqb _ _ a.memory, eq-eqb _ _ a.map) refl in
      (loaded_right t d).0 ∙ load_reports form b file ps entry (record { settings = a.settings; fits = a.fits; follows = f })

-- "a file is accepted exactly if it follows the .. ACX rules of document 01 and fits"
pub accepted_exactly : Claim
accepted_exactly form b file x m p r m' p' d =
    record { only = call_demand2 form b file x m p r m' p' d; all = call_accepts form b file x m p r m' p' d }

-- that a file has no pieces and nothing was loaded does not hold of all: in disk form an empty one has no opening
pub not_of_all : (b : Bases) (entry : Entry) (m : List ℕ) → ¬ ((file : List ℕ) → Demand2 Disk file b [] entry m m blank 0 0)
unfolding opening need
not_of_all b entry m h = failed_passed (h []).follows.opens
