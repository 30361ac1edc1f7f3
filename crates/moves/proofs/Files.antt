-- A file as what a move goes by: what its load comes to where it is accepted, and what a load leaves.
-- Assumes nothing.
use mathlib.Core.List.{List, map}
use mathlib.Core.Path.{◌≡◌, refl, sym, ap, ◌∙◌, subst}
use Prim.Native.Nat.{ℕ}
use lib.ListN.{length}
use Rattle.acx.proofs.Calling.{loaded_right}
use Rattle.acx.proofs.Demand2.{well_placed_of}
use Rattle.acx.proofs.Rules.{load_judged, by_rules}
use Rattle.acx.proofs.Turning.{refused_accepted, accepted_same}
use Rattle.acx.proofs.WellPlaced.{fits_memory, placed_well}
use Rattle.acx.proofs.Where.{accepted_where_fits}
use Rattle.acx.specs.Call.{form_of, load, memory_after as played_by}
use Rattle.acx.specs.Rules.{Accepts}
use Rattle.acx.specs.Walk.{Verdict, accepted, refused, judged}
use Rattle.events.proofs.Lists.{each_map}
use Rattle.events.specs.Events.{Event, play, Ran}
use Rattle.events.specs.Lists.{Each}
use Rattle.pieces.proofs.Loads.{laid, play_laid}
use Rattle.pieces.specs.Pieces.{Piece, Outline, outline, events}
use Rattle.pieces.specs.Places.{WellPlaced}
use Rattle.pieces.specs.declared.Bases.{Bases}
use Rattle.records.specs.declared.Entry.{Entry}
use Rattle.words.proofs.Runs.{bytes_part}
use Rattle.words.specs.Runs.{Bytes}
use Rattle.moves.specs.Demand3.{Loads}
use Rattle.moves.specs.Sources.{file_in, without_code, FileAccepted, AcceptedAt}

-- memory after a load of the file into r
abbrev pub load_into : List ℕ → ℕ → Bases → List ℕ → List ℕ
load_into file form b r = played_by (load form b file).answer (load form b file).events r

-- a call of the loader leaves it
pub loads_into : (form : ℕ) (file : List ℕ) (b : Bases) (k k' : List ℕ) → Loads file form b k k' → k' ≡ load_into file form b k
loads_into form file b k k' h = (loaded_right refl h.loaded).1

module _ (form : ℕ) (file : List ℕ) (os : List Outline) (b : Bases) {entry : Entry} (h : FileAccepted form file b os entry) where
  -- the load's definition accepts
  load_at : (load form b file).answer ≡ accepted h.pieces entry
  load_at = (by_rules form b file).accepts h.pieces entry h.accepts

  -- as a move looks at it, too
  pub file_judged : without_code (load form b file).answer ≡ accepted os entry
  file_judged = ap without_code load_at ∙ ap (λ (qs : List Outline). accepted qs entry) (sym h.outlines)

  -- by its records
  by_records : load form b file ≡ judged (form_of form) file b
  by_records = load_judged form b file h.accepts.settings h.accepts.fits

  pub verdict : (judged (form_of form) file b).answer ≡ accepted h.pieces entry
  verdict = ap (λ (o : Ran (Verdict Piece)). o.answer) (sym by_records) ∙ load_at

  -- its pieces are well placed
  pub file_placed : WellPlaced b os
  file_placed = subst (WellPlaced b) (sym h.outlines) (well_placed_of (form_of form) file b h.pieces entry verdict).0

  -- its code is bytes where the file is
  pub code_bytes_lem : Bytes file → Each (λ p. Bytes p.code) h.pieces
  code_bytes_lem y =
      each_map (λ p x. rw x.2 (bytes_part file x.0 _ y)) h.pieces (well_placed_of (form_of form) file b h.pieces entry verdict).1

  -- its events are those of the pieces
  pub file_events : (load form b file).events ≡ events b h.pieces
  file_events = ap (λ (o : Ran (Verdict Piece)). o.events) by_records ∙ (placed_well file b (form_of form) h.pieces entry verdict).events

  -- it leaves the pieces in memory
  pub load_laid : (r : List ℕ) → length r ≡ 65536 → load_into file form b r ≡ laid b h.pieces r
  load_laid r n =
      let w = subst (WellPlaced b) h.outlines file_placed in
      ap (λ (v : Verdict Piece). played_by v (load form b file).events r) load_at
      ∙ ap (λ (t : List Event). play t r) file_events
      ∙ play_laid b h.pieces r (fits_memory b (length r) (map outline h.pieces) n w.fit) w.sound.inside

-- a file is accepted where the rules accept it
abbrev pub accepted_by : (form : ℕ) (file : List ℕ) (b : Bases) (ps : List Piece) (entry : Entry) → Accepts form b file ps entry
    → AcceptedAt (file_in form file) (map outline ps) b
accepted_by form file b ps entry h = record { entry = entry; accepts = record { pieces = ps; outlines = refl; accepts = h } }

-- and where its load does, as a move looks at it
pub file_accepted : (form : ℕ) (file : List ℕ) (os : List Outline) (b : Bases) (entry : Entry) → without_code (load form b file).answer ≡ accepted os entry
    → FileAccepted form file b os entry
file_accepted form file os b entry e = by (load form b file).answer refl e
  where
    by : (v : Verdict Piece) → (load form b file).answer ≡ v → without_code v ≡ accepted os entry → FileAccepted form file b os entry
    by (accepted qs other) f e =
        let x = accepted_same e in
        record {
          pieces = qs;
          outlines = sym x.0;
          accepts = (by_rules form b file).accepts_only qs entry (f ∙ ap (accepted qs) x.1);
        }
    by (refused fault at) f e = absurd (refused_accepted e)

-- accepted at two pairs of bases it has the same pieces and entry at both
pub same_pieces : (form : ℕ) (file : List ℕ) (ps qs : List Outline) (b c : Bases) {first last : Entry} (h : FileAccepted form file b ps first)
    (k : FileAccepted form file c qs last) → (k.pieces ≡ h.pieces) × (last ≡ first)
same_pieces form file ps qs b c {first} {last} h k =
    let x = accepted_where_fits form file b h.pieces first h.accepts c k.accepts.settings in
    let y = x.accepts_only k.pieces last k.accepts in
    (y.1, y.2)
