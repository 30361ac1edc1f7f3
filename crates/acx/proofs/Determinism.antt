-- Two machines hold the same program: specs/Determinism.antt, of every two calls that keep the contract.
-- Assumes nothing.
use mathlib.Core.List.{List, map}
use mathlib.Core.Path.{◌≡◌, sym, ap, ◌∙◌}
use Prim.Native.Nat.{ℕ}
use lib.ListN.{length}
use Rattle.records.specs.declared.Entry.{Entry}
use Rattle.events.proofs.Lists.{each_zip}
use Rattle.events.specs.Events.{Event, play, Ran}
use Rattle.events.specs.Lists.{Each}
use Rattle.pieces.proofs.Loads.{loaded, piece_at, laid, play_laid, laid_parts}
use Rattle.pieces.specs.Pieces.{Piece, size, outline}
use Rattle.pieces.specs.declared.Bases.{Bases}
use Rattle.words.specs.Runs.{part}
use Rattle.acx.proofs.Calling.{load_admitted, loaded_right}
use Rattle.acx.proofs.Demand2.{right_lengths}
use Rattle.acx.proofs.Rules.{by_rules}
use Rattle.acx.proofs.WellPlaced.{fits_memory, placed_well}
use Rattle.acx.specs.Determinism.{SameClaim}
use Rattle.acx.specs.Call.{form_of, load, memory_after}
use Rattle.acx.specs.Walk.{Verdict, accepted}

-- what an accepted file leaves at the places of its pieces hangs on no memory
placed_parts : (form : ℕ) (b : Bases) (file m m' : List ℕ) → m' ≡ memory_after (load form b file).answer (load form b file).events m
    → length m ≡ 65536
    → (ps : List Piece) (entry : Entry)
    → (load form b file).answer ≡ accepted ps entry
    → Each (λ x. part m' (piece_at b x) (size x) ≡ loaded b x) ps
placed_parts form b file m m' em n ps entry e =
    let o = load form b file in
    let w = load_admitted form b file ps entry e in
    let x = placed_well file b (form_of form) ps entry (ap (λ (q : Ran (Verdict Piece)). q.answer) (sym w.by_rules) ∙ e) in
    let h = x.held.0.0 in
    let fits = fits_memory b (length m) (map outline ps) n h.fit in
    let is : m' ≡ laid b ps m =
    em
    ∙ ap (λ (v : Verdict Piece). memory_after v o.events m) e
    ∙ ap (λ (q : Ran (Verdict Piece)). play q.events m) w.by_rules
    ∙ ap (λ (es : List Event). play es m) x.events
    ∙ play_laid b ps m fits h.sound.inside in
    rw is (laid_parts b ps m fits h.fit.apart)

-- every two calls
pub same_program : SameClaim
same_program form b file x m p r m' p' y n q t n' q' d e f g =
    let k = loaded_right e d in
    let l = loaded_right g f in
    record {
      outcome = k.0 ∙ sym l.0;
      map = k.2 ∙ sym l.2;
      program = λ ps entry a.
          let h = (by_rules form b file).accepts ps entry a in
          each_zip (λ w u v. u ∙ sym v) ps (placed_parts form b file m m' k.1 (right_lengths x m p e).1 ps entry h)
          (placed_parts form b file n n' l.1 (right_lengths y n q g).1 ps entry h);
    }
