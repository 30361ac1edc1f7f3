-- An index built from a file stands for that file and its loads: specs/Built.antt.
-- Assumes nothing.
use mathlib.Core.Bool.{Bool, true, false, ◌&&◌, false≢true}
use mathlib.Core.List.{List, map}
use mathlib.Core.Path.{◌≡◌, refl, sym, ap, ap₂, ◌∙◌, subst}
use Prim.Native.Nat.{ℕ, ◌≤◌}
use lib.Dec.{leb}
use lib.ListN.{length}
use Rattle.acx.proofs.Demand2.{well_placed_of}
use Rattle.acx.proofs.Rules.{follows_judged}
use Rattle.acx.proofs.Where.{accepted_where_fits}
use Rattle.acx.specs.Call.{form_of, in_range}
use Rattle.acx.specs.Rules.{Accepts as FileAccepts, Refuses as FileRefuses, out_of_range as file_out_of_range, too_long as file_too_long, by_file}
use Rattle.answer.proofs.Checks.{and_true}
use Rattle.answer.specs.declared.Fault.{Fault}
use Rattle.entries.specs.Bytes.{index_bytes}
use Rattle.pieces.specs.Pieces.{Piece, outline}
use Rattle.pieces.specs.Places.{FieldsSound}
use Rattle.pieces.specs.declared.Bases.{Bases}
use Rattle.records.specs.declared.Entry.{Entry}
use Rattle.words.specs.Runs.{Bytes}
use Rattle.index.proofs.Encoding.{accepted_encodable}
use Rattle.index.proofs.Holding.{Holds}
use Rattle.index.proofs.Where.{holds_where}
use Rattle.index.proofs.Written.{written_holds}
use Rattle.index.specs.Built.{BuiltFrom, OneIndexClaim, GivesBackClaim, Agrees, AgreesClaim}
use Rattle.index.specs.Rules.{Accepts, Refuses, out_of_range, too_long, by_index}
use Rattle.index.specs.Walk.{formless}

-- ---- what it is built from

module _ {form : ℕ} {file index : List ℕ} (built : BuiltFrom form file index) where
  -- every load that accepts the file has the same pieces and the same entry
  pub built_same : (b : Bases) (ps : List Piece) (entry : Entry) → FileAccepts form b file ps entry → (ps ≡ built.pieces) × (entry ≡ built.entry)
  built_same b ps entry h =
      let x = (accepted_where_fits form file built.bases built.pieces built.entry built.accepts b h.settings).accepts_only ps entry h in
      (x.1, x.2)

  -- so it is the index of any of them
  pub built_of : (b : Bases) (ps : List Piece) (entry : Entry) → FileAccepts form b file ps entry → index ≡ index_bytes (map outline ps) entry
  built_of b ps entry h =
      let x = built_same b ps entry h in
      built.is ∙ ap₂ (λ (qs : List Piece) (other : Entry). index_bytes (map outline qs) other) (sym x.0) (sym x.1)

  -- it holds them
  pub built_holds : Bytes file → Holds index (map outline built.pieces) built.entry
  built_holds y =
      let os = map outline built.pieces in
      let x = accepted_encodable form built.bases file built.pieces built.entry y built.accepts in
      let short : length (index_bytes os built.entry) ≤ 65536 = subst (λ (l : List ℕ). length l ≤ 65536) built.is built.fits in
      subst (λ (l : List ℕ). Holds l os built.entry) (sym built.is) (written_holds os built.entry short x.0 x.1)

  -- their fields are sound
  pub built_sound : FieldsSound (map outline built.pieces)
  built_sound =
      (well_placed_of (form_of form) file built.bases built.pieces built.entry
      (follows_judged (form_of form) file built.bases built.pieces built.entry built.accepts.follows)).0.sound

  -- the ranges of the bases are the same for both: the form is one of the two
  built_range : (b : Bases) → in_range form b ≡ in_range formless b
  built_range b =
      let c = built.bases in
      let x = and_true (leb form 1 && leb c.main 65535) (leb c.zero 255) built.accepts.settings in
      let y = and_true (leb form 1) (leb c.main 65535) x.0 in
      ap (λ (t : Bool). t && leb b.main 65535 && leb b.zero 255) y.0

-- ---- the claims

-- a file has one index
pub one_index : OneIndexClaim
one_index form file index other x y = built_of x y.bases y.pieces y.entry y.accepts ∙ sym y.is

-- it gives back the file's outlines and entry
pub gives_back : GivesBackClaim
gives_back form file index y built b r =
    holds_where index (map outline built.pieces) built.entry (built_holds built y) (built_sound built) built.fits b r

module _ (form : ℕ) (file index : List ℕ) (y : Bytes file) (built : BuiltFrom form file index) (b : Bases) where
  -- at bases in their ranges the same outlines and entry decide
  agrees_inside : in_range formless b ≡ true → Agrees form file index b
  agrees_inside r =
      let w = accepted_where_fits form file built.bases built.pieces built.entry built.accepts b (built_range built b ∙ r) in
      let g = gives_back form file index y built b r in
      record {
        accepts = λ ps entry h.
            let x = w.accepts_only ps entry h in
            subst (λ (qs : List Piece). Accepts b index (map outline qs) entry) (sym x.1)
            (subst (λ (other : Entry). Accepts b index (map outline built.pieces) other) (sym x.2) (g.accepts x.0));
        accepts_only = λ os entry h.
            let x = g.accepts_only os entry h in
            (built.pieces, subst (λ (other : Entry). FileAccepts form b file built.pieces other) (sym x.2) (w.accepts x.0), x.1);
        refuses = λ fault at h. g.refuses fault (w.refuses_only fault at h);
        refuses_only = λ fault offset h. w.refuses fault (g.refuses_only fault offset h);
      }

  -- at others both are refused for that
  agrees_outside : in_range formless b ≡ false → Agrees form file index b
  agrees_outside r =
      record {
        accepts = λ ps entry h. absurd (false≢true (sym s ∙ h.settings));
        accepts_only = λ os entry h. absurd (false≢true (sym r ∙ h.settings));
        refuses = refuses;
        refuses_only = refuses_only;
      }
    where
      s : in_range form b ≡ false
      s = built_range built b ∙ r

      refuses : (fault : Fault) (at : ℕ) → FileRefuses form b file fault at → (offset : ℕ) × Refuses b index fault offset
      refuses fault at (file_out_of_range h) = (0, out_of_range r)
      refuses fault at (file_too_long h k) = absurd (false≢true (sym s ∙ h))
      refuses fault at (by_file h k f) = absurd (false≢true (sym s ∙ h))

      refuses_only : (fault : Fault) (offset : ℕ) → Refuses b index fault offset → (at : ℕ) × FileRefuses form b file fault at
      refuses_only fault offset (out_of_range h) = (0, file_out_of_range s)
      refuses_only fault offset (too_long h k) = absurd (false≢true (sym r ∙ h))
      refuses_only fault offset (by_index h k f) = absurd (false≢true (sym r ∙ h))

-- it is judged as the file is, everywhere
pub agrees : AgreesClaim
agrees form file index y built b = by (in_range formless b) refl
  where
    by : (t : Bool) → in_range formless b ≡ t → Agrees form file index b
    by true r = agrees_inside form file index y built b r
    by false r = agrees_outside form file index y built b r
