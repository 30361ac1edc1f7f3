-- A move by a built index and one by its file, as specs/Same.antt states it: both go by the same outlines and entry.
-- Assumes nothing.
use mathlib.Core.Bool.{Bool, true}
use mathlib.Core.List.{List}
use mathlib.Core.Path.{◌≡◌, refl, sym, ap, ◌∙◌, subst}
use Prim.Native.Nat.{ℕ}
use Rattle.acx.specs.Walk.{Verdict, accepted, refused}
use Rattle.answer.specs.Checks.{pick}
use Rattle.answer.specs.declared.Fault.{Fault}
use Rattle.answer.specs.Report.{Outcome, refusal}
use Rattle.events.specs.Events.{blank}
use Rattle.index.proofs.Built.{agrees}
use Rattle.index.specs.Built.{BuiltFrom}
use Rattle.pieces.specs.Pieces.{Outline}
use Rattle.pieces.specs.declared.Bases.{Bases}
use Rattle.words.specs.Runs.{Bytes}
use Rattle.moves.proofs.Refusals.{outcome_refused}
use Rattle.moves.proofs.Rulings.{Allowed, refused_call, memory_moved, report_is}
use Rattle.moves.proofs.Sources.{accepted_as, same_at, refused_as, report_for}
use Rattle.moves.proofs.Standing.{stands_back}
use Rattle.moves.specs.Call.{Call, sized, map_by, ruling, outcome_of, map_after, scratch_after, Moved}
use Rattle.moves.specs.Demand3.{Report}
use Rattle.moves.specs.Move.{moved}
use Rattle.moves.specs.Outcomes.{RefusesMove, at_old, at_new}
use Rattle.moves.specs.Same.{SameAnswer, same, elsewhere, SameMove, SameMoveClaim}
use Rattle.moves.specs.Sources.{Source, file_in, the_index, judged_at, AcceptedAt, RefusedAt, built}

-- ---- a call whose buffers have their lengths

module _ (c : Call) (m : List ℕ) (h : sized c m ≡ true) where
  -- its scratch is clear after it
  scratch_clear : scratch_after c m ≡ blank
  unfolding scratch_after pick
  scratch_clear = ap (λ (t : Bool). pick t blank c.scratch) h

  -- and where it was refused its map
  map_clear : {fault : Fault} {at side : ℕ} → outcome_of c m ≡ refusal fault at side → map_after c m ≡ blank
  unfolding map_after pick
  map_clear e = ap (λ (t : Bool). pick t (map_by (judged_at c.source c.new) (ruling c m)) c.map) h ∙ (refused_call c m e).1

-- ---- two calls

module _ (c d : Call) (m : List ℕ) (c_sized : sized c m ≡ true) (d_sized : sized d m ≡ true) (r t : Outcome) (m' n' p' q' s' u' : List ℕ)
    (v : Moved c m r m' p' s') (w : Moved d m t n' q' u') where
  -- their scratches are clear
  scratches : s' ≡ u'
  scratches = v.scratch ∙ scratch_clear c m c_sized ∙ sym (w.scratch ∙ scratch_clear d m d_sized)

  -- both are refused with one fault, at one side
  both_refused : (fault : Fault) (at offset side : ℕ) → RefusesMove c fault at side → RefusesMove d fault offset side → SameMove r t m' n' p' q' s' u'
  both_refused fault at offset side i j =
      let e = outcome_refused c m c_sized fault at side i in
      let f = outcome_refused d m d_sized fault offset side j in
      record {
        answer = rw (v.outcome ∙ e, w.outcome ∙ f) elsewhere;
        memory = v.memory ∙ (refused_call c m e).0 ∙ sym (w.memory ∙ (refused_call d m f).0);
        map = v.map ∙ map_clear c m c_sized e ∙ sym (w.map ∙ map_clear d m d_sized f);
        scratch = scratches;
      }

  -- both move the same pieces from and to the same bases
  both_moved : (ps : List Outline) (x : Allowed c m ps) (y : Allowed d m ps) → c.old ≡ d.old → c.new ≡ d.new → x.new.entry ≡ y.new.entry
      → SameMove r t m' n' p' q' s' u'
  both_moved ps x y eo en ee =
      let one : report_for c.new ps x.new.entry ≡ report_for d.new ps y.new.entry =
      ap (λ (b : Bases). report_for b ps x.new.entry) en ∙ ap (report_for d.new ps) ee in
      let reports = report_is c m ps x ∙ one ∙ sym (report_is d m ps y) in
      let e : r ≡ t = v.outcome ∙ ap (λ (z : Report). z.outcome) reports ∙ sym w.outcome in
      record {
        answer = subst (SameAnswer r) e same;
        memory =
            v.memory
            ∙ memory_moved c m ps x
            ∙ ap (λ (b : Bases). moved b c.new ps m) eo
            ∙ ap (λ (b : Bases). moved d.old b ps m) en
            ∙ sym (w.memory ∙ memory_moved d m ps y);
        map = v.map ∙ ap (λ (z : Report). z.map) reports ∙ sym w.map;
        scratch = scratches;
      }

-- ---- by a file and by its index

module _ (form : ℕ) (file index : List ℕ) (bytes : Bytes file) (f : BuiltFrom form file index) where
  -- refused where the file is
  index_refused : (b : Bases) (fault : Fault) (at : ℕ) → RefusedAt (file_in form file) b fault at → (offset : ℕ) × RefusedAt (the_index index) b fault offset
  index_refused b fault at x =
      let z = (agrees form file index bytes f b).refuses fault at x.refuses in
      (z.0, record { refuses = z.1 })

  -- accepted where it is
  index_accepted : (os : List Outline) (b : Bases) (x : AcceptedAt (file_in form file) os b) → (y : AcceptedAt (the_index index) os b) × (y.entry ≡ x.entry)
  index_accepted os b x = stands_back (built f) bytes os b x

  module _ (c d : Call) (m : List ℕ) (c_file : c.source ≡ file_in form file) (d_index : d.source ≡ the_index index) (eo : c.old ≡ d.old)
      (en : c.new ≡ d.new) (c_sized : sized c m ≡ true) (d_sized : sized d m ≡ true) (r t : Outcome) (m' n' p' q' s' u' : List ℕ)
      (v : Moved c m r m' p' s') (w : Moved d m t n' q' u') where
    -- the sources as the calls name them
    refused_file : {b : Bases} {fault : Fault} {at : ℕ} → RefusedAt (file_in form file) b fault at → RefusedAt c.source b fault at
    refused_file {b} {fault} {at} x = subst (λ (s : Source). RefusedAt s b fault at) (sym c_file) x

    refused_index : {b k : Bases} {fault : Fault} {at : ℕ} → b ≡ k → RefusedAt (the_index index) b fault at → RefusedAt d.source k fault at
    refused_index {b} {k} {fault} {at} e x =
        subst (λ (s : Source). RefusedAt s k fault at) (sym d_index) (subst (λ (j : Bases). RefusedAt (the_index index) j fault at) e x)

    -- by what the file comes to at both pairs of bases
    by : (x y : Verdict Outline) → (judged_at (file_in form file) c.old).answer ≡ x → (judged_at (file_in form file) c.new).answer ≡ y
        → SameMove r t m' n' p' q' s' u'
    by (refused fault at) y ex ey =
        let i = refused_as (file_in form file) c.old fault at ex in
        let j = index_refused c.old fault at i in
        both_refused c d m c_sized d_sized r t m' n' p' q' s' u' v w fault at j.0 0 (at_old (refused_file i)) (at_old (refused_index eo j.1))
    by (accepted ps entry) (refused fault at) ex ey =
        let a = accepted_as (file_in form file) ps c.old entry ex in
        let i = refused_as (file_in form file) c.new fault at ey in
        let j = index_refused c.new fault at i in
        let k = (index_accepted ps c.old a).0 in
        both_refused c d m c_sized d_sized r t m' n' p' q' s' u' v w fault at j.0 1
        (at_new (subst (λ (s : Source). AcceptedAt s ps c.old) (sym c_file) a) (refused_file i))
        (at_new {ps = ps} (rw (d_index, ← eo) k) (refused_index en j.1))
    by (accepted ps entry) (accepted qs other) ex ey =
        let a = accepted_as (file_in form file) ps c.old entry ex in
        let z = accepted_as (file_in form file) qs c.new other ey in
        let e = (same_at (file_in form file) ps qs c.old c.new a z).0 in
        let o = subst (λ (os : List Outline). AcceptedAt (file_in form file) os c.old) e a in
        let k = index_accepted qs c.old o in
        let l = index_accepted qs c.new z in
        both_moved c d m c_sized d_sized r t m' n' p' q' s' u' v w qs (record { buffers = c_sized; old = rw c_file o; new = rw c_file z })
        (record { buffers = d_sized; old = rw (d_index, ← eo) k.0; new = rw (d_index, ← en) l.0 }) eo en (sym l.1)

-- every two calls
pub moves_same : SameMoveClaim
moves_same form file index bytes f c d m c_file d_index eo en c_sized d_sized r t m' n' p' q' s' u' v w =
    by form file index bytes f c d m c_file d_index eo en c_sized d_sized r t m' n' p' q' s' u' v w (judged_at (file_in form file) c.old).answer
    (judged_at (file_in form file) c.new).answer refl refl
