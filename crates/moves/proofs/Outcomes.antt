-- When a call is accepted, and what it then leaves, as specs/Outcomes.antt states it.
-- Assumes nothing.
use mathlib.Core.Bool.{Bool, true, ◌&&◌}
use mathlib.Core.List.{List, [], ◌∷◌, map}
use mathlib.Core.Path.{◌≡◌, refl, sym, ap, ◌∙◌, subst}
use Prim.Native.Nat.{ℕ}
use borrow.Author.Tests.{eqb-true}
use lib.Dec.{eqb}
use lib.ListN.{length, get_or}
use Rattle.acx.proofs.Calling.{loaded_right}
use Rattle.acx.proofs.WellPlaced.{marked_events}
use Rattle.acx.specs.Call.{load}
use Rattle.acx.specs.Demand2.{total}
use Rattle.answer.proofs.Checks.{and_true}
use Rattle.answer.specs.Checks.{pick}
use Rattle.answer.specs.Report.{Outcome, acceptance}
use Rattle.std.proofs.Common.{Option}
use Rattle.events.specs.Events.{marks, blank}
use Rattle.index.proofs.Hollow.{hollow, hollow_outlines}
use Rattle.pieces.specs.AtBases.{start_of}
use Rattle.pieces.specs.Pieces.{Outline, events}
use Rattle.pieces.specs.Places.{WellPlaced, Marked}
use Rattle.pieces.specs.declared.Bases.{Bases}
use Rattle.words.specs.Runs.{Bytes}
use Rattle.moves.proofs.Demand3.{demand3}
use Rattle.moves.proofs.Rulings.{Allowed, accepted_allowed, memory_moved, report_is}
use Rattle.moves.proofs.Sources.{report_same, map_same, well_placed_at, same_at, marks_for, report_at, report_at_lem}
use Rattle.moves.proofs.Transfers.{stays}
use Rattle.moves.specs.Call.{Call, pieces_of, sized, ruling, outcome_of, memory_after, scratch_after, Moved}
use Rattle.moves.specs.Demand3.{Report, Made, if_accepted, last, Linked, Chained, Run, none, next, Memory, Demand3, report_of, Defined}
use Rattle.moves.specs.Outcomes.{AsLoad, AcceptedMove, Claim}
use Rattle.moves.specs.Sources.{source_of, AcceptedAt, itself}
use Rattle.moves.specs.declared.Format.{Format}
use Rattle.moves.specs.declared.Format.TheVariants.{File, Index}

-- ---- the map

-- outlines that are well placed leave their marks
marked_for : (b : Bases) (os : List Outline) → WellPlaced b os → Marked b os (marks_for b os)
unfolding marks_for
marked_for b os w =
    let e = hollow_outlines os in
    subst (λ (qs : List Outline). Marked b qs (marks (events b (map hollow os)) blank)) e
    (marked_events b (map hollow os) (subst (WellPlaced b) (sym e) w))

-- what a file reports is what any load of it does
as_load_by : (f : Format) (bytes : List ℕ) (b : Bases) (r : Outcome) (p : List ℕ) → r ≡ (report_at (source_of f bytes) b).outcome
    → p ≡ (report_at (source_of f bytes) b).map
    → AsLoad f bytes b r p
as_load_by (File form) file b r p er ep =
    λ k q t k' q' d.
    let g = loaded_right refl d in
    let o = load form b file in
    (er ∙ report_same b o.answer o.events ∙ sym g.0, ep ∙ map_same o.answer o.events ∙ sym g.2)
as_load_by Index index b r p er ep = tt

-- ---- a call

module _ (c : Call) (m : List ℕ) where
  -- the memory of a call whose lengths are right
  memory_sized : sized c m ≡ true → length m ≡ 65536
  memory_sized e =
      let x = and_true (eqb (length m) 65536 && eqb (length c.map) 65536 && eqb (length c.scratch) 65536) c.answer_sized e in
      let y = and_true (eqb (length m) 65536 && eqb (length c.map) 65536) (eqb (length c.scratch) 65536) x.0 in
      eqb-true _ _ (and_true (eqb (length m) 65536) (eqb (length c.map) 65536) y.0).0

  -- the call, as it was made
  abbrev made : Made
  made = record { call = c; report = report_of c m }

  module _ (ps : List Outline) (x : Allowed c m ps) where
    -- what a call reports that may move the pieces
    pub reports_moved : outcome_of c m
        ≡ acceptance (start_of c.new x.new.entry) (total (λ o. o.size) ps) (total (λ o. length o.fields) ps) 0 0
    reports_moved = ap (λ (t : Report). t.outcome) (report_is c m ps x)

    -- demand 3 of it, as a list of one
    alone : Bytes c.source.bytes → Memory m → Demand3 Defined c.source ps c.old c.new (made ∷ []) m (memory_after c m)
    alone b y =
        let e = reports_moved in
        let z : last c.old (if_accepted (outcome_of c m) c.new []) ≡ c.new =
        ap (λ (o : Outcome). last c.old (if_accepted o c.new [])) e in
        let chain : Chained c.source c.old (made ∷ []) = (subst (λ (o : Outcome). Linked o c.source c.old c) (sym e) (itself, refl), tt) in
        let run : Run Defined (made ∷ []) m (memory_after c m) = next (record { report = refl; memory = refl }) none in
        subst (λ (t : Bases). Demand3 Defined c.source ps c.old t (made ∷ []) m (memory_after c m)) z
        (demand3 c.source b ps c.old x.old (made ∷ []) m (memory_after c m) run y chain)

module _ (c : Call) (m : List ℕ) (r : Outcome) (m' p' s' : List ℕ) (w : Moved c m r m' p' s') where
  -- what document 01 says of a call that is accepted
  leaves : Bytes c.source.bytes → Bytes m → (start : Option ℕ) (placed adjusted names low : ℕ) → r ≡ acceptance start placed adjusted names low
      → AcceptedMove c m r m' p' s'
  unfolding scratch_after pick
  leaves b y start placed adjusted names low e =
      let ps = pieces_of (ruling c m) in
      let x = accepted_allowed c m (sym w.outcome ∙ e) in
      let n = memory_sized c m x.buffers in
      let d = alone c m ps x b (n, y) in
      let report_here = report_is c m ps x in
      let as_here = report_here ∙ sym (report_at_lem c.source ps c.new x.new) in
      record {
        lengths = x.buffers;
        pieces = ps;
        at_old = x.old;
        at_new = x.new;
        plain = rw w.memory d.plain;
        fields = rw w.memory d.fields;
        memory = rw w.memory d.memory;
        kept = λ a h. ap (λ (t : List ℕ). get_or t a 0) (w.memory ∙ memory_moved c m ps x)
            ∙ stays c.source ps c.old c.new x.old x.new m n a h;
        as_load = as_load_by c.source.format c.source.bytes c.new r p' (w.outcome ∙ ap (λ (z : Report). z.outcome) as_here)
            (w.map ∙ ap (λ (z : Report). z.map) as_here);
        marks = subst (Marked c.new ps) (sym (w.map ∙ ap (λ (z : Report). z.map) report_here))
            (marked_for c.new ps (well_placed_at c.source ps c.new x.new));
        scratch = w.scratch ∙ ap (λ (t : Bool). pick t blank c.scratch) x.buffers;
      }

  -- it is accepted where the handler is at both bases
  accepts : sized c m ≡ true → (ps qs : List Outline) → AcceptedAt c.source ps c.old → (at_new : AcceptedAt c.source qs c.new)
      → r ≡ acceptance (start_of c.new at_new.entry) (total (λ o. o.size) qs) (total (λ o. length o.fields) qs) 0 0
  accepts z ps qs at_old at_new =
      let e = (same_at c.source ps qs c.old c.new at_old at_new).0 in
      let old = subst (λ (os : List Outline). AcceptedAt c.source os c.old) e at_old in
      w.outcome ∙ reports_moved c m qs (record { buffers = z; old = old; new = at_new })

-- "refused exactly if a load at the old bases, then one at the new, would be": else accepted, and what document 01 says is left
pub call_exactly : Claim
call_exactly c m r m' p' s' w b y = record { only = leaves c m r m' p' s' w b y; all = accepts c m r m' p' s' w }
