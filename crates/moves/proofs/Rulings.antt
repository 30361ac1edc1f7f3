-- What an acceptance says: of the two judgements of a move, which have the same pieces, and of a call of the mover.
-- Assumes nothing.
use mathlib.Core.Bool.{Bool, true, false, false≢true}
use mathlib.Core.List.{List}
use mathlib.Core.Path.{◌≡◌, refl, sym, ap, ◌∙◌, subst}
use Prim.Native.Nat.{ℕ, ◌≤◌}
use borrow.Author.Tests.{eq-eqb}
use lib.ListN.{length}
use Rattle.acx.specs.Walk.{Verdict, accepted, refused, reported}
use Rattle.answer.proofs.Outcomes.{is_refused}
use Rattle.answer.specs.Checks.{need, pick}
use Rattle.answer.specs.declared.Fault.{Fault}
use Rattle.answer.specs.declared.Fault.TheVariants.{WrongBuffer}
use Rattle.answer.specs.Report.{acceptance, refusal}
use Rattle.std.proofs.Common.{Option}
use Rattle.events.specs.Events.{blank, Ran}
use Rattle.pieces.specs.Pieces.{Outline}
use Rattle.pieces.specs.declared.Bases.{Bases}
use Rattle.records.specs.declared.Entry.{Entry}
use Rattle.words.specs.Runs.{Bytes}
use Rattle.moves.proofs.Sources.{found, accepted_as, same_at, report_at_lem, report_for, reports_accepted, range_at}
use Rattle.moves.proofs.Standing.{stands_back}
use Rattle.moves.specs.Call.{Call, Ruling, allows, refuses, sides, ruling_of, sized, beforehand, ruling, Allows, pieces_of, outcome_by, map_by, memory_by, outcome_of, memory_after, map_after}
use Rattle.moves.specs.Demand3.{report_of, OneMove}
use Rattle.moves.specs.Move.{moved}
use Rattle.moves.specs.Sources.{Source, judged_at, AcceptedAt}

-- ---- a ruling that allows the move

-- it names the pieces
pub allows_is : (v : Ruling) → Allows v → v ≡ allows (pieces_of v)
allows_is (allows ps) h = refl
allows_is (refuses fault at side) h = absurd h

-- both sides accept
sides_both : (u v : Verdict Outline) (ps : List Outline) → sides u v ≡ allows ps
    → ((qs : List Outline) × (entry : Entry) × (u ≡ accepted qs entry)) × ((entry : Entry) × (v ≡ accepted ps entry))
sides_both (accepted qs entry) (accepted rs other) ps e = ((qs, entry, refl), (other, ap (λ (v : Ruling). accepted (pieces_of v) other) e))
sides_both (accepted qs entry) (refused fault at) ps e = absurd (subst Allows (sym e) tt)
sides_both (refused fault at) v ps e = absurd (subst Allows (sym e) tt)

-- so the handler is accepted at both pairs of bases, with the same pieces
pub both : (h : Source) (old new : Bases) (ps : List Outline) → ruling_of h old new ≡ allows ps → AcceptedAt h ps old × AcceptedAt h ps new
both h old new ps e =
    let x = sides_both (judged_at h old).answer (judged_at h new).answer ps e in
    let at_old = accepted_as h x.0.0 old x.0.1 x.0.2 in
    let at_new = accepted_as h ps new x.1.0 x.1.1 in
    (subst (λ (qs : List Outline). AcceptedAt h qs old) (same_at h x.0.0 ps old new at_old at_new).0 at_old, at_new)

-- and all four bases are addresses
pub ranges : (h : Source) (old new : Bases) → Allows (ruling_of h old new)
    → ((old.main ≤ 65535) × (old.zero ≤ 65535)) × ((new.main ≤ 65535) × (new.zero ≤ 65535))
ranges h old new a =
    let ps = pieces_of (ruling_of h old new) in
    let x = both h old new ps (allows_is (ruling_of h old new) a) in
    (range_at h ps old x.0, range_at h ps new x.1)

-- ---- what an outcome says of the ruling

-- an acceptance is of a move that is allowed
pub accepted_allows : (b : Bases) (o : Ran (Verdict Outline)) (v : Ruling) {start : Option ℕ} {i j k l : ℕ} → outcome_by b o v ≡ acceptance start i j k l
    → Allows v
accepted_allows b o (allows ps) e = tt
accepted_allows b o (refuses fault at side) e = absurd (false≢true (sym (ap is_refused e)))

-- a refusal leaves memory, and the map clear, where what is allowed is accepted at the new bases
pub refused_leaves : (o : Ran (Verdict Outline)) (old new : Bases) (m : List ℕ) (v : Ruling)
    → ((ps : List Outline) → v ≡ allows ps → is_refused (reported new o).answer ≡ false)
    → is_refused (outcome_by new o v) ≡ true
    → (memory_by old new v m ≡ m) × (map_by o v ≡ blank)
refused_leaves o old new m (allows ps) h e = absurd (false≢true (sym (h ps refl) ∙ e))
refused_leaves o old new m (refuses fault at side) h e = (refl, refl)

-- ---- a call that is allowed

-- the buffers have their lengths
held : (t : Bool) (r : Ruling) (ps : List Outline) → need beforehand t WrongBuffer 0 r ≡ allows ps → (t ≡ true) × (r ≡ allows ps)
unfolding need
held true r ps e = (refl, e)
held false r ps e = absurd (subst Allows (sym e) tt)

-- What a call finds that may move the pieces ps.
pub record Allowed (c : Call) (m : List ℕ) (ps : List Outline) : Type 0 where
  pub buffers : sized c m ≡ true
  pub old : AcceptedAt c.source ps c.old
  pub new : AcceptedAt c.source ps c.new

-- a call that may move them finds so
pub ruling_allows : (c : Call) (m : List ℕ) (ps : List Outline) → ruling c m ≡ allows ps → Allowed c m ps
unfolding ruling
ruling_allows c m ps e =
    let x = held (sized c m) (ruling_of c.source c.old c.new) ps e in
    let y = both c.source c.old c.new ps x.1 in
    record { buffers = x.0; old = y.0; new = y.1 }

-- and a call that finds so may move them
pub allows_ruling : (c : Call) (m : List ℕ) (ps : List Outline) → Allowed c m ps → ruling c m ≡ allows ps
unfolding ruling need
allows_ruling c m ps x =
    ap (λ (t : Bool). need beforehand t WrongBuffer 0 (ruling_of c.source c.old c.new)) x.buffers
    ∙ ap (λ (v : Verdict Outline). sides v (judged_at c.source c.new).answer) (found c.source ps c.old x.old).judged
    ∙ ap (λ (v : Verdict Outline). sides (accepted ps x.old.entry) v) (found c.source ps c.new x.new).judged

-- the one move of a handler that is accepted at both bases
pub one_allowed : (h : Source) → Bytes h.bytes → (ps : List Outline) (a z : Bases) (m : List ℕ) → length m ≡ 65536 → AcceptedAt h ps a → AcceptedAt h ps z
    → (c : Call) → OneMove h a z c → Allowed c m ps
one_allowed h y ps a z m n i k c o =
    record {
      buffers = rw (eq-eqb _ _ n, eq-eqb _ _ o.map, eq-eqb _ _ o.scratch, o.answer) refl;
      old = rw o.old (stands_back o.by y ps a i).0;
      new = rw o.new (stands_back o.by y ps z k).0;
    }

-- ---- what it leaves and reports

module _ (c : Call) (m : List ℕ) (ps : List Outline) (x : Allowed c m ps) where
  -- the pieces moved
  pub memory_moved : memory_after c m ≡ moved c.old c.new ps m
  unfolding memory_after
  memory_moved = ap (λ (r : Ruling). memory_by c.old c.new r m) (allows_ruling c m ps x)

  -- the report of the pieces at the new bases
  pub report_is : report_of c m ≡ report_for c.new ps x.new.entry
  unfolding outcome_of map_after pick
  report_is = rw (allows_ruling c m ps x, x.buffers) refl ∙ report_at_lem c.source ps c.new x.new

-- a call that was accepted may move its pieces
pub accepted_allowed : (c : Call) (m : List ℕ) {start : Option ℕ} {i j k l : ℕ} → outcome_of c m ≡ acceptance start i j k l → Allowed c m (pieces_of (ruling c m))
unfolding outcome_of
accepted_allowed c m e =
    let v = ruling c m in
    ruling_allows c m (pieces_of v) (allows_is v (accepted_allows c.new (judged_at c.source c.new) v e))

-- a call that was refused leaves memory, and would leave the map clear
pub refused_call : (c : Call) (m : List ℕ) {fault : Fault} {at side : ℕ} → outcome_of c m ≡ refusal fault at side
    → (memory_after c m ≡ m) × (map_by (judged_at c.source c.new) (ruling c m) ≡ blank)
unfolding outcome_of memory_after
refused_call c m e =
    refused_leaves (judged_at c.source c.new) c.old c.new m (ruling c m)
    (λ ps h. reports_accepted c.source ps c.new (ruling_allows c m ps h).new) (ap is_refused e)
