-- One turn of the walk over the records: where it leads, that it moves on, and what it does.
-- Assumes nothing.
use mathlib.Core.List.{List, [], ◌∷◌, ◌++◌, append_assoc}
use mathlib.Core.Path.{◌≡◌, refl, sym, ap, ◌∙◌}
use Prim.Native.Nat.{ℕ, ◌+◌, ◌≤◌, ◌<◌}
use native.Mathlib.Omega.{arith}
use lib.ListN.{length}
use Rattle.std.proofs.Common.{Ok, Err}
use Rattle.records.specs.Records.{Read}
use Rattle.answer.specs.declared.Fault.{Fault}
use Rattle.events.proofs.Checks.{passed_is}
use Rattle.events.proofs.Traces.{Led, BySteps}
use Rattle.events.proofs.Walks.{ends_leads, leads_same, ends_same}
use Rattle.events.specs.Events.{Event, place, marks, blank, Ran, Check}
use Rattle.events.specs.Walk.{ends, leads, bytes_left}
use Rattle.records.proofs.Reading.{AfterCode, lies_as, fixups_after}
use Rattle.fields.specs.Fields.{item_size, fields_of}
use Rattle.fields.specs.declared.Field.{Field}
use Rattle.fields.specs.declared.Fixup.{Fixup}
use Rattle.records.specs.declared.Entry.{Entry}
use Rattle.records.specs.declared.Kind.{Kind}
use Rattle.records.specs.declared.Record.TheVariants.{Code, Fixups, End}
use Rattle.words.specs.Runs.{part}
use Rattle.pieces.proofs.Applying.{ending_none, ending_passed}
use Rattle.pieces.proofs.Checks.{placing_passed, adjusting_all}
use Rattle.pieces.proofs.PieceEvents.{adjustments_append, events_code}
use Rattle.pieces.specs.AtBases.{placing, adjusting, ending, applied}
use Rattle.pieces.specs.Pieces.{Piece, outline, place_at, place_of, limit_of, adjustments, events}
use Rattle.acx.specs.Rules.{Onward, EndRecord}
use Rattle.acx.specs.Walk.{Verdict, accepted, refused, Progress, last_of, last_place, last_size, record_at, checked, with_fields, stepped, judge, turn}
use Rattle.pieces.specs.declared.Bases.{Bases}

-- ---- verdicts told apart

-- a refusal is no acceptance
pub refused_accepted : {P : Type 0} {fault : Fault} {at : ℕ} {ps : List P} {entry : Entry} → refused fault at ≡ accepted ps entry → ⊥
refused_accepted e = let n : ◌≡◌ {A = ℕ} 0 1 = cc in omega arith

-- a verdict has one list of pieces, and one entry
pub accepted_same : {P : Type 0} {ps qs : List P} {entry other : Entry} → accepted ps entry ≡ accepted qs other → (ps ≡ qs) × (entry ≡ other)
accepted_same e = (cc, cc)

-- what is said of one refusal is said of the same
pub as_refused : {P : Type 0} (Q : Fault → ℕ → Type 0) {f g : Fault} {i j : ℕ} → Q f i → ◌≡◌ {A = Verdict P} (refused f i) (refused g j) → Q g j
as_refused Q {f} {g} {i} {j} h e =
    let k : f ≡ g = cc in
    let l : i ≡ j = cc in
    rw (← k, ← l) h

-- ---- where a record leads

-- the next record begins further on, in the file or at its end
pub further : (file : List ℕ) (s : Progress) (r : Read) → record_at file s ≡ r → Onward r
    → (s.at + 2 ≤ (stepped file s r).at) × ((stepped file s r).at ≤ length file)
further file s (Ok (Code kind address from n)) e o = let w = lies_as file s.at (last_of s.pieces) _ e in (omega (arith, w.0), w.1)
further file s (Ok (Fixups fixup from n)) e o = let w = lies_as file s.at (last_of s.pieces) _ e in (omega (arith, w.0), w.1)
further file s (Ok (End entry next)) e o = absurd o
further file s (Err f) e o = absurd o

module _ (file : List ℕ) (b : Bases) (s : Progress) (map : List ℕ) where
  -- what a record of each kind comes to
  checked_code : (kind : Kind) (address from n : ℕ) → record_at file s ≡ Ok (Code kind address from n)
      → checked file b s map ≡ placing (s.at + 2) (place_at b kind address) (limit_of kind) (part file from n) map
  unfolding checked applied
  checked_code kind address from n e = rw e refl

  pub checked_fixups : (fixup : Fixup) (from n : ℕ) → record_at file s ≡ Ok (Fixups fixup from n)
      → checked file b s map
      ≡ adjusting from (item_size fixup) b (last_place b s.pieces) (last_size s.pieces) (fields_of fixup (part file from n)) map
  unfolding checked applied
  checked_fixups fixup from n e = rw e refl

  checked_end : (entry : Entry) (next : ℕ) → record_at file s ≡ Ok (End entry next)
      → checked file b s map ≡ ending (s.at + 2) b entry next (length file)
  unfolding checked applied
  checked_end entry next e = rw e refl

  -- a turn does what its record does
  pub turn_events : (turn file b s map).events ≡ (checked file b s map).events
  unfolding turn
  turn_events = refl

  -- and comes to what its check and its record say
  pub turn_is : (c : Check) (r : Read) → (checked file b s map).answer ≡ c → record_at file s ≡ r → (turn file b s map).answer ≡ judge file b s c r
  unfolding turn
  turn_is c r e f = ap (λ (k : Check). judge file b s k (record_at file s)) e ∙ ap (judge file b s c) f

  -- a record that passed and is not the last leads on
  pub turn_on : (r : Read) → record_at file s ≡ r → Onward r → (checked file b s map).answer ≡ Ok tt
      → (turn file b s map).answer ≡ leads (stepped file s r)
  turn_on r e o c = turn_is (Ok tt) r c e ∙ goes r o
    where
      goes : (r : Read) → Onward r → judge file b s (Ok tt) r ≡ leads (stepped file s r)
      goes (Ok (Code kind address from n)) o = refl
      goes (Ok (Fixups fixup from n)) o = refl
      goes (Ok (End entry next)) o = absurd o
      goes (Err f) o = absurd o

  -- and nothing else does
  pub turn_led : (z : Progress) → (turn file b s map).answer ≡ leads z → Led Onward (record_at file) (checked file b) (stepped file) s map z
  turn_led z e = by (checked file b s map).answer (record_at file s) refl refl (sym (turn_is _ _ refl refl) ∙ e)
    where
      by : (c : Check) (r : Read) → (checked file b s map).answer ≡ c → record_at file s ≡ r → judge file b s c r ≡ leads z
          → Led Onward (record_at file) (checked file b) (stepped file) s map z
      by (Err f) r c i e = absurd (ends_leads e)
      by (Ok done) (Ok (Code kind address from n)) c i e = record { found = _; is = i; on = tt; passed = c; to = leads_same e }
      by (Ok done) (Ok (Fixups fixup from n)) c i e = record { found = _; is = i; on = tt; passed = c; to = leads_same e }
      by (Ok done) (Ok (End entry next)) c i e = absurd (ends_leads e)
      by (Ok done) (Err f) c i e = absurd (ends_leads e)

  -- the end record does nothing
  pub end_none : (entry : Entry) (next : ℕ) → record_at file s ≡ Ok (End entry next) → (checked file b s map).events ≡ []
  end_none entry next e = ap (λ (o : Ran Check). o.events) (checked_end entry next e) ∙ ending_none (s.at + 2) b entry next (length file)

  -- it answers as the end is checked
  pub end_answers : (entry : Entry) (next : ℕ) → record_at file s ≡ Ok (End entry next) → {v : Check} → (checked file b s map).answer ≡ v
      → (ending (s.at + 2) b entry next (length file)).answer ≡ v
  end_answers entry next e c = ap (λ (o : Ran Check). o.answer) (sym (checked_end entry next e)) ∙ c

  -- and where it passes it ends the file
  end_ends : (entry : Entry) (next : ℕ) → record_at file s ≡ Ok (End entry next) → (checked file b s map).answer ≡ Ok tt → next ≡ length file
  end_ends entry next e c =
      let w = lies_as file s.at (last_of s.pieces) _ e in
      omega (arith, w.1, (ending_passed (s.at + 2) b entry next (length file) (end_answers entry next e c)).1)

module _ (file : List ℕ) (b : Bases) (s : Progress) (es : List Event) where
  abbrev map : List ℕ
  map = marks es blank

  -- a turn accepts a file at its end record alone, with the pieces so far
  pub turn_accepted : (ps : List Piece) (entry : Entry) → (turn file b s map).answer ≡ ends (accepted ps entry) → EndRecord file b s es ps entry
  turn_accepted ps entry e = by (checked file b s map).answer (record_at file s) refl refl (sym (turn_is file b s map _ _ refl refl) ∙ e)
    where
      by : (c : Check) (r : Read) → (checked file b s map).answer ≡ c → record_at file s ≡ r → judge file b s c r ≡ ends (accepted ps entry)
          → EndRecord file b s es ps entry
      by (Err f) r c i e = absurd (refused_accepted (ends_same e))
      by (Ok done) (Ok (Code kind address from n)) c i e = absurd (ends_leads (sym e))
      by (Ok done) (Ok (Fixups fixup from n)) c i e = absurd (ends_leads (sym e))
      by (Ok done) (Ok (End other next)) c i e =
          let v = accepted_same (ends_same e) in
          record {
            is = i ∙ ap (λ (n : ℕ). Ok (End other n)) (end_ends file b s map other next i c) ∙ ap (λ (t : Entry). Ok (End t (length file))) v.1;
            passes = passed_is (checked file b s map) c (end_none file b s map other next i);
            pieces = sym v.0;
          }
      by (Ok done) (Err f) c i e = absurd (refused_accepted (ends_same e))

  -- and at every end record that passes and ends the file
  pub turn_accepts : (ps : List Piece) (entry : Entry) → EndRecord file b s es ps entry → (turn file b s map).answer ≡ ends (accepted ps entry)
  turn_accepts ps entry h =
      turn_is file b s map (Ok tt) _ (ap (λ (o : Ran Check). o.answer) h.passes) h.is
      ∙ ap (λ (qs : List Piece). ends (accepted qs entry)) (sym h.pieces)

-- so the turns go by steps
pub by_steps : (file : List ℕ) (b : Bases) → BySteps Onward (record_at file) (checked file b) (stepped file) (turn file b)
by_steps file b = record { does = turn_events file b; on = turn_on file b; led = turn_led file b }

-- each turn that leads on leaves fewer bytes
pub turn_falls : (file : List ℕ) (b : Bases) (s z : Progress) (map : List ℕ) → (turn file b s map).answer ≡ leads z
    → bytes_left file z.at < bytes_left file s.at
turn_falls file b s z map e =
    let l = turn_led file b s map z e in
    let h = further file s l.found l.is l.on in
    omega (arith, h.0, h.1, ap (λ (y : Progress). y.at) l.to)

-- ---- code and fixups

module _ (file : List ℕ) (b : Bases) (s : Progress) (map : List ℕ) where
  -- code answers as it is placed
  pub code_answers : (kind : Kind) (address from n : ℕ) → record_at file s ≡ Ok (Code kind address from n) → {v : Check} → (checked file b s map).answer ≡ v
      → (placing (s.at + 2) (place_at b kind address) (limit_of kind) (part file from n) map).answer ≡ v
  code_answers kind address from n e c = ap (λ (o : Ran Check). o.answer) (sym (checked_code file b s map kind address from n e)) ∙ c

  -- each field lay in the last code and met none before it
  pub fixups_passed : (fixup : Fixup) (from n : ℕ) → record_at file s ≡ Ok (Fixups fixup from n) → (checked file b s map).answer ≡ Ok tt
      → (adjusting from (item_size fixup) b (last_place b s.pieces) (last_size s.pieces) (fields_of fixup (part file from n)) map).answer ≡ Ok tt
  fixups_passed fixup from n e c = ap (λ (o : Ran Check). o.answer) (sym (checked_fixups file b s map fixup from n e)) ∙ c

-- fields more: they are adjusted
events_fields : (b : Bases) (fs : List Field) (p : Piece) (ps : List Piece)
    → events b (with_fields fs (p ∷ ps)) ≡ events b (p ∷ ps) ++ adjustments b (place_of b (outline p)) fs
unfolding events
events_fields b fs p ps =
    ap (λ (es : List Event). events b ps ++ (place (place_of b (outline p)) p.code ∷ es)) (adjustments_append b (place_of b (outline p)) p.fields fs)
    ∙ sym (append_assoc (events b ps) (place (place_of b (outline p)) p.code ∷ adjustments b (place_of b (outline p)) p.fields) (adjustments b (place_of b (outline p)) fs))

-- fixups stand after a piece
pub fields_events : (b : Bases) (fs : List Field) (ps : List Piece) → AfterCode (last_of ps)
    → events b (with_fields fs ps) ≡ events b ps ++ adjustments b (last_place b ps) fs
fields_events b fs [] m = absurd m
fields_events b fs (p ∷ ps) m = events_fields b fs p ps

-- the events of the pieces after a record are those before it and the record's own
pub events_after : (file : List ℕ) (b : Bases) (s : Progress) (map : List ℕ) (r : Read) → record_at file s ≡ r → Onward r
    → (checked file b s map).answer ≡ Ok tt
    → events b (stepped file s r).pieces ≡ events b s.pieces ++ (checked file b s map).events
events_after file b s map (Ok (Code kind address from n)) e o c =
    let p : Piece = record { kind = kind; address = address; code = part file from n; fields = [] } in
    events_code b p s.pieces refl
    ∙ ap (λ (es : List Event). events b s.pieces ++ es)
    (sym (ap (λ (o : Ran Check). o.events) (checked_code file b s map kind address from n e) ∙ (placing_passed _ _ _ _ _ (code_answers file b s map kind address from n e c)).2))
events_after file b s map (Ok (Fixups fixup from n)) e o c =
    fields_events b (fields_of fixup (part file from n)) s.pieces (fixups_after file s.at (last_of s.pieces) fixup from n e)
    ∙ ap (λ (es : List Event). events b s.pieces ++ es)
    (sym (ap (λ (o : Ran Check). o.events) (checked_fixups file b s map fixup from n e) ∙ adjusting_all _ _ b _ _ _ _ (fixups_passed file b s map fixup from n e c)))
events_after file b s map (Ok (End entry next)) e o c = absurd o
events_after file b s map (Err f) e o c = absurd o
