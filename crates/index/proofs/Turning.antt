-- One turn of the walk over the entries: where it leads, that it moves on, and what it does.
-- Assumes nothing.
use mathlib.Core.List.{List, [], ◌++◌, map}
use mathlib.Core.Path.{◌≡◌, refl, sym, ap, ◌∙◌}
use Prim.Native.Nat.{ℕ, ◌+◌, ◌≤◌, ◌<◌}
use native.Mathlib.Omega.{arith}
use lib.ListN.{length}
use Rattle.entries.specs.Entries.{Read}
use Rattle.std.proofs.Common.{Ok, Err}
use Rattle.acx.proofs.Turning.{refused_accepted, accepted_same}
use Rattle.acx.specs.Walk.{accepted}
use Rattle.entries.proofs.Reading.{Where, lies_as}
use Rattle.entries.specs.declared.IndexEntry.{IndexEntry}
use Rattle.entries.specs.declared.IndexEntry.TheVariants.{Code, End}
use Rattle.events.proofs.Checks.{passed_is}
use Rattle.events.proofs.Traces.{Led, BySteps}
use Rattle.events.proofs.Walks.{ends_leads, leads_same, ends_same}
use Rattle.events.specs.Events.{Event, marks, blank, Ran, Check}
use Rattle.events.specs.Walk.{ends, leads, bytes_left}
use Rattle.pieces.proofs.Applying.{ending_none, ending_passed}
use Rattle.pieces.specs.AtBases.{ending}
use Rattle.pieces.specs.Pieces.{Outline, events}
use Rattle.pieces.specs.declared.Bases.{Bases}
use Rattle.records.specs.declared.Entry.{Entry}
use Rattle.records.specs.declared.Kind.{Kind}
use Rattle.words.specs.Runs.{part}
use Rattle.index.proofs.Coding.{CodePassed, code_passed}
use Rattle.index.proofs.Hollow.{hollow}
use Rattle.index.specs.Cursor.{Lies}
use Rattle.index.specs.Rules.{Onward, EndEntry}
use Rattle.index.specs.Walk.{coding, applied, Progress, entry_at, checked, stepped, judge, turn}

-- ---- where an entry leads

-- the next entry begins further on, in the index or at its end
pub further : (index : List ℕ) (s : Progress) (e : Read) → entry_at index s ≡ e → Onward e
    → (s.at + 6 ≤ (stepped index s e).at) × ((stepped index s e).at ≤ length index)
further index s (Ok (Code kind address n from count)) is o = let w = lies_as index s.at _ is in (omega (arith, w.0), w.1)
further index s (Ok (End entry next)) is o = absurd o
further index s (Err fault) is o = absurd o

-- an entry that is read lies below whatever the index does
pub entry_lies : (index : List ℕ) (at limit : ℕ) (e : IndexEntry) → Where (length index) at (Ok e) → length index ≤ limit → Lies limit e
entry_lies index at limit (Code kind address n from count) w l = (omega (arith, w.1, l), w.2, w.3)
entry_lies index at limit (End entry next) w l = omega (arith, w.1, l)

module _ (index : List ℕ) (b : Bases) (s : Progress) (map : List ℕ) where
  -- what an entry of each kind comes to
  pub checked_code : (kind : Kind) (address n from count : ℕ) → entry_at index s ≡ Ok (Code kind address n from count)
      → checked index b s map ≡ coding s.at b kind address n (part index from count) map
  unfolding checked applied
  checked_code kind address n from count e = rw e refl

  pub checked_end : (entry : Entry) (next : ℕ) → entry_at index s ≡ Ok (End entry next) → checked index b s map ≡ ending s.at b entry next (length index)
  unfolding checked applied
  checked_end entry next e = rw e refl

  -- a turn does what its entry does
  pub turn_events : (turn index b s map).events ≡ (checked index b s map).events
  unfolding turn
  turn_events = refl

  -- and comes to what its check and its entry say
  pub turn_is : (c : Check) (e : Read) → (checked index b s map).answer ≡ c → entry_at index s ≡ e → (turn index b s map).answer ≡ judge index s c e
  unfolding turn
  turn_is c e h is = ap (λ (k : Check). judge index s k (entry_at index s)) h ∙ ap (judge index s c) is

  -- a code entry that passed leads on
  pub turn_on : (e : Read) → entry_at index s ≡ e → Onward e → (checked index b s map).answer ≡ Ok tt
      → (turn index b s map).answer ≡ leads (stepped index s e)
  turn_on e is o c = turn_is (Ok tt) e c is ∙ goes e o
    where
      goes : (e : Read) → Onward e → judge index s (Ok tt) e ≡ leads (stepped index s e)
      goes (Ok (Code kind address n from count)) o = refl
      goes (Ok (End entry next)) o = absurd o
      goes (Err fault) o = absurd o

  -- and nothing else does
  pub turn_led : (z : Progress) → (turn index b s map).answer ≡ leads z → Led Onward (entry_at index) (checked index b) (stepped index) s map z
  turn_led z e = by (checked index b s map).answer (entry_at index s) refl refl (sym (turn_is _ _ refl refl) ∙ e)
    where
      by : (c : Check) (e : Read) → (checked index b s map).answer ≡ c → entry_at index s ≡ e → judge index s c e ≡ leads z
          → Led Onward (entry_at index) (checked index b) (stepped index) s map z
      by (Err f) e c i l = absurd (ends_leads l)
      by (Ok done) (Ok (Code kind address n from count)) c i l = record { found = _; is = i; on = tt; passed = c; to = leads_same l }
      by (Ok done) (Ok (End entry next)) c i l = absurd (ends_leads l)
      by (Ok done) (Err fault) c i l = absurd (ends_leads l)

  -- the end entry does nothing
  pub end_none : (entry : Entry) (next : ℕ) → entry_at index s ≡ Ok (End entry next) → (checked index b s map).events ≡ []
  end_none entry next e = ap (λ (o : Ran Check). o.events) (checked_end entry next e) ∙ ending_none s.at b entry next (length index)

  -- it answers as the end is checked
  pub end_answers : (entry : Entry) (next : ℕ) → entry_at index s ≡ Ok (End entry next) → {v : Check} → (checked index b s map).answer ≡ v
      → (ending s.at b entry next (length index)).answer ≡ v
  end_answers entry next e c = ap (λ (o : Ran Check). o.answer) (sym (checked_end entry next e)) ∙ c

  -- and where it passes it ends the index
  pub end_ends : (entry : Entry) (next : ℕ) → entry_at index s ≡ Ok (End entry next) → (checked index b s map).answer ≡ Ok tt → next ≡ length index
  end_ends entry next e c =
      let w = lies_as index s.at _ e in
      omega (arith, w.1, (ending_passed s.at b entry next (length index) (end_answers entry next e c)).1)

  -- a code entry that passed: its code was placed, and all its fixups adjusted
  pub passed_code : (kind : Kind) (address n from count : ℕ) → entry_at index s ≡ Ok (Code kind address n from count) → (checked index b s map).answer ≡ Ok tt
      → CodePassed s.at b kind address n (part index from count) map
  passed_code kind address n from count e c =
      code_passed s.at b kind address n (part index from count) map
      (ap (λ (o : Ran Check). o.answer) (sym (checked_code kind address n from count e)) ∙ c)

module _ (index : List ℕ) (b : Bases) (s : Progress) (es : List Event) where
  abbrev left : List ℕ
  left = marks es blank

  -- a turn accepts an index at its end entry alone, with the outlines so far
  pub turn_accepted : (os : List Outline) (entry : Entry) → (turn index b s left).answer ≡ ends (accepted os entry) → EndEntry index b s es os entry
  turn_accepted os entry h = by (checked index b s left).answer (entry_at index s) refl refl (sym (turn_is index b s left _ _ refl refl) ∙ h)
    where
      by : (c : Check) (e : Read) → (checked index b s left).answer ≡ c → entry_at index s ≡ e → judge index s c e ≡ ends (accepted os entry)
          → EndEntry index b s es os entry
      by (Err f) e c i h = absurd (refused_accepted (ends_same h))
      by (Ok done) (Ok (Code kind address n from count)) c i h = absurd (ends_leads (sym h))
      by (Ok done) (Ok (End other next)) c i h =
          let v = accepted_same (ends_same h) in
          record {
            is = i ∙ ap (λ (n : ℕ). Ok (End other n)) (end_ends index b s left other next i c) ∙ ap (λ (t : Entry). Ok (End t (length index))) v.1;
            passes = passed_is (checked index b s left) c (end_none index b s left other next i);
            outlines = sym v.0;
          }
      by (Ok done) (Err fault) c i h = absurd (refused_accepted (ends_same h))

  -- and at every end entry that passes and ends the index
  pub turn_accepts : (os : List Outline) (entry : Entry) → EndEntry index b s es os entry → (turn index b s left).answer ≡ ends (accepted os entry)
  turn_accepts os entry h =
      turn_is index b s left (Ok tt) _ (ap (λ (o : Ran Check). o.answer) h.passes) h.is
      ∙ ap (λ (qs : List Outline). ends (accepted qs entry)) (sym h.outlines)

-- so the turns go by steps
pub by_steps : (index : List ℕ) (b : Bases) → BySteps Onward (entry_at index) (checked index b) (stepped index) (turn index b)
by_steps index b = record { does = turn_events index b; on = turn_on index b; led = turn_led index b }

-- each turn that leads on leaves fewer bytes
pub turn_falls : (index : List ℕ) (b : Bases) (s z : Progress) (map : List ℕ) → (turn index b s map).answer ≡ leads z
    → bytes_left index z.at < bytes_left index s.at
turn_falls index b s z map e =
    let l = turn_led index b s map z e in
    let h = further index s l.found l.is l.on in
    omega (arith, h.0, h.1, ap (λ (y : Progress). y.at) l.to)

-- the events of the outlines after an entry are those before it and the entry's own
pub events_after : (index : List ℕ) (b : Bases) (s : Progress) (m : List ℕ) (e : Read) → entry_at index s ≡ e → Onward e
    → (checked index b s m).answer ≡ Ok tt
    → events b (map hollow (stepped index s e).outlines) ≡ events b (map hollow s.outlines) ++ (checked index b s m).events
unfolding events
events_after index b s m (Ok (Code kind address n from count)) is o c =
    ap (λ (es : List Event). events b (map hollow s.outlines) ++ es)
    (sym
    (ap (λ (o : Ran Check). o.events) (checked_code index b s m kind address n from count is)
    ∙ (passed_code index b s m kind address n from count is c).events))
events_after index b s m (Ok (End entry next)) is o c = absurd o
events_after index b s m (Err fault) is o c = absurd o
