-- The walk through an index: what every entry keeps holds of an accepted index, and its events are those of its outlines.
-- Assumes nothing.
use mathlib.Core.Bool.{Bool, true, false}
use mathlib.Core.List.{List, [], ◌++◌, map, append-nil}
use mathlib.Core.Path.{◌≡◌, refl, sym, ap, ◌∙◌}
use Prim.Native.Nat.{ℕ, ◌≤◌}
use borrow.Author.Tests.{leb-true, eqb-true}
use lib.ListN.{length, get_or}
use Rattle.entries.specs.Entries.{Read}
use Rattle.std.proofs.Common.{Ok}
use Rattle.acx.proofs.Turning.{refused_accepted}
use Rattle.acx.specs.Call.{in_range}
use Rattle.acx.specs.Walk.{Verdict, accepted, refused, at_once}
use Rattle.answer.specs.Checks.{need}
use Rattle.answer.specs.declared.Fault.{Fault}
use Rattle.answer.specs.declared.Fault.TheVariants.{CutShort}
use Rattle.entries.specs.Bytes.{version}
use Rattle.events.proofs.Traces.{steps_keep}
use Rattle.events.specs.Events.{Event, marks, blank, Ran}
use Rattle.events.specs.Walk.{ends, bytes_left}
use Rattle.pieces.specs.Pieces.{Outline, events}
use Rattle.pieces.specs.declared.Bases.{Bases}
use Rattle.records.specs.declared.Entry.{Entry}
use Rattle.index.proofs.Hollow.{hollow}
use Rattle.index.proofs.Turning.{further, turn_events, end_none, turn_accepted, by_steps, turn_falls, events_after}
use Rattle.index.specs.Rules.{Onward, EndEntry}
use Rattle.index.specs.Walk.{Progress, begun, entry_at, checked, stepped, turn, entries_from, judged, formless, indexed}

-- ---- before the entries

-- what is accepted passed a check before it, and the rest decides
need_accepted : {os : List Outline} {entry : Entry} (c : Bool) (fault : Fault) (offset : ℕ) (o : Ran (Verdict Outline))
    → (need at_once c fault offset o).answer ≡ accepted os entry
    → (c ≡ true) × (need at_once c fault offset o ≡ o) × (o.answer ≡ accepted os entry)
unfolding need
need_accepted true fault offset o e = (refl, refl, e)
need_accepted false fault offset o e = absurd (refused_accepted e)

-- an index whose version is right, and its entries decide
pub record Opens (index : List ℕ) (b : Bases) : Type 0 where
  pub there : 1 ≤ length index
  pub versioned : get_or index 0 0 ≡ version
  pub by_entries : judged index b ≡ entries_from index b begun blank

-- so is an accepted index
pub judged_opens : (index : List ℕ) (b : Bases) (os : List Outline) (entry : Entry) → (judged index b).answer ≡ accepted os entry → Opens index b
unfolding judged
judged_opens index b os entry e =
    let x = need_accepted _ _ _ _ e in
    let y = need_accepted _ _ _ _ x.2 in
    record { there = leb-true _ _ x.0; versioned = eqb-true _ _ y.0; by_entries = x.1 ∙ y.1 }

-- its settings are in range and it is not too long, and it decides
pub record Admitted (b : Bases) (index : List ℕ) : Type 0 where
  pub range : in_range formless b ≡ true
  pub fits : length index ≤ 65536
  pub by_index : indexed b index ≡ judged index b

pub index_admitted : (b : Bases) (index : List ℕ) (os : List Outline) (entry : Entry) → (indexed b index).answer ≡ accepted os entry → Admitted b index
unfolding indexed
index_admitted b index os entry e =
    let x = need_accepted _ _ _ _ e in
    let y = need_accepted _ _ _ _ x.2 in
    record { range = x.0; fits = leb-true _ _ y.0; by_index = x.1 ∙ y.1 }

-- ---- what every entry keeps

-- the next entry passes its checks over the map of the outlines so far
abbrev pub Passes : List ℕ → Bases → Progress → Type 0
Passes index b s = (checked index b s (marks (events b (map hollow s.outlines)) blank)).answer ≡ Ok tt

-- an index ended at an end entry, after outlines of which P holds, and its events are those of the outlines
pub record EndedAt (P : Progress → Type 0) (index : List ℕ) (b : Bases) (os : List Outline) (entry : Entry) (es : List Event) : Type 0 where
  pub last : Progress
  pub inside : last.at ≤ length index
  pub held : P last
  pub end : EndEntry index b last (events b (map hollow last.outlines)) os entry
  pub events : es ≡ events b (map hollow os)

module _ (index : List ℕ) (b : Bases) (P : Progress → Type 0)
    (keeps : (s : Progress) (e : Read) → P s → entry_at index s ≡ e → Onward e → Passes index b s → P (stepped index s e)) where
  -- the whole index: what holds before its entries holds at its end
  pub accepted_keeps : (os : List Outline) (entry : Entry) → P begun → (judged index b).answer ≡ accepted os entry
      → EndedAt P index b os entry (judged index b).events
  unfolding entries_from events
  accepted_keeps os entry h e =
      let o = judged_opens index b os entry e in
      let x = steps_keep (by_steps index b) (λ z. refused CutShort z.at) (λ z. bytes_left index z.at) (turn_falls index b) begun
      (λ s. events b (map hollow s.outlines)) (events_after index b) (λ s. (s.at ≤ length index) × P s)
      (λ s r k is on ok. ((further index s r is on).1, keeps s r k.1 is on ok)) refl (o.there, h) in
      let p = marks x.before blank in
      let t = turn_accepted index b x.state x.before os entry (x.answer ∙ ap (λ q. ends q.answer) (sym o.by_entries) ∙ ap ends e) in
      let none : (turn index b x.state p).events ≡ [] = turn_events index b x.state p ∙ end_none index b x.state p _ _ t.is in
      let same = x.held.same in
      record {
        last = x.state;
        inside = x.held.held.0;
        held = x.held.held.1;
        end = rw same at t;
        events =
            ap (λ (q : Ran (Verdict Outline)). q.events) o.by_entries
            ∙ x.events
            ∙ ap (λ (fs : List Event). x.before ++ fs) none
            ∙ append-nil x.before
            ∙ same
            ∙ ap (λ (qs : List Outline). events b (map hollow qs)) (sym t.outlines);
      }
