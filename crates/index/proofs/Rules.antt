-- The definition accepts exactly the indexes that follow the rules, and refuses exactly where they are broken: specs/Rules.antt.
-- Assumes nothing.
use mathlib.Core.Bool.{Bool, true, false}
use mathlib.Core.List.{List}
use mathlib.Core.Path.{◌≡◌, refl, sym, ap, ◌∙◌, subst}
use Prim.Native.Nat.{ℕ, ◌≤◌, ◌<◌}
use native.Mathlib.Omega.{arith}
use borrow.Author.Tests.{leb-true, leb-false, le-leb, lt-leb, eqb-true, eqb-false, eq-eqb, ne_eqb}
use lib.Dec.{leb, eqb}
use lib.ListN.{length, get_or}
use Rattle.entries.specs.Entries.{Read}
use Rattle.std.proofs.Common.{Ok, Err}
use Rattle.acx.proofs.Turning.{refused_accepted, as_refused}
use Rattle.acx.specs.Call.{in_range}
use Rattle.acx.specs.Walk.{Verdict, accepted, refused, at_once}
use Rattle.answer.specs.Checks.{need, failure}
use Rattle.answer.specs.declared.Fault.{Fault}
use Rattle.answer.specs.declared.Fault.TheVariants.{SettingOutOfRange, FileTooLong, CutShort, WrongVersion}
use Rattle.entries.specs.Bytes.{version}
use Rattle.entries.specs.declared.IndexEntry.TheVariants.{Code, End}
use Rattle.events.proofs.Checks.{failed_passed}
use Rattle.events.proofs.Traces.{steps_traced, trace_answers}
use Rattle.events.proofs.Walks.{ends_leads, ends_same, EndsAt}
use Rattle.events.specs.Events.{Event, marks, blank, Ran, Check}
use Rattle.events.specs.Trace.{Trace}
use Rattle.events.specs.Walk.{ends}
use Rattle.pieces.specs.Pieces.{Outline}
use Rattle.pieces.specs.declared.Bases.{Bases}
use Rattle.records.specs.declared.Entry.{Entry}
use Rattle.index.proofs.Turning.{turn_is, turn_accepted, turn_accepts, by_steps, turn_falls}
use Rattle.index.proofs.Walking.{judged_opens, index_admitted}
use Rattle.index.specs.Rules.{NextEntry, Follows, Fails, empty, of_version, in_entry, Refuses, out_of_range, too_long, by_index, RulesClaim}
use Rattle.index.specs.Walk.{applied, Progress, begun, entry_at, checked, judge, turn, entries_from, judged, formless, indexed}

-- ---- the entries

module _ (index : List ℕ) (b : Bases) where
  -- they end where their trace does, and the other way round
  entries_traced : EndsAt (turn index b) (Trace (NextEntry index b) begun) blank (entries_from index b begun blank)
  unfolding entries_from
  entries_traced = steps_traced (by_steps index b) _ _ (turn_falls index b) begun

  pub trace_entries : (s : Progress) (es : List Event) (v : Verdict Outline) → Trace (NextEntry index b) begun s es
      → (turn index b s (marks es blank)).answer ≡ ends v
      → (entries_from index b begun blank).answer ≡ v
  unfolding entries_from
  trace_entries = trace_answers (by_steps index b) _ _ (turn_falls index b) begun

-- ---- the index

module _ (index : List ℕ) (b : Bases) where
  -- behind the right version the entries decide
  pub judged_entries : 1 ≤ length index → get_or index 0 0 ≡ version → judged index b ≡ entries_from index b begun blank
  unfolding judged need
  judged_entries h k = rw (le-leb _ _ h, eq-eqb _ _ k) refl

  pub followed : (os : List Outline) (entry : Entry) → (judged index b).answer ≡ accepted os entry → Follows index b os entry
  followed os entry e =
      let o = judged_opens index b os entry e in
      let x = entries_traced index b in
      let v : (entries_from index b begun blank).answer ≡ accepted os entry = ap (λ (q : Ran (Verdict Outline)). q.answer) (sym o.by_entries) ∙ e in
      record {
        there = o.there;
        versioned = o.versioned;
        last = x.state;
        events = x.before;
        entries = x.held;
        end = turn_accepted index b x.state x.before os entry (x.answer ∙ ap ends v);
      }

  pub follows_judged : (os : List Outline) (entry : Entry) → Follows index b os entry → (judged index b).answer ≡ accepted os entry
  follows_judged os entry h =
      ap (λ (q : Ran (Verdict Outline)). q.answer) (judged_entries h.there h.versioned)
      ∙ trace_entries index b h.last h.events (accepted os entry) h.entries (turn_accepts index b h.last h.events os entry h.end)

  -- a turn refuses an index where its entry does not pass, at the entry
  turn_failed : (s : Progress) (es : List Event) (fault : Fault) (at : ℕ) → (turn index b s (marks es blank)).answer ≡ ends (refused fault at)
      → (s.at ≡ at) × (offset : ℕ) × ((checked index b s (marks es blank)).answer ≡ failure fault offset)
  unfolding checked applied
  turn_failed s es fault at e =
      by (checked index b s (marks es blank)).answer (entry_at index s) refl refl (sym (turn_is index b s (marks es blank) _ _ refl refl) ∙ e)
    where
      by : (c : Check) (r : Read) → (checked index b s (marks es blank)).answer ≡ c → entry_at index s ≡ r → judge index s c r ≡ ends (refused fault at)
          → (s.at ≡ at) × (offset : ℕ) × ((checked index b s (marks es blank)).answer ≡ failure fault offset)
      by (Err f) r c j e =
          let v : refused f.fault s.at ≡ refused fault at = ends_same e in
          let g : f.fault ≡ fault = cc in
          let w : ◌≡◌ {A = Check} (Err f) (failure fault f.offset) = ap (λ (k : Fault). failure k f.offset) g in
          let a : s.at ≡ at = cc in
          (a, f.offset, c ∙ w)
      by (Ok done) (Ok (Code kind address n from count)) c i e = absurd (ends_leads (sym e))
      by (Ok done) (Ok (End entry next)) c i e = absurd (refused_accepted (sym (ends_same e)))
      by (Ok done) (Err f) c i e = absurd (failed_passed (rw i at c))

  pub failed : (fault : Fault) (at : ℕ) → (judged index b).answer ≡ refused fault at → Fails index b fault at
  unfolding judged need
  failed fault at e = by (leb 1 (length index)) (eqb (get_or index 0 0) version) refl refl e
    where
      by : (c d : Bool) → leb 1 (length index) ≡ c → eqb (get_or index 0 0) version ≡ d
          → (need at_once c CutShort 0 (need at_once d WrongVersion 0 (entries_from index b begun blank))).answer ≡ refused fault at
          → Fails index b fault at
      by true true h k e =
          let x = entries_traced index b in
          let t = turn_failed x.state x.before fault at (x.answer ∙ ap ends e) in
          subst (Fails index b fault) t.0 (in_entry (leb-true _ _ h) (eqb-true _ _ k) x.held t.2)
      by true false h k e = as_refused (Fails index b) (of_version (leb-true _ _ h) (eqb-false _ _ k)) e
      by false d h k e = let l : length index < 1 = leb-false _ _ h in as_refused (Fails index b) (empty (omega arith)) e

  pub fails_judged : (fault : Fault) (at : ℕ) → Fails index b fault at → (judged index b).answer ≡ refused fault at
  unfolding judged need
  fails_judged fault at (empty h) = rw (lt-leb 1 (length index) (omega arith)) refl
  fails_judged fault at (of_version h k) = rw (le-leb _ _ h, ne_eqb _ _ k) refl
  fails_judged fault at (in_entry {offset = offset} {s = s} {es = es} h k t c) =
      ap (λ (q : Ran (Verdict Outline)). q.answer) (judged_entries h k)
      ∙ trace_entries index b s es (refused fault s.at) t (turn_is index b s (marks es blank) (failure fault offset) _ c refl)

-- ---- with the right buffers

-- where the settings are in range and the index is not too long, it decides
pub indexed_judged : (b : Bases) (index : List ℕ) → in_range formless b ≡ true → length index ≤ 65536 → indexed b index ≡ judged index b
unfolding indexed need
indexed_judged b index h k = rw (h, le-leb _ _ k) refl

module _ (b : Bases) (index : List ℕ) where
  index_refuses : (fault : Fault) (at : ℕ) → Refuses b index fault at → (indexed b index).answer ≡ refused fault at
  unfolding indexed need
  index_refuses fault at (out_of_range h) = rw h refl
  index_refuses fault at (too_long h k) = rw (h, lt-leb _ _ k) refl
  index_refuses fault at (by_index h k f) =
      ap (λ (q : Ran (Verdict Outline)). q.answer) (indexed_judged b index h k) ∙ fails_judged index b fault at f

  index_refused : (fault : Fault) (at : ℕ) → (indexed b index).answer ≡ refused fault at → Refuses b index fault at
  unfolding indexed need
  index_refused fault at e = by (in_range formless b) (leb (length index) 65536) refl refl e
    where
      by : (c d : Bool) → in_range formless b ≡ c → leb (length index) 65536 ≡ d
          → (need at_once c SettingOutOfRange 0 (need at_once d FileTooLong 0 (judged index b))).answer ≡ refused fault at
          → Refuses b index fault at
      by true true h k e = by_index h (leb-true _ _ k) (failed index b fault at e)
      by true false h k e = as_refused (Refuses b index) (too_long h (leb-false _ _ k)) e
      by false d h k e = as_refused (Refuses b index) (out_of_range h) e

-- "accepted where its entries are", and else refused where a rule is broken first
pub by_rules : RulesClaim
by_rules b index =
    record {
      accepts = λ os entry h. ap (λ (q : Ran (Verdict Outline)). q.answer) (indexed_judged b index h.settings h.fits)
          ∙ follows_judged index b os entry h.follows;
      accepts_only = λ os entry e.
          let w = index_admitted b index os entry e in
          record {
            settings = w.range;
            fits = w.fits;
            follows = followed index b os entry (ap (λ (q : Ran (Verdict Outline)). q.answer) (sym w.by_index) ∙ e);
          };
      refuses = index_refuses b index;
      refuses_only = index_refused b index;
    }
