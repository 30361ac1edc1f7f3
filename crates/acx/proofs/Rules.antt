-- The loader's definition accepts exactly the files that follow the rules, and refuses exactly where they are broken: specs/Rules.antt.
-- Assumes nothing.
use mathlib.Core.Bool.{Bool, true, false}
use mathlib.Core.List.{List}
use mathlib.Core.Path.{◌≡◌, refl, sym, ap, ◌∙◌}
use Prim.Native.Nat.{ℕ, ◌≤◌}
use borrow.Author.Tests.{leb-true, leb-false, le-leb, lt-leb}
use lib.Dec.{leb}
use lib.ListN.{length}
use Rattle.std.proofs.Common.{Ok, Err}
use Rattle.records.specs.Records.{Read}
use Rattle.answer.specs.Checks.{need, failure}
use Rattle.answer.specs.declared.Fault.{Fault}
use Rattle.answer.specs.declared.Fault.TheVariants.{SettingOutOfRange, FileTooLong}
use Rattle.records.specs.declared.Entry.{Entry}
use Rattle.events.proofs.Checks.{failed_passed}
use Rattle.events.proofs.Traces.{steps_traced, trace_answers}
use Rattle.events.proofs.Walks.{ends_leads, ends_same, EndsAt}
use Rattle.events.specs.Events.{Event, marks, blank, Ran, Check}
use Rattle.events.specs.Trace.{Trace}
use Rattle.events.specs.Walk.{ends}
use Rattle.records.specs.declared.Record.TheVariants.{Code, Fixups, End}
use Rattle.pieces.specs.AtBases.{applied}
use Rattle.pieces.specs.Pieces.{Piece}
use Rattle.pieces.specs.declared.Bases.{Bases}
use Rattle.acx.proofs.Calling.{load_admitted}
use Rattle.acx.proofs.Turning.{refused_accepted, as_refused, turn_is, turn_accepted, turn_accepts, by_steps, turn_falls}
use Rattle.acx.proofs.Walking.{judged_opens}
use Rattle.acx.specs.Call.{form_of, in_range, load}
use Rattle.acx.specs.Rules.{NextRecord, Follows, Fails, in_opening, in_record, Refuses, out_of_range, too_long, by_file, RulesClaim}
use Rattle.acx.specs.Walk.{Verdict, accepted, refused, at_once, Progress, begun, record_at, checked, judge, turn, records_from, records_of, opening, opening_size, opened, judged}
use Rattle.acx.specs.declared.Form.{Form}

-- ---- the records

module _ (file : List ℕ) (b : Bases) (at : ℕ) where
  -- from an offset on they end where their trace does, and the other way round
  records_traced : EndsAt (turn file b) (Trace (NextRecord file b) (begun at)) blank (records_of file b at)
  unfolding records_from
  records_traced = steps_traced (by_steps file b) _ _ (turn_falls file b) (begun at)

  trace_records : (s : Progress) (es : List Event) (v : Verdict Piece) → Trace (NextRecord file b) (begun at) s es
      → (turn file b s (marks es blank)).answer ≡ ends v
      → (records_of file b at).answer ≡ v
  unfolding records_from
  trace_records = trace_answers (by_steps file b) _ _ (turn_falls file b) (begun at)

-- ---- the file

module _ (form : Form) (file : List ℕ) (b : Bases) where
  -- behind an opening that passes the records decide
  pub judged_records : opening form file ≡ Ok tt → judged form file b ≡ records_of file b (opening_size form)
  unfolding judged
  judged_records o = ap (λ (c : Check). opened c (records_of file b (opening_size form))) o

  pub followed : (ps : List Piece) (entry : Entry) → (judged form file b).answer ≡ accepted ps entry → Follows form file b ps entry
  followed ps entry e =
      let o = judged_opens form file b ps entry e in
      let x = records_traced file b (opening_size form) in
      let v : (records_of file b (opening_size form)).answer ≡ accepted ps entry = ap (λ (q : Ran (Verdict Piece)). q.answer) (sym o.1) ∙ e in
      record {
        opens = o.0;
        last = x.state;
        events = x.before;
        records = x.held;
        end = turn_accepted file b x.state x.before ps entry (x.answer ∙ ap ends v);
      }

  pub follows_judged : (ps : List Piece) (entry : Entry) → Follows form file b ps entry → (judged form file b).answer ≡ accepted ps entry
  follows_judged ps entry h =
      ap (λ (q : Ran (Verdict Piece)). q.answer) (judged_records h.opens)
      ∙ trace_records file b (opening_size form) h.last h.events (accepted ps entry) h.records
      (turn_accepts file b h.last h.events ps entry h.end)

  -- a turn refuses a file where its record does not pass
  turn_failed : (s : Progress) (es : List Event) (fault : Fault) (at : ℕ) → (turn file b s (marks es blank)).answer ≡ ends (refused fault at)
      → (checked file b s (marks es blank)).answer ≡ failure fault at
  unfolding checked applied
  turn_failed s es fault at e =
      by (checked file b s (marks es blank)).answer (record_at file s) refl refl (sym (turn_is file b s (marks es blank) _ _ refl refl) ∙ e)
    where
      by : (c : Check) (r : Read) → (checked file b s (marks es blank)).answer ≡ c → record_at file s ≡ r → judge file b s c r ≡ ends (refused fault at)
          → (checked file b s (marks es blank)).answer ≡ failure fault at
      by (Err f) r c j e = c ∙ as_refused (λ g i. ◌≡◌ {A = Check} (Err f) (failure g i)) refl (ends_same e)
      by (Ok done) (Ok (Code kind address from n)) c i e = absurd (ends_leads (sym e))
      by (Ok done) (Ok (Fixups fixup from n)) c i e = absurd (ends_leads (sym e))
      by (Ok done) (Ok (End entry next)) c i e = absurd (refused_accepted (sym (ends_same e)))
      by (Ok done) (Err f) c i e = absurd (failed_passed (rw i at c))

  pub failed : (fault : Fault) (at : ℕ) → (judged form file b).answer ≡ refused fault at → Fails form file b fault at
  unfolding judged
  failed fault at e = by (opening form file) refl e
    where
      by : (c : Check) → opening form file ≡ c → (opened c (records_of file b (opening_size form))).answer ≡ refused fault at → Fails form file b fault at
      by (Err f) o e = in_opening (o ∙ as_refused (λ g i. ◌≡◌ {A = Check} (Err f) (failure g i)) refl e)
      by (Ok done) o e =
          let x = records_traced file b (opening_size form) in
          in_record o x.held (turn_failed x.state x.before fault at (x.answer ∙ ap ends e))

  pub fails_judged : (fault : Fault) (at : ℕ) → Fails form file b fault at → (judged form file b).answer ≡ refused fault at
  unfolding judged
  fails_judged fault at (in_opening o) = ap (λ (c : Check). (opened c (records_of file b (opening_size form))).answer) o
  fails_judged fault at (in_record {s = s} {es = es} o t c) =
      ap (λ (q : Ran (Verdict Piece)). q.answer) (judged_records o)
      ∙ trace_records file b (opening_size form) s es (refused fault at) t (turn_is file b s (marks es blank) (failure fault at) _ c refl)

-- ---- a load

-- where the settings are in range and the file is not too long, the file decides
pub load_judged : (form : ℕ) (b : Bases) (file : List ℕ) → in_range form b ≡ true → length file ≤ 65536 → load form b file ≡ judged (form_of form) file b
unfolding load need
load_judged form b file h k = rw (h, le-leb _ _ k) refl

module _ (form : ℕ) (b : Bases) (file : List ℕ) where
  load_refuses : (fault : Fault) (at : ℕ) → Refuses form b file fault at → (load form b file).answer ≡ refused fault at
  unfolding load need
  load_refuses fault at (out_of_range h) = rw h refl
  load_refuses fault at (too_long h k) = rw (h, lt-leb _ _ k) refl
  load_refuses fault at (by_file h k f) =
      ap (λ (q : Ran (Verdict Piece)). q.answer) (load_judged form b file h k) ∙ fails_judged (form_of form) file b fault at f

  load_refused : (fault : Fault) (at : ℕ) → (load form b file).answer ≡ refused fault at → Refuses form b file fault at
  unfolding load need
  load_refused fault at e = by (in_range form b) (leb (length file) 65536) refl refl e
    where
      by : (c d : Bool) → in_range form b ≡ c → leb (length file) 65536 ≡ d
          → (need at_once c SettingOutOfRange 0 (need at_once d FileTooLong 0 (judged (form_of form) file b))).answer ≡ refused fault at
          → Refuses form b file fault at
      by true true h k e = by_file h (leb-true _ _ k) (failed (form_of form) file b fault at e)
      by true false h k e = as_refused (Refuses form b file) (too_long h (leb-false _ _ k)) e
      by false d h k e = as_refused (Refuses form b file) (out_of_range h) e

-- "accepted exactly if it follows the .. ACX rules of document 01 and fits", and else refused where it breaks them first
pub by_rules : RulesClaim
by_rules form b file =
    record {
      accepts = λ ps entry h. ap (λ (q : Ran (Verdict Piece)). q.answer) (load_judged form b file h.settings h.fits)
          ∙ follows_judged (form_of form) file b ps entry h.follows;
      accepts_only = λ ps entry e.
          let w = load_admitted form b file ps entry e in
          record {
            settings = w.range;
            fits = w.fits;
            follows = followed (form_of form) file b ps entry (ap (λ (q : Ran (Verdict Piece)). q.answer) (sym w.by_rules) ∙ e);
          };
      refuses = load_refuses form b file;
      refuses_only = load_refused form b file;
    }
