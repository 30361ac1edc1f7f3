-- What a call of the builder comes to, as specs/Outcomes.antt states it: of every call that keeps the contract.
-- Assumes nothing.
use mathlib.Core.Bool.{Bool, true, false, false≢true}
use mathlib.Core.List.{List, map}
use mathlib.Core.Path.{◌≡◌, refl, sym, ap, ◌∙◌, subst}
use Prim.Native.Nat.{ℕ, ◌≤◌, ◌<◌}
use native.Mathlib.Omega.{arith}
use borrow.Author.Tests.{leb-true, leb-false}
use lib.Dec.{leb}
use lib.ListN.{length, get_or}
use Rattle.std.proofs.Common.{Option, None, Ok, Err}
use Rattle.acx.proofs.Calling.{loaded_right}
use Rattle.acx.proofs.Demand2.{load_reports, load_marks}
use Rattle.acx.proofs.Faults.{judged_decides}
use Rattle.acx.proofs.Refusals.{reported_refused, refuses_located, refuses_sized}
use Rattle.acx.proofs.Rules.{by_rules, load_judged}
use Rattle.acx.proofs.Turning.{refused_accepted, accepted_same, as_refused}
use Rattle.acx.specs.Call.{form_of, in_range, load, map_after}
use Rattle.acx.specs.Demand2.{total}
use Rattle.acx.specs.Rules.{Accepts, Refuses, out_of_range, too_long as file_too_long}
use Rattle.acx.specs.Walk.{Verdict, accepted, refused, last_of, judged, report as load_report}
use Rattle.answer.proofs.Causes.{causes_of}
use Rattle.answer.proofs.Faults.{OfFile, of_file_located, early_located, ByFile, located_as}
use Rattle.answer.proofs.Outcomes.{is_refused, fault_in}
use Rattle.answer.specs.Causes.{Causes}
use Rattle.answer.specs.Checks.{need, pick}
use Rattle.answer.specs.Report.{number_of, Located, IsAccepted, Outcome, acceptance, refusal}
use Rattle.answer.specs.declared.Acceptance.{Acceptance}
use Rattle.answer.specs.declared.Fault.{Fault}
use Rattle.answer.specs.declared.Fault.TheVariants.{WrongBuffer, IndexTooLong}
use Rattle.events.proofs.Events.{length_blank, blank_at}
use Rattle.events.specs.Events.{Event, blank, placed_in, adjusted_in, Ran}
use Rattle.events.specs.Sizes.{file_limit}
use Rattle.pieces.specs.AtBases.{start_of}
use Rattle.pieces.specs.Pieces.{Piece, size, outline}
use Rattle.pieces.specs.Places.{Marked}
use Rattle.pieces.specs.declared.Bases.{Bases}
use Rattle.records.proofs.Reading.{lies_as}
use Rattle.records.specs.declared.Entry.{Entry}
use Rattle.words.proofs.Runs.{length_put, put_outside, front_holds}
use Rattle.words.specs.Runs.{part, put}
use Rattle.builder.proofs.Building.{fitted_short, fitted_long}
use Rattle.builder.specs.Build.{index_of, fitted, build, report, room_after, Built}
use Rattle.builder.specs.Parts.{with_low}
use Rattle.builder.specs.Outcomes.{AcceptedBuild, Claim, RefusedBuild, RefusesBuild, by_load, too_long, Refusals, RefusalsClaim, SameClaim}

-- ---- verdicts

-- an index that fits is its load's
fitted_accepted : (v : Verdict Piece) (ps : List Piece) (entry : Entry) → fitted v ≡ accepted ps entry
    → (v ≡ accepted ps entry) × (length (index_of ps entry) ≤ 65536)
unfolding need
fitted_accepted (refused fault at) ps entry e = absurd (refused_accepted e)
fitted_accepted (accepted qs other) ps entry e = by (leb (length (index_of qs other)) 65536) refl e
  where
    by : (c : Bool) → leb (length (index_of qs other)) 65536 ≡ c → need refused c IndexTooLong 0 (accepted qs other) ≡ accepted ps entry
        → (accepted qs other ≡ accepted ps entry) × (length (index_of ps entry) ≤ 65536)
    by true h e =
        let s = accepted_same e in
        (e, rw (← s.0, ← s.1) (leb-true _ _ h))
    by false h e = absurd (refused_accepted e)

-- what an acceptance says
abbrev counts_in : Outcome → Acceptance
counts_in (Ok a) = a
counts_in (Err r) = record { start = None; placed = 0; adjusted = 0; new_names = 0; low = 0 }

-- an outcome that is accepted is of a verdict that is
record Reports (b : Bases) (v : Verdict Piece) (es : List Event) (start : Option ℕ) (placed adjusted names low : ℕ) : Type 0 where
  pieces : List Piece
  entry : Entry
  is : v ≡ accepted pieces entry
  starts : start_of b entry ≡ start
  places : placed_in es ≡ placed
  adjusts : adjusted_in es ≡ adjusted
  nameless : names ≡ 0
  uses : length (index_of pieces entry) ≡ low

reports : (b : Bases) (v : Verdict Piece) (es : List Event) (start : Option ℕ) (placed adjusted names low : ℕ)
    → report b v es ≡ acceptance start placed adjusted names low → Reports b v es start placed adjusted names low
reports b (refused fault at) es start placed adjusted names low e = absurd (false≢true (sym (ap is_refused e)))
reports b (accepted ps entry) es start placed adjusted names low e =
    record {
      pieces = ps;
      entry = entry;
      is = refl;
      starts = ap (λ (o : Outcome). (counts_in o).start) e;
      places = ap (λ (o : Outcome). (counts_in o).placed) e;
      adjusts = ap (λ (o : Outcome). (counts_in o).adjusted) e;
      nameless = sym (ap (λ (o : Outcome). (counts_in o).new_names) e);
      uses = ap (λ (o : Outcome). (counts_in o).low) e;
    }

-- one that is refused is of a verdict that is
reports_refused : (b : Bases) (v : Verdict Piece) (es : List Event) (fault : Fault) (at side : ℕ) → report b v es ≡ refusal fault at side
    → (v ≡ refused fault at) × (side ≡ 0)
reports_refused b (accepted ps entry) es fault at side e = absurd (false≢true (ap is_refused e))
reports_refused b (refused f a) es fault at side e = reported_refused b (refused f a) es fault at side e

-- ---- a call with the right buffers, and one without

module _ {form : ℕ} {b : Bases} {file p q : List ℕ} {right : Bool} {r : Outcome} {p' q' : List ℕ} (d : Built form b file right p q r p' q') where
  -- what it did where the lengths are right
  built_right : right ≡ true → (r ≡ report b (fitted (load form b file).answer) (load form b file).events)
      × (p' ≡ map_after (fitted (load form b file).answer) (load form b file).events)
      × (q' ≡ room_after (fitted (load form b file).answer) q)
  unfolding build need pick
  built_right e =
      let c : Built form b file true p q r p' q' = subst (λ (t : Bool). Built form b file t p q r p' q') e d in
      (c.outcome, c.map, c.room)

  -- and where one is wrong
  built_wrong : right ≡ false → (r ≡ refusal WrongBuffer 0 0) × (p' ≡ p) × (q' ≡ q)
  unfolding build need pick
  built_wrong e =
      let c : Built form b file false p q r p' q' = subst (λ (t : Bool). Built form b file t p q r p' q') e d in
      (c.outcome, c.map, c.room)

  -- ---- accepted

  -- an acceptance had buffers of the right lengths
  accepted_right : is_refused r ≡ false → right ≡ true
  accepted_right e = by right refl
    where
      by : (t : Bool) → right ≡ t → right ≡ true
      by true h = h
      by false h = absurd (false≢true (sym e ∙ ap is_refused (built_wrong h).0))

  -- and leaves the index and the map
  accepted_leaves : right ≡ true → (start : Option ℕ) (placed adjusted names low : ℕ) → r ≡ acceptance start placed adjusted names low
      → (names ≡ 0) × AcceptedBuild form b file start placed adjusted low p' q'
  accepted_leaves t start placed adjusted names low e =
      let o = load form b file in
      let c = built_right t in
      let x = reports b (fitted o.answer) o.events start placed adjusted names low (sym c.0 ∙ e) in
      let ps = x.pieces in
      let v = fitted_accepted o.answer ps x.entry x.is in
      let bytes = index_of ps x.entry in
      let room : q' ≡ put blank 0 bytes = c.2 ∙ ap (λ (w : Verdict Piece). room_after w q) x.is in
      let small : low ≤ length blank = omega (arith, v.1, x.uses, length_blank) in
      let front : part q' 0 low ≡ bytes = front_holds blank bytes q' low room x.uses small in
      let accepts = (by_rules form b file).accepts_only ps x.entry v.0 in (
        x.nameless,
        record {
          pieces = ps;
          entry = x.entry;
          accepts = accepts;
          index = front;
          fits = omega (arith, v.1, x.uses);
          rest = λ y h. ap (λ (l : List ℕ). get_or l y 0) room ∙ put_outside blank 0 bytes y (λ w. omega (arith, w.1, x.uses)) ∙ blank_at y;
          room = ap length room ∙ length_put blank 0 bytes ∙ length_blank;
          built = record { bases = b; pieces = ps; entry = x.entry; accepts = accepts; is = front; fits = rw front v.1 };
          as_load = λ k m u k' q'' l.
              let z = loaded_right refl l in (
                z.0 ∙ ap (λ (w : Verdict Piece). load_report b w o.events) v.0 ∙ rw (x.starts, x.places, x.adjusts) refl,
                c.1 ∙ ap (λ (w : Verdict Piece). map_after w o.events) (x.is ∙ sym v.0) ∙ sym z.2,
              );
          marks = subst (Marked b (map outline ps)) (sym (c.1 ∙ ap (λ (w : Verdict Piece). map_after w o.events) x.is))
              (load_marks form b file ps x.entry accepts);
        },
      )

  -- a file that a load accepts is accepted, if its index fits
  accepts_all : right ≡ true → (ps : List Piece) (entry : Entry) → Accepts form b file ps entry → length (index_of ps entry) ≤ 65536
      → r ≡ acceptance (start_of b entry) (total size ps) (total (λ p. length p.fields) ps) 0 (length (index_of ps entry))
  accepts_all t ps entry h k =
      let es = (load form b file).events in
      let e = (by_rules form b file).accepts ps entry h in
      (built_right t).0
      ∙ ap (λ (w : Verdict Piece). report b (fitted w) es) e
      ∙ ap (λ (w : Verdict Piece). report b w es) (fitted_short ps entry k)
      ∙ ap (with_low (length (index_of ps entry))) (sym (ap (λ (w : Verdict Piece). load_report b w es) e) ∙ load_reports form b file ps entry h)

-- "Build it from a file at given bases"
pub built_exactly : Claim
built_exactly form b file answer_sized p q r p' q' d =
    record {
      only = λ start placed adjusted names low e.
          let t = accepted_right d (ap is_refused e) in
          let l = accepted_leaves d t start placed adjusted names low e in
          (t, l.0, l.1);
      all = accepts_all d;
    }

-- ---- refused

-- an accepted file is not empty: it has its end record
accepts_some : {form : ℕ} {b : Bases} {file : List ℕ} {ps : List Piece} {entry : Entry} → Accepts form b file ps entry → 0 < length file
accepts_some {file = file} h =
    let s = h.follows.last in
    omega (arith, (lies_as file s.at (last_of s.pieces) _ h.follows.end.is).0)

-- so 25 lies in it
long_of_file : {len : ℕ} → 0 < len → OfFile len IndexTooLong 0
long_of_file h = record { late = refl; place = h }

module _ (form : ℕ) (b : Bases) (file : List ℕ) where
  -- a build refuses by its load, or since the index would not fit
  fitted_refuses : (v : Verdict Piece) → (load form b file).answer ≡ v → (fault : Fault) (at : ℕ) → fitted v ≡ refused fault at
      → RefusesBuild form b file fault at
  unfolding need
  fitted_refuses (refused f a) e fault at g = by_load ((by_rules form b file).refuses_only fault at (e ∙ g))
  fitted_refuses (accepted ps entry) e fault at g = by (leb (length (index_of ps entry)) 65536) refl g
    where
      by : (c : Bool) → leb (length (index_of ps entry)) 65536 ≡ c → need refused c IndexTooLong 0 (accepted ps entry) ≡ refused fault at
          → RefusesBuild form b file fault at
      by true h g = absurd (refused_accepted (sym g))
      by false h g = as_refused (RefusesBuild form b file) (too_long ((by_rules form b file).accepts_only ps entry e) (leb-false _ _ h)) g

  -- and whatever so refuses, is the refusal
  refuses_fitted : (fault : Fault) (at : ℕ) → RefusesBuild form b file fault at → fitted (load form b file).answer ≡ refused fault at
  refuses_fitted fault at (by_load h) = ap fitted ((by_rules form b file).refuses fault at h)
  refuses_fitted fault at (too_long {ps} {entry} h k) = ap fitted ((by_rules form b file).accepts ps entry h) ∙ fitted_long ps entry k

  -- where it lies
  refused_located : (fault : Fault) (at : ℕ) → RefusesBuild form b file fault at → Located (length file) fault at
  refused_located fault at (by_load h) = refuses_located form b file at fault h
  refused_located fault at (too_long h k) = of_file_located (long_of_file (accepts_some h))

  -- it is never with 1
  refused_sized : (fault : Fault) (at : ℕ) → RefusesBuild form b file fault at → ¬ (fault ≡ WrongBuffer)
  refused_sized fault at (by_load h) e = refuses_sized form b file at (subst (λ (f : Fault). Refuses form b file f at) e h)
  refused_sized fault at (too_long h k) e = absurd (omega (arith, ap number_of e))

  -- where the settings are in range and the file is not too long, the file decides
  decides : (v : Verdict Piece) (es : List Event) → in_range form b ≡ true → length file ≤ 65536 → (load form b file).answer ≡ v
      → ByFile (length file) (report b (fitted v) es)
  unfolding need
  decides (refused fault at) es h k e =
      let l : (judged (form_of form) file b).answer ≡ refused fault at = ap (λ (o : Ran (Verdict Piece)). o.answer) (sym (load_judged form b file h k)) ∙ e in
      record { decided = judged_decides (form_of form) file b fault at l }
  decides (accepted ps entry) es h k e = by (leb (length (index_of ps entry)) 65536)
    where
      by : (c : Bool) → ByFile (length file) (report b (need refused c IndexTooLong 0 (accepted ps entry)) es)
      by true = record { decided = tt }
      by false = record { decided = long_of_file (accepts_some ((by_rules form b file).accepts_only ps entry e)) }

module _ {form : ℕ} {b : Bases} {file p q : List ℕ} {right : Bool} {r : Outcome} {p' q' : List ℕ} (d : Built form b file right p q r p' q') where
  -- what refuses a build is answered
  refused_all : right ≡ true → (fault : Fault) (at : ℕ) → RefusesBuild form b file fault at → r ≡ refusal fault at 0
  refused_all t fault at h =
      (built_right d t).0 ∙ ap (λ (w : Verdict Piece). report b w (load form b file).events) (refuses_fitted form b file fault at h)

  -- why a call is refused with 1, 2 or 3
  build_causes : Causes right (in_range form b) (leb (length file) file_limit) r
  build_causes =
      causes_of (length file) right (in_range form b) (leb (length file) file_limit) (λ h. (built_wrong d h).0)
      (λ t h. refused_all t _ _ (by_load (out_of_range h)))
      (λ t h k. refused_all t _ _ (by_load (file_too_long h (leb-false _ _ k))))
      (λ t h k. rw (built_right d t).0 (decides form b file (load form b file).answer (load form b file).events h (leb-true _ _ k) refl))

  -- what a refusal is of
  refused_verdict : right ≡ true → (fault : Fault) (at side : ℕ) → r ≡ refusal fault at side
      → (fitted (load form b file).answer ≡ refused fault at) × (side ≡ 0)
  refused_verdict t fault at side e =
      reports_refused b (fitted (load form b file).answer) (load form b file).events fault at side (sym (built_right d t).0 ∙ e)

  -- so it is refused only so
  refused_only : right ≡ true → (fault : Fault) (at side : ℕ) → r ≡ refusal fault at side → RefusesBuild form b file fault at × (side ≡ 0)
  refused_only t fault at side e =
      let v = refused_verdict t fault at side e in
      (fitted_refuses form b file (load form b file).answer refl fault at v.0, v.1)

  -- every call, where the lengths are right or not
  build_refusals_of : Refusals form b file right p q r p' q'
  build_refusals_of =
      record {
        causes = build_causes;
        only = refused_only;
        all = refused_all;
        located = λ fault at side e. located right refl fault at side e;
        leaves = λ fault at side e. leaves right refl fault at side e;
      }
    where
      located : (t : Bool) → right ≡ t → (fault : Fault) (at side : ℕ) → r ≡ refusal fault at side → Located (length file) fault at
      located true h fault at side e = refused_located form b file fault at (refused_only h fault at side e).0
      located false h fault at side e = located_as (record { lies = early_located (length file) WrongBuffer refl }) (sym (built_wrong d h).0 ∙ e)

      leaves : (t : Bool) → right ≡ t → (fault : Fault) (at side : ℕ) → r ≡ refusal fault at side → RefusedBuild fault p q p' q'
      leaves true h fault at side e =
          let v = (refused_verdict h fault at side e).0 in
          let c = built_right d h in
          record {
            room = c.2 ∙ ap (λ (w : Verdict Piece). room_after w q) v;
            wrong_buffer = λ k. absurd (refused_sized form b file fault at (refused_only h fault at side e).0 k);
            other = λ n. c.1 ∙ ap (λ (w : Verdict Piece). map_after w (load form b file).events) v;
          }
      leaves false h fault at side e =
          let c = built_wrong d h in
          record { room = c.2; wrong_buffer = λ k. c.1; other = λ n. absurd (n (ap fault_in (sym e ∙ c.0))) }

-- "with its load's .. refusals", and 25
pub build_refusals : RefusalsClaim
build_refusals form b file answer_sized p q r p' q' d = build_refusals_of d

-- ---- one file, one index

same_room : (b : Bases) (v : Verdict Piece) (es : List Event) (q l : List ℕ) → IsAccepted (report b v es) → room_after v q ≡ room_after v l
same_room b (accepted ps entry) es q l h = refl
same_room b (refused fault at) es q l h = absurd h

pub same_index : SameClaim
same_index form b file p q r p' q' k l t k' l' d e =
    let x = built_right d refl in
    let y = built_right e refl in
    let v = fitted (load form b file).answer in
    record {
      outcome = x.0 ∙ sym y.0;
      map = x.1 ∙ sym y.1;
      room = λ h. x.2 ∙ same_room b v (load form b file).events q l (subst IsAccepted x.0 h) ∙ sym y.2;
    }
