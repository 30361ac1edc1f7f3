-- An accepted file walked through again: what a record that is read there leads to, and how long the index is behind it.
-- Assumes nothing.
use mathlib.Core.List.{List, [], ◌∷◌, ◌++◌, map}
use mathlib.Core.Path.{◌≡◌, refl, sym, ap, ◌∙◌}
use Prim.Native.Nat.{ℕ, ◌+◌, ◌*◌, ◌/◌, ◌≤◌}
use native.Mathlib.Nat.{div-le_self}
use native.Mathlib.Omega.{arith}
use lib.ListN.{length, length-append}
use Rattle.std.proofs.Common.{Ok, Err, IsOk}
use Rattle.acx.proofs.Calling.{load_admitted}
use Rattle.acx.proofs.Cursors.{Tracks, tracks_first, tracks_found, tracks_counts, tracks_further, tracks_on, tracks_passes, tracks_to_end, tracks_onward, tracks_ends_by}
use Rattle.acx.proofs.Turning.{turn_led, turn_accepted, turn_falls}
use Rattle.acx.proofs.Walking.{opening_fits, judged_opens}
use Rattle.acx.specs.Call.{form_of, load}
use Rattle.acx.specs.Cursor.{first_cursor, advanced}
use Rattle.acx.specs.Rules.{Onward}
use Rattle.acx.specs.Walk.{Verdict, accepted, refused, Progress, begun, last_of, record_at, checked, with_fields, stepped, turn, records_from, records_of, opening_size, judged, report, reported}
use Rattle.acx.specs.declared.Cursor.{Cursor}
use Rattle.answer.specs.Report.{IsAccepted}
use Rattle.answer.specs.declared.Fault.TheVariants.{CutShort}
use Rattle.entries.specs.Bytes.{code_entries}
use Rattle.events.proofs.Checks.{failed_passed}
use Rattle.events.proofs.Events.{marks_append}
use Rattle.events.proofs.Walks.{walk_keeps}
use Rattle.events.specs.Events.{Event, marks, blank, Ran}
use Rattle.events.specs.Walk.{ends, leads, bytes_left}
use Rattle.fields.proofs.Listing.{length_fields}
use Rattle.fields.specs.Fields.{item_size, fields_of}
use Rattle.fields.specs.declared.Field.{Field}
use Rattle.fields.specs.declared.Fixup.{Fixup}
use Rattle.pieces.specs.AtBases.{EndsBy, applied}
use Rattle.pieces.specs.Pieces.{Piece, Outline, outline}
use Rattle.pieces.specs.declared.Bases.{Bases}
use Rattle.records.proofs.Reading.{AfterCode, lies_as, fixups_after}
use Rattle.records.specs.Records.{Read, read}
use Rattle.records.specs.declared.Entry.{Entry}
use Rattle.records.specs.declared.Record.{Record}
use Rattle.records.specs.declared.Record.TheVariants.{Code, Fixups, End}
use Rattle.words.proofs.Runs.{length_part}
use Rattle.words.specs.Runs.{part}
use Rattle.builder.proofs.Writing.{held, length_index, length_held, more}
use Rattle.builder.specs.Build.{index_of}
use Rattle.builder.specs.Parts.{bytes_of, bare, brings}

-- ---- the file

-- an accepted file can be walked through again, from the offset `first` on
pub record Walkable (form : ℕ) (b : Bases) (file : List ℕ) (first : ℕ) : Type 0 where
  pub fits : length file ≤ 65536
  pub opens : first ≤ length file
  pub pieces : List Piece
  pub entry : Entry
  pub bytes : bytes_of (load form b file).answer ≡ index_of pieces entry
  pub yes : (records_of file b first).answer ≡ accepted pieces entry

-- it can, from the offset behind the opening on
pub walkable : (form : ℕ) (b : Bases) (file : List ℕ) (first : ℕ) → first ≡ opening_size (form_of form) → IsAccepted (reported b (load form b file)).answer
    → Walkable form b file first
walkable form b file first e h = by (load form b file).answer refl h
  where
    by : (v : Verdict Piece) → (load form b file).answer ≡ v → IsAccepted (report b v (load form b file).events) → Walkable form b file first
    by (refused fault at) f h = absurd h
    by (accepted ps entry) f h =
        let w = load_admitted form b file ps entry f in
        let g : (judged (form_of form) file b).answer ≡ accepted ps entry = ap (λ (o : Ran (Verdict Piece)). o.answer) (sym w.by_rules) ∙ f in
        let o = judged_opens (form_of form) file b ps entry g in
        rw e
        (record {
          fits = w.fits;
          opens = opening_fits (form_of form) file o.0;
          pieces = ps;
          entry = entry;
          bytes = ap bytes_of f;
          yes = ap (λ (o : Ran (Verdict Piece)). o.answer) (sym o.1) ∙ g;
        })

-- and its index is as long as the program found it
pub walkable_short : {form : ℕ} {b : Bases} {file : List ℕ} {first : ℕ} (w : Walkable form b file first)
    → length (bytes_of (load form b file).answer) ≤ 65536
    → length (index_of w.pieces w.entry) ≤ 65536
walkable_short w h = rw w.bytes at h

-- the outlines so far
abbrev pub outlines : Progress → List Outline
outlines s = map outline s.pieces

-- ---- a record that is read there

-- in an accepted file there is one
pub read_some : {file : List ℕ} {b : Bases} {first : ℕ} {c : Cursor} {s : Progress} {q : Read} (x : Tracks file b first c s) → q ≡ read file c.at c.last
    → {qs : List Piece} {entry : Entry} → (records_of file b first).answer ≡ accepted qs entry
    → IsOk q
unfolding checked applied
read_some {file} {b} {s = s} {q} x is ok = by q refl
  where
    by : (r : Read) → q ≡ r → IsOk r
    by (Ok found) e = refl
    by (Err f) e = absurd (failed_passed (rw (tracks_found x (sym e ∙ is)) at (tracks_passes x ok)))

module _ {file : List ℕ} {b : Bases} {first : ℕ} {c : Cursor} {s : Progress} (x : Tracks file b first c s) {found : Record}
    (is : Ok found ≡ read file c.at c.last) where
  -- it lies in the file
  pub read_ends_by : length file ≤ 65536 → EndsBy 65536 (Ok found)
  read_ends_by l = tracks_ends_by x (tracks_found x is) 65536 l

  module _ {qs : List Piece} {entry : Entry} (yes : (records_of file b first).answer ≡ accepted qs entry) where
    -- where it is not the end, it leads on
    pub read_onward : ((other : Entry) (next : ℕ) → found ≡ End other next → ⊥) → Onward (Ok found)
    read_onward h = tracks_onward x yes (tracks_found x is) (λ other next e. h other next cc)

    module _ (o : Onward (Ok found)) where
      -- the walk comes to the cursor behind it
      pub read_next : Tracks file b first (advanced b c (Ok found)) (stepped file s (Ok found))
      read_next = tracks_on x (tracks_found x is) o (tracks_passes x yes)

      -- which moved on, in the file
      pub read_further : (c.at + 2 ≤ (advanced b c (Ok found)).at) × ((advanced b c (Ok found)).at ≤ length file)
      read_further = (tracks_further x (tracks_found x is) o, (tracks_counts read_next).0)

-- ---- how long the index is behind a record

-- fields more, three bytes each
pub fields_longer : (fs : List Field) (ps : List Piece) → AfterCode (last_of ps)
    → length (held (map outline (with_fields fs ps))) ≡ length (held (map outline ps)) + 3 * length fs
fields_longer fs [] h = absurd h
fields_longer fs (p ∷ ps) h =
    let os = map outline ps in
    omega (arith, length_held (outline p) os, length_held (more fs (outline p)) os, length-append p.fields fs)

-- of which a record lists so many
pub length_listed : (file : List ℕ) (fixup : Fixup) (from n : ℕ) → from + n ≤ length file → length (fields_of fixup (part file from n)) ≡ n / item_size fixup
length_listed file fixup from n h = length_fields fixup (part file from n) ∙ ap (λ (k : ℕ). k / item_size fixup) (length_part file from n h)

-- what the record brings more
pub longer : (file : List ℕ) (s : Progress) (r : Record) → record_at file s ≡ Ok r → Onward (Ok r)
    → length (held (outlines (stepped file s (Ok r)))) ≡ length (held (outlines s)) + brings r
longer file s (Code kind address from n) e o = omega (arith, length_held (bare kind address (length (part file from n))) (outlines s))
longer file s (Fixups fixup from n) e o =
    let h = (lies_as file s.at (last_of s.pieces) _ e).1 in
    let k = fields_longer (fields_of fixup (part file from n)) s.pieces (fixups_after file s.at (last_of s.pieces) fixup from n e) in
    omega (arith, k, length_listed file fixup from n h)
longer file s (End entry next) e o = absurd o

-- which is no more than three times the bytes of the record
brings_few : (file : List ℕ) (s : Progress) (r : Record) → record_at file s ≡ Ok r → Onward (Ok r) → 3 * s.at + brings r ≤ 3 * (stepped file s (Ok r)).at
brings_few file s (Code kind address from n) e o = omega (arith, (lies_as file s.at (last_of s.pieces) _ e).0)
brings_few file s (Fixups fixup from n) e o = omega (arith, (lies_as file s.at (last_of s.pieces) _ e).0, div-le_self n (item_size fixup))
brings_few file s (End entry next) e o = absurd o

-- the index of the pieces so far is no longer than that of all pieces
module _ (file : List ℕ) (b : Bases) (s : Progress) (es : List Event) where
  -- (of where the walk from s has come to)
  record Grown (z : Progress) (fs : List Event) : Type 0 where
    grown : length (held (outlines s)) ≤ length (held (outlines z))

  longer_on : (y : Progress) (r : Read) → record_at file y ≡ r → Onward r → length (held (outlines y)) ≤ length (held (outlines (stepped file y r)))
  longer_on y (Ok r) e o = omega (arith, longer file y r e o)
  longer_on y (Err f) e o = absurd o

  -- every record keeps that
  grown_on : (y z : Progress) (fs : List Event) → Grown y fs → (turn file b y (marks fs (marks es blank))).answer ≡ leads z
      → Grown z (fs ++ (turn file b y (marks fs (marks es blank))).events)
  grown_on y z fs h e =
      let l = turn_led file b y (marks fs (marks es blank)) z e in
      record { grown = rw (← l.to) (omega (arith, h.grown, longer_on y l.found l.is l.on)) }

  -- so it holds at the end
  pub grows : (qs : List Piece) (entry : Entry) → (records_from file b s (marks es blank)).answer ≡ accepted qs entry
      → length (held (outlines s)) ≤ length (held (map outline qs))
  unfolding records_from
  grows qs entry e =
      let x = walk_keeps (turn file b) (λ z. refused CutShort (length file)) (λ z. bytes_left file z.at) (turn_falls file b) Grown (marks es blank) grown_on
      s (record { grown = omega arith }) in
      let t = turn_accepted file b x.state (es ++ x.before) qs entry
      (ap (λ (q : List ℕ). (turn file b x.state q).answer) (marks_append es x.before blank) ∙ x.answer ∙ ap ends e) in
      rw t.pieces x.held.grown

-- ---- the walk that counts

-- where it stands: so many bytes of the index have their records behind the cursor
pub record Counting (file : List ℕ) (b : Bases) (first : ℕ) (c : Cursor) (used : ℕ) : Type 0 where
  pub progress : Progress
  pub tracks : Tracks file b first c progress
  pub counted : used ≡ length (held (outlines progress))
  pub few : used ≤ 3 * progress.at + 1

module _ {file : List ℕ} {b : Bases} {first : ℕ} where
  -- before the first record there is the version
  pub counting_first : first ≤ length file → Counting file b first (first_cursor first) 1
  unfolding code_entries
  counting_first l = record { progress = begun first; tracks = tracks_first l; counted = refl; few = omega arith }

  module _ {c : Cursor} {used : ℕ} (x : Counting file b first c used) {found : Record} (is : Ok found ≡ read file c.at c.last) {qs : List Piece}
      {entry : Entry} (yes : (records_of file b first).answer ≡ accepted qs entry) where
    -- at the end record all is counted but that
    pub counting_end : {other : Entry} {next n : ℕ} {bs : List ℕ} → found ≡ End other next → n ≡ brings found → bs ≡ index_of qs entry
        → used + n ≡ length bs
    counting_end {other} {next} {n} {bs} e k w =
        let six : n ≡ 6 = k ∙ ap brings e in
        let all : length (held (outlines x.progress)) ≡ length (held (map outline qs)) =
        ap (λ (ps : List Piece). length (held (map outline ps))) (tracks_to_end x.tracks yes (tracks_found x.tracks is) (ap Ok e)) in
        omega (arith, six, x.counted, all, length_index (map outline qs) entry, ap length w)

    -- every other record leads on, with what it brings
    pub counting_on : Onward (Ok found) → {n : ℕ} → n ≡ brings found → Counting file b first (advanced b c (Ok found)) (used + n)
    counting_on o k =
        let s = x.progress in
        let f = tracks_found x.tracks is in
        record {
          progress = stepped file s (Ok found);
          tracks = read_next x.tracks is yes o;
          counted = omega (arith, k, x.counted, longer file s found f o);
          few = omega (arith, k, x.few, brings_few file s found f o);
        }
