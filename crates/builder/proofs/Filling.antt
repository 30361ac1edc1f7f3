-- The walk that fills the room: at each record it holds the version and the entries of the pieces so far, each with its right length. No record is
-- without room, since the index fits.
-- Assumes nothing.
use mathlib.Core.List.{List, [], ◌∷◌, ◌++◌, map}
use mathlib.Core.Path.{◌≡◌, refl, sym, ap, ◌∙◌}
use Prim.Native.Nat.{ℕ, ◌+◌, ◌*◌, ◌/◌, ◌≤◌}
use native.Mathlib.Omega.{arith}
use lib.ListN.{length}
use Rattle.std.proofs.Common.{Ok}
use Rattle.acx.proofs.Cursors.{Tracks, tracks_first, tracks_found, tracks_to_end, tracks_to_entry}
use Rattle.acx.specs.Cursor.{first_cursor, advanced}
use Rattle.acx.specs.Rules.{Onward}
use Rattle.acx.specs.Walk.{Verdict, accepted, Progress, begun, last_of, record_at, with_fields, stepped, records_of}
use Rattle.acx.specs.declared.Cursor.{Cursor}
use Rattle.entries.specs.Bytes.{version, code_bytes, end_bytes, with_length, code_entries, index_bytes}
use Rattle.events.proofs.Events.{length_blank}
use Rattle.events.specs.Events.{blank, Ran}
use Rattle.fields.specs.Fields.{item_size, fields_of}
use Rattle.fields.specs.declared.Field.{Field}
use Rattle.fields.specs.declared.Fixup.{Fixup}
use Rattle.pieces.specs.Pieces.{Piece, Outline, outline, events}
use Rattle.pieces.specs.declared.Bases.{Bases}
use Rattle.records.proofs.Reading.{AfterCode, lies_as, fixups_after, code_measured}
use Rattle.records.specs.Records.{read}
use Rattle.records.specs.declared.Entry.{Entry}
use Rattle.records.specs.declared.Record.{Record}
use Rattle.records.specs.declared.Record.TheVariants.{Code, Fixups, End}
use Rattle.words.proofs.Runs.{length_part, length_put}
use Rattle.words.specs.Runs.{part, put}
use Rattle.builder.proofs.Walking.{read_next, outlines, fields_longer, length_listed, longer, grows}
use Rattle.builder.proofs.Writing.{held, length_index, length_held, appended, fields_closed}
use Rattle.builder.specs.Build.{index_of}
use Rattle.builder.specs.Parts.{bare, kind_of, brings, front_after, closed, room_with, Sound}
use Rattle.builder.specs.declared.Front.{Front}

-- ---- the room behind a record

-- how far it is filled with these outlines
abbrev pub front_of : List Outline → Front
front_of [] = record { entry = 1; used = length (held []) }
front_of (o ∷ os) = record { entry = length (held os); used = length (held (o ∷ os)) }

-- up to there the room is used
used_is : (os : List Outline) → (front_of os).used ≡ length (held os)
used_is [] = refl
used_is (o ∷ os) = refl

-- the last entry has its length at least
entry_has : (ps : List Piece) → AfterCode (last_of ps) → (front_of (map outline ps)).entry + 2 ≤ (front_of (map outline ps)).used
entry_has [] h = absurd h
entry_has (p ∷ ps) h = omega (arith, length_held (outline p) (map outline ps))

-- two fronts with the same numbers are one
front_same : {i j m n : ℕ} → i ≡ j → m ≡ n → ◌≡◌ {A = Front} (record { entry = i; used = m }) (record { entry = j; used = n })
front_same e f = rw (e, f) refl

-- fields more leave the last entry where it is
fields_front : (fs : List Field) (n : ℕ) (ps : List Piece) → AfterCode (last_of ps) → length fs ≡ n
    → record { entry = (front_of (map outline ps)).entry; used = (front_of (map outline ps)).used + 3 * n } ≡ front_of (map outline (with_fields fs ps))
fields_front fs n [] h e = absurd h
fields_front fs n (p ∷ ps) h e = front_same refl (omega (arith, e, fields_longer fs (p ∷ ps) h))

-- the program's front is the definition's
front_on : (file : List ℕ) (s : Progress) (r : Record) → record_at file s ≡ Ok r → Onward (Ok r)
    → front_after (front_of (outlines s)) r ≡ front_of (outlines (stepped file s (Ok r)))
front_on file s (Code kind address from n) e o =
    front_same (used_is (outlines s)) (omega (arith, used_is (outlines s), length_held (bare kind address (length (part file from n))) (outlines s)))
front_on file s (Fixups fixup from n) e o =
    fields_front (fields_of fixup (part file from n)) (n / item_size fixup) s.pieces (fixups_after file s.at (last_of s.pieces) fixup from n e)
    (length_listed file fixup from n (lies_as file s.at (last_of s.pieces) _ e).1)
front_on file s (End entry next) e o = absurd o

-- fields more are written to the last entry
fields_filled : (l : List ℕ) (fixup : Fixup) (items : List ℕ) (ps : List Piece) → AfterCode (last_of ps)
    → closed (kind_of (last_of ps)) fixup items (front_of (map outline ps)) (put l 0 (held (map outline ps)))
    ≡ put l 0 (held (map outline (with_fields (fields_of fixup items) ps)))
fields_filled l fixup items [] h = absurd h
fields_filled l fixup items (p ∷ ps) h = fields_closed l (outline p) (map outline ps) fixup items

-- what a record brings to the room is its entry, or its fixups
room_on : (file l : List ℕ) (s : Progress) (r : Record) → record_at file s ≡ Ok r → Onward (Ok r)
    → room_with file (last_of s.pieces) (front_of (outlines s)) (put l 0 (held (outlines s))) r ≡ put l 0 (held (outlines (stepped file s (Ok r))))
unfolding room_with code_entries
room_on file l s (Code kind address from n) e o =
    let h = (lies_as file s.at (last_of s.pieces) _ e).1 in
    rw (length_part file from n h)
    (ap (λ (i : ℕ). put (put l 0 (held (outlines s))) i (with_length (code_bytes (bare kind address n)))) (used_is (outlines s))
    ∙ appended l (held (outlines s)) (with_length (code_bytes (bare kind address n))))
room_on file l s (Fixups fixup from n) e o =
    fields_filled l fixup (part file from n) s.pieces (fixups_after file s.at (last_of s.pieces) fixup from n e)
room_on file l s (End entry next) e o = absurd o

-- a record may be written
sound : (file : List ℕ) (s : Progress) (r : Record) → record_at file s ≡ Ok r → Sound file s.at (front_of (outlines s)) r
sound file s (Code kind address from n) e = code_measured file s.at (last_of s.pieces) kind address from n e
sound file s (Fixups fixup from n) e =
    ((lies_as file s.at (last_of s.pieces) _ e).1, entry_has s.pieces (fixups_after file s.at (last_of s.pieces) fixup from n e))
sound file s (End entry next) e = tt

-- ---- the walk that fills

-- where it stands: the room holds the entries of the records behind the cursor
pub record Filling (file : List ℕ) (b : Bases) (first : ℕ) (c : Cursor) (f : Front) (room : List ℕ) : Type 0 where
  pub progress : Progress
  pub tracks : Tracks file b first c progress
  pub front : f ≡ front_of (outlines progress)
  pub filled : room ≡ put blank 0 (held (outlines progress))

module _ {file : List ℕ} {b : Bases} {first : ℕ} where
  -- before the first record there is the version
  pub filling_first : {room : List ℕ} → first ≤ length file → room ≡ put blank 0 (version ∷ [])
      → Filling file b first (first_cursor first) (record { entry = 1; used = 1 }) room
  unfolding code_entries
  filling_first l e = record { progress = begun first; tracks = tracks_first l; front = refl; filled = e }

  module _ {c : Cursor} {f : Front} {room : List ℕ} (x : Filling file b first c f room) where
    -- the room has its length
    pub filling_long : length room ≡ 65536
    filling_long = ap length x.filled ∙ length_put blank 0 _ ∙ length_blank

    -- so much of it is used
    used_so_far : f.used ≡ length (held (outlines x.progress))
    used_so_far = ap (λ (g : Front). g.used) x.front ∙ used_is (outlines x.progress)

    module _ {found : Record} (is : Ok found ≡ read file c.at c.last) where
      -- the record that is read is the definition's
      here : record_at file x.progress ≡ Ok found
      here = tracks_found x.tracks is

      -- the record may be written
      pub filling_sound : Sound file c.at f found
      filling_sound = rw (x.tracks.here, x.front) (sound file x.progress found here)

      module _ {qs : List Piece} {entry : Entry} (yes : (records_of file b first).answer ≡ accepted qs entry) where
        module _ {other : Entry} {next : ℕ} (e : found ≡ End other next) where
          -- the pieces are all there
          all_there : x.progress.pieces ≡ qs
          all_there = tracks_to_end x.tracks yes here (ap Ok e)

          -- there is room for the end record
          pub filling_end_room : length (index_of qs entry) ≤ 65536 → f.used + 6 ≤ length room
          filling_end_room fits =
              let all = ap (λ (ps : List Piece). length (held (map outline ps))) all_there in
              omega (arith, used_so_far, all, length_index (map outline qs) entry, fits, filling_long)

          -- with which it holds the index
          pub filling_end : {room' bs : List ℕ} → room' ≡ put room f.used (with_length (end_bytes other)) → bs ≡ index_of qs entry → room' ≡ put blank 0 bs
          unfolding index_bytes
          filling_end {room'} {bs} w k =
              w
              ∙ ap (λ (r : List ℕ). put r f.used (with_length (end_bytes other))) x.filled
              ∙ ap (λ (i : ℕ). put (put blank 0 (held (outlines x.progress))) i (with_length (end_bytes other))) used_so_far
              ∙ appended blank (held (outlines x.progress)) (with_length (end_bytes other))
              ∙ ap (λ (ps : List Piece). put blank 0 (held (map outline ps) ++ with_length (end_bytes other))) all_there
              ∙ ap (λ (t : Entry). put blank 0 (held (map outline qs) ++ with_length (end_bytes t))) (tracks_to_entry x.tracks yes here (ap Ok e))
              ∙ ap (put blank 0) (sym k)

        module _ (o : Onward (Ok found)) where
          -- there is room for any other record
          pub filling_room : length (index_of qs entry) ≤ 65536 → f.used + brings found ≤ 65536
          filling_room fits =
              let z = stepped file x.progress (Ok found) in
              let came = (read_next x.tracks is yes o).came in
              let g = grows file b z (events b z.pieces) qs entry (ap (λ (q : Ran (Verdict Piece)). q.answer) (sym came) ∙ yes) in
              omega (arith, used_so_far, longer file x.progress found here o, g, length_index (map outline qs) entry, fits)

          -- with which it holds what that brings
          pub filling_on : {room' : List ℕ} → room' ≡ room_with file c.last f room found
              → Filling file b first (advanced b c (Ok found)) (front_after f found) room'
          filling_on {room'} w =
              let s = x.progress in
              record {
                progress = stepped file s (Ok found);
                tracks = read_next x.tracks is yes o;
                front = ap (λ (g : Front). front_after g found) x.front ∙ front_on file s found here o;
                filled =
                    w
                    ∙ ap (λ (k : Cursor). room_with file k.last f room found) x.tracks.here
                    ∙ ap (λ (g : Front). room_with file (last_of s.pieces) g room found) x.front
                    ∙ ap (λ (r : List ℕ). room_with file (last_of s.pieces) (front_of (outlines s)) r found) x.filled
                    ∙ room_on file blank s found here o;
              }
