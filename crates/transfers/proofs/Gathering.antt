-- The walk that gathers the pieces of a file: at each record the scratch holds the pieces so far, moved.
-- Assumes nothing.
use mathlib.Core.List.{List, [], ◌∷◌, ◌++◌, map}
use mathlib.Core.Path.{◌≡◌, refl, sym, ap, ◌∙◌}
use Prim.Native.Nat.{ℕ, ◌+◌, ◌-◌, ◌≤◌, ◌<◌}
use native.Mathlib.Omega.{arith}
use borrow.Rule.Slice.PartMut.{mid_of, put_mid}
use lib.ListN.{length}
use Rattle.std.proofs.Common.{Ok, Err, Option, Some, None, IsSome, IsNone, ◌↔◌}
use Rattle.acx.proofs.Cursors.{Tracks, tracks_first, tracks_found, tracks_on, tracks_passes, tracks_to_end, tracks_onward}
use Rattle.pieces.proofs.Edits.{length_edited, edited_append}
use Rattle.pieces.proofs.Marks.{fields_fresh}
use Rattle.acx.proofs.Turning.{fixups_passed}
use Rattle.acx.proofs.Walking.{opening_fits, Passes, judged_opens}
use Rattle.acx.specs.Call.{form_of}
use Rattle.acx.specs.Cursor.{first_cursor, advanced}
use Rattle.acx.specs.Rules.{Onward}
use Rattle.pieces.specs.AtBases.{applied}
use Rattle.pieces.specs.Places.{Inside}
use Rattle.pieces.specs.Pieces.{Piece, Outline, outline, place_at, place_of, edited, events}
use Rattle.acx.specs.Walk.{Verdict, accepted, Progress, begun, last_of, last_place, last_size, record_at, checked, with_fields, stepped, records_of, opening_size}
use Rattle.pieces.specs.declared.Bases.{Bases}
use Rattle.acx.specs.declared.Cursor.{Cursor}
use Rattle.answer.specs.declared.Failure.{Failure}
use Rattle.events.proofs.Checks.{failed_passed}
use Rattle.events.proofs.Events.{length_marks, length_blank}
use Rattle.events.specs.Events.{marks, blank, Ran}
use Rattle.events.specs.Lists.{Each}
use Rattle.records.proofs.Reading.{AfterCode, lies_as, fixups_after}
use Rattle.fields.specs.Fields.{item_size, fields_of}
use Rattle.records.specs.Records.{Read, read}
use Rattle.records.specs.declared.Entry.{Entry}
use Rattle.fields.specs.declared.Field.{Field}
use Rattle.fields.specs.declared.Fixup.{Fixup}
use Rattle.records.specs.declared.Kind.{Kind}
use Rattle.records.specs.declared.Record.{Record}
use Rattle.records.specs.declared.Record.TheVariants.{Code, Fixups, End}
use Rattle.words.proofs.Lent.{lent_is, back_is}
use Rattle.words.proofs.Runs.{length_part, length_put, part_put_long, put_put}
use Rattle.words.specs.Runs.{part, put}
use Rattle.moves.proofs.Files.{verdict, same_pieces}
use Rattle.moves.proofs.Rulings.{allows_is, both}
use Rattle.moves.proofs.Sources.{found}
use Rattle.moves.specs.Call.{ruling_of, Allows, pieces_of}
use Rattle.moves.specs.Move.{shift, carried, transfer}
use Rattle.moves.specs.Sources.{Source, file_in, FileAccepted}
use Rattle.transfers.specs.Scratch.{scratch_with, Sound}

-- ---- the bytes

-- where a move is allowed, they are not too many for a file
pub allowed_file : (h : Source) (old new : Bases) → Allows (ruling_of h old new) → (o : Option (List ℕ)) → (IsNone o ↔ (65536 < length h.bytes)) → IsSome o
allowed_file h old new a (Some file) e = refl
allowed_file h old new a None e =
    let ps = pieces_of (ruling_of h old new) in
    let l = (found h ps old (both h old new ps (allows_is (ruling_of h old new) a)).0).fits in
    let g = e.0 refl in
    absurd (omega (arith, l, g))

-- ---- the file

-- a file that may move can be walked through at both pairs of bases, from the offset `first` on
pub record Walkable (form : ℕ) (old new : Bases) (file : List ℕ) (first : ℕ) : Type 0 where
  pub fits : length file ≤ 65536
  pub opens : first ≤ length file
  pub pieces : List Piece
  pub outlines : pieces_of (ruling_of (file_in form file) old new) ≡ map outline pieces
  pub entry : Entry
  pub yes_old : (records_of file old first).answer ≡ accepted pieces entry
  pub yes_new : (records_of file new first).answer ≡ accepted pieces entry

-- it can, from the offset behind the opening on
pub walkable : (form : ℕ) (old new : Bases) (file : List ℕ) (first : ℕ) → first ≡ opening_size (form_of form)
    → Allows (ruling_of (file_in form file) old new) → Walkable form old new file first
walkable form old new file first e a =
    let v = ruling_of (file_in form file) old new in
    let ps = pieces_of v in
    let x = both (file_in form file) old new ps (allows_is v a) in
    let h : FileAccepted form file old ps x.0.entry = x.0.accepts in
    let k : FileAccepted form file new ps x.1.entry = x.1.accepts in
    let same = same_pieces form file ps ps old new h k in
    let yes_old = verdict form file ps old h in
    let yes_new =
    verdict form file ps new k ∙ ap (λ (qs : List Piece). accepted qs x.1.entry) same.0 ∙ ap (accepted h.pieces) same.1 in
    let at_old = judged_opens (form_of form) file old h.pieces x.0.entry yes_old in
    let at_new = judged_opens (form_of form) file new h.pieces x.0.entry yes_new in
    rw e
    (record {
      fits = h.accepts.fits;
      opens = opening_fits (form_of form) file at_old.0;
      pieces = h.pieces;
      outlines = h.outlines;
      entry = x.0.entry;
      yes_old = ap (λ (o : Ran (Verdict Piece)). o.answer) (sym at_old.1) ∙ yes_old;
      yes_new = ap (λ (o : Ran (Verdict Piece)). o.answer) (sym at_new.1) ∙ yes_new;
    })

-- ---- one record

module _ (old new : Bases) (m t₀ t : List ℕ) (os : List Outline) where
  -- code taken is a piece more
  pub code_taken : (kind : Kind) (address n : ℕ) → t ≡ transfer old new os m t₀
      → put t (place_at new kind address) (part m (place_at old kind address) n)
      ≡ transfer old new (record { kind = kind; address = address; size = n; fields = [] } ∷ os) m t₀
  unfolding transfer carried edited
  code_taken kind address n e = ap (λ (r : List ℕ). put r (place_at new kind address) (part m (place_at old kind address) n)) e

  -- fields shifted are the last piece's
  pub fields_taken : (fs : List Field) (o : Outline) → place_of old o + o.size ≤ length m → place_of new o + o.size ≤ length t
      → t ≡ transfer old new (o ∷ os) m t₀
      → put t (place_of new o) (edited (shift old new) fs (part t (place_of new o) o.size))
      ≡ transfer old new (record { kind = o.kind; address = o.address; size = o.size; fields = o.fields ++ fs } ∷ os) m t₀
  unfolding transfer carried
  fields_taken fs o i j e =
      let g = shift old new in
      let a = place_of new o in
      let u : List ℕ = transfer old new os m t₀ in
      let bs : List ℕ = part m (place_of old o) o.size in
      let cs : List ℕ = edited g o.fields bs in
      let n : length cs ≡ o.size = length_edited g o.fields bs ∙ length_part m (place_of old o) o.size i in
      let l : length t ≡ length u = ap length e ∙ length_put u a cs in
      let there : part t a o.size ≡ cs =
      ap (λ (r : List ℕ). part r a o.size) e ∙ part_put_long u a cs o.size n (rw (← l) j) in
      ap (λ (r : List ℕ). put t a (edited g fs r)) there
      ∙ ap (λ (r : List ℕ). put r a (edited g fs cs)) e
      ∙ put_put u a cs (edited g fs cs) (sym (length_edited g fs cs))
      ∙ ap (put u a) (sym (edited_append g o.fields fs bs))

-- the fields of a fixup record are those of the last code record
fields_gathered : (old new : Bases) (m t₀ t : List ℕ) (fs : List Field) (ps : List Piece) → AfterCode (last_of ps)
    → last_place old ps + last_size ps ≤ length m
    → last_place new ps + last_size ps ≤ length t
    → t ≡ transfer old new (map outline ps) m t₀
    → put t (last_place new ps) (edited (shift old new) fs (part t (last_place new ps) (last_size ps)))
    ≡ transfer old new (map outline (with_fields fs ps)) m t₀
fields_gathered old new m t₀ t fs [] h i j e = absurd h
fields_gathered old new m t₀ t fs (p ∷ ps) h i j e = fields_taken old new m t₀ t (map outline ps) fs (outline p) i j e

-- the fields of a record that passed lie in the last code
fields_inside : (file : List ℕ) (b : Bases) (s : Progress) (fixup : Fixup) (from n : ℕ) → last_place b s.pieces + last_size s.pieces ≤ 65536
    → record_at file s ≡ Ok (Fixups fixup from n)
    → Passes file b s → Each (Inside (last_size s.pieces)) (fields_of fixup (part file from n))
fields_inside file b s fixup from n h e c =
    let p = marks (events b s.pieces) blank in
    let l : length p ≡ 65536 = length_marks (events b s.pieces) blank ∙ length_blank in
    (fields_fresh from (item_size fixup) b (last_place b s.pieces) (last_size s.pieces) (fields_of fixup (part file from n)) [] p (omega (arith, h, l)) tt
    (fixups_passed file b s p fixup from n e c)).inside

-- what a record brings to the scratch is what its piece brings, or its fields
gathered_on : (file : List ℕ) (old new : Bases) (m t₀ t : List ℕ) (source target : Cursor) (s : Progress) (r : Record)
    → length m ≡ 65536
    → length t ≡ 65536 → last_place old s.pieces + last_size s.pieces ≤ 65536
    → last_place new s.pieces + last_size s.pieces ≤ 65536
    → target.place ≡ last_place new s.pieces
    → target.size ≡ last_size s.pieces
    → record_at file s ≡ Ok r
    → Onward (Ok r)
    → t ≡ transfer old new (map outline s.pieces) m t₀
    → scratch_with file old new (advanced old source (Ok r)) (advanced new target (Ok r)) m t r ≡ transfer old new (map outline (stepped file s (Ok r)).pieces) m t₀
unfolding scratch_with
gathered_on file old new m t₀ t source target s (Code kind address from n) lm lt i j ep es e o g =
    let h = (lies_as file s.at (last_of s.pieces) _ e).1 in
    rw (length_part file from n h) (code_taken old new m t₀ t (map outline s.pieces) kind address n g)
gathered_on file old new m t₀ t source target s (Fixups fixup from n) lm lt i j ep es e o g =
    rw (ep, es)
    (fields_gathered old new m t₀ t (fields_of fixup (part file from n)) s.pieces
    (fixups_after file s.at (last_of s.pieces) fixup from n e)
    (omega arith)
    (omega arith) g)
gathered_on file old new m t₀ t source target s (End entry next) lm lt i j ep es e o g = absurd o

-- the fields of a record lie in the last code
sound : (file : List ℕ) (b : Bases) (c : Cursor) (s : Progress) (r : Record) → last_place b s.pieces + last_size s.pieces ≤ 65536
    → c.size ≡ last_size s.pieces
    → record_at file s ≡ Ok r
    → Passes file b s
    → Sound file (advanced b c (Ok r)).size r
sound file b c s (Code kind address from n) i es e k = tt
sound file b c s (Fixups fixup from n) i es e k =
    ((lies_as file s.at (last_of s.pieces) _ e).1, rw es (fields_inside file b s fixup from n i e k))
sound file b c s (End entry next) i es e k = tt

-- a part of memory copied into a part of the scratch
pub taken : (place to size : ℕ) (m t bs : List ℕ) → place + size ≤ length m → to + size ≤ length t → bs ≡ mid_of place (place + size - place) m
    → put_mid to (to + size - to) t bs ≡ put t to (part m place size)
taken place to size m t bs i j e =
    let is : bs ≡ part m place size = e ∙ lent_is place size m in
    back_is to size t bs j (ap length is ∙ length_part m place size i) ∙ ap (put t to) is

-- fields shifted in a part of the scratch
pub shifted : (old new : Bases) (fs : List Field) (a n : ℕ) (t bs : List ℕ) → a + n ≤ length t → bs ≡ edited (shift old new) fs (mid_of a (a + n - a) t)
    → put_mid a (a + n - a) t bs ≡ put t a (edited (shift old new) fs (part t a n))
shifted old new fs a n t bs j e =
    let g = shift old new in
    let is : bs ≡ edited g fs (part t a n) = e ∙ ap (edited g fs) (lent_is a n t) in
    let l : length bs ≡ n = ap length is ∙ length_edited g fs (part t a n) ∙ length_part t a n j in
    back_is a n t bs j l ∙ ap (put t a) is

-- ---- a record gathered by the program, which lends parts of the buffers

module _ (file : List ℕ) (old new : Bases) (source target : Cursor) (m t : List ℕ) {r : Record} where
  -- code
  pub gathers_code : {kind : Kind} {address from n : ℕ} {t' : List ℕ} → r ≡ Code kind address from n → source.size ≡ target.size
      → t' ≡ put t target.place (part m source.place target.size)
      → t' ≡ scratch_with file old new source target m t r
  unfolding scratch_with
  gathers_code e k d = rw e (d ∙ ap (λ (n : ℕ). put t target.place (part m source.place n)) (sym k))

  -- fields, which the items list
  pub gathers_fields : {fixup : Fixup} {from n : ℕ} {items bs : List ℕ} → r ≡ Fixups fixup from n → items ≡ part file from n
      → target.place + target.size ≤ length t
      → bs ≡ edited (shift old new) (fields_of fixup items) (mid_of target.place (target.place + target.size - target.place) t)
      → put_mid target.place (target.place + target.size - target.place) t bs ≡ scratch_with file old new source target m t r
  unfolding scratch_with
  gathers_fields {fixup} {bs = bs} e i j d =
      rw (e, ← i) (shifted old new (fields_of fixup _) target.place target.size t bs j d)

  -- nothing
  pub gathers_end : {entry : Entry} {next : ℕ} → r ≡ End entry next → t ≡ scratch_with file old new source target m t r
  unfolding scratch_with
  gathers_end e = rw e refl

-- a fixup record may be gathered: it lies in the file, and its fields in the code
pub gathers_sound : (file : List ℕ) (size : ℕ) (r : Record) → Sound file size r → {fixup : Fixup} {from n : ℕ} → r ≡ Fixups fixup from n
    → (from + n ≤ length file) × Each (Inside size) (fields_of fixup (part file from n))
gathers_sound file size r h e = rw e at h

-- the items and the code that are then lent
pub gathers_lent : (file : List ℕ) (target : Cursor) (t : List ℕ) (fixup : Fixup) (from k : ℕ) → length file ≤ 65536
    → target.place + target.size ≤ length t
    → (from + k ≤ length file) × Each (Inside target.size) (fields_of fixup (part file from k))
    → (length (mid_of from (from + k - from) file) ≤ 65536)
    × Each (Inside (length (mid_of target.place (target.place + target.size - target.place) t)))
    (fields_of fixup (mid_of from (from + k - from) file))
gathers_lent file target t fixup from k l j h =
    let items = lent_is from k file in
    let code = lent_is target.place target.size t in
    let n : length (mid_of target.place (target.place + target.size - target.place) t) ≡ target.size =
    ap length code ∙ length_part t target.place target.size j in
    let i : length (mid_of from (from + k - from) file) ≡ k = ap length items ∙ length_part file from k h.0 in
    (omega (arith, i, l, h.0), rw (n, items) h.1)

-- the items that are lent of a record that may be gathered, and the code that is then lent
pub gathers_inside : (file : List ℕ) (target : Cursor) (t : List ℕ) (r : Record) → Sound file target.size r → {fixup : Fixup} {from k : ℕ} {items : List ℕ}
    → r ≡ Fixups fixup from k → items ≡ part file from k
    → target.place + target.size ≤ length t
    → Each (Inside (length (mid_of target.place (target.place + target.size - target.place) t))) (fields_of fixup items)
gathers_inside file target t r h e i j =
    let code = lent_is target.place target.size t in
    let n : length (mid_of target.place (target.place + target.size - target.place) t) ≡ target.size =
    ap length code ∙ length_part t target.place target.size j in
    rw (n, i) (gathers_sound file target.size r h e).1

-- ---- a turn of the loop

-- the walk began at an offset with the scratch t₀, and stands at two cursors with t
pub record Gathering (file : List ℕ) (old new : Bases) (first : ℕ) (m t₀ : List ℕ) (source target : Cursor) (t : List ℕ) : Type 0 where
  pub progress : Progress
  pub at_old : Tracks file old first source progress
  pub at_new : Tracks file new first target progress
  pub gathered : t ≡ transfer old new (map outline progress.pieces) m t₀

module _ {file : List ℕ} {old new : Bases} {first : ℕ} {m t₀ : List ℕ} where
  -- before the first record nothing is gathered
  pub gathering_first : first ≤ length file → Gathering file old new first m t₀ (first_cursor first) (first_cursor first) t₀
  unfolding transfer
  gathering_first l = record { progress = begun first; at_old = tracks_first l; at_new = tracks_first l; gathered = refl }

  module _ {source target : Cursor} {t : List ℕ} (x : Gathering file old new first m t₀ source target t)
      {qs : List Piece} {entry : Entry} (yes_old : (records_of file old first).answer ≡ accepted qs entry)
      (yes_new : (records_of file new first).answer ≡ accepted qs entry) where
    -- no record is at fault
    pub gathering_read : {e : Failure} → Err e ≡ read file source.at source.last → ⊥
    unfolding checked applied
    gathering_read {e} is =
        let p = marks (events old x.progress.pieces) blank in
        failed_passed
        (ap (λ (r : Read). (applied file x.progress.at old (last_place old x.progress.pieces) (last_size x.progress.pieces) r p).answer) (sym (tracks_found x.at_old is))
        ∙ tracks_passes x.at_old yes_old)

    module _ {found : Record} (is : Ok found ≡ read file source.at source.last) where
      -- the record that the program reads is the definition's, at both pairs of bases
      pub found_is : record_at file x.progress ≡ Ok found
      found_is = tracks_found x.at_old is

      -- at the end record all pieces are gathered
      pub gathering_end : {other : Entry} {next : ℕ} {os : List Outline} → found ≡ End other next → os ≡ map outline qs → t ≡ transfer old new os m t₀
      gathering_end e o =
          x.gathered
          ∙ ap (λ (ps : List Piece). transfer old new (map outline ps) m t₀) (tracks_to_end x.at_old yes_old found_is (ap Ok e))
          ∙ ap (λ (rs : List Outline). transfer old new rs m t₀) (sym o)

      -- every other record leads on
      pub gathering_onward : ((other : Entry) (next : ℕ) → found ≡ End other next → ⊥) → Onward (Ok found)
      gathering_onward h = tracks_onward x.at_old yes_old found_is (λ other next e. h other next cc)

      module _ (o : Onward (Ok found)) where
        -- the walks at both pairs of bases come to their cursors behind it
        pub next_old : Tracks file old first (advanced old source (Ok found)) (stepped file x.progress (Ok found))
        next_old = tracks_on x.at_old found_is o (tracks_passes x.at_old yes_old)

        pub next_new : Tracks file new first (advanced new target (Ok found)) (stepped file x.progress (Ok found))
        next_new = tracks_on x.at_new found_is o (tracks_passes x.at_new yes_new)

        -- and the scratch holds what the record brings
        pub gathering_on : {t' : List ℕ} → length m ≡ 65536 → length t ≡ 65536
            → t' ≡ scratch_with file old new (advanced old source (Ok found)) (advanced new target (Ok found)) m t found
            → Gathering file old new first m t₀ (advanced old source (Ok found)) (advanced new target (Ok found)) t'
        gathering_on lm lt e =
            record {
              progress = stepped file x.progress (Ok found);
              at_old = next_old;
              at_new = next_new;
              gathered =
                  e
                  ∙ gathered_on file old new m t₀ t source target x.progress found lm lt x.at_old.stands.inside x.at_new.stands.inside
                  (ap (λ (k : Cursor). k.place) x.at_new.here)
                  (ap (λ (k : Cursor). k.size) x.at_new.here) found_is o x.gathered;
            }

        -- the record may be gathered
        pub gathering_sound : Sound file (advanced new target (Ok found)).size found
        gathering_sound =
            sound file new target x.progress found x.at_new.stands.inside (ap (λ (k : Cursor). k.size) x.at_new.here) found_is
            (tracks_passes x.at_new yes_new)

        -- the last code has one size at both cursors
        pub gathering_sizes : (advanced old source (Ok found)).size ≡ (advanced new target (Ok found)).size
        gathering_sizes = ap (λ (k : Cursor). k.size) next_old.here ∙ sym (ap (λ (k : Cursor). k.size) next_new.here)
