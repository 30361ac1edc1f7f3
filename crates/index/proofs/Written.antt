-- An index that was written holds the outlines and the entry that it was written for.
-- Assumes nothing.
use mathlib.Core.Bool.{true}
use mathlib.Core.List.{List, [], ◌∷◌, ◌++◌, append-nil, append_assoc}
use mathlib.Core.Path.{◌≡◌, refl, sym, ap, ◌∙◌, subst}
use Prim.Native.Nat.{ℕ, suc, ◌+◌, ◌*◌, ◌≤◌, ◌<◌}
use native.Mathlib.Omega.{arith}
use lib.ListN.{length, drop, length-append}
use lib.Seq.{drop-append_seam}
use Rattle.entries.proofs.ReadBack.{Encodable, fields_back, all_suit_lem, length_code_bytes, length_entry, code_back, fixups_there, end_ends, end_back}
use Rattle.entries.specs.Bytes.{code_bytes, end_bytes, with_length, code_entries, index_bytes}
use Rattle.records.specs.Types.{address_in}
use Rattle.entries.specs.Entries.{fields_to, all_suit}
use Rattle.std.proofs.Common.{Ok}
use Rattle.entries.specs.declared.IndexEntry.TheVariants.{Code, End}
use Rattle.events.specs.Lists.{Each}
use Rattle.pieces.specs.Pieces.{Outline}
use Rattle.records.specs.declared.Entry.{Entry}
use Rattle.words.specs.Runs.{part}
use Rattle.index.proofs.Holding.{Readable, Leads, at_first, and_then, Holds}
use Rattle.index.specs.Walk.{Progress, entry_at, stepped}

-- the entries of the older outlines stand first
entries_split : (newer older : List Outline) → (rest : List ℕ) × (code_entries (newer ++ older) ≡ code_entries older ++ rest)
unfolding code_entries
entries_split [] older = ([], sym (append-nil (code_entries older)))
entries_split (o ∷ newer) older =
    let r = entries_split newer older in (
      r.0 ++ with_length (code_bytes o),
      ap (λ (l : List ℕ). l ++ with_length (code_bytes o)) r.1 ∙ append_assoc (code_entries older) r.0 (with_length (code_bytes o)),
    )

-- where a walk stands after the entries of some outlines
abbrev behind : List Outline → Progress
behind older = record { at = suc (length (code_entries older)); outlines = older }

module _ (os : List Outline) (entry : Entry) where
  abbrev index : List ℕ
  index = index_bytes os entry

  -- the entry of the next outline stands there
  entry_there : (newer : List Outline) (o : Outline) (older : List Outline) → os ≡ newer ++ o ∷ older
      → (rest : List ℕ) × (drop (suc (length (code_entries older))) index ≡ with_length (code_bytes o) ++ rest)
  unfolding index_bytes code_entries
  entry_there newer o older e =
      let r = entries_split newer (o ∷ older) in
      let end = with_length (end_bytes entry) in
      let there = with_length (code_bytes o) in (
        r.0 ++ end,
        ap (λ (qs : List Outline). drop (length (code_entries older)) (code_entries qs ++ end)) e
            ∙ ap (λ (l : List ℕ). drop (length (code_entries older)) (l ++ end)) r.1
            ∙ ap (drop (length (code_entries older)))
            (append_assoc (code_entries older ++ there) r.0 end ∙ append_assoc (code_entries older) there (r.0 ++ end))
            ∙ drop-append_seam (code_entries older) (there ++ (r.0 ++ end)),
      )

  -- the end entry stands behind them all
  end_there : drop (suc (length (code_entries os))) index ≡ with_length (end_bytes entry) ++ []
  unfolding index_bytes
  end_there = drop-append_seam (code_entries os) (with_length (end_bytes entry)) ∙ sym (append-nil (with_length (end_bytes entry)))

  -- an entry is shorter than the index
  short_entry : (newer : List Outline) (o : Outline) (older : List Outline) → os ≡ newer ++ o ∷ older → length index ≤ 65536
      → length (code_bytes o) < 65536
  unfolding index_bytes code_entries
  short_entry newer o older e short =
      let r = entries_split newer (o ∷ older) in
      let end = with_length (end_bytes entry) in
      let there = with_length (code_bytes o) in
      let l : length (code_entries os) ≡ length (code_entries older ++ there) + length r.0 =
      ap length (ap code_entries e ∙ r.1) ∙ length-append (code_entries older ++ there) r.0 in
      omega (arith, short, l, length-append (code_entries older) there, length-append (code_entries os) end, length_entry (code_bytes o))

  -- a code entry that is read back leads on to its outline
  module _ (o : Outline) (older : List Outline) (rest : List ℕ) (is : drop (suc (length (code_entries older))) index ≡ with_length (code_bytes o) ++ rest)
      (y : Encodable o) (short : length (code_bytes o) < 65536) where
    abbrev at : ℕ
    at = suc (length (code_entries older))

    abbrev count : ℕ
    count = 3 * length o.fields

    found : entry_at index (behind older) ≡ Ok (Code o.kind o.address o.size (at + 6) count)
    found = code_back index at o rest is y short

    readable : Readable index (entry_at index (behind older))
    readable =
        let suit : all_suit o.kind (part index (at + 6) count) ≡ true =
        ap (all_suit o.kind) (fixups_there index at o rest is) ∙ all_suit_lem o.kind o.fields y.fields in
        subst (Readable index) (sym found) suit

    steps : stepped index (behind older) (entry_at index (behind older)) ≡ behind (o ∷ older)
    unfolding code_entries
    steps =
        let fields : fields_to o.kind (part index (at + 6) count) ≡ o.fields =
        ap (fields_to o.kind) (fixups_there index at o rest is) ∙ fields_back o.kind o.fields y.fields in
        let there = with_length (code_bytes o) in
        let n : at + 6 + count ≡ suc (length (code_entries older ++ there)) =
        omega (arith, length-append (code_entries older) there, length_entry (code_bytes o), length_code_bytes o) in
        ap (stepped index (behind older)) found ∙ rw (n, fields) refl

  -- one entry after the other
  leads : (older newer : List Outline) → os ≡ newer ++ older → length index ≤ 65536 → Each Encodable older → Leads index (behind older)
  unfolding code_entries
  leads [] newer e short y = at_first
  leads (o ∷ older) newer e short y =
      let r = entry_there newer o older e in
      let s = short_entry newer o older e short in
      let before = leads older (newer ++ o ∷ []) (e ∙ sym (append_assoc newer (o ∷ []) older)) short y.1 in
      subst (Leads index) (steps o older r.0 r.1 y.0 s) (and_then before (readable o older r.0 r.1 y.0 s))

  -- an index that is not too long, of what can be written
  pub written_holds : length index ≤ 65536 → Each Encodable os → address_in entry < 65536 → Holds index os entry
  unfolding index_bytes
  written_holds short y small =
      let at : ℕ = suc (length (code_entries os)) in
      let n : at + 6 ≡ length index = omega (arith, end_ends index at entry [] end_there) in
      record {
        there = omega arith;
        versioned = refl;
        last = behind os;
        entries = leads os [] refl short y;
        end = end_back index at entry [] end_there small ∙ ap (λ (next : ℕ). Ok (End entry next)) n;
        outlines = refl;
      }
