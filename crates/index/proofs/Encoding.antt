-- The pieces and the entry of an accepted file of bytes can be written into an index.
-- Assumes nothing.
use mathlib.Core.List.{List, [], ◌∷◌, map}
use mathlib.Core.Path.{◌≡◌, refl}
use Prim.Native.Nat.{ℕ, suc, ◌+◌, ◌<◌}
use native.Mathlib.Omega.{arith}
use borrow.Author.Tests.{leb-true}
use lib.ListN.{length, get_or}
use Rattle.acx.proofs.Rules.{follows_judged}
use Rattle.acx.proofs.Walking.{accepted_keeps}
use Rattle.acx.specs.Call.{form_of}
use Rattle.acx.specs.Rules.{Onward, Accepts}
use Rattle.acx.specs.Walk.{Progress, last_of, record_at, with_fields, stepped}
use Rattle.std.proofs.Common.{Option, Ok, Err, Some, None}
use Rattle.answer.proofs.Checks.{on_need}
use Rattle.answer.specs.Checks.{failure}
use Rattle.answer.specs.declared.Fault.{Fault}
use Rattle.entries.proofs.ReadBack.{Listable, Encodable}
use Rattle.entries.proofs.Reading.{flag_below}
use Rattle.records.specs.Types.{address_in}
use Rattle.entries.specs.Entries.{lsb_for}
use Rattle.events.proofs.Lists.{each_append, image_each}
use Rattle.events.specs.Lists.{Each}
use Rattle.fields.specs.Fields.{singles, pairs, fields_of}
use Rattle.fields.specs.declared.Field.{Field}
use Rattle.fields.specs.declared.Fixup.{Fixup}
use Rattle.fields.specs.declared.Fixup.TheVariants.{LowByte, ZeroPageByte, Word, HighByte}
use Rattle.pieces.specs.Pieces.{Piece, outline}
use Rattle.pieces.specs.declared.Bases.{Bases}
use Rattle.records.proofs.Reading.{lies_as, code_few}
use Rattle.records.specs.Records.{Read, type_of, read_code, read_items, read_fixups, read_end, read_as, read}
use Rattle.records.specs.declared.Entry.{Entry}
use Rattle.records.specs.declared.Kind.{Kind}
use Rattle.records.specs.declared.Record.TheVariants.{Code, Fixups, End}
use Rattle.records.specs.declared.RecordType.{RecordType}
use Rattle.records.specs.declared.RecordType.TheVariants.{Code as code, Fixups as fixups, End as end}
use Rattle.words.proofs.Changes.{value_lt}
use Rattle.words.proofs.Runs.{length_part, bytes_part}
use Rattle.words.specs.Runs.{Bytes, part}

-- ---- an address that is read has two bytes

-- that of code, and that of the entry
abbrev InWord : Read → Type 0
InWord (Ok (Code kind address from n)) = address < 65536
InWord (Ok (Fixups fixup from n)) = Unit {0}
InWord (Ok (End entry next)) = address_in entry < 65536
InWord (Err e) = Unit {0}

-- (the same as a record)
record Narrow (r : Read) : Type 0 where
  in_word : InWord r

-- a fault has none
none : {fault : Fault} {offset : ℕ} → Narrow (failure fault offset)
none = record { in_word = tt }

-- whatever the type
read_narrow : (file : List ℕ) (at : ℕ) (last : Option Kind) → Bytes file → Narrow (read file at last)
unfolding read read_code read_fixups read_items read_end
read_narrow file at last b = on_need failure Narrow _ _ _ _ none (λ _. typed (type_of (get_or file at 0)))
  where
    typed : (t : Option RecordType) → Narrow (read_as file at last t)
    typed (Some (code kind)) =
        on_need failure Narrow _ _ _ _ none
        (λ _. on_need failure Narrow _ _ _ _ none
        (λ h₂. let two = leb-true 2 (get_or file (at + 1) 0) h₂ in
        on_need failure Narrow _ _ _ _ none
        (λ h₃. let l = leb-true (at + 2 + get_or file (at + 1) 0) (length file) h₃ in
        record { in_word = value_lt 2 file (at + 2) (omega arith) b })))
    typed (Some (fixups kind fixup)) =
        on_need failure Narrow _ _ _ _ none
        (λ _. on_need failure Narrow _ _ _ _ none
        (λ _. on_need failure Narrow _ _ _ _ none
        (λ _. on_need failure Narrow _ _ _ _ none
        (λ _. record { in_word = tt }))))
    typed (Some end) =
        on_need failure Narrow _ _ _ _ none
        (λ h₁. let l = leb-true (at + 4) (length file) h₁ in
        on_need failure Narrow _ _ _ _ none
        (λ _. record { in_word = flag_below _ (get_or file (at + 1) 0) (value_lt 2 file (at + 2) (omega arith) b) }))
    typed None = none

in_word_as : (file : List ℕ) (at : ℕ) (last : Option Kind) (r : Read) → Bytes file → read file at last ≡ r → InWord r
in_word_as file at last r b e =
    let h : Narrow r = rw (← e) (read_narrow file at last b) in
    h.in_word

-- ---- the fields that bytes list

-- by their indices alone, where an LSB of 0 stays
singles_listable : (fixup : Fixup) → lsb_for fixup 0 ≡ 0 → (items : List ℕ) → Bytes items → Each Listable (singles fixup items)
singles_listable fixup z [] b = tt
singles_listable fixup z (index ∷ items) b =
    (record { bytes = (b 0, omega arith); unused = z }, singles_listable fixup z items (λ x. b (suc x)))

-- by pairs of index and LSB
pairs_listable : (items : List ℕ) → Bytes items → Each Listable (pairs items)
pairs_listable [] b = tt
pairs_listable (index ∷ []) b = tt
pairs_listable (index ∷ lsb ∷ items) b = (record { bytes = (b 0, b 1); unused = refl }, pairs_listable items (λ x. b (suc (suc x))))

-- by any fixup
fields_listable : (fixup : Fixup) (items : List ℕ) → Bytes items → Each Listable (fields_of fixup items)
unfolding fields_of
fields_listable LowByte items b = singles_listable LowByte refl items b
fields_listable ZeroPageByte items b = singles_listable ZeroPageByte refl items b
fields_listable Word items b = singles_listable Word refl items b
fields_listable HighByte items b = pairs_listable items b

-- ---- the pieces so far

-- each can be written
abbrev Written : List Piece → Type 0
Written ps = Each (λ p. Encodable (outline p)) ps

-- fields more
written_fields : (fs : List Field) (ps : List Piece) → Each Listable fs → Written ps → Written (with_fields fs ps)
written_fields fs [] f h = tt
written_fields fs (p ∷ ps) f h =
    (record { address = h.0.address; size = h.0.size; fields = each_append Listable p.fields fs h.0.fields f }, h.1)

-- every record keeps it so
written_on : (file : List ℕ) (s : Progress) (r : Read) → Bytes file → Written s.pieces → record_at file s ≡ r → Onward r
    → Written (stepped file s r).pieces
written_on file s (Ok (Code kind address from n)) b h e o =
    let last = last_of s.pieces in
    let l : length (part file from n) ≡ n = length_part file from n (lies_as file s.at last _ e).1 in (
      record {
        address = in_word_as file s.at last _ b e;
        size = omega (arith, l, code_few file s.at last kind address from n b e);
        fields = tt;
      },
      h,
    )
written_on file s (Ok (Fixups fixup from n)) b h e o =
    written_fields (fields_of fixup (part file from n)) s.pieces (fields_listable fixup (part file from n) (bytes_part file from n b)) h
written_on file s (Ok (End entry next)) b h e o = absurd o
written_on file s (Err f) b h e o = absurd o

-- an accepted file: all of them, and its entry
pub accepted_encodable : (form : ℕ) (b : Bases) (file : List ℕ) (ps : List Piece) (entry : Entry) → Bytes file → Accepts form b file ps entry
    → Each Encodable (map outline ps) × (address_in entry < 65536)
accepted_encodable form b file ps entry y h =
    let x = accepted_keeps file b (λ s. Written s.pieces) (λ s r w e o c. written_on file s r y w e o) (form_of form) ps entry tt
    (follows_judged (form_of form) file b ps entry h.follows) in
    (image_each outline Encodable ps x.held, in_word_as file x.at (last_of ps) _ y x.end)
