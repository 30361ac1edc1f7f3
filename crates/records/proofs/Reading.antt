-- Where the record that is read lies in its file, what may come before it, and how long code is.
-- Assumes nothing.
use mathlib.Core.Bool.{true, false, false≢true}
use mathlib.Core.List.{List}
use mathlib.Core.Path.{◌≡◌, refl}
use Prim.Native.Nat.{ℕ, ◌+◌, ◌<◌, ◌≤◌}
use native.Mathlib.Omega.{arith}
use borrow.Author.Tests.{leb-true, ltb-true}
use lib.ListN.{length, get_or}
use Rattle.std.proofs.Common.{Option, Some, None, Ok, Err}
use Rattle.answer.proofs.Checks.{on_need}
use Rattle.answer.proofs.Faults.{is_early, PlaceOf, OfFile}
use Rattle.answer.specs.Checks.{failure}
use Rattle.answer.specs.declared.Fault.{Fault}
use Rattle.words.specs.Runs.{Bytes}
use Rattle.records.specs.Records.{Read, type_of, suits, read_code, read_items, read_fixups, read_end, read_as, read}
use Rattle.fields.specs.declared.Fixup.{Fixup}
use Rattle.records.specs.declared.Kind.{Kind}
use Rattle.records.specs.declared.Kind.TheVariants.{Main, ZeroPage, Absolute}
use Rattle.records.specs.declared.Record.TheVariants.{Code, Fixups, End}
use Rattle.records.specs.declared.RecordType.{RecordType}
use Rattle.records.specs.declared.RecordType.TheVariants.{Code as code, Fixups as fixups, End as end}

-- ---- a record lies in its file

-- where a record that begins at `at` has its bytes, in a file of `len` bytes; a fault is one that such a file may be refused with
abbrev pub Where : ℕ → ℕ → Read → Type 0
Where len at (Ok (Code kind address from size)) = (from ≡ at + 4) × (from + size ≤ len)
Where len at (Ok (Fixups fixup from size)) = (from ≡ at + 2) × (from + size ≤ len)
Where len at (Ok (End entry next)) = (next ≡ at + 4) × (next ≤ len)
Where len at (Err e) = OfFile len e.fault e.offset

-- the same as a record, whose arguments antt finds by itself
pub record Lies (len at : ℕ) (r : Read) : Type 0 where
  pub lies : Where len at r

-- a fault of a record, at its place
bad : {len at : ℕ} {fault : Fault} {offset : ℕ} → is_early fault ≡ false → PlaceOf len fault offset → Lies len at (failure fault offset)
bad l w = record { lies = record { late = l; place = w } }

-- a code record's bytes
code_lies : (file : List ℕ) (at : ℕ) (kind : Kind) → Lies (length file) at (read_code file at kind)
unfolding read_code
code_lies file at kind =
    let P = Lies (length file) at in
    on_need failure P _ _ _ _ (bad refl (omega arith))
    (λ h₁. let header : at + 2 ≤ length file = leb-true _ _ h₁ in
    on_need failure P _ _ _ _ (bad refl (omega arith))
    (λ h₂. on_need failure P _ _ _ _ (bad refl (omega arith))
    (λ h₃. record { lies = (refl, omega (arith, leb-true)) })))

-- a fixup record's items
fixups_lie : (file : List ℕ) (at : ℕ) (last : Option Kind) (kind : Kind) (fixup : Fixup) → Lies (length file) at (read_fixups file at last kind fixup)
unfolding read_fixups read_items
fixups_lie file at last kind fixup =
    let P = Lies (length file) at in
    on_need failure P _ _ _ _ (bad refl (omega arith))
    (λ h₁. let header : at + 2 ≤ length file = leb-true _ _ h₁ in
    on_need failure P _ _ _ _ (bad refl (omega arith))
    (λ h₂. on_need failure P _ _ _ _ (bad refl (omega arith))
    (λ h₃. on_need failure P _ _ _ _ (bad refl (omega arith))
    (λ h₄. record { lies = (refl, omega (arith, leb-true)) }))))

-- the end record's bytes
end_lies : (file : List ℕ) (at : ℕ) → Lies (length file) at (read_end file at)
unfolding read_end
end_lies file at =
    let P = Lies (length file) at in
    on_need failure P _ _ _ _ (bad refl (omega arith))
    (λ h₁. let header : at + 4 ≤ length file = leb-true _ _ h₁ in
    on_need failure P _ _ _ _ (bad refl (omega arith))
    (λ h₂. record { lies = (refl, header) }))

-- the record at an offset lies in the file, whatever its type
pub read_lies : (file : List ℕ) (at : ℕ) (last : Option Kind) → Lies (length file) at (read file at last)
unfolding read
read_lies file at last =
    on_need failure (Lies (length file) at) _ _ _ _ (bad refl (omega arith)) (λ h. typed (ltb-true _ _ h) (type_of (get_or file at 0)))
  where
    typed : at < length file → (t : Option RecordType) → Lies (length file) at (read_as file at last t)
    typed h (Some (code kind)) = code_lies file at kind
    typed h (Some (fixups kind fixup)) = fixups_lie file at last kind fixup
    typed h (Some end) = end_lies file at
    typed h None = bad refl (omega arith)

-- the same of a record known to be what is read
pub lies_as : (file : List ℕ) (at : ℕ) (last : Option Kind) (r : Read) → read file at last ≡ r → Where (length file) at r
lies_as file at last r e =
    let h : Lies (length file) at r = rw (← e) (read_lies file at last) in
    h.lies

-- ---- a fixup record stands only after code

-- there is a code record before
abbrev pub AfterCode : Option Kind → Type 0
AfterCode None = ⊥
AfterCode (Some kind) = Unit {0}

-- what a record asks of the last code record before it: a fixup record alone asks for anything
abbrev After : Option Kind → Read → Type 0
After last (Ok (Code kind address from size)) = Unit {0}
After last (Ok (Fixups fixup from size)) = AfterCode last
After last (Ok (End entry next)) = Unit {0}
After last (Err e) = Unit {0}

-- the same as a record
record Follows (last : Option Kind) (r : Read) : Type 0 where
  follows : After last r

-- a fault asks for nothing
free : {last : Option Kind} {fault : Fault} {offset : ℕ} → Follows last (failure fault offset)
free = record { follows = tt }

-- before any code record no kind suits
suits_after : (kind : Kind) (last : Option Kind) → suits kind last ≡ true → AfterCode last
suits_after Main None e = false≢true e
suits_after ZeroPage None e = false≢true e
suits_after Absolute None e = false≢true e
suits_after kind (Some before) e = tt

-- a code record asks for nothing before it
code_follows : (file : List ℕ) (at : ℕ) (last : Option Kind) (kind : Kind) → Follows last (read_code file at kind)
unfolding read_code
code_follows file at last kind =
    let P = Follows last in
    on_need failure P _ _ _ _ free (λ _. on_need failure P _ _ _ _ free (λ _. on_need failure P _ _ _ _ free (λ _. record { follows = tt })))

-- a fixup record asks for code
fixups_follow : (file : List ℕ) (at : ℕ) (last : Option Kind) (kind : Kind) (fixup : Fixup) → Follows last (read_fixups file at last kind fixup)
unfolding read_fixups read_items
fixups_follow file at last kind fixup =
    let P = Follows last in
    on_need failure P _ _ _ _ free
    (λ _. on_need failure P _ _ _ _ free
    (λ h. on_need failure P _ _ _ _ free
    (λ _. on_need failure P _ _ _ _ free
    (λ _. record { follows = suits_after kind last h }))))

-- the end record asks for nothing
end_follows : (file : List ℕ) (at : ℕ) (last : Option Kind) → Follows last (read_end file at)
unfolding read_end
end_follows file at last =
    let P = Follows last in
    on_need failure P _ _ _ _ free (λ _. on_need failure P _ _ _ _ free (λ _. record { follows = tt }))

-- the record at an offset has what it asks for before it
read_follows : (file : List ℕ) (at : ℕ) (last : Option Kind) → Follows last (read file at last)
unfolding read
read_follows file at last = on_need failure (Follows last) _ _ _ _ free (λ _. typed (type_of (get_or file at 0)))
  where
    typed : (t : Option RecordType) → Follows last (read_as file at last t)
    typed (Some (code kind)) = code_follows file at last kind
    typed (Some (fixups kind fixup)) = fixups_follow file at last kind fixup
    typed (Some end) = end_follows file at last
    typed None = free

-- where a fixup record is read, there is a code record before
pub fixups_after : (file : List ℕ) (at : ℕ) (last : Option Kind) (fixup : Fixup) (from size : ℕ) → read file at last ≡ Ok (Fixups fixup from size)
    → AfterCode last
fixups_after file at last fixup from size e =
    let h : Follows last (Ok (Fixups fixup from size)) = rw (← e) (read_follows file at last) in
    h.follows

-- ---- how long a code record is

-- a code record has its length byte, which counts the two bytes of its address too; nothing is said of others
abbrev Measured : List ℕ → ℕ → Read → Type 0
Measured file at (Ok (Code kind address from size)) = (at + 2 ≤ length file) × (get_or file (at + 1) 0 ≡ size + 2)
Measured file at (Ok (Fixups fixup from size)) = Unit {0}
Measured file at (Ok (End entry next)) = Unit {0}
Measured file at (Err e) = Unit {0}

-- the same as a record
record Long (file : List ℕ) (at : ℕ) (r : Read) : Type 0 where
  long : Measured file at r

-- a fault holds nothing
none : {file : List ℕ} {at : ℕ} {fault : Fault} {offset : ℕ} → Long file at (failure fault offset)
none = record { long = tt }

-- what is left of the length byte after the address
code_long : (file : List ℕ) (at : ℕ) (kind : Kind) → Long file at (read_code file at kind)
unfolding read_code
code_long file at kind =
    let P = Long file at in
    on_need failure P _ _ _ _ none
    (λ h₁. on_need failure P _ _ _ _ none
    (λ h₂. on_need failure P _ _ _ _ none (λ _. record { long = (leb-true _ _ h₁, omega (arith, leb-true 2 (get_or file (at + 1) 0) h₂)) })))

-- a fixup record is no code
fixups_long : (file : List ℕ) (at : ℕ) (last : Option Kind) (kind : Kind) (fixup : Fixup) → Long file at (read_fixups file at last kind fixup)
unfolding read_fixups read_items
fixups_long file at last kind fixup =
    let P = Long file at in
    on_need failure P _ _ _ _ none
    (λ _. on_need failure P _ _ _ _ none
    (λ _. on_need failure P _ _ _ _ none
    (λ _. on_need failure P _ _ _ _ none
    (λ _. record { long = tt }))))

-- nor is the end record
end_long : (file : List ℕ) (at : ℕ) → Long file at (read_end file at)
unfolding read_end
end_long file at = let P = Long file at in on_need failure P _ _ _ _ none (λ _. on_need failure P _ _ _ _ none (λ _. record { long = tt }))

-- the record at an offset, whatever its type
read_long : (file : List ℕ) (at : ℕ) (last : Option Kind) → Long file at (read file at last)
unfolding read
read_long file at last = on_need failure (Long file at) _ _ _ _ none (λ _. typed (type_of (get_or file at 0)))
  where
    typed : (t : Option RecordType) → Long file at (read_as file at last t)
    typed (Some (code kind)) = code_long file at kind
    typed (Some (fixups kind fixup)) = fixups_long file at last kind fixup
    typed (Some end) = end_long file at
    typed None = none

-- a code record is as long as its length byte says
pub code_measured : (file : List ℕ) (at : ℕ) (last : Option Kind) (kind : Kind) (address from size : ℕ) → read file at last ≡ Ok (Code kind address from size)
    → (at + 2 ≤ length file) × (get_or file (at + 1) 0 ≡ size + 2)
code_measured file at last kind address from size e =
    let h : Long file at (Ok (Code kind address from size)) = rw (← e) (read_long file at last) in
    h.long

-- in a file of bytes it holds 253 bytes at most
pub code_few : (file : List ℕ) (at : ℕ) (last : Option Kind) (kind : Kind) (address from size : ℕ) → Bytes file
    → read file at last ≡ Ok (Code kind address from size) → size ≤ 253
code_few file at last kind address from size b e = omega (arith, (code_measured file at last kind address from size e).1, b (at + 1))
