-- The claims of specs/Built.antt at work: P1's index is built from P1's file, and goes wherever that goes.
-- Assumes nothing.
use mathlib.Core.Bool.{true}
use mathlib.Core.List.{List, [], ◌∷◌}
use mathlib.Core.Path.{◌≡◌, refl, sym, ap, ◌∙◌}
use Prim.Native.Nat.{ℕ, ◌≤◌, ◌<◌}
use native.Mathlib.Omega.{arith}
use borrow.Author.Tests.{le-leb}
use lib.ListN.{get_or}
use Rattle.acx.proofs.Rules.{by_rules}
use Rattle.acx.specs.Call.{in_range, load}
use Rattle.acx.specs.Rules.{Accepts as FileAccepts, out_of_range}
use Rattle.acx.specs.Walk.{accepted, checked, turn, records_from, opening, judged}
use Rattle.acx.specs.Where.{too_high, of_pieces}
use Rattle.answer.specs.Checks.{need}
use Rattle.answer.specs.declared.Fault.TheVariants.{SettingOutOfRange, DoesNotFit}
use Rattle.entries.proofs.Examples.{examples_hold}
use Rattle.entries.specs.Examples.{P1Outlines, P1Entry, P1Index}
use Rattle.events.specs.Events.{marks, blank}
use Rattle.events.specs.Walk.{walk, from}
use Rattle.fields.specs.Fields.{fields_of}
use Rattle.fields.specs.declared.Fixup.TheVariants.{Word}
use Rattle.pieces.specs.AtBases.{placing, adjusting, ending, applied}
use Rattle.pieces.specs.Pieces.{Piece, bases_at}
use Rattle.pieces.specs.declared.Bases.{Bases}
use Rattle.records.specs.Records.{read_code, read_items, read_fixups, read_end, read}
use Rattle.records.specs.declared.Kind.TheVariants.{Main}
use Rattle.words.proofs.Numbers.{bytes_digits}
use Rattle.words.specs.Numbers.{number, digits, value}
use Rattle.words.specs.Runs.{Bytes, part, put, all_zero, contains}
use Rattle.index.proofs.Built.{built_of, gives_back, agrees}
use Rattle.index.specs.Built.{BuiltFrom}
use Rattle.index.specs.Rules.{Accepts, Refuses}
use Rattle.index.specs.Walk.{formless}

-- a main base, with the zero-page base of P1
abbrev pub at : ℕ → Bases
at main = bases_at main 128

-- the file of P1, in device form
unfoldable pub p1 : List ℕ
p1 = 0x00 ∷ 0x05 ∷ 0x00 ∷ 0x00 ∷ 0x4C ∷ 0x03 ∷ 0x00 ∷ 0x06 ∷ 0x01 ∷ 0x01 ∷ 0x0B ∷ 0x02 ∷ 0x00 ∷ 0x00 ∷ []

-- its pieces
abbrev pub pieces : List Piece
pieces =
    record {
      kind = Main;
      address = 0;
      code = 0x4C ∷ 0x03 ∷ 0x00 ∷ [];
      fields = record { fixup = Word; index = 1; lsb = 0 } ∷ [];
    }
    ∷ []

-- it is bytes
pub p1_bytes : Bytes p1
unfolding p1 number digits
p1_bytes = bytes_digits 14 (number p1)

-- it is accepted at 8192
pub p1_loads : (load 1 (at 8192) p1).answer ≡ accepted pieces P1Entry
unfolding p1 number value part put all_zero contains fields_of need read_code read_items read_fixups read_end read marks blank placing adjusting ending applied checked turn records_from walk from opening judged load
p1_loads = refl

pub p1_accepted : FileAccepts 1 (at 8192) p1 pieces P1Entry
p1_accepted = (by_rules 1 (at 8192) p1).accepts_only pieces P1Entry p1_loads

-- so its index is built from it
pub p1_built : BuiltFrom 1 p1 P1Index
p1_built =
    record { bases = at 8192; pieces = pieces; entry = P1Entry; accepts = p1_accepted; is = sym examples_hold.P1; fits = omega arith }

-- it gives back the outline at every main base at which the three bytes have room
ranged : (main : ℕ) → main ≤ 65535 → in_range formless (at main) ≡ true
ranged main l = rw (le-leb main 65535 l) refl

pub accepted_below : (main : ℕ) → main ≤ 65533 → Accepts (at main) P1Index P1Outlines P1Entry
unfolding p1_built
accepted_below main l =
    (gives_back 1 p1 P1Index p1_bytes p1_built (at main) (ranged main (omega arith))).accepts
    (record { pieces = record { below = (omega (arith, l), tt); apart = (tt, tt) }; start = omega (arith, l) })

-- at 65,534 and 65,535 it is refused with 10
pub refused_above : (main : ℕ) → 65533 < main → main ≤ 65535 → (offset : ℕ) × Refuses (at main) P1Index DoesNotFit offset
unfolding p1_built
refused_above main h l =
    (gives_back 1 p1 P1Index p1_bytes p1_built (at main) (ranged main l)).refuses DoesNotFit
    (of_pieces (too_high (record { below = tt; apart = tt }) (omega (arith, h))))

-- and at 65,536, which is no main base, as the file is
pub refused_outside : (offset : ℕ) × Refuses (at 65536) P1Index SettingOutOfRange offset
refused_outside = (agrees 1 p1 P1Index p1_bytes p1_built (at 65536)).refuses SettingOutOfRange 0 (out_of_range refl)

-- ---- what is not built from it

-- P1's index, but for an absolute start at 8192, where the file starts too if it is loaded there
abbrev absolute : List ℕ
absolute =
    0x01
    ∷ 0x00 ∷ 0x07 ∷ 0x00 ∷ 0x00 ∷ 0x00 ∷ 0x03 ∷ 0x06 ∷ 0x01 ∷ 0x00
    ∷ 0x00 ∷ 0x04 ∷ 0x0B ∷ 0x01 ∷ 0x20 ∷ 0x00
    ∷ []

pub not_built : ¬ BuiltFrom 1 p1 absolute
not_built built =
    let e : absolute ≡ P1Index = built_of built (at 8192) pieces P1Entry p1_accepted ∙ examples_hold.P1 in
    let z : ◌≡◌ {A = ℕ} 1 2 = ap (λ (l : List ℕ). get_or l 13 0) e in
    omega arith
