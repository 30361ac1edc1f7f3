-- Demand 3 at work on a handler whose jump vector lies in page 2 (document 02, wish 2): it is moved twice, with a refused call in between, in a memory
-- of any contents. Then what a single call leaves beside the vector, and one call on a vector that was changed while it lives.
-- Assumes nothing.
use mathlib.Core.Bool.{true}
use mathlib.Core.List.{List, [], ◌∷◌, map}
use mathlib.Core.Path.{◌≡◌, refl}
use Prim.Native.Nat.{ℕ}
use native.Mathlib.Omega.{arith}
use lib.ListN.{get_or}
use Rattle.pieces.specs.AtBases.{placing, adjusting, ending, applied}
use Rattle.acx.proofs.Rules.{by_rules}
use Rattle.acx.proofs.Where.{accepted_where_fits}
use Rattle.acx.specs.Call.{load}
use Rattle.acx.specs.Rules.{Refuses}
use Rattle.acx.specs.Where.{overlaps, of_pieces}
use Rattle.pieces.specs.Pieces.{Piece, outline, amount_of, edited, adjustments, events}
use Rattle.acx.specs.Walk.{refused, checked, turn, records_from, opening, judged}
use Rattle.answer.specs.Checks.{need}
use Rattle.answer.specs.declared.Fault.TheVariants.{PiecesOverlap}
use Rattle.answer.specs.Report.{Outcome, acceptance, refusal}
use Rattle.std.proofs.Common.{Option, Some}
use Rattle.events.proofs.Events.{length_blank}
use Rattle.events.specs.Events.{marks, blank}
use Rattle.events.specs.Lists.{Each}
use Rattle.events.specs.Walk.{walk, from}
use Rattle.fields.specs.Fields.{fields_of}
use Rattle.records.specs.Records.{read_code, read_items, read_fixups, read_end, read}
use Rattle.fields.specs.declared.Fixup.TheVariants.{Word}
use Rattle.records.specs.declared.Entry.TheVariants.{Relative}
use Rattle.records.specs.declared.Kind.TheVariants.{Main, Absolute}
use Rattle.words.proofs.Numbers.{bytes_digits}
use Rattle.words.specs.Numbers.{number, digits, value, store, on, off, change}
use Rattle.words.specs.Runs.{Bytes, part, put, all_zero, contains}
use Rattle.moves.proofs.Outcomes.{call_exactly}
use Rattle.moves.proofs.Sources.{same_at}
use Rattle.index.proofs.Use.{at}
use Rattle.moves.proofs.Use.{Answers, calls, Always, made, after_calls, demand3_by, asks, LoadsAt, accepted_at, moves_there}
use Rattle.moves.specs.Call.{ruling, outcome_of, memory_after, Moved}
use Rattle.moves.specs.Demand3.{Memory, Demand3, Defined}
use Rattle.moves.specs.Move.{carried, transfer, moved}
use Rattle.moves.specs.Sources.{file_in, itself}

-- ---- the file and its loads

-- a routine of one byte; its vector in page 2, with a byte beside it
pub hooked : List ℕ
hooked =
    0x00 ∷ 0x03 ∷ 0x00 ∷ 0x00 ∷ 0x60
    ∷ 0x01 ∷ 0x05 ∷ 0x00 ∷ 0x02 ∷ 0x00 ∷ 0x00 ∷ 0x07
    ∷ 0x06 ∷ 0x01 ∷ 0x00
    ∷ 0x0B ∷ 0x02 ∷ 0x00 ∷ 0x00 ∷ []

-- the piece at 0200, whose first two bytes are a word, and the routine
abbrev pub pieces : List Piece
pieces =
    record {
      kind = Absolute;
      address = 0x0200;
      code = 0x00 ∷ 0x00 ∷ 0x07 ∷ [];
      fields = record { fixup = Word; index = 0; lsb = 0 } ∷ [];
    }
    ∷ record { kind = Main; address = 0; code = 0x60 ∷ []; fields = [] }
    ∷ []

-- accepted at three main bases; at a fourth the routine would lie on the vector
loads : LoadsAt hooked pieces 8192
    × LoadsAt hooked pieces 8448
    × LoadsAt hooked pieces 12416
    × ((load 1 (at 0x0201) hooked).answer ≡ refused PiecesOverlap 7)
unfolding hooked number value part put all_zero contains fields_of need read_code read_items read_fixups read_end read marks blank adjustments events placing adjusting ending applied checked turn records_from walk from opening judged load
loads = (refl, refl, refl, refl)

-- the same by `accepted_where_fits`: the vector, which comes later in the file, would share an address with the routine
pub onto_its_vector : (offset : ℕ) × Refuses 1 (at 0x0201) hooked PiecesOverlap offset
onto_its_vector =
    (accepted_where_fits 1 hooked (at 8192) pieces (Relative 0) ((by_rules 1 (at 8192) hooked).accepts_only pieces (Relative 0) loads.0) (at 0x0201)
    refl).refuses PiecesOverlap
    (of_pieces
    (overlaps (record { below = (omega arith, tt); apart = (tt, tt) }) (omega arith) (λ d. d.0 0x0201 (omega arith, omega arith) (omega arith, omega arith))))

-- the file is bytes
hooked_bytes : Bytes hooked
unfolding hooked number digits
hooked_bytes = bytes_digits 19 (number hooked)

-- ---- the calls, and what they leave, whatever memory held

-- the handler is moved to a main base: four bytes placed, one field adjusted
abbrev pub moved_to : ℕ → Outcome
moved_to main = acceptance (Some main) 4 1 0 0

abbrev pub list : List Answers
list =
    record { call = asks (file_in 1 hooked) 8192 8448 blank true; answer = moved_to 8448 }
    -- onto its own vector
    ∷ record { call = asks (file_in 1 hooked) 8448 0x0201 blank true; answer = refusal PiecesOverlap 7 1 }
    ∷ record { call = asks (file_in 1 hooked) 8448 12416 blank true; answer = moved_to 12416 }
    ∷ []

-- they answer so in every memory
answer_so : Each Always list
unfolding outcome_of ruling need
answer_so = (
  moves_there hooked pieces 8192 8448 loads.0 loads.1,
  ((λ m n. rw (n, length_blank, loads.1, loads.3) refl), (moves_there hooked pieces 8448 12416 loads.1 loads.2, tt)),
)

abbrev pub after : List ℕ → List ℕ
after m = after_calls (calls list) m

-- demand 3 of the list: the handler stands at 12416
pub used : (m : List ℕ) → Memory m → Demand3 Defined (file_in 1 hooked) (map outline pieces) (at 8192) (at 12416) (made (calls list) m) m (after m)
used =
    demand3_by (file_in 1 hooked) hooked_bytes (map outline pieces) (at 8192) (accepted_at hooked pieces 8192 loads.0) list answer_so
    ((itself, refl), (tt, ((itself, refl), tt)))

-- the vector has 8192 off and 12416 on
pub the_vector : (m : List ℕ) → Memory m → value 2 (after m) 0x0200 ≡ on 2 12416 (off 2 8192 (value 2 m 0x0200))
unfolding amount_of
the_vector m h = (used m h).fields.0.0

-- the byte beside it is as it was
pub beside : (m : List ℕ) → Memory m → get_or (after m) 0x0202 0 ≡ get_or m 0x0202 0
beside m h = (used m h).plain.0 2 (omega arith) ((λ w. omega arith), tt)

-- ---- a single call

-- one that was accepted keeps the byte beside the vector, since no piece affects it: a place of the absolute piece, and in no field
pub beside_kept : (m : List ℕ) → Bytes m → (start : Option ℕ) (i j k l : ℕ) (m' p' s' : List ℕ)
    → Moved (asks (file_in 1 hooked) 8192 8448 blank true) m (acceptance start i j k l) m' p' s'
    → get_or m' 0x0202 0 ≡ get_or m 0x0202 0
beside_kept m b start i j k l m' p' s' w =
    let x = (call_exactly (asks (file_in 1 hooked) 8192 8448 blank true) m _ m' p' s' w hooked_bytes b).only start i j k l refl in
    let e : x.pieces ≡ map outline pieces = (same_at (file_in 1 hooked) x.pieces (map outline pieces) (at 8192) (at 8192) x.at_old (accepted_at hooked pieces 8192 loads.0)).0 in
    x.kept 0x0202 (rw e (((λ w. omega arith), tt), ((λ w. omega arith), tt)))

-- a vector that was changed from 2000 to 2100 while it lives goes on to 2200 when the routine goes from 2000 to 2100; a load there would leave 2100
pub follows : memory_after (asks (file_in 1 hooked) 8192 8448 blank true) (put blank 0x0200 (0x00 ∷ 0x21 ∷ 0x09 ∷ [])) ≡ put blank 0x0200 (0x00 ∷ 0x22 ∷ 0x09 ∷ [])
unfolding hooked number digits value store on off change part put all_zero contains fields_of need read_code read_items read_fixups read_end read marks blank amount_of edited adjustments events placing adjusting ending applied checked turn records_from walk from opening judged load carried transfer moved ruling memory_after
follows = refl
