-- What a file is refused with. 1, 2 and 3 come before it is read, so it is refused with another number; and its offset is where specs/Report.antt has
-- it (`Located`). For each type of answer a predicate says so of the fault that it holds, if it holds one.
-- Assumes nothing.
use mathlib.Core.Bool.{Bool, true, false, false≢true}
use mathlib.Core.Path.{◌≡◌, refl, sym, ◌∙◌}
use Prim.Native.Nat.{ℕ, ◌≤◌, ◌<◌}
use native.Mathlib.Omega.{arith}
use borrow.Author.Tests.{le-leb, lt-leb, leb-true, eq-eqb, ne_eqb}
use lib.Dec.{leb, eqb}
use Rattle.answer.specs.Report.{Outcome, refusal, number_of, Located}
use Rattle.answer.specs.declared.Fault.{Fault}
use Rattle.std.proofs.Common.{Ok, Err}

-- whether a fault is 1, 2 or 3
abbrev pub is_early : Fault → Bool
is_early fault = leb (number_of fault) 3

-- where a refusal lies, by two tests of its number: at most 4, and 5
abbrev pub PlaceBy : Bool → Bool → ℕ → ℕ → Type 0
PlaceBy true cut len offset = offset ≡ 0
PlaceBy false true len offset = offset ≡ len
PlaceBy false false len offset = offset < len

-- where one with a fault does
abbrev pub PlaceOf : ℕ → Fault → ℕ → Type 0
PlaceOf len fault offset = PlaceBy (leb (number_of fault) 4) (eqb (number_of fault) 5) len offset

-- a fault at an offset with which a file of so many bytes may be refused
pub record OfFile (len : ℕ) (fault : Fault) (offset : ℕ) : Type 0 where
  pub late : is_early fault ≡ false
  pub place : PlaceOf len fault offset

-- what a place comes to
place_front : (a b : Bool) (len offset : ℕ) → a ≡ true → PlaceBy a b len offset → offset ≡ 0
place_front true b len offset e h = h
place_front false b len offset e h = absurd (false≢true e)

place_end : (a b : Bool) (len offset : ℕ) → a ≡ false → b ≡ true → PlaceBy a b len offset → offset ≡ len
place_end true b len offset e f h = absurd (false≢true (sym e))
place_end false true len offset e f h = h
place_end false false len offset e f h = absurd (false≢true f)

place_byte : (a b : Bool) (len offset : ℕ) → a ≡ false → b ≡ false → PlaceBy a b len offset → offset < len
place_byte true b len offset e f h = absurd (false≢true (sym e))
place_byte false true len offset e f h = absurd (false≢true (sym f))
place_byte false false len offset e f h = h

place_within : (a b : Bool) (len offset : ℕ) → PlaceBy a b len offset → offset ≤ len
place_within true b len offset h = omega arith
place_within false true len offset h = omega arith
place_within false false len offset h = omega arith

-- so it is in the claims' words
pub of_file_located : {len : ℕ} {fault : Fault} {offset : ℕ} → OfFile len fault offset → Located len fault offset
of_file_located {len} {fault} {offset} h =
    let a = leb (number_of fault) 4 in
    let b = eqb (number_of fault) 5 in
    record {
      at_front = λ l. place_front a b len offset (le-leb _ _ l) h.place;
      at_end = λ e. place_end a b len offset (lt-leb (number_of fault) 4 (omega arith)) (eq-eqb _ _ e) h.place;
      at_byte = λ l. place_byte a b len offset (lt-leb (number_of fault) 4 (omega arith)) (ne_eqb (number_of fault) 5 (λ e. omega arith)) h.place;
      within = place_within a b len offset h.place;
    }

-- and so is 1, 2 or 3 at 0
pub early_located : (len : ℕ) (fault : Fault) → is_early fault ≡ true → Located len fault 0
early_located len fault e =
    let n : number_of fault ≤ 3 = leb-true _ _ e in
    record { at_front = λ l. refl; at_end = λ f. absurd (omega arith); at_byte = λ l. absurd (omega arith); within = omega arith }

-- an outcome that is not refused, or so
abbrev pub Decided : ℕ → Outcome → Type 0
Decided len (Ok a) = Unit {0}
Decided len (Err r) = OfFile len r.fault r.offset

-- (the same as a record)
pub record ByFile (len : ℕ) (r : Outcome) : Type 0 where
  pub decided : Decided len r

-- the fault of an outcome that a file decides
pub fault_of : {len : ℕ} {r : Outcome} {fault : Fault} {offset side : ℕ} → ByFile len r → r ≡ refusal fault offset side → OfFile len fault offset
fault_of {len} {r} {fault} {offset} {side} h e = let g : Decided len (refusal fault offset side) = rw e at h.decided in g

-- is neither 1, 2 nor 3
pub late_not : {len : ℕ} {r : Outcome} {fault : Fault} {offset side : ℕ} → ByFile len r → r ≡ refusal fault offset side → is_early fault ≡ true → ⊥
late_not h e f = false≢true (sym (fault_of h e).late ∙ f)

-- an outcome that lies so, if it is refused
abbrev pub Lying : ℕ → Outcome → Type 0
Lying len (Ok a) = Unit {0}
Lying len (Err r) = Located len r.fault r.offset

-- (the same as a record)
pub record Lies (len : ℕ) (r : Outcome) : Type 0 where
  pub lies : Lying len r

-- one that a file decides does
pub by_file_lies : {len : ℕ} (r : Outcome) → ByFile len r → Lies len r
by_file_lies (Ok a) h = record { lies = tt }
by_file_lies (Err r) h = record { lies = of_file_located h.decided }

-- where a refusal lies that does
pub located_as : {len : ℕ} {r : Outcome} {fault : Fault} {offset side : ℕ} → Lies len r → r ≡ refusal fault offset side → Located len fault offset
located_as {len} {r} {fault} {offset} {side} h e = let g : Lying len (refusal fault offset side) = rw e at h.lies in g
