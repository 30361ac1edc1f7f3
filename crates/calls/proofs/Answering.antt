-- A call with an answer to write does what the loader, the mover or the builder does, and writes the answer; one without does nothing, and is refused with 1.
-- Assumes nothing.
use mathlib.Core.Bool.{true, false, ◌&&◌, false≢true}
use mathlib.Core.List.{List}
use mathlib.Core.Path.{◌≡◌, refl, sym, ◌∙◌}
use Prim.Native.Nat.{ℕ}
use borrow.Author.Tests.{eq-eqb, ne_eqb}
use lib.Dec.{eqb}
use lib.ListN.{length}
use Rattle.acx.proofs.Calling.{loaded_wrong}
use Rattle.acx.specs.Call.{sized, Loaded}
use Rattle.answer.proofs.Checks.{and_false}
use Rattle.answer.specs.Report.{Outcome, refusal, number_of, number_returned, Written}
use Rattle.answer.specs.declared.Fault.TheVariants.{WrongBuffer}
use Rattle.builder.proofs.Building.{built_wrong}
use Rattle.builder.specs.Build.{sized as build_sized, Built}
use Rattle.mover.proofs.Judging.{moved_wrong}
use Rattle.moves.specs.Call.{call_of, sized as move_sized, Moved}
use Rattle.moves.specs.Sources.{Source}
use Rattle.pairs.proofs.Pairs.{loads_wrong}
use Rattle.pairs.specs.Pairs.{Loads}
use Rattle.passes.specs.Buffers.{Buffers}
use Rattle.passes.specs.Walk.{Inputs}
use Rattle.pieces.specs.declared.Bases.{Bases}
use Rattle.calls.specs.Answer.{answer_sized, Answered}
use Rattle.calls.specs.Acx.{Called as AcxCalled}
use Rattle.calls.specs.Build.{Called as BuildCalled}
use Rattle.calls.specs.Move.{Called as MoveCalled}
use Rattle.calls.specs.Sdx.{Called as SdxCalled}

-- ---- the answer

-- an answer of 36 bytes holds the nine numbers, and the first of them is returned
pub answers : (o : Outcome) (a : List ℕ) (r : ℕ) (a' : List ℕ) → length a ≡ 36 → r ≡ number_returned o → Written o a' → Answered o a r a'
answers o a r a' h er w =
    record { returned = er; written = λ z. w; unwritten = λ z. absurd (false≢true (sym z ∙ eq-eqb _ _ h)) }

unanswered : (a : List ℕ) (r : ℕ) → (length a ≡ 36 → ⊥) → r ≡ number_of WrongBuffer → Answered (refusal WrongBuffer 0 0) a r a
unanswered a r h er =
    record { returned = er; written = λ z. absurd (false≢true (sym (ne_eqb _ _ h) ∙ z)); unwritten = λ z. (refl, refl) }

-- ---- the ACX loader

module _ {form : ℕ} {b : Bases} {file m p a : List ℕ} {r : ℕ} where
  -- an answer of another length: 1, and nothing is done
  pub acx_unanswered : (length a ≡ 36 → ⊥) → r ≡ number_of WrongBuffer → AcxCalled form b file m p a r m p a
  acx_unanswered h e = record { outcome = refusal WrongBuffer 0 0; loaded = loaded_wrong (rw (ne_eqb _ _ h) refl) refl; answered = unanswered a r h e }

  -- else what the loader did is answered
  pub acx_answered : {o : Outcome} {m' p' a' : List ℕ} → length a ≡ 36 → Loaded form b file (sized m p) m p o m' p' → Answered o a r a'
      → AcxCalled form b file m p a r m' p' a'
  acx_answered {o} h d t = record { outcome = o; loaded = rw (eq-eqb _ _ h) d; answered = t }

-- ---- the mover

module _ {h : Source} {old new : Bases} {m p s a : List ℕ} {r : ℕ} where
  pub move_unanswered : (length a ≡ 36 → ⊥) → r ≡ number_of WrongBuffer → MoveCalled (call_of h old new p s (answer_sized a)) m a r m p s a
  move_unanswered n e =
      let z : move_sized (call_of h old new p s (answer_sized a)) m ≡ false =
      and_false (eqb (length m) 65536 && eqb (length p) 65536 && eqb (length s) 65536) (answer_sized a) (ne_eqb _ _ n) in
      record { outcome = refusal WrongBuffer 0 0; moved = moved_wrong z refl; answered = unanswered a r n e }

  pub move_answered : {o : Outcome} {m' p' s' a' : List ℕ} → length a ≡ 36 → Moved (call_of h old new p s true) m o m' p' s' → Answered o a r a'
      → MoveCalled (call_of h old new p s (answer_sized a)) m a r m' p' s' a'
  move_answered {o} n d t = record { outcome = o; moved = rw (eq-eqb _ _ n) d; answered = t }

-- ---- the builder

module _ {form : ℕ} {b : Bases} {file p q a : List ℕ} {r : ℕ} where
  pub build_unanswered : (length a ≡ 36 → ⊥) → r ≡ number_of WrongBuffer → BuildCalled form b file p q a r p q a
  build_unanswered h e = record { outcome = refusal WrongBuffer 0 0; built = built_wrong (rw (ne_eqb _ _ h) refl) refl; answered = unanswered a r h e }

  pub build_answered : {o : Outcome} {p' q' a' : List ℕ} → length a ≡ 36 → Built form b file (build_sized p q) p q o p' q' → Answered o a r a'
      → BuildCalled form b file p q a r p' q' a'
  build_answered {o} h d t = record { outcome = o; built = rw (eq-eqb _ _ h) d; answered = t }

-- ---- the SDX loader

module _ {file : List ℕ} {g : Inputs} {b : Buffers} {a : List ℕ} {r : ℕ} where
  pub sdx_unanswered : (length a ≡ 36 → ⊥) → r ≡ number_of WrongBuffer → SdxCalled file g b a r b a
  sdx_unanswered h e =
      record { outcome = refusal WrongBuffer 0 0; loads = loads_wrong refl _ (rw (ne_eqb _ _ h) refl); answered = unanswered a r h e }

  pub sdx_answered : {o : Outcome} {b' : Buffers} {a' : List ℕ} → length a ≡ 36 → Loads file g true b o b' → Answered o a r a'
      → SdxCalled file g b a r b' a'
  sdx_answered {o} h d t = record { outcome = o; loads = rw (eq-eqb _ _ h) d; answered = t }
