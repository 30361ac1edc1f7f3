-- What a handler with these outlines and this entry comes to at a pair of bases, by pieces or by outlines; and that this is specs/Where.antt.
-- Assumes nothing.
use mathlib.Core.List.{List}
use mathlib.Core.Path.{◌≡◌, refl, sym, ap, subst}
use Prim.Native.Nat.{ℕ}
use Rattle.answer.specs.declared.Fault.{Fault}
use Rattle.pieces.specs.Pieces.{Outline}
use Rattle.pieces.specs.declared.Bases.{Bases}
use Rattle.records.specs.declared.Entry.{Entry}
use Rattle.acx.proofs.Turning.{refused_accepted, accepted_same}
use Rattle.acx.proofs.Unfit.{fits_not_unfit, unfit_same}
use Rattle.acx.specs.Rules.{ByRules}
use Rattle.acx.specs.Walk.{Verdict, accepted, refused}
use Rattle.acx.specs.Where.{HandlerFits, HandlerUnfit, AcceptedWhere}

-- the verdict: accepted where they fit, else refused with what does not fit first
pub data Settles {P : Type 0} (b : Bases) (os : List Outline) (ps : List P) (entry : Entry) : Verdict P → Type 0 where
  fits : HandlerFits b os entry → Settles b os ps entry (accepted ps entry)
  unfit : {fault : Fault} {offset : ℕ} → HandlerUnfit b os entry fault → Settles b os ps entry (refused fault offset)

module _ {P : Type 0} {b : Bases} {os : List Outline} {ps : List P} {entry : Entry} where
  settled_accepts : {v : Verdict P} → Settles b os ps entry v → HandlerFits b os entry → v ≡ accepted ps entry
  settled_accepts (fits f) h = refl
  settled_accepts (unfit l) h = absurd (fits_not_unfit h l)

  settled_accepted : {v : Verdict P} {qs : List P} {other : Entry} → Settles b os ps entry v → v ≡ accepted qs other
      → HandlerFits b os entry × (qs ≡ ps) × (other ≡ entry)
  settled_accepted (fits f) e = let x = accepted_same e in (f, sym x.0, sym x.1)
  settled_accepted (unfit l) e = absurd (refused_accepted e)

  settled_refuses : {v : Verdict P} {fault : Fault} → Settles b os ps entry v → HandlerUnfit b os entry fault
      → (offset : ℕ) × (v ≡ refused fault offset)
  settled_refuses (fits f) l = absurd (fits_not_unfit f l)
  settled_refuses (unfit {offset = offset} k) l = (offset, ap (λ (g : Fault). refused g offset) (unfit_same k l))

  settled_refused : {v : Verdict P} {fault : Fault} {offset : ℕ} → Settles b os ps entry v → v ≡ refused fault offset
      → HandlerUnfit b os entry fault
  settled_refused (fits f) e = absurd (refused_accepted (sym e))
  settled_refused {fault = fault} (unfit {fault = g} l) e = let k : g ≡ fault = cc in subst (HandlerUnfit b os entry) k l

  -- where rules say what the verdict is, both ways, they accept where the handler fits
  pub settled_where : {Accepts : List P → Entry → Type 0} {Refuses : Fault → ℕ → Type 0} {v : Verdict P} → Settles b os ps entry v
      → ByRules Accepts Refuses v
      → AcceptedWhere Accepts Refuses os ps entry b
  settled_where s rules =
      record {
        accepts = λ f. rules.accepts_only ps entry (settled_accepts s f);
        accepts_only = λ qs other k. settled_accepted s (rules.accepts qs other k);
        refuses = λ fault l. let x = settled_refuses s l in (x.0, rules.refuses_only fault x.0 x.1);
        refuses_only = λ fault offset k. settled_refused s (rules.refuses fault offset k);
      }
