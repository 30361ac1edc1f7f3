-- The end record at its bases, over plain values: it does nothing, and what it says where it passes.
-- Assumes nothing.
use mathlib.Core.Bool.{Bool, true, false}
use mathlib.Core.List.{[]}
use mathlib.Core.Path.{◌≡◌, refl, sym, ap, ◌∙◌}
use Prim.Native.Nat.{ℕ, ◌≤◌}
use borrow.Author.Tests.{leb-true}
use lib.Dec.{leb}
use Rattle.std.proofs.Common.{Ok}
use Rattle.answer.specs.Checks.{need}
use Rattle.answer.specs.Report.{address}
use Rattle.answer.specs.declared.Fault.TheVariants.{StartTooHigh, BytesAfterEnd}
use Rattle.events.proofs.Checks.{need_passed}
use Rattle.events.specs.Events.{Ran, Check, failed, passed}
use Rattle.records.specs.declared.Entry.{Entry}
use Rattle.pieces.specs.AtBases.{start_of, ending}
use Rattle.pieces.specs.declared.Bases.{Bases}

-- the end record does nothing
needs_none : (c d : Bool) (i j : ℕ) → (need failed c StartTooHigh i (need failed d BytesAfterEnd j (passed []))).events ≡ []
unfolding need
needs_none true true i j = refl
needs_none true false i j = refl
needs_none false d i j = refl

pub ending_none : (at : ℕ) (b : Bases) (entry : Entry) (next len : ℕ) → (ending at b entry next len).events ≡ []
unfolding ending
ending_none at b entry next len = needs_none (leb (address (start_of b entry)) 65535) (leb len next) at next

-- and where it passes, the start is an address, and nothing follows it
pub ending_passed : (at : ℕ) (b : Bases) (entry : Entry) (next len : ℕ) → (ending at b entry next len).answer ≡ Ok tt
    → (address (start_of b entry) ≤ 65535) × (len ≤ next)
unfolding ending
ending_passed at b entry next len e =
    let x = need_passed _ _ _ _ e in
    let y = need_passed _ _ _ _ (sym (ap (λ (o : Ran Check). o.answer) x.1) ∙ e) in
    (leb-true _ _ x.0, leb-true _ _ y.0)
