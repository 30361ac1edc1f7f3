-- The end of a load, over plain values: the rest of the new-name buffers cleared, the start, and the walk that only checks.
-- Assumes nothing.
use mathlib.Core.Bool.{false}
use mathlib.Core.List.{List, [], ◌++◌, append-nil}
use mathlib.Core.Path.{◌≡◌, refl, sym, ap, ◌∙◌}
use Prim.Native.Nat.{ℕ, ◌+◌, ◌-◌, ◌*◌, ◌≤◌}
use native.Mathlib.Omega.{arith}
use borrow.Rule.Slice.PartMut.{mid_of, put_mid}
use lib.ListN.{length, replicate, take, drop, length-replicate, drop_of_length-le}
use lib.Seq.{sets-eq}
use Rattle.std.proofs.Common.{Option}
use Rattle.answer.specs.Report.{acceptance}
use Rattle.events.specs.Events.{blank, Ran}
use Rattle.words.proofs.Lent.{lent_is, back_is}
use Rattle.words.proofs.Runs.{length_part}
use Rattle.words.specs.Runs.{part, put}
use Rattle.passes.specs.Parts.{WalkEnd, Walked, Checked, Reported}
use Rattle.passes.specs.Buffers.{start_in, filled_up, buffers}
use Rattle.passes.specs.Walk.{Verdict}
use Rattle.passes.specs.declared.Totals.{Totals}

-- ---- the rest of a room is cleared

-- a room whose end from k on was filled with zeros
pub rest_cleared : (n k : ℕ) (l w : List ℕ) → k ≤ n → length l ≡ n → w ≡ replicate (length (mid_of k (n - k) l)) 0
    → put_mid k (n - k) l w ≡ filled_up n (part l 0 k)
unfolding put part
rest_cleared n k l w h e f =
    let size : n - k ≡ k + (n - k) - k = omega arith in
    let inside : k + (n - k) ≤ length l = omega (arith, e) in
    let lent : length (mid_of k (n - k) l) ≡ n - k =
    ap (λ (i : ℕ). length (mid_of k i l)) size ∙ ap length (lent_is k (n - k) l) ∙ length_part l k (n - k) inside in
    let is : w ≡ replicate (n - k) 0 = f ∙ ap (λ (i : ℕ). replicate i 0) lent in
    let long : length w ≡ n - k = ap length is ∙ length-replicate (n - k) 0 in
    let front : length (take k (drop 0 l)) ≡ k = length_part l 0 k (omega (arith, e)) in
    let past : length l ≤ k + length w = omega (arith, e, long) in
    let none : drop (k + length w) l ≡ [] = drop_of_length-le l past in
    ap (λ (i : ℕ). put_mid k i l w) size
    ∙ back_is k (n - k) l w inside long
    ∙ sets-eq w l k (omega (arith, e, long))
    ∙ ap (λ (r : List ℕ). take k l ++ w ++ r) none
    ∙ append-nil (take k l ++ w)
    ∙ ap (λ (r : List ℕ). take k l ++ r) is
    ∙ ap (λ (i : ℕ). take k l ++ replicate (n - i) 0) (sym front)

-- an acceptance, with both buffers
pub reported_as : {t : Totals} {m p ns ads ns' ads' : List ℕ} {start : Option ℕ} → start ≡ start_in p m
    → ns' ≡ filled_up 256 (part ns 0 (8 * t.named)) → ads' ≡ filled_up 32 (part ads 0 t.named)
    → Reported t (buffers m p ns ads) (acceptance start t.placed t.adjusted t.named t.low) ns' ads'
reported_as e f g = record { outcome = rw e refl; names = f; addresses = g }

-- ---- first checked, then carried out

-- a walk that only checks has written no memory
pub checked_as : {o : Ran Verdict} {m p ns ads m' p' ns' ads' p'' : List ℕ} {r : WalkEnd}
    → Walked o false (buffers m p ns ads) r (buffers m' p' ns' ads') → p'' ≡ blank → Checked o m r m' p''
checked_as h clear = record { answer = h.did.answer; memory = h.did.reached.memory; map = clear; bounded = h.bounded }
