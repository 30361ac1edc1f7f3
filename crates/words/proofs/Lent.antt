-- A part `&mut s[a..e]` that is lent and comes back, in the terms of specs/Runs.antt.
-- Assumes nothing.
use Rattle.std.proofs.Common.{◌≡◌, ℕ, ◌+◌, ◌-◌, ◌≤◌, List, ◌++◌, length, take, drop, sym, ap, ◌∙◌, append_assoc, arith}
use borrow.Rule.Slice.PartMut.{mid_of, put_mid, Post-is}
use lib.Seq.{sets-eq}
use Rattle.words.proofs.Changes.{length_change, change_in_part}
use Rattle.words.proofs.Runs.{length_part}
use Rattle.words.specs.Numbers.{change}
use Rattle.words.specs.Runs.{part, put}

-- what is lent
pub lent_is : (a n : ℕ) (s : List ℕ) → mid_of a (a + n - a) s ≡ part s a n
unfolding part
lent_is a n s = let e : a + n - a ≡ n = omega arith in ap (λ (k : ℕ). take k (drop a s)) e

-- the whole once the part has come back as bs
pub back_is : (a n : ℕ) (s bs : List ℕ) → a + n ≤ length s → length bs ≡ n → put_mid a (a + n - a) s bs ≡ put s a bs
unfolding put
back_is a n s bs f e =
    let le : a ≤ a + n = omega arith in
    let fits : a + length bs ≤ length s = omega arith in
    let ends : a + n ≡ a + length bs = omega arith in
    ap (λ (r : List ℕ). take a s ++ (bs ++ r)) (Post-is a (a + n) s le ∙ ap (λ (k : ℕ). drop k s) ends)
    ∙ sym (append_assoc (take a s) bs (drop (a + length bs) s))
    ∙ sym (sets-eq bs s a fits)

-- the whole once a number of the part has been replaced
pub back_changed : (k : ℕ) (g : ℕ → ℕ) (a n : ℕ) (s bs : List ℕ) (i : ℕ) → a + n ≤ length s → i + k ≤ n
    → bs ≡ change k g (mid_of a (a + n - a) s) i → put_mid a (a + n - a) s bs ≡ change k g s (a + i)
back_changed k g a n s bs i f h e =
    let is : bs ≡ change k g (part s a n) i = e ∙ ap (λ (r : List ℕ). change k g r i) (lent_is a n s) in
    let as_long : length bs ≡ n = ap length is ∙ length_change k g (part s a n) i ∙ length_part s a n f in
    back_is a n s bs f as_long ∙ ap (put s a) is ∙ change_in_part k g s a n i f h
