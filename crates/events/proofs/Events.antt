-- Events one after the other: what they leave in memory and in the map, and their counts.
-- Assumes nothing.
use mathlib.Core.Bool.{Bool, true, false}
use mathlib.Core.List.{List, [], ◌∷◌, ◌++◌}
use mathlib.Core.Path.{◌≡◌, refl, sym, ap, ◌∙◌}
use Prim.Native.Nat.{ℕ, zero, suc, ◌+◌, ◌-◌, ◌≤◌}
use native.Mathlib.Omega.{arith}
use borrow.Rule.Slice.PartMut.{mid_of, put_mid}
use lib.ListN.{length, get_or, replicate, length-replicate, get_or-replicate}
use Rattle.words.proofs.Changes.{length_change}
use Rattle.words.proofs.Lent.{lent_is, back_is}
use Rattle.words.proofs.Runs.{length_put, put_outside, put_inside, length_part}
use Rattle.words.specs.Numbers.{on, change}
use Rattle.words.specs.Runs.{Within, put}
use Rattle.events.specs.Events.{Event, place, reserve, adjust, play_one, play, mark_one, marks, blank, placed_in, adjusted_in, Ran, play_if, Reached, Noted, Did}

-- ---- one list after another

-- memory, and the map: the second list acts on what the first one left
pub play_append : (es fs : List Event) (m : List ℕ) → play (es ++ fs) m ≡ play fs (play es m)
unfolding play
play_append [] fs m = refl
play_append (e ∷ es) fs m = play_append es fs (play_one e m)

pub marks_append : (es fs : List Event) (p : List ℕ) → marks (es ++ fs) p ≡ marks fs (marks es p)
unfolding marks
marks_append [] fs p = refl
marks_append (e ∷ es) fs p = marks_append es fs (mark_one e p)

play_if_append : (write : Bool) (es fs : List Event) (m : List ℕ) → play_if write (es ++ fs) m ≡ play_if write fs (play_if write es m)
play_if_append true es fs m = play_append es fs m
play_if_append false es fs m = refl

-- the counts add up
pub placed_append : (es fs : List Event) → placed_in (es ++ fs) ≡ placed_in es + placed_in fs
unfolding placed_in
placed_append [] fs = omega arith
placed_append (place a bytes ∷ es) fs = omega (arith, placed_append es fs)
placed_append (reserve a n ∷ es) fs = placed_append es fs
placed_append (adjust width a amount ∷ es) fs = placed_append es fs

pub adjusted_append : (es fs : List Event) → adjusted_in (es ++ fs) ≡ adjusted_in es + adjusted_in fs
unfolding adjusted_in
adjusted_append [] fs = omega arith
adjusted_append (place a bytes ∷ es) fs = adjusted_append es fs
adjusted_append (reserve a n ∷ es) fs = adjusted_append es fs
adjusted_append (adjust width a amount ∷ es) fs = omega (arith, adjusted_append es fs)

-- ---- lengths

-- no event changes the length of memory or of the map
pub length_play_one : (e : Event) (m : List ℕ) → length (play_one e m) ≡ length m
length_play_one (place a bytes) m = length_put m _ _
length_play_one (reserve a n) m = refl
length_play_one (adjust width a amount) m = length_change _ _ m _

pub length_play : (es : List Event) (m : List ℕ) → length (play es m) ≡ length m
unfolding play
length_play [] m = refl
length_play (e ∷ es) m = length_play es (play_one e m) ∙ length_play_one e m

pub length_mark_one : (e : Event) (p : List ℕ) → length (mark_one e p) ≡ length p
length_mark_one (place a bytes) p = length_put p _ _
length_mark_one (reserve a n) p = length_put p _ _
length_mark_one (adjust width a amount) p = length_put p _ _

pub length_marks : (es : List Event) (p : List ℕ) → length (marks es p) ≡ length p
unfolding marks
length_marks [] p = refl
length_marks (e ∷ es) p = length_marks es (mark_one e p) ∙ length_mark_one e p

-- ---- a part of the work

-- nothing done
pub reached_none : (write : Bool) (m p : List ℕ) → Reached [] write m p m p
unfolding play marks
reached_none true m p = record { memory = refl; map = refl }
reached_none false m p = record { memory = refl; map = refl }

pub did_none : {A : Type 0} (a : A) (write : Bool) (m p : List ℕ) → Did A (record { answer = a; events = [] }) write m p a m p
did_none a write m p = record { answer = refl; reached = reached_none write m p }

pub noted_none : {A : Type 0} (a : A) (p : List ℕ) → Noted A (record { answer = a; events = [] }) p a p
unfolding marks
noted_none a p = record { answer = refl; map = refl }

-- a part of the work done in the map alone, with its events carried out in memory
pub did_noted : {A : Type 0} {o : Ran A} {es : List Event} {write : Bool} {m p m' p' : List ℕ} {r s : A} → Noted A o p r p' → r ≡ s
    → o.events ≡ es
    → m' ≡ play_if write es m
    → Did A o write m p s m' p'
did_noted {write = write} {m = m} n e f g =
    record {
      answer = sym e ∙ n.answer;
      reached = record { memory = g ∙ ap (λ (l : List Event). play_if write l m) (sym f); map = n.map };
    }

-- a part of the work after some events
pub reached_more : {A : Type 0} (es : List Event) (write : Bool) (m₀ p₀ m p m' p' : List ℕ) (o : Ran A) (r : A) → Reached es write m₀ p₀ m p
    → Did A o write m p r m' p' → Reached (es ++ o.events) write m₀ p₀ m' p'
reached_more es write m₀ p₀ m p m' p' o r h d =
    record {
      memory = d.reached.memory ∙ ap (λ (t : List ℕ). play_if write o.events t) h.memory ∙ sym (play_if_append write es o.events m₀);
      map = d.reached.map ∙ ap (λ (t : List ℕ). marks o.events t) h.map ∙ sym (marks_append es o.events p₀);
    }

-- ---- the clear map

-- a map of the right length, all zero
pub cleared : (n : ℕ) (p : List ℕ) → n ≡ 65536 → p ≡ replicate n 0 → p ≡ blank
unfolding blank
cleared n p l e = e ∙ ap (λ (k : ℕ). replicate k 0) l

-- a run of n marks has the length n
pub length_run : (n v : ℕ) → length (replicate n v) ≡ n
length_run n v = length-replicate n v

-- so the clear map is as long as memory
pub length_blank : length blank ≡ 65536
unfolding blank
length_blank = length_run 65536 0

-- a run of zeros is 0 everywhere, past its end too
zeros_at : (n x : ℕ) → ◌≡◌ {A = ℕ} (get_or (replicate n 0) x 0) 0
zeros_at zero x = refl
zeros_at (suc n) zero = refl
zeros_at (suc n) (suc x) = zeros_at n x

-- and 0 at every address
pub blank_at : (x : ℕ) → get_or blank x 0 ≡ 0
unfolding blank
blank_at x = zeros_at 65536 x

-- ---- a run of one mark

module _ (p : List ℕ) (a n v : ℕ) where
  -- elsewhere the map stays
  pub fill_outside : (x : ℕ) → ¬ Within a n x → get_or (put p a (replicate n v)) x 0 ≡ get_or p x 0
  fill_outside x h = put_outside p a (replicate n v) x (rw (length_run n v) h)

  -- in the run it is the mark
  pub fill_inside : (x : ℕ) → a + n ≤ length p → Within a n x → get_or (put p a (replicate n v)) x 0 ≡ v
  fill_inside x h w =
      let e : a + (x - a) ≡ x = omega arith in
      ap (λ (k : ℕ). get_or (put p a (replicate n v)) k 0) (sym e)
      ∙ put_inside p a (replicate n v) (x - a) (rw (length_run n v) h) (rw (length_run n v) (omega arith))
      ∙ get_or-replicate n (x - a) v 0 (omega arith)

-- ---- parts that were lent

-- a part of the map that was filled with a mark
pub filled : (a n v : ℕ) (p w : List ℕ) → a + n ≤ length p → w ≡ replicate (length (mid_of a (a + n - a) p)) v
    → put_mid a (a + n - a) p w ≡ put p a (replicate n v)
filled a n v p w h e =
    let l : length (mid_of a (a + n - a) p) ≡ n = ap length (lent_is a n p) ∙ length_part p a n h in
    let e' : w ≡ replicate n v = e ∙ ap (λ (k : ℕ). replicate k v) l in
    rw e' (back_is a n p (replicate n v) h (length_run n v))

-- a part of memory that bytes were copied into
pub copied : (a : ℕ) (bytes m w : List ℕ) (write : Bool) → write ≡ true → a + length bytes ≤ length m → w ≡ bytes
    → put_mid a (a + length bytes - a) m w ≡ play_if write (place a bytes ∷ []) m
unfolding play
copied a bytes m w write t h e = rw (t, e) (back_is a (length bytes) m bytes h refl)

-- ---- one event, carried out in the map alone and in both

-- bytes placed: only marked, and written too
module _ (a : ℕ) (bytes : List ℕ) {m p w : List ℕ} (inside : a + length bytes ≤ length p)
    (marked : w ≡ replicate (length (mid_of a (a + length bytes - a) p)) 1) where
  pub place_marked : {write : Bool} → write ≡ false → Reached (place a bytes ∷ []) write m p m (put_mid a (a + length bytes - a) p w)
  unfolding marks
  place_marked t = record { memory = rw t refl; map = filled a (length bytes) 1 p w inside marked }

  pub place_written : {write : Bool} {v : List ℕ} → write ≡ true → a + length bytes ≤ length m → v ≡ bytes
      → Reached (place a bytes ∷ []) write m p (put_mid a (a + length bytes - a) m v) (put_mid a (a + length bytes - a) p w)
  unfolding marks
  place_written t h e = record { memory = copied a bytes m _ _ t h e; map = filled a (length bytes) 1 p w inside marked }

-- addresses reserved: marked, and nothing else in any case
pub reserve_marked : (a n : ℕ) (p w : List ℕ) → a + n ≤ length p → w ≡ replicate (length (mid_of a (a + n - a) p)) 2
    → put_mid a (a + n - a) p w ≡ marks (reserve a n ∷ []) p
unfolding marks
reserve_marked a n p w h e = filled a n 2 p w h e

-- a word adjusted: only marked, and changed in memory too
module _ (a amount : ℕ) {m p w : List ℕ} (inside : a + 2 ≤ length p) (marked : w ≡ replicate (length (mid_of a (a + 2 - a) p)) 3) where
  pub adjust_marked : {write : Bool} → write ≡ false → Reached (adjust 2 a amount ∷ []) write m p m (put_mid a (a + 2 - a) p w)
  unfolding marks
  adjust_marked t = record { memory = rw t refl; map = filled a 2 3 p w inside marked }

  pub adjust_written : {write : Bool} {m' : List ℕ} → write ≡ true → m' ≡ change 2 (on 2 amount) m a
      → Reached (adjust 2 a amount ∷ []) write m p m' (put_mid a (a + 2 - a) p w)
  unfolding marks play
  adjust_written t e = record { memory = rw t e; map = filled a 2 3 p w inside marked }
