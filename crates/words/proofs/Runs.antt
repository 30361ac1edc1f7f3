-- Runs of bytes: lengths, what was written is read back, and what lies apart stays.
-- Assumes nothing.
use Rattle.std.proofs.Common.{◌≡◌, ℕ, zero, suc, ◌+◌, ◌-◌, ◌<◌, ◌≤◌, Bool, true, false, ◌&&◌, ◌||◌, eqb, List, [], ◌∷◌, ◌++◌, length, get_or, take, drop, set, sym, refl, ap, ◌∙◌, le_of_suc-le-suc, not-suc-le-zero, arith, length-drop, length-set, length-take, get_or-drop, drop-cons, get_or-set_other, get_or-take, get_or-set_same, ext_get_or, set-set, eq-eqb, eqb-true}
use mathlib.Core.Bool.{false≢true}
use native.Mathlib.Decide.{dec_le, dec_lt}
use lib.ListN.{get_or-eq_default}
use lib.Seq.{length-sets, set_comm}
use Rattle.words.specs.Runs.{Bytes, Within, Apart, part, put, all_zero, contains}

-- an address is in a run or not
pub within? : (a n x : ℕ) → Dec (Within a n x)
within? a n x = both (dec_le a x) (dec_lt x (a + n))
  where
    both : Dec (a ≤ x) → Dec (x < a + n) → Dec (Within a n x)
    both (yes p) (yes q) = yes (p, q)
    both (yes p) (no q) = no (λ w. q w.1)
    both (no p) d = no (λ w. p w.0)

-- ---- a run written

-- the length stays, and every byte outside the run
pub length_put : (l : List ℕ) (a : ℕ) (bs : List ℕ) → length (put l a bs) ≡ length l
unfolding put
length_put l a bs = length-sets l a bs

pub put_outside : (l : List ℕ) (a : ℕ) (bs : List ℕ) (x : ℕ) → ¬ Within a (length bs) x → get_or (put l a bs) x 0 ≡ get_or l x 0
unfolding put
put_outside l a [] x h = refl
put_outside l a (b ∷ bs) x h =
    put_outside (set l a b) (suc a) bs x (λ w. h (omega arith)) ∙ get_or-set_other l a x b 0 (λ e. h (omega arith))

-- inside the run stands what was written
pub put_inside : (l : List ℕ) (a : ℕ) (bs : List ℕ) (k : ℕ) → a + length bs ≤ length l → k < length bs
    → get_or (put l a bs) (a + k) 0 ≡ get_or bs k 0
unfolding put
put_inside l a [] k f h = absurd (not-suc-le-zero h)
put_inside l a (b ∷ bs) zero f h =
    put_outside (set l a b) (suc a) bs (a + 0) (λ w. omega arith)
    ∙ ap (λ (y : ℕ). get_or (set l a b) y 0) (omega arith)
    ∙ get_or-set_same l a b 0 (omega arith)
put_inside l a (b ∷ bs) (suc k) f h =
    ap (λ (y : ℕ). get_or (put (set l a b) (suc a) bs) y 0) (omega arith)
    ∙ put_inside (set l a b) (suc a) bs k (rw length-set (omega arith)) (le_of_suc-le-suc h)

-- ---- a run read

-- a run that ends in the list has its whole length
pub length_part : (l : List ℕ) (a n : ℕ) → a + n ≤ length l → length (part l a n) ≡ n
unfolding part
length_part l a n h = simp (length-take, length-drop) (omega arith)

-- its bytes are those of the list from a on
pub part_at : (l : List ℕ) (a n k : ℕ) → k < n → get_or (part l a n) k 0 ≡ get_or l (a + k) 0
unfolding part
part_at l a n k h = rw (get_or-take, get_or-drop)

-- a run of one and of two, byte by byte
pub part_one : (l : List ℕ) (a : ℕ) → a + 1 ≤ length l → part l a 1 ≡ get_or l a 0 ∷ []
unfolding part
part_one l a h = ap (take 1) (drop-cons l a 0 (omega arith))

pub part_two : (l : List ℕ) (a : ℕ) → a + 2 ≤ length l → part l a 2 ≡ get_or l a 0 ∷ get_or l (a + 1) 0 ∷ []
unfolding part
part_two l a h =
    let e : suc a ≡ a + 1 = omega arith in
    ap (take 2) (drop-cons l a 0 (omega arith))
    ∙ ap (λ (k : ℕ). get_or l a 0 ∷ take 1 (drop k l)) e
    ∙ ap (λ (r : List ℕ). get_or l a 0 ∷ take 1 r) (drop-cons l (a + 1) 0 (omega arith))

-- two lists that agree over a run have the same part there
pub part_agrees : (l r : List ℕ) (a c n : ℕ) → a + n ≤ length l → c + n ≤ length r
    → ((k : ℕ) → k < n → get_or l (a + k) 0 ≡ get_or r (c + k) 0) → part l a n ≡ part r c n
part_agrees l r a c n f g e =
    ext_get_or 0 (part l a n) (part r c n) (length_part l a n f ∙ sym (length_part r c n g))
    (λ k h. let h' : k < n = rw (length_part l a n f) at h in
    part_at l a n k h' ∙ e k h' ∙ sym (part_at r c n k h'))

-- the same part holds the same byte at each address
pub part_agree_at : (l r : List ℕ) (a n x : ℕ) → part l a n ≡ part r a n → Within a n x → get_or l x 0 ≡ get_or r x 0
part_agree_at l r a n x e w =
    let y : a + (x - a) ≡ x = omega arith in
    ap (λ (k : ℕ). get_or l k 0) (sym y)
    ∙ sym (part_at l a n (x - a) (omega arith))
    ∙ ap (λ (q : List ℕ). get_or q (x - a) 0) e
    ∙ part_at r a n (x - a) (omega arith)
    ∙ ap (λ (k : ℕ). get_or r k 0) y

-- what was written is read back
pub part_put : (l : List ℕ) (a : ℕ) (bs : List ℕ) → a + length bs ≤ length l → part (put l a bs) a (length bs) ≡ bs
part_put l a bs f =
    let g : a + length bs ≤ length (put l a bs) = rw length_put f in
    ext_get_or 0 (part (put l a bs) a (length bs)) bs (length_part (put l a bs) a (length bs) g)
    (λ k h. let h' : k < length bs = rw (length_part (put l a bs) a (length bs) g) at h in
    part_at (put l a bs) a (length bs) k h' ∙ put_inside l a bs k f h')

-- also where its length is known as another number
pub part_put_long : (l : List ℕ) (a : ℕ) (bs : List ℕ) (n : ℕ) → length bs ≡ n → a + n ≤ length l → part (put l a bs) a n ≡ bs
part_put_long l a bs n e f = ap (λ (k : ℕ). part (put l a bs) a k) (sym e) ∙ part_put l a bs (rw e f)

-- a run that lies apart reads as before
pub part_put_apart : (l : List ℕ) (a : ℕ) (bs : List ℕ) (c n : ℕ) → c + n ≤ length l → Apart a (length bs) c n
    → part (put l a bs) c n ≡ part l c n
part_put_apart l a bs c n f h =
    part_agrees (put l a bs) l c c n (rw length_put f) f
    (λ k lt. put_outside l a bs (c + k) (λ w. h (c + k) w (omega arith)))

-- a run within a run is one of the list
pub part_part : (l : List ℕ) (a n c k : ℕ) → a + n ≤ length l → c + k ≤ n → part (part l a n) c k ≡ part l (a + c) k
part_part l a n c k f g =
    part_agrees (part l a n) l c (a + c) k (rw (length_part l a n f) g) (omega arith)
    (λ x h. part_at l a n (c + x) (omega arith) ∙ ap (λ (y : ℕ). get_or l y 0) (omega arith))

-- writing back what is there changes nothing
pub put_part : (l : List ℕ) (a n : ℕ) → a + n ≤ length l → put l a (part l a n) ≡ l
put_part l a n f = ext_get_or 0 (put l a (part l a n)) l (length_put l a (part l a n)) (λ x h. by x (within? a n x))
  where
    e : length (part l a n) ≡ n
    e = length_part l a n f

    by : (x : ℕ) → Dec (Within a n x) → get_or (put l a (part l a n)) x 0 ≡ get_or l x 0
    by x (yes w) =
        let y : a + (x - a) ≡ x = omega arith in
        ap (λ (z : ℕ). get_or (put l a (part l a n)) z 0) (sym y)
        ∙ put_inside l a (part l a n) (x - a) (rw e f) (rw e (omega arith))
        ∙ part_at l a n (x - a) (omega arith)
        ∙ ap (λ (z : ℕ). get_or l z 0) y
    by x (no w) = put_outside l a (part l a n) x (rw e w)

-- ---- two runs written

-- a store outside a run goes past the run's writing
set_past_put : (l : List ℕ) (i b c : ℕ) (cs : List ℕ) → ¬ Within c (length cs) i → set (put l c cs) i b ≡ put (set l i b) c cs
unfolding put
set_past_put l i b c [] h = refl
set_past_put l i b c (y ∷ cs) h =
    set_past_put (set l c y) i b (suc c) cs (λ w. h (omega arith))
    ∙ ap (λ (r : List ℕ). put r (suc c) cs) (set_comm l c i y b (λ e. h (omega arith)))

-- runs that lie apart are written in either order
pub put_comm : (l : List ℕ) (a : ℕ) (bs : List ℕ) (c : ℕ) (cs : List ℕ) → Apart a (length bs) c (length cs)
    → put (put l a bs) c cs ≡ put (put l c cs) a bs
unfolding put
put_comm l a [] c cs h = refl
put_comm l a (b ∷ bs) c cs h =
    put_comm (set l a b) (suc a) bs c cs (λ x v w. h x (omega arith) w)
    ∙ ap (λ (r : List ℕ). put r (suc a) bs) (sym (set_past_put l a b c cs (λ w. h a (omega arith) w)))

-- of two runs written to one place the later one stands
pub put_put : (l : List ℕ) (a : ℕ) (bs cs : List ℕ) → length bs ≡ length cs → put (put l a bs) a cs ≡ put l a cs
unfolding put
put_put l a [] cs e = refl
put_put l a (b ∷ bs) [] e = absurd (omega arith)
put_put l a (b ∷ bs) (c ∷ cs) e =
    ap (λ (r : List ℕ). put r (suc a) cs)
    (set_past_put (set l a b) a c (suc a) bs (λ w. omega arith) ∙ ap (λ (r : List ℕ). put r (suc a) bs) (set-set l a b c))
    ∙ put_put (set l a c) (suc a) bs cs (omega arith)

set_in_put : (l : List ℕ) (a : ℕ) (bs : List ℕ) (i v : ℕ) → i < length bs → set (put l a bs) (a + i) v ≡ put l a (set bs i v)
unfolding put
set_in_put l a [] i v h = absurd (not-suc-le-zero h)
set_in_put l a (b ∷ bs) zero v h =
    ap (λ (k : ℕ). set (put (set l a b) (suc a) bs) k v) (omega arith)
    ∙ set_past_put (set l a b) a v (suc a) bs (λ w. omega arith)
    ∙ ap (λ (r : List ℕ). put r (suc a) bs) (set-set l a b v)
set_in_put l a (b ∷ bs) (suc i) v h =
    ap (λ (k : ℕ). set (put (set l a b) (suc a) bs) k v) (omega arith) ∙ set_in_put (set l a b) (suc a) bs i v (le_of_suc-le-suc h)

-- a run written behind another is one run
pub put_append : (l : List ℕ) (a : ℕ) (xs ys : List ℕ) → put (put l a xs) (a + length xs) ys ≡ put l a (xs ++ ys)
unfolding put
put_append l a [] ys = ap (λ (i : ℕ). put l i ys) (omega arith)
put_append l a (x ∷ xs) ys = ap (λ (i : ℕ). put (put (set l a x) (suc a) xs) i ys) (omega arith) ∙ put_append (set l a x) (suc a) xs ys

-- the front of a room holds what was written there
pub front_holds : (room written l : List ℕ) (n : ℕ) → l ≡ put room 0 written → length written ≡ n → n ≤ length room → part l 0 n ≡ written
front_holds room written l n e f h = rw e (part_put_long room 0 written n f (omega arith))

-- a run written inside one that was written
pub put_in_put : (l : List ℕ) (a : ℕ) (bs : List ℕ) (i : ℕ) (cs : List ℕ) → i + length cs ≤ length bs
    → put (put l a bs) (a + i) cs ≡ put l a (put bs i cs)
unfolding put
put_in_put l a bs i [] h = refl
put_in_put l a bs i (c ∷ cs) h =
    ap (λ (r : List ℕ). put r (suc (a + i)) cs) (set_in_put l a bs i c (omega arith))
    ∙ ap (λ (k : ℕ). put (put l a (set bs i c)) k cs) (omega arith)
    ∙ put_in_put l a (set bs i c) (suc i) cs (rw length-set (omega arith))

-- ---- bytes stay bytes

bytes_set : (l : List ℕ) (i b : ℕ) → b < 256 → Bytes l → Bytes (set l i b)
bytes_set [] i b h g x = g x
bytes_set (y ∷ l) zero b h g zero = h
bytes_set (y ∷ l) zero b h g (suc x) = g (suc x)
bytes_set (y ∷ l) (suc i) b h g zero = g zero
bytes_set (y ∷ l) (suc i) b h g (suc x) = bytes_set l i b h (λ z. g (suc z)) x

-- bytes written among bytes, and a run of bytes
pub bytes_put : (l : List ℕ) (a : ℕ) (bs : List ℕ) → Bytes bs → Bytes l → Bytes (put l a bs)
unfolding put
bytes_put l a [] h g = g
bytes_put l a (b ∷ bs) h g = bytes_put (set l a b) (suc a) bs (λ x. h (suc x)) (bytes_set l a b (h 0) g)

pub bytes_part : (l : List ℕ) (a n : ℕ) → Bytes l → Bytes (part l a n)
unfolding part
bytes_part l a n g x = by (dec_lt x n)
  where
    by : Dec (x < n) → get_or (take n (drop a l)) x 0 < 256
    by (yes h) = rw (part_at l a n x h) (g (a + x))
    by (no h) = rw (get_or-eq_default (take n (drop a l)) 0 {n = x} (rw length-take (omega arith))) (omega arith)

-- ---- all zero

-- a run that is all zero holds 0 at every index
pub zero_at : (l : List ℕ) → all_zero l ≡ true → (x : ℕ) → get_or l x 0 ≡ 0
unfolding all_zero
zero_at [] e x = refl
zero_at (b ∷ l) e x = by (eqb b 0) refl (λ f y. zero_at l f y) e x
  where
    by : (t : Bool) → eqb b 0 ≡ t → (all_zero l ≡ true → (y : ℕ) → get_or l y 0 ≡ 0) → t && all_zero l ≡ true → (x : ℕ) → get_or (b ∷ l) x 0 ≡ 0
    by true h rest f zero = eqb-true b 0 h
    by true h rest f (suc x) = rest f x
    by false h rest f x = absurd (false≢true f)

-- and one that does so is all zero
pub all_zero_lem : (l : List ℕ) → ((x : ℕ) → x < length l → get_or l x 0 ≡ 0) → all_zero l ≡ true
unfolding all_zero
all_zero_lem [] h = refl
all_zero_lem (b ∷ l) h = rw (eq-eqb b 0 (h 0 (omega arith)), all_zero_lem l (λ x lt. h (suc x) (omega arith)))

-- ---- looking for a byte

-- a run that does not contain v holds it nowhere
pub contains_not : (v : ℕ) (l : List ℕ) → contains v l ≡ false → (x : ℕ) → x < length l → get_or l x 0 ≡ v → ⊥
unfolding contains
contains_not v [] e x h f = not-suc-le-zero h
contains_not v (b ∷ l) e x h f = by (eqb b v) refl (λ g y. contains_not v l g y) e x h f
  where
    by : (t : Bool) → eqb b v ≡ t → (contains v l ≡ false → (y : ℕ) → y < length l → get_or l y 0 ≡ v → ⊥) → t || contains v l ≡ false → (x : ℕ)
        → x < length (b ∷ l) → get_or (b ∷ l) x 0 ≡ v → ⊥
    by true g rest e x h f = false≢true (sym e)
    by false g rest e zero h f = false≢true (sym g ∙ eq-eqb b v f)
    by false g rest e (suc x) h f = rest e x (le_of_suc-le-suc h) f
