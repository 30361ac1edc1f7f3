-- Looking through all bytes; and one turn, and the end, of loops that copy, that look for a byte and that write or read numbers in a row.
-- Assumes nothing.
use Rattle.std.proofs.Common.{◌≡◌, ℕ, zero, suc, ◌+◌, ◌*◌, ◌<◌, ◌≤◌, true, false, List, [], ◌∷◌, ◌++◌, length, get_or, take, drop, set, refl, ap, ◌∙◌, subst, append_assoc, append-nil, le_of_suc-le-suc, not-suc-le-zero, mul-suc, add-one, arith, length-append, length-drop, length-take-le, drop-cons, take-suc, drop-drop, take_at, eq-eqb, ne_eqb, Bool, ◌&&◌, ◌||◌}
use Rattle.std.specs.Prelude.{◌==◌}
use Rattle.std.specs.List.{list_all, list_any}
use native.Mathlib.Decide.{dec_lt}
use lib.Seq.{take-length, drop-length, drop-append-add, sets-eq}
use Rattle.words.proofs.Numbers.{length_digits, length_encoded, length_decoded}
use Rattle.words.proofs.Runs.{put_append}
use Rattle.words.specs.Numbers.{digits, value, store, encoded, decoded}
use Rattle.words.specs.Runs.{put, all_zero, contains}

-- ---- looking through all bytes

-- the library's test of each byte asks what `all_zero` and `contains` ask
pub all_is : (l : List ℕ) → list_all (λ b. b == 0) l ≡ all_zero l
unfolding all_zero
all_is [] = refl
all_is (b ∷ l) = ap (λ (r : Bool). b == 0 && r) (all_is l)

pub any_is : (v : ℕ) (l : List ℕ) → list_any (λ b. b == v) l ≡ contains v l
unfolding contains
any_is v [] = refl
any_is v (b ∷ l) = ap (λ (r : Bool). b == v || r) (any_is v l)

-- ---- copying

one_copied : (s d : List ℕ) (i : ℕ) → i < length s → i < length d → set (take i s ++ drop i d) i (get_or s i 0) ≡ take (suc i) s ++ drop (suc i) d
one_copied [] d i h k = absurd (not-suc-le-zero h)
one_copied (x ∷ xs) [] i h k = absurd (not-suc-le-zero k)
one_copied (x ∷ xs) (y ∷ ys) zero h k = refl
one_copied (x ∷ xs) (y ∷ ys) (suc i) h k = ap (λ (l : List ℕ). x ∷ l) (one_copied xs ys i (le_of_suc-le-suc h) (le_of_suc-le-suc k))

-- a turn copies one byte more
pub copy_more : (s d : List ℕ) (i : ℕ) → i < length s → i < length d → set (take i s ++ drop i d) i (get_or s i 0) ≡ take (i + 1) s ++ drop (i + 1) d
copy_more s d i h k = rw add-one (one_copied s d i h k)

-- at the end all of it is copied
pub copy_all : (s d : List ℕ) → length s ≡ length d → take (length s) s ++ drop (length s) d ≡ s
copy_all s d e = rw take-length (rw (e, drop-length, append-nil))

-- ---- looking for a byte other than zero

-- a zero leaves the rest to decide
pub zero_more : (l : List ℕ) (i : ℕ) → i < length l → get_or l i 0 ≡ 0 → all_zero (drop i l) ≡ all_zero (drop (i + 1) l)
unfolding all_zero
zero_more l i h e = rw (add-one, drop-cons l i 0 h, eq-eqb _ 0 e)

-- any other byte decides
pub zero_not : (l : List ℕ) (i : ℕ) → i < length l → (get_or l i 0 ≡ 0 → ⊥) → all_zero (drop i l) ≡ false
unfolding all_zero
zero_not l i h e = rw (drop-cons l i 0 h, ne_eqb _ 0 e)

-- ---- looking for a byte

-- another byte leaves the rest to decide
pub contains_more : (v : ℕ) (l : List ℕ) (i : ℕ) → i < length l → (get_or l i 0 ≡ v → ⊥) → contains v (drop i l) ≡ contains v (drop (i + 1) l)
unfolding contains
contains_more v l i h e = rw (add-one, drop-cons l i 0 h, ne_eqb _ v e)

-- the byte itself decides
pub contains_found : (v : ℕ) (l : List ℕ) (i : ℕ) → i < length l → get_or l i 0 ≡ v → contains v (drop i l) ≡ true
unfolding contains
contains_found v l i h e = rw (drop-cons l i 0 h, eq-eqb _ v e)

-- ---- writing numbers of k bytes in a row

-- what holds of all below i and of i holds of all below i + 1
pub below_more : (P : ℕ → Type 0) (i : ℕ) → ((j : ℕ) → j < i → P j) → P i → (j : ℕ) → j < i + 1 → P j
below_more P i h p j lt = by (dec_lt j i)
  where
    by : Dec (j < i) → P j
    by (yes l) = h j l
    by (no n) =
        let e : i ≡ j = omega arith in
        subst P e p

encoded_snoc : (k : ℕ) (vs : List ℕ) (v : ℕ) → encoded k (vs ++ (v ∷ [])) ≡ encoded k vs ++ digits k v
unfolding encoded
encoded_snoc k [] v = append-nil (digits k v)
encoded_snoc k (u ∷ vs) v = rw (encoded_snoc k vs v, append_assoc)

-- a run written behind p
put_behind : (p bs d : List ℕ) (n : ℕ) → length p ≡ n → n + length bs ≤ length d → put (p ++ drop n d) n bs ≡ p ++ bs ++ drop (n + length bs) d
unfolding put
put_behind p bs d n e h =
    let f : n + length bs ≤ length (p ++ drop n d) = simp (length-append, length-drop) (omega arith) in
    sets-eq bs (p ++ drop n d) n f
    ∙ ap (λ (r : List ℕ). r ++ bs ++ drop (n + length bs) (p ++ drop n d)) (take_at p (drop n d) n e)
    ∙ ap (λ (r : List ℕ). p ++ bs ++ r) (rw (← e) (drop-append-add p (drop (length p) d) (length bs) ∙ drop-drop (length bs) (length p) d))

-- a turn writes one number more behind those before it
pub encode_more : (k : ℕ) (vs d : List ℕ) (i : ℕ) → i < length vs → k * i + k ≤ length d
    → store k (encoded k (take i vs) ++ drop (k * i) d) (k * i) (get_or vs i 0) ≡ encoded k (take (i + 1) vs) ++ drop (k * (i + 1)) d
unfolding store
encode_more k vs d i h f =
    let v = get_or vs i 0 in
    let n = length_digits k v in
    let le : i ≤ length vs = omega arith in
    let l : length (encoded k (take i vs)) ≡ k * i = rw (length_encoded, length-take-le) in
    let room : k * i + length (digits k v) ≤ length d = omega arith in
    put_behind (encoded k (take i vs)) (digits k v) d (k * i) l room
    ∙ ap (λ (m : ℕ). encoded k (take i vs) ++ digits k v ++ drop (k * i + m) d) n
    ∙ rw (add-one, mul-suc, take-suc vs i 0 h, encoded_snoc)

-- at the end all are written, and nothing else stands there
pub encode_all : (k : ℕ) (vs d : List ℕ) → length d ≡ k * length vs → encoded k (take (length vs) vs) ++ drop (k * length vs) d ≡ encoded k vs
encode_all k vs d e = rw (take-length vs, ← e, drop-length d) (append-nil (encoded k vs))

-- ---- reading numbers of k bytes in a row

-- a turn reads one number more
pub decode_more : (k : ℕ) (s d : List ℕ) (i : ℕ) → set (put d 0 (decoded k i s)) i (value k s (k * i)) ≡ put d 0 (decoded k (i + 1) s)
unfolding put decoded
decode_more k s d i =
    let v = value k s (k * i) in
    let n : i ≡ 0 + length (decoded k i s) = omega (arith, length_decoded k i s) in
    rw add-one (ap (λ (j : ℕ). put (put d 0 (decoded k i s)) j (v ∷ [])) n ∙ put_append d 0 (decoded k i s) (v ∷ []))
