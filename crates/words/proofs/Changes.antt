-- A number in a list replaced: over its width k and its index i. Adjusting one field after another, in any order, rests on these.
-- Assumes nothing.
use Rattle.std.proofs.Common.{◌≡◌, ℕ, ◌+◌, ◌%◌, ◌^◌, ◌<◌, ◌≤◌, List, length, get_or, set, sym, ap, ◌∙◌, arith}
use Rattle.words.proofs.Numbers.{length_digits, bytes_digits, number_digits, number_lt, digits_number, value_byte}
use Rattle.words.proofs.Runs.{length_put, put_outside, put_comm, put_put, put_part, put_in_put, length_part, part_agrees, part_put_long, part_put_apart, part_part, put_inside, bytes_put, bytes_part}
use Rattle.words.specs.Numbers.{number, digits, value, store, change}
use Rattle.words.specs.Runs.{Bytes, Within, Apart, part, put}

-- ---- a number read and stored

-- k bytes hold a number below 256 to the k
pub value_lt : (k : ℕ) (l : List ℕ) (i : ℕ) → i + k ≤ length l → Bytes l → value k l i < 256 ^ k
unfolding value
value_lt k l i f h = rw (length_part l i k f) at (number_lt (part l i k) (bytes_part l i k h))

-- the number in a part is that of the whole
pub value_part : (k : ℕ) (l : List ℕ) (a n i : ℕ) → a + n ≤ length l → i + k ≤ n → value k (part l a n) i ≡ value k l (a + i)
unfolding value
value_part k l a n i f g = ap number (part_part l a n i k f g)

-- a store keeps the length, leaves bytes bytes, and changes nothing outside its k bytes
pub length_store : (k : ℕ) (l : List ℕ) (i v : ℕ) → length (store k l i v) ≡ length l
unfolding store
length_store k l i v = length_put l i (digits k v)

pub bytes_store : (k : ℕ) (l : List ℕ) (i v : ℕ) → Bytes l → Bytes (store k l i v)
unfolding store
bytes_store k l i v h = bytes_put l i (digits k v) (bytes_digits k v) h

pub store_outside : (k : ℕ) (l : List ℕ) (i v x : ℕ) → ¬ Within i k x → get_or (store k l i v) x 0 ≡ get_or l x 0
unfolding store
store_outside k l i v x h = put_outside l i (digits k v) x (rw length_digits h)

-- what was stored is read back: its bytes, and the number where k bytes can hold it
pub part_store : (k : ℕ) (l : List ℕ) (i v : ℕ) → i + k ≤ length l → part (store k l i v) i k ≡ digits k v
unfolding store
part_store k l i v f = part_put_long l i (digits k v) k (length_digits k v) f

pub value_store : (k : ℕ) (l : List ℕ) (i v : ℕ) → i + k ≤ length l → v < 256 ^ k → value k (store k l i v) i ≡ v
unfolding value
value_store k l i v f h = ap number (part_store k l i v f) ∙ number_digits k v h

-- a number that lies apart stays
pub value_store_apart : (k : ℕ) (l : List ℕ) (i v w j : ℕ) → j + w ≤ length l → Apart i k j w → value w (store k l i v) j ≡ value w l j
unfolding value store
value_store_apart k l i v w j f a = ap number (part_put_apart l i (digits k v) j w f (rw length_digits a))

-- of two numbers stored in one place the later one stands
pub store_store : (k : ℕ) (l : List ℕ) (i u v : ℕ) → store k (store k l i u) i v ≡ store k l i v
unfolding store
store_store k l i u v = put_put l i (digits k u) (digits k v) (length_digits k u ∙ sym (length_digits k v))

-- storing the number that is there changes nothing
pub store_value : (k : ℕ) (l : List ℕ) (i : ℕ) → i + k ≤ length l → Bytes l → store k l i (value k l i) ≡ l
unfolding store value
store_value k l i f h =
    let bs : List ℕ = part l i k in
    ap (λ (n : ℕ). put l i (digits n (number bs))) (sym (length_part l i k f))
    ∙ ap (λ (r : List ℕ). put l i r) (digits_number bs (bytes_part l i k h))
    ∙ put_part l i k f

-- ---- one number replaced

module _ (k : ℕ) (g : ℕ → ℕ) (l : List ℕ) (i : ℕ) where
  -- as a store does, it keeps the length, bytes, and all outside the k bytes
  pub length_change : length (change k g l i) ≡ length l
  unfolding change
  length_change = length_store k l i (g (value k l i))

  pub bytes_change : Bytes l → Bytes (change k g l i)
  unfolding change
  bytes_change h = bytes_store k l i (g (value k l i)) h

  pub change_outside : (x : ℕ) → ¬ Within i k x → get_or (change k g l i) x 0 ≡ get_or l x 0
  unfolding change
  change_outside x h = store_outside k l i (g (value k l i)) x h

  -- what then stands there
  pub value_change : i + k ≤ length l → g (value k l i) < 256 ^ k → value k (change k g l i) i ≡ g (value k l i)
  unfolding change
  value_change f h = value_store k l i (g (value k l i)) f h

  -- a number that lies apart stays
  pub value_change_apart : (w j : ℕ) → j + w ≤ length l → Apart i k j w → value w (change k g l i) j ≡ value w l j
  unfolding change
  value_change_apart w j f a = value_store_apart k l i (g (value k l i)) w j f a

  -- one replacement after another is one
  pub change_change : (h : ℕ → ℕ) → i + k ≤ length l → g (value k l i) < 256 ^ k → change k h (change k g l i) i ≡ change k (λ v. h (g v)) l i
  unfolding change
  change_change h f lt =
      ap (λ (v : ℕ). store k (store k l i (g (value k l i))) i (h v)) (value_store k l i (g (value k l i)) f lt)
      ∙ store_store k l i (g (value k l i)) (h (g (value k l i)))

  -- a replacement goes by the number that is there
  pub change_same : (h : ℕ → ℕ) → g (value k l i) ≡ h (value k l i) → change k g l i ≡ change k h l i
  unfolding change
  change_same h e = ap (store k l i) e

-- replacing a number by itself changes nothing
pub change_none : (k : ℕ) (l : List ℕ) (i : ℕ) → i + k ≤ length l → Bytes l → change k (λ v. v) l i ≡ l
unfolding change
change_none k l i f h = store_value k l i f h

-- ---- two numbers apart

-- they may be replaced in either order
pub change_comm : (k : ℕ) (g : ℕ → ℕ) (i w : ℕ) (h : ℕ → ℕ) (j : ℕ) (l : List ℕ) → Apart i k j w → i + k ≤ length l → j + w ≤ length l
    → change w h (change k g l i) j ≡ change k g (change w h l j) i
unfolding change store
change_comm k g i w h j l a f e =
    let u : ℕ = g (value k l i) in
    let v : ℕ = h (value w l j) in
    ap (λ (x : ℕ). put (put l i (digits k u)) j (digits w (h x))) (value_store_apart k l i u w j e a)
    ∙ put_comm l i (digits k u) j (digits w v) (rw (length_digits k u, length_digits w v) a)
    ∙ ap (λ (x : ℕ). put (put l j (digits w v)) i (digits k (g x))) (sym (value_store_apart w l j v k i f (λ x p q. a x q p)))

-- ---- in a run that was written, and in a part

part_in_put : (l : List ℕ) (a : ℕ) (bs : List ℕ) (i n : ℕ) → a + length bs ≤ length l → i + n ≤ length bs
    → part (put l a bs) (a + i) n ≡ part bs i n
part_in_put l a bs i n f g =
    part_agrees (put l a bs) bs (a + i) i n (rw length_put (omega arith)) g
    (λ k h. ap (λ (y : ℕ). get_or (put l a bs) y 0) (omega arith) ∙ put_inside l a bs (i + k) f (omega arith))

-- a number replaced in a run that was written
pub change_in_put : (k : ℕ) (g : ℕ → ℕ) (l : List ℕ) (a : ℕ) (bs : List ℕ) (i : ℕ) → a + length bs ≤ length l → i + k ≤ length bs
    → change k g (put l a bs) (a + i) ≡ put l a (change k g bs i)
unfolding change store value
change_in_put k g l a bs i f h =
    ap (λ (r : List ℕ). put (put l a bs) (a + i) (digits k (g (number r)))) (part_in_put l a bs i k f h)
    ∙ put_in_put l a bs i (digits k (g (number (part bs i k)))) (rw length_digits h)

-- a number replaced in a part, and the part put back, is the number replaced in the whole
pub change_in_part : (k : ℕ) (g : ℕ → ℕ) (l : List ℕ) (a n i : ℕ) → a + n ≤ length l → i + k ≤ n
    → put l a (change k g (part l a n) i) ≡ change k g l (a + i)
change_in_part k g l a n i f h =
    let e : length (part l a n) ≡ n = length_part l a n f in
    sym (change_in_put k g l a (part l a n) i (rw e f) (rw e h)) ∙ ap (λ (r : List ℕ). change k g r (a + i)) (put_part l a n f)

-- ---- a number replaced, as code does it: read, changed and stored

pub read_and_stored : (k : ℕ) (g : ℕ → ℕ) (l : List ℕ) (i v r : ℕ) (l' : List ℕ) → v ≡ value k l i → r ≡ g v → l' ≡ store k l i r
    → l' ≡ change k g l i
unfolding change
read_and_stored k g l i v r l' ev er e = e ∙ ap (store k l i) (er ∙ ap g ev)

-- a byte where it stands
pub byte_changed : (g : ℕ → ℕ) (l : List ℕ) (i r : ℕ) → r ≡ g (get_or l i 0) → r < 256 → set l i r ≡ change 1 g l i
unfolding change store digits put
byte_changed g l i r e h =
    let same : g (value 1 l i) % 256 ≡ r = ap (λ (v : ℕ). g v % 256) (value_byte l i) ∙ omega arith in
    ap (set l i) (sym same)
