-- Two memories under the same lawful events: they agree wherever a block placed a byte, so the program and its start hang on no memory before.
-- Assumes nothing.
use mathlib.Core.Bool.{Bool, true, false, false≢true}
use mathlib.Core.List.{List, [], ◌∷◌, ◌++◌}
use mathlib.Core.Path.{◌≡◌, refl, sym, ap, ap₂, ◌∙◌}
use Prim.Native.Nat.{ℕ, ◌+◌, ◌-◌, ◌*◌, ◌≤◌}
use native.Mathlib.Omega.{arith}
use lib.ListN.{length, get_or}
use Rattle.std.proofs.Common.{Some, None}
use Rattle.answer.proofs.Checks.{and_true}
use Rattle.answer.specs.Checks.{pick}
use Rattle.events.proofs.Events.{play_append, length_play_one, length_play, length_mark_one, length_marks, length_blank, blank_at}
use Rattle.events.specs.Events.{Event, place, reserve, adjust, play_one, play, mark_one, marks, blank}
use Rattle.updates.specs.Bodies.{is_loaded, word_loaded}
use Rattle.words.proofs.Numbers.{value_word}
use Rattle.words.proofs.Runs.{put_inside}
use Rattle.words.specs.Numbers.{digits, value, on, change}
use Rattle.words.specs.Runs.{Within, put}
use Rattle.passes.specs.Buffers.{start_in, start_place}
use Rattle.sdx.proofs.Lawful.{Allowed, Lawful, lawful_before, lawful_after, touches?, mark_untouched, mark_touched, write_none, change_byte}
use Rattle.sdx.specs.Demand2.{Places, Touches}

-- two memories agree on every byte that is marked 1 or 3
pub record Agree (p m n : List ℕ) : Type 0 where
  pub same : (x : ℕ) → is_loaded (get_or p x 0) ≡ true → get_or m x 0 ≡ get_or n x 0

-- a mark decides whether a byte is loaded
loaded_as : (p : List ℕ) (x v : ℕ) → get_or p x 0 ≡ v → is_loaded v ≡ true → is_loaded (get_or p x 0) ≡ true
loaded_as p x v e h = ap is_loaded e ∙ h

-- ---- one event

-- bytes that are placed
place_same : (a : ℕ) (bytes m n : List ℕ) (x : ℕ) → a + length bytes ≤ length m → a + length bytes ≤ length n → Within a (length bytes) x
    → get_or (put m a bytes) x 0 ≡ get_or (put n a bytes) x 0
place_same a bytes m n x h i w =
    let e : x ≡ a + (x - a) = omega arith in
    ap (λ (y : ℕ). get_or (put m a bytes) y 0) e
    ∙ put_inside m a bytes (x - a) h (omega arith)
    ∙ sym (put_inside n a bytes (x - a) i (omega arith))
    ∙ ap (λ (y : ℕ). get_or (put n a bytes) y 0) (sym e)

-- a word of which both bytes are the same
bytes_word : (m n : List ℕ) (a : ℕ) → get_or m a 0 ≡ get_or n a 0 → get_or m (a + 1) 0 ≡ get_or n (a + 1) 0 → value 2 m a ≡ value 2 n a
bytes_word m n a low high = value_word m a ∙ ap₂ (λ (y z : ℕ). y + 256 * z) low high ∙ sym (value_word n a)

-- such a word, adjusted
adjust_same : (amount a : ℕ) (m n : List ℕ) (x : ℕ) → a + 2 ≤ length m → a + 2 ≤ length n → get_or m a 0 ≡ get_or n a 0
    → get_or m (a + 1) 0 ≡ get_or n (a + 1) 0
    → Within a 2 x
    → get_or (change 2 (on 2 amount) m a) x 0 ≡ get_or (change 2 (on 2 amount) n a) x 0
adjust_same amount a m n x h i low high w =
    let e : x ≡ a + (x - a) = omega arith in
    ap (λ (y : ℕ). get_or (change 2 (on 2 amount) m a) y 0) e
    ∙ change_byte (on 2 amount) m a (x - a) h (omega arith)
    ∙ ap (λ (k : ℕ). get_or (digits 2 (on 2 amount k)) (x - a) 0) (bytes_word m n a low high)
    ∙ sym (change_byte (on 2 amount) n a (x - a) i (omega arith))
    ∙ ap (λ (y : ℕ). get_or (change 2 (on 2 amount) n a) y 0) (sym e)

-- a field that may be adjusted
field_same : (width a amount : ℕ) (p m n : List ℕ) (x : ℕ) → length m ≡ 65536 → length n ≡ 65536 → Allowed p (adjust width a amount)
    → Agree p m n
    → Within a width x
    → get_or (change width (on width amount) m a) x 0 ≡ get_or (change width (on width amount) n a) x 0
field_same width a amount p m n x l k h g w =
    rw h.0
    (adjust_same amount a m n x (omega (arith, h.1, l)) (omega (arith, h.1, k)) (g.same a (loaded_as p a 1 h.2 refl))
    (g.same (a + 1) (loaded_as p (a + 1) 1 h.3 refl)) (omega (arith, h.0, w)))

-- a byte that is the same before an event is so after it
same_one : (e : Event) (p m n : List ℕ) (x : ℕ) → length m ≡ 65536 → length n ≡ 65536 → Allowed p e → Agree p m n → get_or m x 0 ≡ get_or n x 0
    → get_or (play_one e m) x 0 ≡ get_or (play_one e n) x 0
same_one e p m n x l k h g f = by e (touches? x e) h
  where
    by : (e : Event) → Dec (Touches x e) → Allowed p e → get_or (play_one e m) x 0 ≡ get_or (play_one e n) x 0
    by (place a bytes) (yes t) h = place_same a bytes m n x (omega (arith, h, l)) (omega (arith, h, k)) t
    by (place a bytes) (no t) h = write_none (place a bytes) m x t ∙ f ∙ sym (write_none (place a bytes) n x t)
    by (reserve a size) d h = f
    by (adjust width a amount) (yes t) h = field_same width a amount p m n x l k h g t
    by (adjust width a amount) (no t) h = write_none (adjust width a amount) m x t ∙ f ∙ sym (write_none (adjust width a amount) n x t)

-- memories that agree before an event do so after it
agree_one : (e : Event) (p m n : List ℕ) → length p ≡ 65536 → length m ≡ 65536 → length n ≡ 65536 → Allowed p e → Agree p m n
    → Agree (mark_one e p) (play_one e m) (play_one e n)
agree_one e p m n j l k h g = record { same = λ x f. by x e (touches? x e) h f }
  where
    by : (x : ℕ) (e : Event) → Dec (Touches x e) → Allowed p e → is_loaded (get_or (mark_one e p) x 0) ≡ true
        → get_or (play_one e m) x 0 ≡ get_or (play_one e n) x 0
    by x e (no t) h f = same_one e p m n x l k h g (g.same x (ap is_loaded (sym (mark_untouched e p x t)) ∙ f))
    by x (place a bytes) (yes t) h f = place_same a bytes m n x (omega (arith, h, l)) (omega (arith, h, k)) t
    by x (reserve a size) (yes t) h f = absurd (false≢true (sym (ap is_loaded (mark_touched (reserve a size) p x j h t)) ∙ f))
    by x (adjust width a amount) (yes t) h f = field_same width a amount p m n x l k h g t

-- ---- all events

-- a byte that is the same stays so
same_play : (es : List Event) (p m n : List ℕ) (x : ℕ) → length p ≡ 65536 → length m ≡ 65536 → length n ≡ 65536 → Lawful p es → Agree p m n
    → get_or m x 0 ≡ get_or n x 0
    → get_or (play es m) x 0 ≡ get_or (play es n) x 0
unfolding play
same_play [] p m n x j l k h g f = f
same_play (e ∷ es) p m n x j l k h g f =
    same_play es (mark_one e p) (play_one e m) (play_one e n) x (length_mark_one e p ∙ j) (length_play_one e m ∙ l) (length_play_one e n ∙ k) h.1
    (agree_one e p m n j l k h.0 g) (same_one e p m n x l k h.0 g f)

-- memories that agree do so after them
agree_play : (es : List Event) (p m n : List ℕ) → length p ≡ 65536 → length m ≡ 65536 → length n ≡ 65536 → Lawful p es → Agree p m n
    → Agree (marks es p) (play es m) (play es n)
unfolding play marks
agree_play [] p m n j l k h g = g
agree_play (e ∷ es) p m n j l k h g =
    agree_play es (mark_one e p) (play_one e m) (play_one e n) (length_mark_one e p ∙ j) (length_play_one e m ∙ l) (length_play_one e n ∙ k) h.1
    (agree_one e p m n j l k h.0 g)

-- nothing is loaded in a clear map
agree_first : (m n : List ℕ) → Agree blank m n
agree_first m n = record { same = λ x f. absurd (false≢true (sym (ap is_loaded (blank_at x)) ∙ f)) }

-- ---- from a clear map, whatever the memories

module _ (m n : List ℕ) (l : length m ≡ 65536) (k : length n ≡ 65536) where
  -- what is marked 1 or 3 is the same
  pub loaded_same : (es : List Event) → Lawful blank es → Agree (marks es blank) (play es m) (play es n)
  loaded_same es h = agree_play es blank m n length_blank l k h (agree_first m n)

  -- and what a block placed is, even where it was reserved later
  pub placed_same : (before after : List Event) (e : Event) (x : ℕ) → Lawful blank (before ++ (e ∷ after)) → Places x e
      → get_or (play (before ++ (e ∷ after)) m) x 0 ≡ get_or (play (before ++ (e ∷ after)) n) x 0
  unfolding play
  placed_same before after (place a bytes) x h w =
      let e = place a bytes in
      let p = marks before blank in
      let m' = play before m in
      let n' = play before n in
      let rest = lawful_after blank before (e ∷ after) h in
      let j : length p ≡ 65536 = length_marks before blank ∙ length_blank in
      let l' : length m' ≡ 65536 = length_play before m ∙ l in
      let k' : length n' ≡ 65536 = length_play before n ∙ k in
      let g = agree_one e p m' n' j l' k' rest.0 (loaded_same before (lawful_before blank before (e ∷ after) h)) in
      let here = place_same a bytes m' n' x (omega (arith, rest.0, l')) (omega (arith, rest.0, k')) w in
      ap (λ (q : List ℕ). get_or q x 0) (play_append before (e ∷ after) m)
      ∙ same_play after (mark_one e p) (play_one e m') (play_one e n') x (length_mark_one e p ∙ j) (length_play_one e m' ∙ l') (length_play_one e n' ∙ k')
      rest.1 g here
      ∙ ap (λ (q : List ℕ). get_or q x 0) (sym (play_append before (e ∷ after) n))
  placed_same before after (reserve a size) x h w = absurd w
  placed_same before after (adjust width a amount) x h w = absurd w

-- ---- the start

-- a word that is loaded is the same
word_same : (p m n : List ℕ) (a : ℕ) → Agree p m n → word_loaded p a ≡ true → value 2 m a ≡ value 2 n a
word_same p m n a g e =
    let x = and_true (is_loaded (get_or p a 0)) (is_loaded (get_or p (a + 1) 0)) e in
    bytes_word m n a (g.same a x.0) (g.same (a + 1) x.1)

-- so memories that agree have one start
pub start_same : (p m n : List ℕ) → Agree p m n → start_in p m ≡ start_in p n
unfolding start_in pick
start_same p m n g = by (word_loaded p start_place) refl
  where
    by : (t : Bool) → word_loaded p start_place ≡ t → pick t (Some (value 2 m start_place)) None ≡ pick t (Some (value 2 n start_place)) None
    by true e = ap (λ (a : ℕ). Some a) (word_same p m n start_place g e)
    by false e = refl
