-- Events that keep to the rules, one after the other from a map on: they stay in memory, and a word is adjusted only where both its bytes are
-- marked 1. What such events leave in the map and in memory.
-- Assumes nothing.
use mathlib.Core.List.{List, [], ◌∷◌, ◌++◌}
use mathlib.Core.Path.{◌≡◌, refl, sym, ap, ap₂, ◌∙◌}
use Prim.Native.Nat.{ℕ, ◌+◌, ◌-◌, ◌*◌, ◌≤◌, ◌<◌}
use native.Mathlib.Decide.{dec_le}
use native.Mathlib.Omega.{arith}
use lib.ListN.{length, get_or}
use Rattle.events.proofs.Events.{play_append, marks_append, length_play, length_mark_one, length_marks, length_blank, blank_at, fill_outside, fill_inside}
use Rattle.events.specs.Events.{Event, place, reserve, adjust, play_one, play, mark_one, marks, blank}
use Rattle.events.specs.Lists.{Each}
use Rattle.words.proofs.Changes.{change_outside}
use Rattle.words.proofs.Numbers.{length_digits, value_word, on_lt}
use Rattle.words.proofs.Runs.{within?, put_outside, put_inside}
use Rattle.words.specs.Numbers.{digits, value, store, on, change}
use Rattle.words.specs.Runs.{Within, put}
use Rattle.sdx.specs.Demand2.{Places, Writes, Touches, mark_of, Put, Adjusted}

-- ---- events by the rules

-- an event that may come over the map p
abbrev pub Allowed : List ℕ → Event → Type 0
Allowed p (place a bytes) = a + length bytes ≤ 65536
Allowed p (reserve a n) = a + n ≤ 65536
Allowed p (adjust width a amount) = (width ≡ 2) × (a + 2 ≤ 65536) × (get_or p a 0 ≡ 1) × (get_or p (a + 1) 0 ≡ 1)

-- events of which each may come over the map as those before it left it
abbrev pub Lawful : List ℕ → List Event → Type 0
Lawful p [] = Unit {0}
Lawful p (e ∷ es) = Allowed p e × Lawful (mark_one e p) es

-- one list after another
pub lawful_append : (p : List ℕ) (es fs : List Event) → Lawful p es → Lawful (marks es p) fs → Lawful p (es ++ fs)
unfolding marks
lawful_append p [] fs h i = i
lawful_append p (e ∷ es) fs h i = (h.0, lawful_append (mark_one e p) es fs h.1 i)

-- both parts of a lawful list are
pub lawful_before : (p : List ℕ) (es fs : List Event) → Lawful p (es ++ fs) → Lawful p es
lawful_before p [] fs h = tt
lawful_before p (e ∷ es) fs h = (h.0, lawful_before (mark_one e p) es fs h.1)

pub lawful_after : (p : List ℕ) (es fs : List Event) → Lawful p (es ++ fs) → Lawful (marks es p) fs
unfolding marks
lawful_after p [] fs h = h
lawful_after p (e ∷ es) fs h = lawful_after (mark_one e p) es fs h.1

-- ---- the mark that one event leaves

-- an event is at an address or not
pub touches? : (x : ℕ) (e : Event) → Dec (Touches x e)
touches? x (place a bytes) = within? a (length bytes) x
touches? x (reserve a n) = within? a n x
touches? x (adjust width a amount) = within? a width x

-- an address that the event is not at keeps its mark
pub mark_untouched : (e : Event) (p : List ℕ) (x : ℕ) → ¬ Touches x e → get_or (mark_one e p) x 0 ≡ get_or p x 0
mark_untouched (place a bytes) p x h = fill_outside p a (length bytes) 1 x h
mark_untouched (reserve a n) p x h = fill_outside p a n 2 x h
mark_untouched (adjust width a amount) p x h = fill_outside p a width 3 x h

-- one that it is at gets the event's
pub mark_touched : (e : Event) (p : List ℕ) (x : ℕ) → length p ≡ 65536 → Allowed p e → Touches x e → get_or (mark_one e p) x 0 ≡ mark_of e
mark_touched (place a bytes) p x l h w = fill_inside p a (length bytes) 1 x (omega (arith, l, h)) w
mark_touched (reserve a n) p x l h w = fill_inside p a n 2 x (omega (arith, l, h)) w
mark_touched (adjust width a amount) p x l h w = fill_inside p a width 3 x (omega (arith, l, h.0, h.1)) w

-- ---- the marks of a list: "The last event at an address decides"

-- none of the events is at x
pub marks_untouched : (es : List Event) (p : List ℕ) (x : ℕ) → Each (λ e. ¬ Touches x e) es → get_or (marks es p) x 0 ≡ get_or p x 0
unfolding marks
marks_untouched [] p x h = refl
marks_untouched (e ∷ es) p x h = marks_untouched es (mark_one e p) x h.1 ∙ mark_untouched e p x h.0

-- one is, and none after it
pub marks_last : (before after : List Event) (e : Event) (p : List ℕ) (x : ℕ) → length p ≡ 65536 → Lawful p (before ++ (e ∷ after)) → Touches x e
    → Each (λ f. ¬ Touches x f) after → get_or (marks (before ++ (e ∷ after)) p) x 0 ≡ mark_of e
unfolding marks
marks_last before after e p x l h t w =
    ap (λ (q : List ℕ). get_or q x 0) (marks_append before (e ∷ after) p)
    ∙ marks_untouched after (mark_one e (marks before p)) x w
    ∙ mark_touched e (marks before p) x (length_marks before p ∙ l) (lawful_after p before (e ∷ after) h).0 t

-- ---- memory where no event writes

-- a byte that the event does not write stays
pub write_none : (e : Event) (m : List ℕ) (x : ℕ) → ¬ Writes x e → get_or (play_one e m) x 0 ≡ get_or m x 0
write_none (place a bytes) m x h = put_outside m a bytes x h
write_none (reserve a n) m x h = refl
write_none (adjust width a amount) m x h = change_outside width (on width amount) m a x h

-- nor does it change where none of the events writes it
play_unwritten : (es : List Event) (m : List ℕ) (x : ℕ) → Each (λ e. ¬ Writes x e) es → get_or (play es m) x 0 ≡ get_or m x 0
unfolding play
play_unwritten [] m x h = refl
play_unwritten (e ∷ es) m x h = play_unwritten es (play_one e m) x h.1 ∙ write_none e m x h.0

-- an event that does not place a byte marks it 1 only if it was
mark_unplaced : (e : Event) (p : List ℕ) (x : ℕ) → length p ≡ 65536 → Allowed p e → ¬ Places x e → get_or (mark_one e p) x 0 ≡ 1 → get_or p x 0 ≡ 1
mark_unplaced e p x l h w f = by e (touches? x e) h w f
  where
    by : (e : Event) → Dec (Touches x e) → Allowed p e → ¬ Places x e → get_or (mark_one e p) x 0 ≡ 1 → get_or p x 0 ≡ 1
    by e (no t) h w f = sym (mark_untouched e p x t) ∙ f
    by (place a bytes) (yes t) h w f = absurd (w t)
    by (reserve a n) (yes t) h w f = absurd (omega (arith, f, mark_touched (reserve a n) p x l h t))
    by (adjust width a amount) (yes t) h w f = absurd (omega (arith, f, mark_touched (adjust width a amount) p x l h t))

-- a byte that the event does not place, and that is not marked 1, is not written
write_unplaced : (e : Event) (p : List ℕ) (x : ℕ) → Allowed p e → ¬ Places x e → (get_or p x 0 ≡ 1 → ⊥) → ¬ Writes x e
write_unplaced (place a bytes) p x h w n t = w t
write_unplaced (reserve a n) p x h w n' t = t
write_unplaced (adjust width a amount) p x h w n t = by (dec_le x a)
  where
    by : Dec (x ≤ a) → ⊥
    by (yes s) = let e : x ≡ a = omega arith in n (ap (λ (y : ℕ). get_or p y 0) e ∙ h.2)
    by (no s) = let e : x ≡ a + 1 = omega (arith, h.0, t) in n (ap (λ (y : ℕ). get_or p y 0) e ∙ h.3)

-- a field lies in bytes that were placed: where the map has no 1 and no event places a byte, none writes it
unplaced_unwritten : (es : List Event) (p : List ℕ) (x : ℕ) → length p ≡ 65536 → Lawful p es → (get_or p x 0 ≡ 1 → ⊥)
    → Each (λ e. ¬ Places x e) es → Each (λ e. ¬ Writes x e) es
unplaced_unwritten [] p x l h n w = tt
unplaced_unwritten (e ∷ es) p x l h n w = (
  write_unplaced e p x h.0 w.0 n,
  unplaced_unwritten es (mark_one e p) x (length_mark_one e p ∙ l) h.1 (λ f. n (mark_unplaced e p x l h.0 w.0 f)) w.1,
)

-- "and every other byte as before"
pub play_others : (es : List Event) (m : List ℕ) (x : ℕ) → Lawful blank es → Each (λ e. ¬ Places x e) es → get_or (play es m) x 0 ≡ get_or m x 0
play_others es m x h w = play_unwritten es m x (unplaced_unwritten es blank x length_blank h (λ f. omega (arith, f, blank_at x)) w)

-- ---- bytes that a block put

-- the same with one event more in front
put_later : (e : Event) (es : List Event) (x byte : ℕ) → Put es x byte → Put (e ∷ es) x byte
put_later e es x byte h =
    record {
      before = e ∷ h.before;
      address = h.address;
      bytes = h.bytes;
      after = h.after;
      by = record { order = ap (λ (fs : List Event). e ∷ fs) h.by.order };
      index = h.index;
      inside = h.inside;
      here = h.here;
      is = h.is;
      since = h.since;
    }

-- the first event put it
put_first : (a : ℕ) (bytes : List ℕ) (es : List Event) (x : ℕ) → Within a (length bytes) x → Each (λ e. ¬ Writes x e) es
    → Put (place a bytes ∷ es) x (get_or bytes (x - a) 0)
put_first a bytes es x w h =
    record {
      before = [];
      address = a;
      bytes = bytes;
      after = es;
      by = record { order = refl };
      index = x - a;
      inside = omega arith;
      here = omega arith;
      is = refl;
      since = h;
    }

-- how a byte may come to its mark 1: a block put it, or it had the mark before; and no event has written it since
data Marked (p : List ℕ) (es : List Event) (x : ℕ) : Type 0 where
  since_put : (byte : ℕ) → Put es x byte → Marked p es x
  since_before : get_or p x 0 ≡ 1 → Each (λ e. ¬ Writes x e) es → Marked p es x

-- the same with one event more in front
marked_on : (e : Event) (es : List Event) (p : List ℕ) (x : ℕ) → length p ≡ 65536 → Allowed p e → Marked (mark_one e p) es x → Marked p (e ∷ es) x
marked_on e es p x l h (since_put byte f) = since_put byte (put_later e es x byte f)
marked_on e es p x l h (since_before f w) = by e (touches? x e) h f
  where
    by : (e : Event) → Dec (Touches x e) → Allowed p e → get_or (mark_one e p) x 0 ≡ 1 → Marked p (e ∷ es) x
    by (place a bytes) (yes t) h f = since_put (get_or bytes (x - a) 0) (put_first a bytes es x t w)
    by (reserve a n) (yes t) h f = absurd (omega (arith, f, mark_touched (reserve a n) p x l h t))
    by (adjust width a amount) (yes t) h f = absurd (omega (arith, f, mark_touched (adjust width a amount) p x l h t))
    by (place a bytes) (no t) h f = since_before (sym (mark_untouched (place a bytes) p x t) ∙ f) (t, w)
    by (reserve a n) (no t) h f = since_before (sym (mark_untouched (reserve a n) p x t) ∙ f) ((λ s. s), w)
    by (adjust width a amount) (no t) h f = since_before (sym (mark_untouched (adjust width a amount) p x t) ∙ f) (t, w)

-- so of all events
marked : (es : List Event) (p : List ℕ) (x : ℕ) → length p ≡ 65536 → Lawful p es → get_or (marks es p) x 0 ≡ 1 → Marked p es x
unfolding marks
marked [] p x l h f = since_before f tt
marked (e ∷ es) p x l h f = marked_on e es p x l h.0 (marked es (mark_one e p) x (length_mark_one e p ∙ l) h.1 f)

-- a byte marked 1 after lawful events from a clear map was put by a block, and not written since
marked_put : (es : List Event) (x : ℕ) → Lawful blank es → get_or (marks es blank) x 0 ≡ 1 → (byte : ℕ) × Put es x byte
marked_put es x h f = by (marked es blank x length_blank h f)
  where
    by : Marked blank es x → (byte : ℕ) × Put es x byte
    by (since_put byte w) = (byte, w)
    by (since_before g w) = absurd (omega (arith, g, blank_at x))

-- a byte that a block put, and that was not written since, is in memory
pub put_held : (es : List Event) (p m : List ℕ) (x byte : ℕ) → length m ≡ 65536 → Lawful p es → Put es x byte → get_or (play es m) x 0 ≡ byte
unfolding play
put_held es p m x byte l h f =
    let fs = place f.address f.bytes ∷ f.after in
    let g : Lawful p (f.before ++ fs) = rw f.by.order at h in
    let fits : f.address + length f.bytes ≤ 65536 = (lawful_after p f.before fs g).0 in
    let n : length (play f.before m) ≡ 65536 = length_play f.before m ∙ l in
    ap (λ (gs : List Event). get_or (play gs m) x 0) f.by.order
    ∙ ap (λ (q : List ℕ). get_or q x 0) (play_append f.before fs m)
    ∙ play_unwritten f.after (put (play f.before m) f.address f.bytes) x f.since
    ∙ ap (λ (y : ℕ). get_or (put (play f.before m) f.address f.bytes) y 0) f.here
    ∙ put_inside (play f.before m) f.address f.bytes f.index (omega arith) f.inside
    ∙ sym f.is

-- ---- fields

-- each byte of an adjusted word is its byte of the sum
pub change_byte : (g : ℕ → ℕ) (m : List ℕ) (a i : ℕ) → a + 2 ≤ length m → i < 2
    → get_or (change 2 g m a) (a + i) 0 ≡ get_or (digits 2 (g (value 2 m a))) i 0
unfolding change store
change_byte g m a i h l =
    let n = length_digits 2 (g (value 2 m a)) in
    put_inside m a (digits 2 (g (value 2 m a))) i (omega (arith, n, h)) (omega (arith, n, l))

-- two bytes that are those of a word
word_of : (l : List ℕ) (a v : ℕ) → v < 65536 → get_or l a 0 ≡ get_or (digits 2 v) 0 0 → get_or l (a + 1) 0 ≡ get_or (digits 2 v) 1 0 → value 2 l a ≡ v
unfolding digits
word_of l a v h e f = omega (arith, value_word l a, e, f, h)

-- an adjusted word: its bytes before and after
module _ (before after : List Event) (a amount : ℕ) (h : Lawful blank (before ++ (adjust 2 a amount ∷ after))) where
  -- it was allowed, and so were the events before it
  allowed : Allowed (marks before blank) (adjust 2 a amount)
  allowed = (lawful_after blank before (adjust 2 a amount ∷ after) h).0

  first : Lawful blank before
  first = lawful_before blank before (adjust 2 a amount ∷ after) h

  -- its marks are 3 now, so what no later block places of it is not written again
  not_again : (x : ℕ) → Within a 2 x → Each (λ e. ¬ Places x e) after → Each (λ e. ¬ Writes x e) after
  not_again x t w =
      let e = adjust 2 a amount in
      let p = marks before blank in
      let n : length p ≡ 65536 = length_marks before blank ∙ length_blank in
      unplaced_unwritten after (mark_one e p) x (length_mark_one e p ∙ n) (lawful_after blank before (e ∷ after) h).1
      (λ f. omega (arith, f, mark_touched e p x n allowed t)) w

  module _ (m : List ℕ) (l : length m ≡ 65536) (low high : ℕ) (low_put : Put before a low) (high_put : Put before (a + 1) high) where
    -- what it held
    word_was : value 2 (play before m) a ≡ low + 256 * high
    word_was =
        value_word (play before m) a
        ∙ ap₂ (λ (x y : ℕ). x + 256 * y) (put_held before blank m a low l first low_put) (put_held before blank m (a + 1) high l first high_put)

    -- what it holds
    byte_is : (x i : ℕ) → x ≡ a + i → i < 2 → Each (λ e. ¬ Places x e) after
        → get_or (play (before ++ (adjust 2 a amount ∷ after)) m) x 0 ≡ get_or (digits 2 (on 2 amount (low + 256 * high))) i 0
    unfolding play
    byte_is x i e k w =
        ap (λ (q : List ℕ). get_or q x 0) (play_append before (adjust 2 a amount ∷ after) m)
        ∙ play_unwritten after (change 2 (on 2 amount) (play before m) a) x (not_again x (omega arith) w)
        ∙ ap (λ (y : ℕ). get_or (change 2 (on 2 amount) (play before m) a) y 0) e
        ∙ change_byte (on 2 amount) (play before m) a i (omega (arith, allowed.1, length_play before m, l)) k
        ∙ ap (λ (v : ℕ). get_or (digits 2 (on 2 amount v)) i 0) word_was

-- "fields listed after that adjusted as the rules say": both bytes had been put by blocks, and hold the sum from then on
pub play_fields : (before after : List Event) (a amount : ℕ) (m : List ℕ) → length m ≡ 65536 → Lawful blank (before ++ (adjust 2 a amount ∷ after))
    → Adjusted before after a amount (play (before ++ (adjust 2 a amount ∷ after)) m)
play_fields before after a amount m l h =
    let f = allowed before after a amount h in
    let low = marked_put before a (first before after a amount h) f.2 in
    let high = marked_put before (a + 1) (first before after a amount h) f.3 in
    let byte = byte_is before after a amount h m l low.0 high.0 low.1 high.1 in
    record {
      low = low.0;
      high = high.0;
      low_put = low.1;
      high_put = high.1;
      bytes = λ i k w. (byte (a + i) i refl k w, not_again before after a amount h (a + i) (omega arith) w);
      word = λ v w. word_of (play (before ++ (adjust 2 a amount ∷ after)) m) a (on 2 amount (low.0 + 256 * high.0))
          (on_lt 2 amount (low.0 + 256 * high.0)) (byte a 0 (omega arith) (omega arith) v) (byte (a + 1) 1 refl (omega arith) w);
    }
