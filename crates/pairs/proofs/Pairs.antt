-- A load whose address lists are byte pairs is a load over the words in them; what comes back goes into pairs again.
-- Assumes nothing.
use mathlib.Core.Bool.{Bool, true, false, ◌&&◌, false≢true}
use mathlib.Core.List.{List}
use mathlib.Core.Path.{◌≡◌, refl, sym, ap, ◌∙◌}
use Prim.Native.Nat.{ℕ, ◌/◌, ◌%◌, ◌≤◌, ◌<◌}
use native.Mathlib.Omega.{arith}
use borrow.Author.Tests.{eqb-true, ne_eqb, lt-leb}
use lib.Dec.{eqb}
use lib.ListN.{length, replicate, take}
use Rattle.std.proofs.Common.{Ok, Err, is_ok}
use Rattle.answer.specs.Checks.{need, pick}
use Rattle.answer.specs.declared.Fault.TheVariants.{WrongBuffer}
use Rattle.answer.specs.Report.{Outcome, refusal}
use Rattle.events.specs.Events.{Ran}
use Rattle.passes.specs.Buffers.{Buffers}
use Rattle.passes.specs.Walk.{Inputs, inputs, Verdict, finished, refused}
use Rattle.sdx.specs.Call.{sized, call, report, addresses_after, Loaded}
use Rattle.words.proofs.Numbers.{length_encoded, length_decoded}
use Rattle.words.proofs.Runs.{front_holds}
use Rattle.words.specs.Numbers.{encoded, decoded}
use Rattle.words.specs.Runs.{part, put}
use Rattle.answer.proofs.Checks.{and_false}
use Rattle.pairs.specs.Pairs.{paired, addresses_in, as_words, with_addresses, in_words, both_paired, pairs_after, Loads}

-- ---- lengths that are wrong

length_addresses : (bytes : List ℕ) → length (addresses_in bytes) ≡ length bytes / 2
length_addresses bytes = length_decoded _ (length bytes / 2) bytes

module _ (g : Inputs) (b : Buffers) where
  -- the lengths of all that is lent but the answer
  abbrev pub right : Bool
  right = both_paired g b && sized (as_words g) (in_words b)

  odd_known : (length g.addresses % 2 ≡ 0 → ⊥) → right ≡ false
  odd_known h = rw (ne_eqb _ _ h) refl

  many_known : length g.addresses % 2 ≡ 0 → 512 < length g.addresses → right ≡ false
  many_known e h =
      let l = length_addresses g.addresses in
      let many : 256 < length (addresses_in g.addresses) = omega (arith, l, e) in
      and_false (both_paired g b) _
      (and_false (eqb (length b.memory) 65536) _
      (and_false (eqb (length b.map) 65536) _
      (and_false (eqb (length b.names) 256) _ (and_false (eqb (length (addresses_in b.addresses)) 32) _ (rw (lt-leb _ _ many) refl)))))

  other_new : (length b.addresses ≡ 64 → ⊥) → right ≡ false
  other_new h = by (paired g.addresses) (paired b.addresses) refl
    where
      by : (c e : Bool) → paired b.addresses ≡ e → (c && e) && sized (as_words g) (in_words b) ≡ false
      by false e i = refl
      by true false i = refl
      by true true i =
          let even : length b.addresses % 2 ≡ 0 = eqb-true _ _ i in
          let l = length_addresses b.addresses in
          let other : length (addresses_in b.addresses) ≡ 32 → ⊥ = λ j. h (omega (arith, l, j, even)) in
          and_false (eqb (length b.memory) 65536) _
          (and_false (eqb (length b.map) 65536) _ (and_false (eqb (length b.names) 256) _ (rw (ne_eqb _ _ other) refl)))

module _ {file : List ℕ} {g : Inputs} {b : Buffers} {o : Outcome} (e : o ≡ refusal WrongBuffer 0 0) where
  -- where some length is wrong, nothing is done
  pub loads_wrong : (answered : Bool) → (answered && both_paired g b) && sized (as_words g) (in_words b) ≡ false → Loads file g answered b o b
  unfolding call need pick
  loads_wrong answered h =
      rw e
      (record {
        loaded = rw h
            (record {
              outcome = refl;
              memory = refl;
              map = refl;
              names = refl;
              addresses = refl;
              placed_fits = omega arith;
              adjusted_fits = omega arith;
            });
        addresses = refl;
      })

  -- known addresses of odd length, or more than 256 of them; room for new ones that is not 64 bytes
  pub loads_odd : (length g.addresses % 2 ≡ 0 → ⊥) → Loads file g true b o b
  loads_odd h = loads_wrong true (odd_known g b h)

  pub loads_many : length g.addresses % 2 ≡ 0 → 512 < length g.addresses → Loads file g true b o b
  loads_many i h = loads_wrong true (many_known g b i h)

  pub loads_other : (length b.addresses ≡ 64 → ⊥) → Loads file g true b o b
  loads_other h = loads_wrong true (other_new g b h)

-- ---- the words

-- the known addresses stand at the front of the list that they were read into
pub known_front : (bytes l room : List ℕ) → l ≡ put room 0 (addresses_in bytes) → length bytes / 2 ≤ length room
    → take (length bytes / 2) l ≡ addresses_in bytes
unfolding part
known_front bytes l room e h = front_holds room (addresses_in bytes) l (length bytes / 2) e (length_addresses bytes) h

-- the room for new addresses that a load over words is lent
abbrev pub new_words : List ℕ
new_words = replicate 32 0

-- the new addresses go back as pairs where the outcome is an acceptance, and only there
pairs_accepted : (o : Outcome) → is_ok o ≡ true → (new bytes : List ℕ) → pairs_after o new bytes ≡ encoded 2 new
pairs_accepted (Ok a) e new bytes = refl
pairs_accepted (Err r) e new bytes = absurd (false≢true e)

pairs_refused : (o : Outcome) → is_ok o ≡ false → (new bytes : List ℕ) → pairs_after o new bytes ≡ bytes
pairs_refused (Ok a) e new bytes = absurd (false≢true (sym e))
pairs_refused (Err r) e new bytes = refl

-- the lengths of pairs are right where those of the words are
same_lengths : (g : Inputs) (b : Buffers) → paired g.addresses ≡ true → length b.addresses ≡ 64
    → (true && both_paired g b) && sized (as_words g) (in_words b) ≡ sized (as_words g) (with_addresses b new_words)
same_lengths g b e n =
    let l : length (addresses_in b.addresses) ≡ 32 = length_addresses b.addresses ∙ ap (λ (k : ℕ). k / 2) n in
    rw (e, l, n) refl

module _ (file : List ℕ) (g : Inputs) (b b' : Buffers) (o : Outcome) (known new : List ℕ) (even : paired g.addresses ≡ true)
    (n : length b.addresses ≡ 64) (words : known ≡ addresses_in g.addresses)
    (loaded : Loaded file (inputs g.names known g.low g.high)
    (sized (inputs g.names known g.low g.high) (with_addresses b new_words)) (with_addresses b new_words) o (with_addresses b' new)) where
  d : Loaded file (as_words g) (sized (as_words g) (with_addresses b new_words)) (with_addresses b new_words) o (with_addresses b' new)
  d = rw (← words) loaded

  -- the load over words
  abbrev ran : Ran Verdict
  ran = call file (as_words g) (sized (as_words g) (with_addresses b new_words))

  loads : addresses_in b'.addresses ≡ addresses_after ran.answer (addresses_in b.addresses)
      → b'.addresses ≡ pairs_after o (addresses_in b'.addresses) b.addresses
      → Loads file g true b o b'
  loads e f =
      record {
        loaded = rw (same_lengths g b even n)
            (record {
              outcome = d.outcome;
              memory = d.memory;
              map = d.map;
              names = d.names;
              addresses = e;
              placed_fits = d.placed_fits;
              adjusted_fits = d.adjusted_fits;
            });
        addresses = f;
      }

  -- it was accepted where the walk finished
  finished_ok : (v : Verdict) → ran.answer ≡ v → is_ok o ≡ is_ok (report b.memory v ran.events)
  finished_ok v h = ap (λ (q : Outcome). is_ok q) (d.outcome ∙ ap (λ (w : Verdict). report b.memory w ran.events) h)

  -- an acceptance puts the new addresses into pairs, in which they are read
  pub loads_accepted : is_ok o ≡ true → b'.addresses ≡ encoded 2 new → decoded 2 (length new) b'.addresses ≡ new → Loads file g true b o b'
  loads_accepted e f back = by ran.answer refl
    where
      words_in : addresses_in b'.addresses ≡ new
      words_in =
          let half : length b'.addresses / 2 ≡ length new = omega (arith, ap length f, length_encoded 2 new) in
          ap (λ (c : ℕ). decoded 2 c b'.addresses) half ∙ back

      by : (v : Verdict) → ran.answer ≡ v → Loads file g true b o b'
      by (finished z) h =
          loads
          (words_in ∙ d.addresses ∙ ap (λ (v : Verdict). addresses_after v new_words) h
          ∙ sym (ap (λ (v : Verdict). addresses_after v (addresses_in b.addresses)) h))
          (f ∙ ap (λ (l : List ℕ). encoded 2 l) (sym words_in) ∙ sym (pairs_accepted o e _ _))
      by (refused fault offset z) h = absurd (false≢true (sym (finished_ok (refused fault offset z) h) ∙ e))

  -- a refusal leaves the pairs as they were
  pub loads_refused : is_ok o ≡ false → b'.addresses ≡ b.addresses → Loads file g true b o b'
  loads_refused e f = by ran.answer refl
    where
      by : (v : Verdict) → ran.answer ≡ v → Loads file g true b o b'
      by (finished z) h = absurd (false≢true (sym e ∙ finished_ok (finished z) h))
      by (refused k i z) h =
          loads (ap addresses_in f ∙ sym (ap (λ (v : Verdict). addresses_after v (addresses_in b.addresses)) h)) (f ∙ sym (pairs_refused o e _ _))
