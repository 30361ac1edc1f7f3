-- Bytes of the scratch taken into memory where the map has a mark.
-- Assumes nothing.
use mathlib.Core.List.{List, [], ◌∷◌, map as mapped}
use mathlib.Core.Path.{◌≡◌, refl, sym, ap, ◌∙◌, subst}
use Prim.Native.Nat.{ℕ, zero, suc, ◌+◌, ◌≤◌, ◌<◌}
use native.Mathlib.Decide.{dec_lt}
use native.Mathlib.Omega.{arith}
use lib.ListN.{length, get_or, set, get_or-eq_default}
use lib.Seq.{ext_get_or, get_or-set_same, get_or-set_other}
use Rattle.acx.proofs.WellPlaced.{fits_memory, fits_map}
use Rattle.pieces.proofs.Loads.{Fits}
use Rattle.pieces.proofs.Marks.{marks_outside, marks_some}
use Rattle.pieces.specs.Places.{Placed, WellPlaced}
use Rattle.pieces.specs.Pieces.{Outline, outline, place_of, events}
use Rattle.pieces.specs.declared.Bases.{Bases}
use Rattle.events.proofs.Events.{length_marks, length_blank, blank_at}
use Rattle.events.proofs.Lists.{each_zip3}
use Rattle.events.specs.Events.{blank}
use Rattle.events.specs.Lists.{Each}
use Rattle.words.proofs.Runs.{within?, part_agree_at}
use Rattle.index.proofs.Hollow.{hollow, hollow_outlines}
use Rattle.moves.proofs.Rulings.{allows_is, both}
use Rattle.moves.proofs.Sources.{marks_for, well_placed_at, report_at_lem}
use Rattle.moves.proofs.Transfers.{length_transfer, transfer_outside, transfer_parts}
use Rattle.moves.specs.Call.{ruling_of, Allows, pieces_of, map_by}
use Rattle.moves.specs.Demand3.{Report}
use Rattle.moves.specs.Move.{transfer, moved}
use Rattle.moves.specs.Sources.{Source, judged_at, AcceptedAt}
use Rattle.transfers.specs.Scratch.{chosen, Overlaid}

-- ---- the loop

-- up to x the bytes are chosen, from there on they are as they were
pub record Overlaying (map scratch m : List ℕ) (x : ℕ) (m' : List ℕ) : Type 0 where
  pub behind : (y : ℕ) → y < x → get_or m' y 0 ≡ chosen (get_or map y 0) (get_or m y 0) (get_or scratch y 0)
  pub ahead : (y : ℕ) → x ≤ y → get_or m' y 0 ≡ get_or m y 0

module _ {map scratch m : List ℕ} where
  -- before the first address
  pub overlaying_none : Overlaying map scratch m 0 m
  overlaying_none = record { behind = λ y h. absurd (omega arith); ahead = λ y h. refl }

  module _ {x : ℕ} {m' : List ℕ} (o : Overlaying map scratch m x m') where
    -- an address with a mark
    pub overlaying_marked : x < length m' → (get_or map x 0 ≡ 0 → ⊥) → Overlaying map scratch m (x + 1) (set m' x (get_or scratch x 0))
    overlaying_marked l h =
        record {
          behind = λ y lt. by y lt (dec_lt y x);
          ahead = λ y le. get_or-set_other m' x y (get_or scratch x 0) 0 (λ e. omega arith) ∙ o.ahead y (omega arith);
        }
      where
        some : (n : ℕ) → (n ≡ 0 → ⊥) → (a b : ℕ) → b ≡ chosen n a b
        some zero g a b = absurd (g refl)
        some (suc n) g a b = refl

        by : (y : ℕ) → y < x + 1 → Dec (y < x)
            → get_or (set m' x (get_or scratch x 0)) y 0 ≡ chosen (get_or map y 0) (get_or m y 0) (get_or scratch y 0)
        by y lt (yes k) = get_or-set_other m' x y (get_or scratch x 0) 0 (λ e. omega arith) ∙ o.behind y k
        by y lt (no k) =
            let e : x ≡ y = omega arith in
            rw (← e) (get_or-set_same m' x (get_or scratch x 0) 0 l ∙ some (get_or map x 0) h (get_or m x 0) (get_or scratch x 0))

    -- an address without one
    pub overlaying_clear : get_or map x 0 ≡ 0 → Overlaying map scratch m (x + 1) m'
    overlaying_clear h = record { behind = λ y lt. by y lt (dec_lt y x); ahead = λ y le. o.ahead y (omega arith) }
      where
        by : (y : ℕ) → y < x + 1 → Dec (y < x) → get_or m' y 0 ≡ chosen (get_or map y 0) (get_or m y 0) (get_or scratch y 0)
        by y lt (yes k) = o.behind y k
        by y lt (no k) =
            let e : x ≡ y = omega arith in
            rw (← e) (o.ahead x (omega arith) ∙ sym (ap (λ (n : ℕ). chosen n (get_or m x 0) (get_or scratch x 0)) h))

    -- at the map's end nothing is left
    pub overlaying_end : length map ≤ x → length m' ≡ length m → Overlaid map scratch m m'
    overlaying_end l n = record { same_length = n; bytes = λ y. by y (dec_lt y x) }
      where
        by : (y : ℕ) → Dec (y < x) → get_or m' y 0 ≡ chosen (get_or map y 0) (get_or m y 0) (get_or scratch y 0)
        by y (yes k) = o.behind y k
        by y (no k) =
            o.ahead y (omega arith)
            ∙ sym (ap (λ (v : ℕ). chosen v (get_or m y 0) (get_or scratch y 0)) (get_or-eq_default map 0 (omega arith)))

-- ---- what the overlay comes to

-- an address is in the place of a piece, or in none
somewhere : {C : Type 0} (b : Bases) (x : ℕ) (ps : List Outline) → Each (λ p. Placed b x p → C) ps → (Each (λ p. ¬ Placed b x p) ps → C) → C
somewhere b x [] h k = k tt
somewhere {C} b x (p ∷ ps) h k = by (within? (place_of b p) p.size x) (λ w. somewhere b x ps h.1 (λ n. k (w, n)))
  where
    by : Dec (Placed b x p) → (¬ Placed b x p → C) → C
    by (yes w) f = h.0 w
    by (no w) f = f w

-- the scratch's byte is taken where there is a mark
some_chosen : (n a b : ℕ) → 0 < n → chosen n a b ≡ b
some_chosen zero a b h = absurd (omega arith)
some_chosen (suc n) a b h = refl

-- pieces gathered in a scratch, and taken from there where the map of a load at the new bases has marks, have moved
module _ (h : Source) (ps : List Outline) (old new : Bases) (at_old : AcceptedAt h ps old) (at_new : AcceptedAt h ps new)
    (m s m' : List ℕ) (n : length m ≡ 65536) (l : length s ≡ 65536) (o : Overlaid (marks_for new ps) (transfer old new ps m s) m m') where
  abbrev fits_old : Each (Fits old (length m)) ps
  fits_old = fits_memory old (length m) ps n (well_placed_at h ps old at_old).fit

  abbrev there : WellPlaced new ps
  there = well_placed_at h ps new at_new

  -- the same of the pieces that stand for them in the map
  abbrev marked : WellPlaced new (mapped outline (mapped hollow ps))
  marked = subst (WellPlaced new) (sym (hollow_outlines ps)) there

  abbrev map_new : List ℕ
  map_new = marks_for new ps

  -- there is a mark at each place
  some : Each (λ p. (x : ℕ) → Placed new x p → 0 < get_or map_new x 0) ps
  unfolding marks_for
  some =
      subst (Each (λ p. (x : ℕ) → Placed new x p → 0 < get_or map_new x 0)) (hollow_outlines ps)
      (marks_some new (mapped hollow ps) blank marked.sound.inside (fits_map new (mapped outline (mapped hollow ps)) marked.fit) marked.fit.apart)

  -- and none elsewhere
  clear : (x : ℕ) → Each (λ p. ¬ Placed new x p) ps → get_or map_new x 0 ≡ 0
  unfolding marks_for
  clear x w =
      marks_outside new (mapped hollow ps) blank marked.sound.inside x (subst (Each (λ p. ¬ Placed new x p)) (sym (hollow_outlines ps)) w) ∙ blank_at x

  -- at a piece's place
  inside : (x : ℕ) → Each (λ p. Placed new x p → get_or m' x 0 ≡ get_or (transfer old new ps m m) x 0) ps
  inside x =
      each_zip3
      (λ p u v k w. o.bytes x ∙ some_chosen (get_or map_new x 0) (get_or m x 0) (get_or (transfer old new ps m s) x 0) (k x w)
      ∙ part_agree_at (transfer old new ps m s) (transfer old new ps m m) (place_of new p) p.size x (u ∙ sym v) w)
      ps (transfer_parts old new m ps s fits_old (fits_memory new (length s) ps l there.fit) there.fit.apart)
      (transfer_parts old new m ps m fits_old (fits_memory new (length m) ps n there.fit) there.fit.apart)
      some

  -- elsewhere
  outside : (x : ℕ) → Each (λ p. ¬ Placed new x p) ps → get_or m' x 0 ≡ get_or (transfer old new ps m m) x 0
  outside x w =
      o.bytes x
      ∙ ap (λ (v : ℕ). chosen v (get_or m x 0) (get_or (transfer old new ps m s) x 0)) (clear x w)
      ∙ sym (transfer_outside old new m ps m fits_old x w)

  overlaid : m' ≡ moved old new ps m
  unfolding moved
  overlaid =
      ext_get_or 0 m' (transfer old new ps m m) (o.same_length ∙ sym (length_transfer old new m ps m))
      (λ x lt. somewhere new x ps (inside x) (outside x))

-- ---- by the ruling

module _ (h : Source) (old new : Bases) (a : Allows (ruling_of h old new)) (map : List ℕ) (e : map ≡ map_by (judged_at h new) (ruling_of h old new)) where
  -- the pieces that move, and the handler at both bases
  abbrev ps : List Outline
  ps = pieces_of (ruling_of h old new)

  abbrev at_both : AcceptedAt h ps old × AcceptedAt h ps new
  at_both = both h old new ps (allows_is (ruling_of h old new) a)

  -- the map is that of the pieces
  map_is : map ≡ marks_for new ps
  map_is = e ∙ ap (map_by (judged_at h new)) (allows_is (ruling_of h old new) a) ∙ ap (λ (r : Report). r.map) (report_at_lem h ps new at_both.1)

  -- it is as long as memory
  pub length_map : length map ≡ 65536
  unfolding marks_for
  length_map = ap length map_is ∙ length_marks (events new (mapped hollow ps)) blank ∙ length_blank

  -- memory is that of the move
  pub overlaid_moved : (m s t m' : List ℕ) → length m ≡ 65536 → length s ≡ 65536 → t ≡ transfer old new ps m s → Overlaid map t m m'
      → m' ≡ moved old new ps m
  overlaid_moved m s t m' n l et o = overlaid h ps old new at_both.0 at_both.1 m s m' n l (rw (map_is, et) at o)
