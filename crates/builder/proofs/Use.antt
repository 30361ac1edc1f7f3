-- The claims of specs/Outcomes.antt at work: P1's file builds P1's index (index/proofs/Use.antt), whatever its map and its room held.
-- Assumes nothing.
use mathlib.Core.Bool.{true}
use mathlib.Core.List.{List, map}
use mathlib.Core.Path.{◌≡◌, refl, sym, ap, ◌∙◌, subst}
use Prim.Native.Nat.{ℕ}
use native.Mathlib.Omega.{arith}
use lib.ListN.{length, get_or}
use Rattle.answer.specs.Report.{Outcome, acceptance}
use Rattle.std.proofs.Common.{Some}
use Rattle.acx.proofs.Rules.{by_rules}
use Rattle.acx.proofs.Turning.{accepted_same}
use Rattle.entries.proofs.Examples.{examples_hold}
use Rattle.entries.specs.Examples.{P1Entry, P1Index}
use Rattle.index.proofs.Built.{built_of}
use Rattle.index.proofs.Use.{at, p1, pieces, p1_loads, p1_accepted}
use Rattle.pieces.specs.Pieces.{Piece, outline}
use Rattle.pieces.specs.Places.{Marked}
use Rattle.words.specs.Runs.{part}
use Rattle.builder.proofs.Outcomes.{built_exactly}
use Rattle.builder.specs.Build.{index_of, sized, Built}

module _ (p q : List ℕ) (r : Outcome) (p' q' : List ℕ) (n : length p ≡ 65536) (k : length q ≡ 65536) (d : Built 1 (at 8192) p1 (sized p q) p q r p' q') where
  -- it is accepted, with three bytes placed, one field adjusted and 16 bytes used
  pub p1_builds : r ≡ acceptance (Some 8192) 3 1 0 16
  p1_builds =
      let e : length (index_of pieces P1Entry) ≡ 16 = ap length examples_hold.P1 in
      (built_exactly 1 (at 8192) p1 true p q r p' q' d).all (rw (n, k) refl) pieces P1Entry p1_accepted (omega (arith, e))
      ∙ ap (λ (low : ℕ). acceptance (Some 8192) 3 1 0 low) e

  -- which are P1's index
  pub p1_index : part q' 0 16 ≡ P1Index
  p1_index =
      let x = ((built_exactly 1 (at 8192) p1 true p q r p' q' d).only (Some 8192) 3 1 0 16 p1_builds).2 in
      built_of x.built (at 8192) pieces P1Entry p1_accepted ∙ examples_hold.P1

  -- the rest is zero
  pub p1_rest : get_or q' 16 0 ≡ 0
  p1_rest = ((built_exactly 1 (at 8192) p1 true p q r p' q' d).only (Some 8192) 3 1 0 16 p1_builds).2.rest 16 (omega arith)

  -- and the map has a mark for its word
  pub p1_map : get_or p' 8193 0 ≡ 3
  p1_map =
      let x = ((built_exactly 1 (at 8192) p1 true p q r p' q' d).only (Some 8192) 3 1 0 16 p1_builds).2 in
      let e : x.pieces ≡ pieces = (accepted_same (sym ((by_rules 1 (at 8192) p1).accepts x.pieces x.entry x.accepts) ∙ p1_loads)).0 in
      (subst (λ (ps : List Piece). Marked (at 8192) (map outline ps) p') e x.marks).adjusted.0.0 1 (omega arith, omega arith)
