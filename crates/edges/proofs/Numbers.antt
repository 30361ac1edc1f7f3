-- The buffers of a case have their lengths, so the outcome that the loader's promise names is that of a load with the right buffers.
-- Assumes nothing.
use mathlib.Core.Bool.{true}
use mathlib.Core.List.{List, []}
use mathlib.Core.Path.{◌≡◌, refl, ap}
use Prim.Native.Nat.{ℕ}
use lib.ListN.{replicate}
use Rattle.acx.specs.Call.{sized as sized_acx, call as call_acx, Loaded as LoadedAcx}
use Rattle.answer.specs.Checks.{need}
use Rattle.answer.specs.Report.{Outcome, numbers_of}
use Rattle.events.proofs.Events.{length_blank}
use Rattle.events.specs.Events.{blank}
use Rattle.passes.specs.Buffers.{Buffers, buffers}
use Rattle.passes.specs.Walk.{inputs}
use Rattle.pieces.specs.Pieces.{bases_at}
use Rattle.sdx.specs.Call.{sized as sized_sdx, call as call_sdx, Loaded as LoadedSdx}
use Rattle.edges.specs.Edges.{sdx_numbers, acx_numbers}

-- the buffers of an SDX case, all zeros
abbrev pub zeros : Buffers
zeros = buffers blank blank (replicate 256 0) (replicate 32 0)

sdx_sized_lem : (low high : ℕ) → sized_sdx (inputs [] [] low high) zeros ≡ true
sdx_sized_lem low high = rw length_blank refl

acx_sized : sized_acx blank blank ≡ true
acx_sized = rw length_blank refl

-- so its nine numbers are those that an SDX case prints, and the same of an ACX case
pub numbers_sdx : (file : List ℕ) (low high : ℕ) {r : Outcome} {b' : Buffers} → LoadedSdx file (inputs [] [] low high) (sized_sdx (inputs [] [] low high) zeros) zeros r b'
    → numbers_of r ≡ sdx_numbers file low high
unfolding call_sdx need sdx_numbers
numbers_sdx file low high d = ap numbers_of (rw (sdx_sized_lem low high) at d.outcome)

pub numbers_acx : (file : List ℕ) (base : ℕ) {r : Outcome} {m' p' : List ℕ} → LoadedAcx 1 (bases_at base 128) file (sized_acx blank blank) blank blank r m' p'
    → numbers_of r ≡ acx_numbers file base
unfolding call_acx need acx_numbers
numbers_acx file base d = ap numbers_of (rw acx_sized at d.outcome)
