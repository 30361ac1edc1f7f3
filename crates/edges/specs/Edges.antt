-- What a case prints: the nine numbers of the outcome that the loader's promise names, for buffers of the right lengths, memory and map of
-- zeros, and no known names.
-- Assumes nothing.
use Rattle.std.specs.Prelude.{List, [], ℕ}
use Rattle.acx.specs.Call.{load as load_acx}
use Rattle.acx.specs.Walk.{reported}
use Rattle.answer.specs.Report.{numbers_of}
use Rattle.events.specs.Events.{blank}
use Rattle.passes.specs.Walk.{inputs}
use Rattle.pieces.specs.Pieces.{bases_at}
use Rattle.sdx.specs.Call.{load as load_sdx, report}

-- of an SDX file, between low and high
unfoldable pub sdx_numbers : List ℕ → ℕ → ℕ → List ℕ
sdx_numbers file low high =
    let o = load_sdx file (inputs [] [] low high) in numbers_of (report blank o.answer o.events)

-- of an ACX file in device form, at a main base and the zero-page base 128
unfoldable pub acx_numbers : List ℕ → ℕ → List ℕ
acx_numbers file base = numbers_of (reported (bases_at base 128) (load_acx 1 (bases_at base 128) file)).answer
