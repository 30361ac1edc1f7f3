-- The bench table of document 01, P1 to P10, about the definitions that the loaders and the mover are proved to keep. Document 02, wish 6: "P7, P9 and
-- P10 then read offsets 19, 9 and 10".
-- A row is a call and all that it gives: the nine numbers of its answer, and every byte of every buffer that it may write. Each
-- holds zeros before the call; only before a move memory is as a load at the old bases left it.
-- `TableHolds` is the statement, proved in proofs/Table.antt.
-- Assumes nothing.
use Rattle.std.specs.Prelude.{true, List, [], ◌∷◌, ◌++◌, map, ◌≡◌, ℕ, ◌-◌, length, take, replicate}
use Rattle.acx.specs.Call as acx
use Rattle.acx.specs.Walk.{reported}
use Rattle.answer.specs.Checks.{pick}
use Rattle.answer.specs.Report.{numbers_of}
use Rattle.events.specs.Events.{blank}
use Rattle.moves.specs.Call as moves
use Rattle.moves.specs.Sources.{file_in}
use Rattle.passes.specs.Buffers.{Buffers, buffers, new_names_length, new_addresses_length}
use Rattle.passes.specs.Walk.{inputs}
use Rattle.pieces.specs.Pieces.{bases_at}
use Rattle.pieces.specs.declared.Bases.{Bases}
use Rattle.sdx.specs.Call as sdx
use Rattle.words.specs.Runs.{put}

-- ---- what a row says

-- a call
pub data Case : Type 0 where
  -- an SDX file loaded between low and high, with no known names
  load_sdx : (file : List ℕ) → (low high : ℕ) → Case
  -- an ACX file loaded in a form at bases
  load_acx : (form : ℕ) → (file : List ℕ) → Bases → Case
  -- the same, and then moved from those bases to others
  move_acx : (form : ℕ) → (file : List ℕ) → (old new : Bases) → Case

-- bytes of a buffer, from an address on
pub record Region : Type 0 where
  pub from : ℕ
  pub bytes : List ℕ

-- its number in the table; a call; its nine numbers; and what memory and the map hold after it beside zeros
pub record Row : Type 0 where
  pub row : ℕ
  pub case : Case
  pub numbers : List ℕ
  pub memory : List Region
  pub map : List Region

-- ---- the rows, each under the document's words

-- device form
abbrev pub device : ℕ
device = 1

-- a main base, with the zero-page base of every ACX row
abbrev pub at : ℕ → Bases
at main = bases_at main 128

abbrev pub holds : ℕ → List ℕ → Region
holds from bytes = record { from = from; bytes = bytes }

-- the nine numbers of an acceptance: whether there is a start (1 or 0), its address, placed, adjusted, new names, low
abbrev pub accepts : ℕ → ℕ → ℕ → ℕ → ℕ → ℕ → List ℕ
accepts present start placed adjusted names low = 0 ∷ 0 ∷ 0 ∷ present ∷ start ∷ placed ∷ adjusted ∷ names ∷ low ∷ []

-- and of a refusal: its number and its offset
abbrev pub refuses : ℕ → ℕ → List ℕ
refuses number offset = number ∷ offset ∷ 0 ∷ 0 ∷ 0 ∷ 0 ∷ 0 ∷ 0 ∷ 0 ∷ []

-- "device file `00 05 00 00 4C 03 00 06 01 01 0B 02 00 00`", or with another fixup record than `06 01 01`
abbrev pub P1FileWith : List ℕ → List ℕ
P1FileWith fixups = 0x00 ∷ 0x05 ∷ 0x00 ∷ 0x00 ∷ 0x4C ∷ 0x03 ∷ 0x00 ∷ (fixups ++ (0x0B ∷ 0x02 ∷ 0x00 ∷ 0x00 ∷ []))

abbrev pub P1File : List ℕ
P1File = P1FileWith (0x06 ∷ 0x01 ∷ 0x01 ∷ [])

-- "bases 8192 and 128: 4C 03 20 at 8192, start 8192, 3 placed, 1 adjusted."
abbrev pub P1 : Row
P1 =
    record {
      row = 1;
      case = load_acx device P1File (at 8192);
      numbers = accepts 1 8192 3 1 0 0;
      memory = holds 8192 (0x4C ∷ 0x03 ∷ 0x20 ∷ []) ∷ [];
      map = holds 8192 (1 ∷ 3 ∷ 3 ∷ []) ∷ [];
    }

-- "moved to 12416: 4C 83 30 there." (the bytes vacated at 8192 "keep their contents")
abbrev pub P2 : Row
P2 =
    record {
      row = 2;
      case = move_acx device P1File (at 8192) (at 12416);
      numbers = accepts 1 12416 3 1 0 0;
      memory = holds 8192 (0x4C ∷ 0x03 ∷ 0x20 ∷ []) ∷ holds 12416 (0x4C ∷ 0x83 ∷ 0x30 ∷ []) ∷ [];
      map = holds 12416 (1 ∷ 3 ∷ 3 ∷ []) ∷ [];
    }

-- "device file `00 04 00 00 A2 00 08 02 01 F0 0B 00 00 00`"
abbrev pub P3File : List ℕ
P3File = 0x00 ∷ 0x04 ∷ 0x00 ∷ 0x00 ∷ 0xA2 ∷ 0x00 ∷ 0x08 ∷ 0x02 ∷ 0x01 ∷ 0xF0 ∷ 0x0B ∷ 0x00 ∷ 0x00 ∷ 0x00 ∷ []

-- "bases 8192 and 128: A2 20 at 8192."
abbrev pub P3 : Row
P3 =
    record {
      row = 3;
      case = load_acx device P3File (at 8192);
      numbers = accepts 0 0 2 1 0 0;
      memory = holds 8192 (0xA2 ∷ 0x20 ∷ []) ∷ [];
      map = holds 8192 (1 ∷ 3 ∷ []) ∷ [];
    }

-- "P3's file at 8208 and 128: A2 21."
abbrev pub P4 : Row
P4 =
    record {
      row = 4;
      case = load_acx device P3File (at 8208);
      numbers = accepts 0 0 2 1 0 0;
      memory = holds 8208 (0xA2 ∷ 0x21 ∷ []) ∷ [];
      map = holds 8208 (1 ∷ 3 ∷ []) ∷ [];
    }

-- "P4 moved to 8192: A2 20." (those at 8208 "keep their contents")
abbrev pub P5 : Row
P5 =
    record {
      row = 5;
      case = move_acx device P3File (at 8208) (at 8192);
      numbers = accepts 0 0 2 1 0 0;
      memory = holds 8208 (0xA2 ∷ 0x21 ∷ []) ∷ holds 8192 (0xA2 ∷ 0x20 ∷ []) ∷ [];
      map = holds 8192 (1 ∷ 3 ∷ []) ∷ [];
    }

-- "`FE FF 01 00 00 10 03 00 4C 00 10 FD FF 01 00 00 FE 01 01 FC`"
abbrev pub P6File : List ℕ
P6File =
    0xFE ∷ 0xFF ∷ 0x01 ∷ 0x00 ∷ 0x00 ∷ 0x10 ∷ 0x03 ∷ 0x00 ∷ 0x4C ∷ 0x00 ∷ 0x10
    ∷ 0xFD ∷ 0xFF ∷ 0x01 ∷ 0x00 ∷ 0x00 ∷ 0xFE ∷ 0x01 ∷ 0x01 ∷ 0xFC ∷ []

-- "low 7936, high 39936, no known names: 4C 00 1F at 7936, low 7939."
abbrev pub P6 : Row
P6 =
    record {
      row = 6;
      case = load_sdx P6File 7936 39936;
      numbers = accepts 0 0 3 1 0 7939;
      memory = holds 7936 (0x4C ∷ 0x00 ∷ 0x1F ∷ []) ∷ [];
      map = holds 7936 (1 ∷ 3 ∷ 3 ∷ []) ∷ [];
    }

-- "P6 without its last byte: 5 at offset 11"; since wish 6 at 19, the file's length
abbrev pub P7 : Row
P7 =
    record {
      row = 7;
      case = load_sdx (take (length P6File - 1) P6File) 7936 39936;
      numbers = refuses 5 19;
      memory = [];
      map = [];
    }

-- "empty SDX file: 5 at offset 0."
abbrev pub P8 : Row
P8 = record { row = 8; case = load_sdx [] 7936 39936; numbers = refuses 5 0; memory = []; map = [] }

-- "P1's file and bases with the fixup record `06 01 02`: 12 at offset 7"; since wish 6 at 9, the item
abbrev pub P9 : Row
P9 =
    record {
      row = 9;
      case = load_acx device (P1FileWith (0x06 ∷ 0x01 ∷ 0x02 ∷ [])) (at 8192);
      numbers = refuses 12 9;
      memory = [];
      map = [];
    }

-- "with `06 02 01 01`: 13 at offset 7"; since wish 6 at 10, the second item
abbrev pub P10 : Row
P10 =
    record {
      row = 10;
      case = load_acx device (P1FileWith (0x06 ∷ 0x02 ∷ 0x01 ∷ 0x01 ∷ [])) (at 8192);
      numbers = refuses 13 10;
      memory = [];
      map = [];
    }

-- the table
abbrev pub table : List Row
table = P1 ∷ P2 ∷ P3 ∷ P4 ∷ P5 ∷ P6 ∷ P7 ∷ P8 ∷ P9 ∷ P10 ∷ []

-- ---- what the definitions give: the same terms as in the promises of `sdx::load`, `acx::load` and `mover::move_handler`

-- the numbers of a call, and every buffer that it may write, whole: memory, the map, and the others (the new names and their addresses of an SDX
-- load; the scratch of a move)
pub record Result : Type 0 where
  pub numbers : List ℕ
  pub memory : List ℕ
  pub map : List ℕ
  pub others : List (List ℕ)

-- the buffers of an SDX load, all zero
abbrev pub clear : Buffers
clear = buffers blank blank (replicate new_names_length 0) (replicate new_addresses_length 0)

abbrev pub sdx_loaded : List ℕ → ℕ → ℕ → Result
sdx_loaded file low high =
    let g = inputs [] [] low high in
    let o = sdx.call file g (sdx.sized g clear) in
    record {
      numbers = numbers_of (sdx.report clear.memory o.answer o.events);
      memory = sdx.memory_after o.answer o.events clear.memory;
      map = pick (sdx.sized g clear) (sdx.map_after o.answer o.events) clear.map;
      others = sdx.names_after o.answer clear.names ∷ sdx.addresses_after o.answer clear.addresses ∷ [];
    }

abbrev pub acx_loaded : ℕ → List ℕ → Bases → Result
acx_loaded form file b =
    let o = acx.call form b file (acx.sized blank blank) in
    record {
      numbers = numbers_of (reported b o).answer;
      memory = acx.memory_after o.answer o.events blank;
      map = pick (acx.sized blank blank) (acx.map_after o.answer o.events) blank;
      others = [];
    }

abbrev pub acx_moved : ℕ → List ℕ → Bases → Bases → Result
acx_moved form file old new =
    let c = moves.call_of (file_in form file) old new blank blank true in
    let m = (acx_loaded form file old).memory in
    record {
      numbers = numbers_of (moves.outcome_of c m);
      memory = moves.memory_after c m;
      map = moves.map_after c m;
      others = moves.scratch_after c m ∷ [];
    }

abbrev pub result_of : Case → Result
result_of (load_sdx file low high) = sdx_loaded file low high
result_of (load_acx form file b) = acx_loaded form file b
result_of (move_acx form file old new) = acx_moved form file old new

-- ---- what the table says

-- a buffer of 65,536 bytes that holds some runs, and zero elsewhere
abbrev pub holding : List Region → List ℕ
holding [] = blank
holding (r ∷ rs) = put (holding rs) r.from r.bytes

-- the other buffers, all zero: no row brings a new name, and a scratch is "all zero after it"
abbrev pub cleared : Case → List (List ℕ)
cleared (load_sdx file low high) = clear.names ∷ clear.addresses ∷ []
cleared (load_acx form file b) = []
cleared (move_acx form file old new) = blank ∷ []

abbrev pub got : Row → Result
got row = result_of row.case

abbrev pub wanted : Row → Result
wanted row = record { numbers = row.numbers; memory = holding row.memory; map = holding row.map; others = cleared row.case }

-- the statement: the table has the rows P1 to P10, and every call of it gives what its row says
pub record TableHolds : Type 0 where
  pub ten : map (λ r. r.row) table ≡ 1 ∷ 2 ∷ 3 ∷ 4 ∷ 5 ∷ 6 ∷ 7 ∷ 8 ∷ 9 ∷ 10 ∷ []
  pub rows : map got table ≡ map wanted table
