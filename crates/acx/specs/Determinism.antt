-- One file, one program: of every two calls that keep the loader's contract. Proved in proofs/Determinism.antt (`same_program : SameClaim`).
-- Assumes nothing.
use Rattle.std.specs.Prelude.{Bool, true, ◌&&◌, List, ◌≡◌, ℕ}
use Rattle.answer.specs.Report.{Outcome}
use Rattle.records.specs.declared.Entry.{Entry}
use Rattle.events.specs.Lists.{Each}
use Rattle.words.specs.Runs.{part}
use Rattle.acx.specs.Call.{sized, Loaded}
use Rattle.pieces.specs.Pieces.{Piece, size, outline, place_of}
use Rattle.pieces.specs.declared.Bases.{Bases}
use Rattle.acx.specs.Rules.{Accepts}

-- "Two benches with the same settings must never hold two different programs from one file": two calls of a file, whatever their memories
-- and maps held before, answer r and t, and leave the memories m and n and the maps p and q. (A file that is refused, for its settings or its
-- length too, leaves no program.)
pub record SameProgram (form : ℕ) (b : Bases) (file : List ℕ) (r t : Outcome) (m n p q : List ℕ) : Type 0 where
  pub outcome : r ≡ t
  pub map : p ≡ q
  -- where it was accepted, every byte at a place of the handler
  pub program : (ps : List Piece) (entry : Entry) → Accepts form b file ps entry
      → Each (λ x. part m (place_of b (outline x)) (size x) ≡ part n (place_of b (outline x)) (size x)) ps

-- of every two calls that keep the loader's contract and are lent buffers of the right lengths (x and y: a C answer, if one is lent, too)
abbrev pub SameClaim : Type 0
SameClaim =
    (form : ℕ) (b : Bases) (file : List ℕ) (x : Bool) (m p : List ℕ) (r : Outcome) (m' p' : List ℕ) (y : Bool) (n q : List ℕ) (t : Outcome)
    (n' q' : List ℕ)
    → Loaded form b file (x && sized m p) m p r m' p'
    → x && sized m p ≡ true
    → Loaded form b file (y && sized n q) n q t n' q'
    → y && sized n q ≡ true
    → SameProgram form b file r t m' n' p' q'
