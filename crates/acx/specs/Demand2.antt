-- Demand 2 for ACX files, sentence by sentence: what a load leaves where it accepts, and that it accepts exactly what follows the rules
-- (Rules.antt). Proved in proofs/Demand2.antt: `demand2` of the definition, of every file, every pair of bases and every memory;
-- `accepted_exactly : Claim` of every call that keeps the loader's contract.
-- Assumes nothing.
use Rattle.std.specs.Prelude.{Bool, true, ◌&&◌, List, [], ◌∷◌, map, ◌≡◌, ℕ, ◌+◌, ◌≤◌, ◌<◌, length, get_or, Option}
use Rattle.answer.specs.Report.{Outcome, acceptance}
use Rattle.events.specs.Lists.{Each}
use Rattle.events.specs.Sizes.{memory_size, file_limit}
use Rattle.words.specs.Numbers.{value, on}
use Rattle.words.specs.Runs.{part}
use Rattle.acx.specs.Call.{form_of, in_range, sized, Loaded}
use Rattle.pieces.specs.AtBases.{start_of}
use Rattle.pieces.specs.Places.{Placed, In, WellPlaced, Marked}
use Rattle.pieces.specs.Pieces.{Piece, size, outline, place_of, width, amount_of}
use Rattle.pieces.specs.declared.Bases.{Bases}
use Rattle.acx.specs.Rules.{Follows}
use Rattle.acx.specs.declared.Form.{Form}
use Rattle.records.specs.declared.Entry.{Entry}

-- the code of each piece is a run of the file's bytes
abbrev pub FromFile : List ℕ → List Piece → Type 0
FromFile file ps = Each (λ p. (from : ℕ) × (from + size p ≤ length file) × (p.code ≡ part file from (size p))) ps

-- the sum of a number over the pieces, or over their outlines
abbrev pub total : {P : Type 0} → (P → ℕ) → List P → ℕ
total n [] = 0
total n (p ∷ ps) = n p + total n ps

-- What the load of a file leaves that has these pieces and this entry: it found memory m, left m' and the map p', and reported the two counts.
pub record Demand2 (form : Form) (file : List ℕ) (b : Bases) (ps : List Piece) (entry : Entry) (m m' p' : List ℕ) (placed adjusted : ℕ) : Type 0 where
  -- the pieces are those of its records, one after the other
  pub follows : Follows form file b ps entry
  pub well_placed : WellPlaced b (map outline ps)
  pub from_file : FromFile file ps
  -- "each loaded byte as its last block put it"
  pub loaded : Each (λ p. (j : ℕ) → j < size p → Each (λ f. ¬ In j f) p.fields → get_or m' (place_of b (outline p) + j) 0 ≡ get_or p.code j 0) ps
  -- "fields listed after that adjusted as the rules say"
  pub fields : Each (λ p. Each (λ f. value (width f) m' (place_of b (outline p) + f.index) ≡ on (width f) (amount_of b f) (value (width f) p.code f.index)) p.fields) ps
  -- "and every other byte as before"
  pub others : (x : ℕ) → Each (λ p. ¬ Placed b x (outline p)) ps → get_or m' x 0 ≡ get_or m x 0
  -- (memory has as many bytes after it as before)
  pub lengths : length m' ≡ length m
  -- "The map holds the marks."
  pub marks : Marked b (map outline ps) p'
  -- "the counts reported are those of these events"
  pub placed_count : placed ≡ total size ps
  pub adjusted_count : adjusted ≡ total (λ p. length p.fields) ps
  -- "neither exceeds the file's length"
  pub placed_fits : placed ≤ length file
  pub adjusted_fits : adjusted ≤ length file

-- "settings and buffers as document 01 asks" (a call that lends no C answer has nothing wrong there)
pub record Asked (form : ℕ) (b : Bases) (file : List ℕ) (answer_sized : Bool) (m p : List ℕ) : Type 0 where
  pub answer : answer_sized ≡ true
  pub memory : length m ≡ memory_size
  pub map : length p ≡ memory_size
  pub settings : in_range form b ≡ true
  pub fits : length file ≤ file_limit

-- A call that was accepted.
pub record AcceptedCall (form : ℕ) (b : Bases) (file : List ℕ) (answer_sized : Bool) (m p : List ℕ) (start : Option ℕ) (placed adjusted : ℕ)
    (m' p' : List ℕ) : Type 0 where
  pub asked : Asked form b file answer_sized m p
  pub pieces : List Piece
  pub entry : Entry
  -- "flag 0 none, 1 absolute, 2 plus main base"
  pub starts : start ≡ start_of b entry
  pub leaves : Demand2 (form_of form) file b pieces entry m m' p' placed adjusted

-- "With settings and buffers as document 01 asks, a file is accepted exactly if it follows the .. ACX rules of document 01 and fits": of a call
-- that found memory m and the map p, answered r and left m' and p'
pub record Exactly (form : ℕ) (b : Bases) (file : List ℕ) (answer_sized : Bool) (m p : List ℕ) (r : Outcome) (m' p' : List ℕ) : Type 0 where
  -- only if: an acceptance is of a call as asked and of a file that follows the rules, and leaves what demand 2 says
  pub only : (start : Option ℕ) (placed adjusted names low : ℕ) → r ≡ acceptance start placed adjusted names low
      → AcceptedCall form b file answer_sized m p start placed adjusted m' p'
  -- if: a call as asked accepts every file that follows the rules, with its start and the counts of its pieces
  pub all : Asked form b file answer_sized m p → (ps : List Piece) (entry : Entry) → Follows (form_of form) file b ps entry
      → r ≡ acceptance (start_of b entry) (total size ps) (total (λ p. length p.fields) ps) 0 0

-- The claim: of every file, all settings, whatever is lent, and every call that keeps the loader's contract.
abbrev pub Claim : Type 0
Claim =
    (form : ℕ) (b : Bases) (file : List ℕ) (answer_sized : Bool) (m p : List ℕ) (r : Outcome) (m' p' : List ℕ)
    → Loaded form b file (answer_sized && sized m p) m p r m' p'
    → Exactly form b file answer_sized m p r m' p'
