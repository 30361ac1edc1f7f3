-- What a call of the builder comes to, in the wish's words: when it is accepted and what it then leaves, and when it is refused and with what. Proved in
-- proofs/Outcomes.antt: `built_exactly : Claim`, `build_refusals : RefusalsClaim` and `same_index : SameClaim`.
-- Assumes nothing.
use Rattle.std.specs.Prelude.{Bool, true, ◌&&◌, List, map, ◌≡◌, ℕ, ◌≤◌, ◌<◌, leb, length, get_or, Option}
use Rattle.acx.specs.Call.{in_range, Loaded}
use Rattle.acx.specs.Demand2.{total}
use Rattle.acx.specs.Rules.{Accepts, Refuses}
use Rattle.answer.specs.Causes.{RefusedExactly}
use Rattle.answer.specs.Report.{Outcome, acceptance, IsAccepted}
use Rattle.answer.specs.declared.Fault.{Fault}
use Rattle.answer.specs.declared.Fault.TheVariants.{WrongBuffer, IndexTooLong}
use Rattle.entries.specs.Bytes.{room_size}
use Rattle.events.specs.Events.{blank}
use Rattle.events.specs.Sizes.{file_limit}
use Rattle.index.specs.Built.{BuiltFrom}
use Rattle.pieces.specs.AtBases.{start_of}
use Rattle.pieces.specs.Pieces.{Piece, size, outline}
use Rattle.pieces.specs.Places.{Marked}
use Rattle.pieces.specs.declared.Bases.{Bases}
use Rattle.records.specs.declared.Entry.{Entry}
use Rattle.words.specs.Runs.{part}
use Rattle.builder.specs.Build.{index_of, sized, Built}

-- ---- accepted

-- A call that was accepted with these counts, where low is the number of bytes used: it left the map p' and the room q'.
pub record AcceptedBuild (form : ℕ) (b : Bases) (file : List ℕ) (start : Option ℕ) (placed adjusted low : ℕ) (p' q' : List ℕ) : Type 0 where
  -- the file is accepted at the bases
  pub pieces : List Piece
  pub entry : Entry
  pub accepts : Accepts form b file pieces entry
  -- "low in the answer is how many were used": these hold the index of its pieces; "The unfilled rest .. is zero"
  pub index : part q' 0 low ≡ index_of pieces entry
  pub fits : low ≤ room_size
  pub rest : (x : ℕ) → low ≤ x → get_or q' x 0 ≡ 0
  pub room : length q' ≡ room_size
  -- so they are an index built from the file
  pub built : BuiltFrom form file (part q' 0 low)
  -- "with its load's map, answer": of any call of the loader there that is lent buffers of the right lengths (a load has no low, and reports 0)
  pub as_load : (k q : List ℕ) (t : Outcome) (k' q'' : List ℕ) → Loaded form b file true k q t k' q''
      → (t ≡ acceptance start placed adjusted 0 0) × (p' ≡ q'')
  -- so the map has the marks of the pieces
  pub marks : Marked b (map outline pieces) p'

-- When a call is accepted, where the lengths of all that is lent are right or not: it left the map p' and the room q'.
pub record Exactly (form : ℕ) (b : Bases) (file : List ℕ) (right : Bool) (r : Outcome) (p' q' : List ℕ) : Type 0 where
  -- only with the right lengths and where a load accepts the file, and then it leaves its index
  pub only : (start : Option ℕ) (placed adjusted names low : ℕ) → r ≡ acceptance start placed adjusted names low
      → (right ≡ true) × (names ≡ 0) × AcceptedBuild form b file start placed adjusted low p' q'
  -- and always then, if the index fits, with its length
  pub all : right ≡ true → (ps : List Piece) (entry : Entry) → Accepts form b file ps entry → length (index_of ps entry) ≤ room_size
      → r ≡ acceptance (start_of b entry) (total size ps) (total (λ p. length p.fields) ps) 0 (length (index_of ps entry))

-- The claim: of every call that keeps the builder's contract. (answer_sized: a C answer, if one is lent, has its length.)
abbrev pub Claim : Type 0
Claim =
    (form : ℕ) (b : Bases) (file : List ℕ) (answer_sized : Bool) (p q : List ℕ) (r : Outcome) (p' q' : List ℕ)
    → Built form b file (answer_sized && sized p q) p q r p' q'
    → Exactly form b file (answer_sized && sized p q) r p' q'

-- ---- refused

-- "Every other refusal leaves .. any other room lent for output as they were and the map all zero": a call that was refused found the map p and the room q,
-- and left p' and q'
pub record RefusedBuild (fault : Fault) (p q p' q' : List ℕ) : Type 0 where
  pub room : q' ≡ q
  -- "Refusal 1 changes nothing"
  pub wrong_buffer : fault ≡ WrongBuffer → p' ≡ p
  pub other : ¬ (fault ≡ WrongBuffer) → p' ≡ blank

-- A build with the right buffers is refused with a fault, at an offset: "with its load's .. refusals", and "after the load's refusals, 25 at offset 0 where the
-- index wouldn't fit"
pub data RefusesBuild (form : ℕ) (b : Bases) (file : List ℕ) : Fault → ℕ → Type 0 where
  by_load : {fault : Fault} {offset : ℕ} → Refuses form b file fault offset → RefusesBuild form b file fault offset
  too_long : {ps : List Piece} {entry : Entry} → Accepts form b file ps entry → room_size < length (index_of ps entry)
      → RefusesBuild form b file IndexTooLong 0

-- A call that answered r, where the lengths of all that is lent are right or not.
abbrev pub Refusals : ℕ → Bases → List ℕ → Bool → List ℕ → List ℕ → Outcome → List ℕ → List ℕ → Type 0
Refusals form b file right p q r p' q' =
    RefusedExactly right (in_range form b) (leb (length file) file_limit) (length file) (RefusesBuild form b file) (λ fault. RefusedBuild fault p q p' q') r

-- The claim: of every call that keeps the builder's contract.
abbrev pub RefusalsClaim : Type 0
RefusalsClaim =
    (form : ℕ) (b : Bases) (file : List ℕ) (answer_sized : Bool) (p q : List ℕ) (r : Outcome) (p' q' : List ℕ)
    → Built form b file (answer_sized && sized p q) p q r p' q'
    → Refusals form b file (answer_sized && sized p q) p q r p' q'

-- ---- one file, one index

-- "Two benches with the same settings must never hold two different programs from one file": nor two indexes. Two calls, whatever their maps and rooms held
-- before, answer r and t, and leave the maps p and k and the rooms q and l.
pub record SameIndex (r t : Outcome) (p k q l : List ℕ) : Type 0 where
  pub outcome : r ≡ t
  pub map : p ≡ k
  pub room : IsAccepted r → q ≡ l

-- The claim: of every two calls that keep the builder's contract and are lent buffers of the right lengths.
abbrev pub SameClaim : Type 0
SameClaim =
    (form : ℕ) (b : Bases) (file p q : List ℕ) (r : Outcome) (p' q' k l : List ℕ) (t : Outcome) (k' l' : List ℕ)
    → Built form b file true p q r p' q'
    → Built form b file true k l t k' l'
    → SameIndex r t p' k' q' l'
