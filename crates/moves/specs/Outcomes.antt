-- What a single call of the mover comes to, in the document's words: when it is accepted and what it then leaves, and when it is refused and
-- with what. Proved in proofs/Outcomes.antt and Refusals.antt: `call_exactly : Claim` and `call_refusals : RefusalsClaim`.
-- Assumes nothing.
use Rattle.std.specs.Prelude.{true, false, List, ◌≡◌, ℕ, ◌+◌, leb, length, get_or, Option}
use Rattle.acx.specs.Call.{Loaded}
use Rattle.acx.specs.Demand2.{total}
use Rattle.answer.specs.declared.Fault.{Fault}
use Rattle.answer.specs.declared.Fault.TheVariants.{WrongBuffer, SettingOutOfRange, FileTooLong}
use Rattle.answer.specs.Report.{Outcome, acceptance, refusal}
use Rattle.events.specs.Events.{blank}
use Rattle.events.specs.Lists.{Each}
use Rattle.events.specs.Sizes.{file_limit}
use Rattle.pieces.specs.AtBases.{start_of}
use Rattle.pieces.specs.Pieces.{Outline, place_of, width}
use Rattle.pieces.specs.Places.{Placed, Marked}
use Rattle.pieces.specs.declared.Bases.{Bases}
use Rattle.records.specs.declared.Kind.{Kind}
use Rattle.records.specs.declared.Kind.TheVariants.{Main, ZeroPage, Absolute}
use Rattle.words.specs.Runs.{Bytes, Within}
use Rattle.moves.specs.Call.{Call, sized, Moved}
use Rattle.moves.specs.Demand3.{Memory, PlainKept, FieldsShifted}
use Rattle.moves.specs.Sources.{AcceptedAt, RefusedAt, ranged, LocatedIn}
use Rattle.moves.specs.declared.Format.{Format}
use Rattle.moves.specs.declared.Format.TheVariants.{File, Index}

-- ---- accepted

-- as far as piece p goes, a move leaves the byte at x: x is no new place of p, if p is relocatable, and in no field of p, if p is absolute
abbrev pub Unaffected : Kind → Bases → ℕ → Outline → Type 0
Unaffected Main new x p = ¬ Placed new x p
Unaffected ZeroPage new x p = ¬ Placed new x p
Unaffected Absolute new x p = Each (λ f. ¬ Within (place_of new p + f.index) (width f) x) p.fields

-- "The answer and map are those of a load at the new bases": of any call of the loader there that is lent buffers of the right lengths. (An index has no load
-- of its own. One that is built from a file answers as the file does, which is in Same.antt.)
abbrev pub AsLoad : Format → List ℕ → Bases → Outcome → List ℕ → Type 0
AsLoad (File form) file b r p = (k q : List ℕ) (t : Outcome) (k' q' : List ℕ) → Loaded form b file true k q t k' q' → (r ≡ t) × (p ≡ q')
AsLoad Index index b r p = Unit {0}

-- A call that was accepted with the outcome r: it found memory m, and left m', the map p' and the scratch s'.
pub record AcceptedMove (c : Call) (m : List ℕ) (r : Outcome) (m' p' s' : List ℕ) : Type 0 where
  pub lengths : sized c m ≡ true
  -- "refused exactly if a load at the old bases, then one at the new, would be": both accept, with the same pieces (here their outlines;
  -- that the code of a file is the same too is `accepts_only` in Where.antt of acx)
  pub pieces : List Outline
  pub at_old : AcceptedAt c.source pieces c.old
  pub at_new : AcceptedAt c.source pieces c.new
  -- (memory is 65,536 bytes as before)
  pub memory : Memory m'
  -- "each byte of a relocatable piece goes, all at once, from old place to new"
  pub plain : PlainKept c.old c.new pieces m m'
  -- "Fields are adjusted from current contents: the old amount off, the new amount on, by the formulas above."
  pub fields : FieldsShifted c.old c.new pieces m m'
  -- Every byte that is in no new place of a relocatable piece and in no field of an absolute one stays: "vacated and all other bytes keep their
  -- contents", and of absolute pieces document 02, wish 2: "The mover then adjusts such fields in place and leaves the piece's other bytes."
  pub kept : (x : ℕ) → Each (λ p. Unaffected p.kind c.new x p) pieces → get_or m' x 0 ≡ get_or m x 0
  -- "The answer and map are those of a load at the new bases."
  pub as_load : AsLoad c.source.format c.source.bytes c.new r p'
  -- the map has the marks of the pieces at the new bases
  pub marks : Marked c.new pieces p'
  -- "all zero after it unless refused with 1"
  pub scratch : s' ≡ blank

-- When a call is accepted.
pub record Exactly (c : Call) (m : List ℕ) (r : Outcome) (m' p' s' : List ℕ) : Type 0 where
  -- only if the handler is at both bases, and then it leaves what the document says
  pub only : (start : Option ℕ) (placed adjusted names low : ℕ) → r ≡ acceptance start placed adjusted names low → AcceptedMove c m r m' p' s'
  -- if it is, and all that is lent has its length, it is, with the start and the counts at the new bases
  pub all : sized c m ≡ true → (ps qs : List Outline) → AcceptedAt c.source ps c.old → (at_new : AcceptedAt c.source qs c.new)
      → r ≡ acceptance (start_of c.new at_new.entry) (total (λ o. o.size) qs) (total (λ o. length o.fields) qs) 0 0

-- The claim: of every call that keeps the mover's contract, by a file or an index of bytes in a memory of bytes.
abbrev pub Claim : Type 0
Claim =
    (c : Call) (m : List ℕ) (r : Outcome) (m' p' s' : List ℕ) → Moved c m r m' p' s' → Bytes c.source.bytes → Bytes m → Exactly c m r m' p' s'

-- ---- refused

-- What a call leaves that was refused: "A refusal leaves program memory untouched, and the other buffers hold what document 01 names."
pub record RefusedMove (c : Call) (fault : Fault) (m m' p' s' : List ℕ) : Type 0 where
  pub memory : m' ≡ m
  -- "Refusal 1 changes nothing"
  pub wrong_buffer : fault ≡ WrongBuffer → (p' ≡ c.map) × (s' ≡ c.scratch)
  -- "Every other refusal leaves .. the map all zero"; the scratch "all zero after it unless refused with 1"
  pub other : ¬ (fault ≡ WrongBuffer) → (p' ≡ blank) × (s' ≡ blank)

-- A move with the right buffers is refused with a fault, an offset and a side: "if a load at the old bases, then one at the new, would be, with
-- that number, offset and side (0 old, 1 new)"
pub data RefusesMove (c : Call) : Fault → ℕ → ℕ → Type 0 where
  at_old : {fault : Fault} {offset : ℕ} → RefusedAt c.source c.old fault offset → RefusesMove c fault offset 0
  at_new : {fault : Fault} {offset : ℕ} {ps : List Outline} → AcceptedAt c.source ps c.old → RefusedAt c.source c.new fault offset
      → RefusesMove c fault offset 1

-- A setting is out of its range at a side: at the new bases it is seen where a load at the old ones is accepted.
pub data OutOfRange (c : Call) : ℕ → Type 0 where
  old : ranged c.source c.old ≡ false → OutOfRange c 0
  new : {ps : List Outline} → AcceptedAt c.source ps c.old → ranged c.source c.new ≡ false → OutOfRange c 1

-- When a call is refused, with which fault, offset and side, and what it then leaves.
pub record Refusals (c : Call) (m : List ℕ) (r : Outcome) (m' p' s' : List ℕ) : Type 0 where
  -- "A wrong scratch length is 1, side 0", and so is that of memory, map or C answer: 1 exactly if a length is wrong
  pub wrong_buffer : sized c m ≡ false → r ≡ refusal WrongBuffer 0 0
  pub wrong_buffer_only : (offset side : ℕ) → r ≡ refusal WrongBuffer offset side → sized c m ≡ false
  -- otherwise 2 exactly if a setting is out of its range
  pub out_of_range : sized c m ≡ true → (side : ℕ) → OutOfRange c side → r ≡ refusal SettingOutOfRange 0 side
  pub out_of_range_only : (offset side : ℕ) → r ≡ refusal SettingOutOfRange offset side → (sized c m ≡ true) × OutOfRange c side
  -- otherwise 3 exactly if the file, or the index, is too long, which is seen at the old bases
  pub too_long : sized c m ≡ true → ranged c.source c.old ≡ true → leb (length c.source.bytes) file_limit ≡ false → r ≡ refusal FileTooLong 0 0
  pub too_long_only : (offset side : ℕ) → r ≡ refusal FileTooLong offset side
      → (sized c m ≡ true) × (ranged c.source c.old ≡ true) × (leb (length c.source.bytes) file_limit ≡ false)
  -- "Beyond that it is refused exactly if .."
  pub only : sized c m ≡ true → (fault : Fault) (offset side : ℕ) → r ≡ refusal fault offset side → RefusesMove c fault offset side
  pub all : sized c m ≡ true → (fault : Fault) (offset side : ℕ) → RefusesMove c fault offset side → r ≡ refusal fault offset side
  -- its offset is that of a byte of the file, of 5 the file's length, of 1 to 4 zero; or that of an entry of the index
  pub located : (fault : Fault) (offset side : ℕ) → r ≡ refusal fault offset side
      → LocatedIn c.source.format (length c.source.bytes) fault offset
  pub leaves : (fault : Fault) (offset side : ℕ) → r ≡ refusal fault offset side → RefusedMove c fault m m' p' s'

-- The claim: of every call that keeps the mover's contract.
abbrev pub RefusalsClaim : Type 0
RefusalsClaim = (c : Call) (m : List ℕ) (r : Outcome) (m' p' s' : List ℕ) → Moved c m r m' p' s' → Refusals c m r m' p' s'
