-- Demand 2 for SDX files, sentence by sentence: what a load leaves where it accepts, and that it accepts exactly what follows the rules
-- (Rules.antt). Proved in proofs/Demand2.antt: `demand2` of the definition, of every file, all settings and every memory; `call_demand2 : Claim` of
-- every call that keeps the loader's contract.
-- Assumes nothing.
use Rattle.std.specs.Prelude.{Bool, true, false, ◌&&◌, List, [], ◌∷◌, ◌++◌, ◌≡◌, ℕ, ◌+◌, ◌*◌, ◌≤◌, ◌<◌, length, get_or, Option, Ok}
use Rattle.answer.specs.Report.{Outcome, acceptance}
use Rattle.blocks.specs.Blocks.{amount_of}
use Rattle.blocks.specs.declared.Block.{Block}
use Rattle.blocks.specs.declared.Block.TheVariants.{Plain, Relocatable, Update, NewName}
use Rattle.effects.specs.Effects.{Effect, name_in, address_in}
use Rattle.events.specs.Events.{Event, place, reserve, adjust, placed_mark, reserved_mark, adjusted_mark, placed_in, adjusted_in}
use Rattle.events.specs.Lists.{Each}
use Rattle.events.specs.Sizes.{memory_size, file_limit}
use Rattle.items.specs.Items.{slot_at, address_of}
use Rattle.passes.specs.Buffers.{Buffers, new_names_length, new_addresses_length, filled_up, start_in}
use Rattle.passes.specs.Walk.{Inputs, Progress}
use Rattle.words.specs.Numbers.{value, digits, on}
use Rattle.words.specs.Runs.{Bytes, Within, part}
use Rattle.sdx.specs.Call.{in_range, sized, Loaded}
use Rattle.sdx.specs.Rules.{Follows}

-- ---- events at an address

-- the event places the byte at x
abbrev pub Places : ℕ → Event → Type 0
Places x (place a bytes) = Within a (length bytes) x
Places x (reserve a n) = ⊥
Places x (adjust width a amount) = ⊥

-- it places it, or adjusts a field that it is in
abbrev pub Writes : ℕ → Event → Type 0
Writes x (place a bytes) = Within a (length bytes) x
Writes x (reserve a n) = ⊥
Writes x (adjust width a amount) = Within a width x

-- it is an event at x
abbrev pub Touches : ℕ → Event → Type 0
Touches x (place a bytes) = Within a (length bytes) x
Touches x (reserve a n) = Within a n x
Touches x (adjust width a amount) = Within a width x

-- "1 placed, 2 reserved, 3 adjusted"
abbrev pub mark_of : Event → ℕ
mark_of (place a bytes) = placed_mark
mark_of (reserve a n) = reserved_mark
mark_of (adjust width a amount) = adjusted_mark

-- one of the events is this one, with those before and after it
pub record Among (es : List Event) (before : List Event) (e : Event) (after : List Event) : Type 0 where
  pub order : es ≡ before ++ (e ∷ after)

-- "as its last block put it": the byte at x is this one since a block put it there, and no event has written it after that
pub record Put (es : List Event) (x byte : ℕ) : Type 0 where
  pub before : List Event
  pub address : ℕ
  pub bytes : List ℕ
  pub after : List Event
  pub by : Among es before (place address bytes) after
  pub index : ℕ
  pub inside : index < length bytes
  pub here : x ≡ address + index
  pub is : byte ≡ get_or bytes index 0
  pub since : Each (λ e. ¬ Writes x e) after

-- The word at an address was adjusted: it had been put there by blocks and not adjusted since, and is not adjusted again unless a block places
-- it anew.
pub record Adjusted (before after : List Event) (a amount : ℕ) (m' : List ℕ) : Type 0 where
  pub low : ℕ
  pub high : ℕ
  pub low_put : Put before a low
  pub high_put : Put before (a + 1) high
  -- each byte that no later block places holds its byte of the sum, and no field is adjusted there again
  pub bytes : (i : ℕ) → i < 2 → Each (λ e. ¬ Places (a + i) e) after
      → (get_or m' (a + i) 0 ≡ get_or (digits 2 (on 2 amount (low + 256 * high))) i 0) × Each (λ e. ¬ Writes (a + i) e) after
  -- so the word is the sum where no later block places either byte
  pub word : Each (λ e. ¬ Places a e) after → Each (λ e. ¬ Places (a + 1) e) after → value 2 m' a ≡ on 2 amount (low + 256 * high)

-- ---- what the blocks did

-- the event adjusts a word by the amount
pub record AdjustsBy (amount : ℕ) (e : Event) : Type 0 where
  pub address : ℕ
  pub is : e ≡ adjust 2 address amount

-- the events of a block are those of the rules; z is where the file ended, with the table and the names of all its blocks (of a body: each event
-- adjusts a word by the rules' amount; which words it lists, `Follows` says, by its items)
abbrev pub ByRule : List ℕ → Inputs → Progress → Block → List Event → Type 0
ByRule file g z (Plain address from size) es = es ≡ place address (part file from size) ∷ []
ByRule file g z (Relocatable true number offset from size) es = es ≡ reserve (address_of (slot_at z.cursor.table number)) size ∷ []
ByRule file g z (Relocatable false number offset from size) es =
    es ≡ place (address_of (slot_at z.cursor.table number)) (part file from size) ∷ []
ByRule file g z (Update source from) es = Each (AdjustsBy (amount_of z.cursor.table g.addresses z.addresses source)) es
ByRule file g z (NewName from address) es = es ≡ []

-- what all blocks did, in file order (the latest effect stands first)
unfoldable pub events_of : List Effect → List Event
events_of [] = []
events_of (d ∷ ds) = events_of ds ++ d.events

-- the names that they brought
unfoldable pub names_of : List ℕ → List Effect → List ℕ
names_of file [] = []
names_of file (d ∷ ds) = names_of file ds ++ name_in file (Ok d.block)

-- and the addresses of these
unfoldable pub addresses_of : List Effect → List ℕ
addresses_of [] = []
addresses_of (d ∷ ds) = addresses_of ds ++ address_in (Ok d.block)

-- What a load leaves that accepted a file, after the events es: it found memory m, left m' and the map p', and reported the two counts.
pub record Demand2 (file : List ℕ) (g : Inputs) (z : Progress) (es : List Event) (m m' p' : List ℕ) (placed adjusted : ℕ) : Type 0 where
  -- the events are those of its blocks, one after the other, and those are the rules'
  pub follows : Follows file g z es
  pub effects : es ≡ events_of z.effects
  pub by_rule : Each (λ d. ByRule file g z d.block d.events) z.effects
  -- "New names and addresses stand in file order"
  pub names : z.names ≡ names_of file z.effects
  pub addresses : z.addresses ≡ addresses_of z.effects
  -- "each loaded byte as its last block put it"
  pub loaded : (x byte : ℕ) → Put es x byte → get_or m' x 0 ≡ byte
  -- "fields listed after that adjusted as the rules say"
  pub fields : (before after : List Event) (a amount : ℕ) → Among es before (adjust 2 a amount) after → Adjusted before after a amount m'
  -- "and every other byte as before" (a field lies in bytes that were placed)
  pub others : (x : ℕ) → Each (λ e. ¬ Places x e) es → get_or m' x 0 ≡ get_or m x 0
  -- (memory and the map have as many bytes after it as before)
  pub lengths : (length m' ≡ length m) × (length p' ≡ memory_size)
  -- "0 untouched, ..": "The last event at an address decides."
  pub untouched_marks : (x : ℕ) → Each (λ e. ¬ Touches x e) es → get_or p' x 0 ≡ 0
  pub last_marks : (before after : List Event) (e : Event) (x : ℕ) → Among es before e after → Touches x e → Each (λ f. ¬ Touches x f) after
      → get_or p' x 0 ≡ mark_of e
  -- "the counts reported are those of these events"
  pub placed_count : placed ≡ placed_in es
  pub adjusted_count : adjusted ≡ adjusted_in es
  -- "neither exceeds the file's length"
  pub placed_fits : placed ≤ length file
  pub adjusted_fits : adjusted ≤ length file

-- "settings and buffers as document 01 asks" (`others` says whether all else that is lent has its length: of a call from C the answer, and the
-- address lists as pairs; of other calls there is nothing else)
pub record Asked (file : List ℕ) (g : Inputs) (others : Bool) (b : Buffers) : Type 0 where
  pub lengths : others ≡ true
  pub buffers : sized g b ≡ true
  pub settings : in_range g ≡ true
  pub fits : length file ≤ file_limit

-- A call that was accepted: it was as asked, the file follows the rules to its end, and this is what it left and reported.
pub record AcceptedCall (file : List ℕ) (g : Inputs) (others : Bool) (b b' : Buffers) (start : Option ℕ) (placed adjusted named low : ℕ) : Type 0 where
  pub asked : Asked file g others b
  pub end : Progress
  pub events : List Event
  pub leaves : Demand2 file g end events b.memory b'.memory b'.map placed adjusted
  -- "the start (present or not, address)": by the map and the memory that were left
  pub start_is : start ≡ start_in b'.map b'.memory
  -- "and for SDX the number of new names and low afterwards"; "The unfilled rest of any room lent for output is zero"
  pub new_names : b'.names ≡ filled_up new_names_length end.names
  pub new_addresses : b'.addresses ≡ filled_up new_addresses_length end.addresses
  pub named_count : named ≡ length end.addresses
  pub low_after : low ≡ end.cursor.low

-- "With settings and buffers as document 01 asks, a file is accepted exactly if it follows the SpartaDOS X .. rules of document 01 and fits": of a
-- call that found the buffers b, answered r and left b'
pub record Exactly (file : List ℕ) (g : Inputs) (others : Bool) (b : Buffers) (r : Outcome) (b' : Buffers) : Type 0 where
  -- only if: an acceptance is of a call as asked and of a file that follows the rules, and leaves what demand 2 says
  pub only : (start : Option ℕ) (placed adjusted named low : ℕ) → r ≡ acceptance start placed adjusted named low
      → AcceptedCall file g others b b' start placed adjusted named low
  -- if: a call as asked accepts every file that follows the rules, with the start that map and memory show, the counts of its events, the number
  -- of its new names and low
  pub all : Asked file g others b → (z : Progress) (es : List Event) → Follows file g z es
      → r ≡ acceptance (start_in b'.map b'.memory) (placed_in es) (adjusted_in es) (length z.addresses) z.cursor.low

-- The claim: of every file, whatever the inputs and the buffers, and of every call that keeps the loader's contract.
abbrev pub Claim : Type 0
Claim =
    (file : List ℕ) → Bytes file → (g : Inputs) (others : Bool) (b b' : Buffers) (r : Outcome) → Loaded file g (others && sized g b) b r b'
    → Exactly file g others b r b'
