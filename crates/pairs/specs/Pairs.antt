-- An SDX load whose address lists are byte pairs (document 01, "What the bench lends", "C calls"): here the address lists among
-- the inputs and the buffers are bytes.
-- Assumes nothing.
use Rattle.std.specs.Prelude.{Bool, ◌&&◌, List, ◌≡◌, ℕ, ◌/◌, ◌%◌, eqb, length, Ok, Err}
use Rattle.answer.specs.Report.{Outcome}
use Rattle.passes.specs.Buffers.{Buffers, buffers}
use Rattle.passes.specs.Walk.{Inputs, inputs}
use Rattle.sdx.specs.Call.{sized, Loaded}
use Rattle.words.specs.Numbers.{decoded, encoded}

-- "the two address lists as byte pairs, low byte first (an odd length is 1)"
abbrev pub paired : List ℕ → Bool
paired bytes = eqb (length bytes % 2) 0

-- the addresses in such a list
abbrev pub addresses_in : List ℕ → List ℕ
addresses_in bytes = decoded 2 (length bytes / 2) bytes

-- the inputs, with the known addresses as words
abbrev pub as_words : Inputs → Inputs
as_words g = inputs g.names (addresses_in g.addresses) g.low g.high

-- buffers with other addresses
abbrev pub with_addresses : Buffers → List ℕ → Buffers
with_addresses b addresses = buffers b.memory b.map b.names addresses

-- the buffers, with the new addresses as words
abbrev pub in_words : Buffers → Buffers
in_words b = with_addresses b (addresses_in b.addresses)

-- "(an odd length is 1)": both address lists are pairs
abbrev pub both_paired : Inputs → Buffers → Bool
both_paired g b = paired g.addresses && paired b.addresses

-- the buffer for new addresses after a load over words that left these: pairs on an acceptance, and "as they were" on a refusal
abbrev pub pairs_after : Outcome → List ℕ → List ℕ → List ℕ
pairs_after (Ok a) new bytes = encoded 2 new
pairs_after (Err r) new bytes = bytes

-- What a load over pairs does: it found the buffers b, comes to the outcome o, and leaves b', as the loader does over the words in them. `others`
-- says whether all else that is lent has its length (the answer, in a call from C).
pub record Loads (file : List ℕ) (g : Inputs) (others : Bool) (b : Buffers) (o : Outcome) (b' : Buffers) : Type 0 where
  pub loaded : Loaded file (as_words g) ((others && both_paired g b) && sized (as_words g) (in_words b)) (in_words b) o (in_words b')
  pub addresses : b'.addresses ≡ pairs_after o (addresses_in b'.addresses) b.addresses
