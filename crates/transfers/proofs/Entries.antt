-- The walk that gathers the pieces of an index: at each entry the scratch holds the pieces so far, moved.
-- Assumes nothing.
use mathlib.Core.List.{List, [], ◌∷◌}
use mathlib.Core.Path.{◌≡◌, refl, sym, ap, ◌∙◌, subst}
use Prim.Native.Nat.{ℕ, ◌+◌, ◌-◌, ◌≤◌, ◌<◌}
use native.Mathlib.Omega.{arith}
use borrow.Rule.Slice.PartMut.{mid_of, put_mid}
use lib.ListN.{length}
use Rattle.std.proofs.Common.{Ok, Err}
use Rattle.acx.proofs.WellPlaced.{fits_memory}
use Rattle.answer.specs.declared.Fault.{Fault}
use Rattle.entries.proofs.Reading.{lies_as}
use Rattle.entries.specs.Entries.{Read, fields_to, read}
use Rattle.entries.specs.declared.IndexEntry.TheVariants.{Code, End}
use Rattle.events.proofs.Lists.{each_zip3}
use Rattle.events.specs.Lists.{Each}
use Rattle.index.proofs.Holding.{Readable, Leads, at_first, and_then, Holds}
use Rattle.index.proofs.Where.{accepted_holds}
use Rattle.index.specs.Walk.{Progress, begun, entry_at, stepped, outline_of}
use Rattle.moves.proofs.Rulings.{allows_is, both}
use Rattle.moves.proofs.Sources.{found}
use Rattle.moves.specs.Call.{ruling_of, Allows, pieces_of}
use Rattle.moves.specs.Move.{shift, transfer}
use Rattle.moves.specs.Sources.{the_index}
use Rattle.pieces.specs.Pieces.{Outline, place_at, edited}
use Rattle.pieces.specs.Places.{Inside}
use Rattle.pieces.specs.declared.Bases.{Bases}
use Rattle.records.specs.declared.Entry.{Entry}
use Rattle.records.specs.declared.Kind.{Kind}
use Rattle.words.proofs.Lent.{lent_is}
use Rattle.words.proofs.Runs.{length_part, length_put}
use Rattle.words.specs.Runs.{part, put}
use Rattle.transfers.proofs.Gathering.{code_taken, fields_taken, shifted}
use Rattle.transfers.specs.Scratch.{Movable}

-- ---- the index

-- an index that may move holds the pieces that do, and these lie in memory
pub record Walkable (index : List ℕ) (old new : Bases) : Type 0 where
  pub fits : length index ≤ 65536
  pub entry : Entry
  pub holds : Holds index (pieces_of (ruling_of (the_index index) old new)) entry
  pub movable : Each (Movable old new) (pieces_of (ruling_of (the_index index) old new))

pub walkable : (index : List ℕ) (old new : Bases) → Allows (ruling_of (the_index index) old new) → Walkable index old new
walkable index old new a =
    let v = ruling_of (the_index index) old new in
    let ps = pieces_of v in
    let x = both (the_index index) old new ps (allows_is v a) in
    let at_old = found (the_index index) ps old x.0 in
    let at_new = found (the_index index) ps new x.1 in
    record {
      fits = at_old.fits;
      entry = x.0.entry;
      holds = (accepted_holds index old ps x.0.entry at_old.judged).0;
      movable =
          each_zip3 (λ o i j k. record { at_old = i; at_new = j; inside = k }) ps
          (fits_memory old 65536 ps refl at_old.placed.fit) (fits_memory new 65536 ps refl at_new.placed.fit) at_new.placed.sound.inside;
    }

-- ---- its entries

module _ (index : List ℕ) (last : Progress) where
  -- the entries from a progress on lead to the last one
  pub data Onto : Progress → Type 0 where
    arrived : Onto last
    goes_on : {s : Progress} → Readable index (entry_at index s) → Onto (stepped index s (entry_at index s)) → Onto s

  -- as they do from the first on
  onto_first : (s : Progress) → Leads index s → Onto s → Onto begun
  onto_first s at_first x = x
  onto_first z (and_then {s = s} l r) x = onto_first s l (goes_on r x)

  -- the outlines so far are among the last ones
  so_far : (P : Outline → Type 0) (s : Progress) → Onto s → Each P last.outlines → Each P s.outlines
  so_far P s arrived h = h
  so_far P s (goes_on r x) h = before (entry_at index s) (so_far P (stepped index s (entry_at index s)) x h)
    where
      before : (e : Read) → Each P (stepped index s e).outlines → Each P s.outlines
      before (Ok (Code kind address n from count)) k = k.1
      before (Ok (End entry next)) k = k
      before (Err fault) k = k

  -- an entry that is read: code leads on, and the end entry is the last
  abbrev There : Progress → Read → Type 0
  There s (Ok (Code kind address n from count)) = Onto (stepped index s (Ok (Code kind address n from count)))
  There s (Ok (End entry next)) = s ≡ last
  There s (Err fault) = ⊥

  there : (s : Progress) {entry : Entry} {next : ℕ} → entry_at index last ≡ Ok (End entry next) → Onto s → There s (entry_at index s)
  there s e arrived = subst (There s) (sym e) refl
  there s e (goes_on r x) = by (entry_at index s) r x
    where
      by : (e : Read) → Readable index e → Onto (stepped index s e) → There s e
      by (Ok (Code kind address n from count)) r x = x
      by (Ok (End entry next)) r x = absurd r
      by (Err fault) r x = absurd r

-- ---- one entry

module _ (old new : Bases) (kind : Kind) (address n place begin : ℕ) (items m t t₁ : List ℕ) (lm : length m ≡ 65536) (lt : length t ≡ 65536)
    (h : Movable old new (outline_of kind address n items)) (at_old : place ≡ place_at old kind address) (at_new : begin ≡ place_at new kind address)
    (e : t₁ ≡ put t begin (part m place n)) where
  room : begin + n ≤ length t₁
  room = omega (arith, h.at_new, at_new, ap length e ∙ length_put t begin (part m place n) ∙ lt)

  -- after its code its fields may be shifted, in a part of the scratch that is lent
  pub entry_lent : Each (Inside (length (mid_of begin (begin + n - begin) t₁))) (fields_to kind items)
  entry_lent =
      let l : length (mid_of begin (begin + n - begin) t₁) ≡ n = ap length (lent_is begin n t₁) ∙ length_part t₁ begin n room in
      rw l h.inside

  -- and with them it is a piece moved
  pub entry_moved : {bs : List ℕ} → bs ≡ edited (shift old new) (fields_to kind items) (mid_of begin (begin + n - begin) t₁)
      → put_mid begin (begin + n - begin) t₁ bs ≡ transfer old new (outline_of kind address n items ∷ []) m t
  unfolding transfer
  entry_moved {bs} d =
      let o : Outline = record { kind = kind; address = address; size = n; fields = [] } in
      let fs = fields_to kind items in
      let i : place_at old kind address + n ≤ length m = omega (arith, h.at_old, lm) in
      let j : place_at new kind address + n ≤ length t₁ = omega (arith, room, at_new) in
      let code : t₁ ≡ put t (place_at new kind address) (part m (place_at old kind address) n) =
      e ∙ ap (λ (a : ℕ). put t a (part m place n)) at_new ∙ ap (λ (a : ℕ). put t (place_at new kind address) (part m a n)) at_old in
      shifted old new fs begin n t₁ bs room d
      ∙ ap (λ (a : ℕ). put t₁ a (edited (shift old new) fs (part t₁ a n))) at_new
      ∙ fields_taken old new m t t₁ [] fs o i j (code ∙ code_taken old new m t t [] kind address n refl)

-- ---- a turn of the loop

-- the walk began with the scratch t₀, and stands at an offset with t
pub record Gathering (index : List ℕ) (old new : Bases) (m t₀ : List ℕ) (at : ℕ) (t : List ℕ) : Type 0 where
  pub whole : Walkable index old new
  pub progress : Progress
  pub here : at ≡ progress.at
  pub in_index : at ≤ length index
  pub onto : Onto index whole.holds.last progress
  pub gathered : t ≡ transfer old new progress.outlines m t₀

-- A code entry there: it lies in the index, behind the offset, and its outline may be gathered.
pub record CodeThere (index : List ℕ) (old new : Bases) (at : ℕ) (kind : Kind) (address n from count : ℕ) : Type 0 where
  pub behind : at < from
  pub within : from + count ≤ length index
  pub movable : Movable old new (outline_of kind address n (part index from count))

module _ {index : List ℕ} {old new : Bases} {m t₀ : List ℕ} where
  -- before the first entry nothing is gathered
  pub gathering_first : Allows (ruling_of (the_index index) old new) → Gathering index old new m t₀ 1 t₀
  unfolding transfer
  gathering_first a =
      let w = walkable index old new a in
      record {
        whole = w;
        progress = begun;
        here = refl;
        in_index = w.holds.there;
        onto = onto_first index w.holds.last w.holds.last w.holds.entries arrived;
        gathered = refl;
      }

  module _ {at : ℕ} {t : List ℕ} (x : Gathering index old new m t₀ at t) {found : Read} (is : found ≡ read index at) where
    abbrev last : Progress
    last = x.whole.holds.last

    found_is : entry_at index x.progress ≡ found
    found_is = ap (read index) (sym x.here) ∙ sym is

    found_there : There index last x.progress found
    found_there = subst (There index last x.progress) found_is (there index last x.progress x.whole.holds.end x.onto)

    -- at the end entry all pieces are gathered
    pub gathering_end : {entry : Entry} {next : ℕ} → found ≡ Ok (End entry next) → t ≡ transfer old new (pieces_of (ruling_of (the_index index) old new)) m t₀
    gathering_end e =
        x.gathered
        ∙ ap (λ (s : Progress). transfer old new s.outlines m t₀) (subst (There index last x.progress) e found_there)
        ∙ ap (λ (os : List Outline). transfer old new os m t₀) (sym x.whole.holds.outlines)

    -- no entry is at fault
    pub gathering_fault : {fault : Fault} → found ≡ Err fault → t ≡ transfer old new (pieces_of (ruling_of (the_index index) old new)) m t₀
    gathering_fault e = absurd (subst (There index last x.progress) e found_there)

    module _ {kind : Kind} {address n from count : ℕ} (e : found ≡ Ok (Code kind address n from count)) where
      onward : Onto index last (stepped index x.progress (Ok (Code kind address n from count)))
      onward = subst (There index last x.progress) e found_there

      -- a code entry may be gathered
      pub gathering_code : CodeThere index old new at kind address n from count
      gathering_code =
          let w = lies_as index x.progress.at _ (found_is ∙ e) in
          record {
            behind = omega (arith, w.0, x.here);
            within = w.1;
            movable =
                (so_far index last (Movable old new) (stepped index x.progress (Ok (Code kind address n from count))) onward
                (subst (Each (Movable old new)) x.whole.holds.outlines x.whole.movable)
                ).0;
          }

      -- and leads on with the scratch that holds it
      pub gathering_on : {items t' : List ℕ} → items ≡ part index from count → t' ≡ transfer old new (outline_of kind address n items ∷ []) m t
          → Gathering index old new m t₀ (from + count) t'
      unfolding transfer
      gathering_on i d =
          record {
            whole = x.whole;
            progress = stepped index x.progress (Ok (Code kind address n from count));
            here = refl;
            in_index = gathering_code.within;
            onto = onward;
            gathered =
                d
                ∙ ap (λ (items : List ℕ). transfer old new (outline_of kind address n items ∷ []) m t) i
                ∙ ap (transfer old new (outline_of kind address n (part index from count) ∷ []) m) x.gathered;
          }
