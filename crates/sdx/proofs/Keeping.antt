-- What every accepted file keeps to, block after block: its events are lawful and the rules', its names and addresses stand in file order, and
-- its counts stay behind its offset.
-- Assumes nothing.
use mathlib.Core.Bool.{true, false, false≢true}
use mathlib.Core.List.{List, [], ◌∷◌, ◌++◌}
use mathlib.Core.Path.{◌≡◌, refl, sym, ap, ◌∙◌, subst}
use Prim.Native.Nat.{ℕ, ◌/◌, ◌≤◌, ◌<◌}
use native.Mathlib.Omega.{arith}
use lib.ListN.{length, get_or, set, length-append, get_or-append}
use lib.Seq.{get_or-set_same, get_or-set_other}
use Rattle.std.proofs.Common.{Option, Some, None, is_some, is_none, Ok}
use Rattle.std.proofs.lemmas.Result.{IfOk-at_ok}
use Rattle.blocks.specs.Blocks.{amount_of}
use Rattle.blocks.specs.Bounds.{Fits}
use Rattle.blocks.specs.declared.Block.{Block}
use Rattle.blocks.specs.declared.Block.TheVariants.{Plain, Relocatable, Update, NewName}
use Rattle.blocks.specs.declared.Cursor.{Cursor}
use Rattle.blocks.specs.declared.Source.{Source}
use Rattle.blocks.specs.declared.Source.TheVariants.{Number, LentName, OwnName}
use Rattle.effects.proofs.Ending.{applied_ends, advanced_at, Behind, behind_first, behind_on}
use Rattle.effects.proofs.NewNames.{Counted, counted_first, counted_on, Tabled, tabled_first, tabled_on}
use Rattle.effects.specs.Effects.{Effect, applied, advanced, name_in, address_in}
use Rattle.events.proofs.Events.{length_marks, length_blank}
use Rattle.events.proofs.Lists.{each_map}
use Rattle.events.specs.Events.{Event, place, reserve, marks, blank, Ran}
use Rattle.events.specs.Lists.{Each}
use Rattle.events.specs.Walk.{leads}
use Rattle.items.specs.Items.{slot_at, address_of}
use Rattle.items.specs.declared.Slot.{Slot}
use Rattle.passes.proofs.Turning.{turn_led, block_fits}
use Rattle.passes.specs.Walk.{stepped, Inputs, Progress, finished, applied_at, turn, begun}
use Rattle.updates.proofs.Bounds.{body_each}
use Rattle.updates.proofs.Turning.{Adjusts}
use Rattle.updates.specs.Bodies.{Stop, done}
use Rattle.words.proofs.Runs.{length_part}
use Rattle.words.specs.Runs.{Bytes, part}
use Rattle.sdx.proofs.Calling.{judged, judged_holds}
use Rattle.sdx.proofs.Lawful.{Lawful, lawful_append}
use Rattle.sdx.proofs.Passing.{Granted, read_granted, body_lawful}
use Rattle.sdx.specs.Demand2.{AdjustsBy, ByRule, events_of, names_of, addresses_of}

-- ---- progress that only grows

-- a slot once taken never changes, and addresses come behind those before them
record Grown (y z : Progress) : Type 0 where
  slots : (n : ℕ) → is_some (slot_at y.cursor.table n) ≡ true → slot_at z.cursor.table n ≡ slot_at y.cursor.table n
  longer : length y.addresses ≤ length z.addresses
  addresses : (i : ℕ) → i < length y.addresses → get_or z.addresses i 0 ≡ get_or y.addresses i 0

-- what the rule of a block asks of the table and of the names is there
abbrev Known : Progress → Block → Type 0
Known z (Plain address from size) = Unit {0}
Known z (Relocatable reserves number offset from size) = is_some (slot_at z.cursor.table number) ≡ true
Known z (Update (Number number) from) = is_some (slot_at z.cursor.table number) ≡ true
Known z (Update (LentName i) from) = Unit {0}
Known z (Update (OwnName i) from) = i < length z.addresses
Known z (NewName from address) = Unit {0}

module _ (y z : Progress) (grown : Grown y z) where
  -- a slot that is taken stays taken, and keeps its address
  slot_taken : (n : ℕ) → is_some (slot_at y.cursor.table n) ≡ true → is_some (slot_at z.cursor.table n) ≡ true
  slot_taken n h = ap (λ (s : Option Slot). is_some s) (grown.slots n h) ∙ h

  slot_address : (n : ℕ) → is_some (slot_at y.cursor.table n) ≡ true → address_of (slot_at y.cursor.table n) ≡ address_of (slot_at z.cursor.table n)
  slot_address n h = ap address_of (sym (grown.slots n h))

  -- what is known stays so
  known_grown : (b : Block) → Known y b → Known z b
  known_grown (Plain address from size) h = tt
  known_grown (Relocatable reserves number offset from size) h = slot_taken number h
  known_grown (Update (Number number) from) h = slot_taken number h
  known_grown (Update (LentName i) from) h = tt
  known_grown (Update (OwnName i) from) h = omega (arith, h, grown.longer)
  known_grown (NewName from address) h = tt

  -- so a source's amount stays
  amount_grown : (lent : List ℕ) (source : Source) (from : ℕ) → Known y (Update source from)
      → amount_of y.cursor.table lent y.addresses source ≡ amount_of z.cursor.table lent z.addresses source
  amount_grown lent (Number number) from h = rw (grown.slots number h) refl
  amount_grown lent (LentName i) from h = refl
  amount_grown lent (OwnName i) from h = sym (grown.addresses i h)

  -- and a block's events are the rule's still
  rule_grown : (file : List ℕ) (g : Inputs) (b : Block) (es : List Event) → Known y b → ByRule file g y b es → ByRule file g z b es
  rule_grown file g (Plain address from size) es k h = h
  rule_grown file g (Relocatable true number offset from size) es k h = h ∙ ap (λ (a : ℕ). reserve a size ∷ []) (slot_address number k)
  rule_grown file g (Relocatable false number offset from size) es k h =
      h ∙ ap (λ (a : ℕ). place a (part file from size) ∷ []) (slot_address number k)
  rule_grown file g (Update source from) es k h = rw (← amount_grown g.addresses source from k) h
  rule_grown file g (NewName from address) es k h = h

-- ---- one block more

-- the slot of a relocatable block
abbrev slot_for : Cursor → ℕ → ℕ → Slot
slot_for c offset size = record { address = c.low; offset = offset; size = size }

-- a slot that is set while it is not taken leaves those that are
not_both : (o : Option Slot) → is_none o ≡ true → is_some o ≡ true → ⊥
not_both None f h = false≢true h
not_both (Some s) f h = false≢true f

set_slots : (table : List (Option Slot)) (number : ℕ) (s : Slot) → is_none (slot_at table number) ≡ true → (n : ℕ) → is_some (slot_at table n) ≡ true
    → slot_at (set table number (Some s)) n ≡ slot_at table n
set_slots table number s f n h =
    get_or-set_other table number n (Some s) None (λ e. not_both (slot_at table n) (ap (λ (k : ℕ). is_none (slot_at table k)) e ∙ f) h)

-- so does every block
advanced_slots : (c : Cursor) (b : Block) (next : ℕ) → Granted c b → (n : ℕ) → is_some (slot_at c.table n) ≡ true
    → slot_at (advanced c (Ok b) next).table n ≡ slot_at c.table n
advanced_slots c (Plain address from size) next p n h = refl
advanced_slots c (Relocatable reserves number offset from size) next p n h = set_slots c.table number (slot_for c offset size) p.passes n h
advanced_slots c (Update source from) next p n h = refl
advanced_slots c (NewName from address) next p n h = refl

-- progress grows with every block
stepped_grown : (file : List ℕ) (y : Progress) (b : Block) (es : List Event) (next : ℕ) → Granted y.cursor b → Grown y (stepped file y b es next)
stepped_grown file y b es next p =
    record {
      slots = advanced_slots y.cursor b next p;
      longer = omega (arith, length-append y.addresses (address_in (Ok b)));
      addresses = λ i h. get_or-append y.addresses (address_in (Ok b)) 0 i h;
    }

-- the source of a body is known before it
source_known : (y : Progress) (source : Source) (from len : ℕ) (c : Cursor) (lent : ℕ)
    → Fits len c lent (length y.names / 8) (Update source from)
    → Granted y.cursor (Update source from)
    → Counted y.cursor y.names y.addresses
    → Known y (Update source from)
source_known y (Number number) from len c lent f p h = p.passes
source_known y (LentName i) from len c lent f p h = tt
source_known y (OwnName i) from len c lent f p h = omega (arith, f.lies.2, h.bytes, h.each)

-- (the bound of a word is not asked)
adjusts_by : (amount : ℕ) (e : Event) → Adjusts amount e → AdjustsBy amount e
adjusts_by amount e h = record { address = h.address; is = h.same }

-- a block that fits and has passed, at some progress of which the lengths are right
module _ (file : List ℕ) (g : Inputs) (y : Progress) (lent : ℕ) (tabled : Tabled y.cursor)
    (counted : Counted y.cursor y.names y.addresses) where
  -- what it did
  abbrev did : Block → List ℕ → Ran Stop
  did b map = applied file g.addresses y.addresses y.cursor (Ok b) map

  module _ (map : List ℕ) (next : ℕ) where
    -- the progress after it
    abbrev then : Block → Progress
    then b = stepped file y b (did b map).events next

    -- its slot, where it is a relocatable one
    own_slot : (number offset size : ℕ) → number < 8
        → slot_at (set y.cursor.table number (Some (slot_for y.cursor offset size))) number ≡ Some (slot_for y.cursor offset size)
    own_slot number offset size h =
        get_or-set_same y.cursor.table number (Some (slot_for y.cursor offset size)) None (omega (arith, tabled.slots, h))

    -- what its rule asks is known after it
    stepped_known : (b : Block) → Fits (length file) y.cursor lent (length y.names / 8) b → Granted y.cursor b
        → Known (then b) b
    stepped_known (Plain address from size) f p = tt
    stepped_known (Relocatable reserves number offset from size) f p = ap (λ (s : Option Slot). is_some s) (own_slot number offset size f.lies.3)
    stepped_known (Update source from) f p =
        known_grown y (then (Update source from)) (stepped_grown file y (Update source from) _ next p) (Update source from)
        (source_known y source from _ _ lent f p counted)
    stepped_known (NewName from address) f p = tt

    -- its events are the rule's
    stepped_rule : (b : Block) → Fits (length file) y.cursor lent (length y.names / 8) b → Granted y.cursor b
        → (did b map).answer ≡ done next → ByRule file g (then b) b (did b map).events
    stepped_rule (Plain address from size) f p e = refl
    stepped_rule (Relocatable true number offset from size) f p e =
        ap (λ (s : Option Slot). reserve (address_of s) size ∷ []) (sym (own_slot number offset size f.lies.3))
    stepped_rule (Relocatable false number offset from size) f p e =
        ap (λ (s : Option Slot). place (address_of s) (part file from size) ∷ []) (sym (own_slot number offset size f.lies.3))
    stepped_rule (Update source from) f p e =
        let amount = amount_of y.cursor.table g.addresses y.addresses source in
        let es = (did (Update source from) map).events in
        rule_grown y (then (Update source from)) (stepped_grown file y (Update source from) es next p) file g (Update source from) es
        (source_known y source from _ _ lent f p counted) (each_map (adjusts_by amount) es (body_each file y.cursor.table amount from map))
    stepped_rule (NewName from address) f p e = refl

-- the events of a block are lawful
applied_lawful : (file lent own : List ℕ) (c : Cursor) (b : Block) (map : List ℕ) (n k : ℕ) → length map ≡ 65536
    → Fits (length file) c n k b
    → Granted c b
    → Lawful map (applied file lent own c (Ok b) map).events
applied_lawful file lent own c (Plain address from size) map n k l f p = (omega (arith, length_part file from size f.lies.1, p.passes), tt)
applied_lawful file lent own c (Relocatable true number offset from size) map n k l f p = (omega (arith, f.lies.2), tt)
applied_lawful file lent own c (Relocatable false number offset from size) map n k l f p =
    (omega (arith, length_part file from size f.lies.1, f.lies.2), tt)
applied_lawful file lent own c (Update source from) map n k l f p = body_lawful file c.table (amount_of c.table lent own source) from map l
applied_lawful file lent own c (NewName from address) map n k l f p = tt

-- ---- what every block keeps

-- an effect by the rules, and what its rule asks is known
pub record Ruled (file : List ℕ) (g : Inputs) (z : Progress) (d : Effect) : Type 0 where
  known : Known z d.block
  pub by_rule : ByRule file g z d.block d.events

-- an effect by the rules stays one
ruled_grown : (file : List ℕ) (g : Inputs) (y z : Progress) → Grown y z → (d : Effect) → Ruled file g y d → Ruled file g z d
ruled_grown file g y z grown d h =
    record {
      known = known_grown y z grown d.block h.known;
      by_rule = rule_grown y z grown file g d.block d.events h.known h.by_rule;
    }

-- some progress, after the events es
pub record Keeps (file : List ℕ) (g : Inputs) (z : Progress) (es : List Event) : Type 0 where
  pub lawful : Lawful blank es
  pub effects : es ≡ events_of z.effects
  pub ruled : Each (Ruled file g z) z.effects
  pub names : z.names ≡ names_of file z.effects
  pub addresses : z.addresses ≡ addresses_of z.effects
  pub counted : Counted z.cursor z.names z.addresses
  pub tabled : Tabled z.cursor
  pub passed : Behind (length file) z.cursor es

-- before the first block
keeps_first : (file : List ℕ) (g : Inputs) → Keeps file g (begun g) []
unfolding events_of names_of addresses_of
keeps_first file g =
    record {
      lawful = tt;
      effects = refl;
      ruled = tt;
      names = refl;
      addresses = refl;
      counted = counted_first g.low;
      tabled = tabled_first g.low;
      passed = behind_first (length file) g.low;
    }

-- a block that is carried out keeps it
stepped_keeps : (file : List ℕ) (g : Inputs) (y : Progress) (b : Block) (es : List Event) (next : ℕ)
    → Fits (length file) y.cursor (length g.names / 8) (length y.names / 8) b
    → Granted y.cursor b
    → (applied file g.addresses y.addresses y.cursor (Ok b) (marks es blank)).answer ≡ done next
    → Keeps file g y es
    → Keeps file g (stepped file y b (applied file g.addresses y.addresses y.cursor (Ok b) (marks es blank)).events next)
    (es ++ (applied file g.addresses y.addresses y.cursor (Ok b) (marks es blank)).events)
unfolding events_of names_of addresses_of
stepped_keeps file g y b es next f p e h =
    let map = marks es blank in
    let n : length map ≡ 65536 = length_marks es blank ∙ length_blank in
    let fs = (applied file g.addresses y.addresses y.cursor (Ok b) map).events in
    let z = stepped file y b fs next in
    let x = applied_ends file g.addresses y.addresses y.cursor (Ok b) map _ _ f next e in
    let at = advanced_at file g.addresses y.addresses y.cursor (Ok b) map next e in
    record {
      lawful = lawful_append blank es fs h.lawful (applied_lawful file g.addresses y.addresses y.cursor b map _ _ n f p);
      effects = ap (λ (gs : List Event). gs ++ fs) h.effects;
      ruled = (
        record {
          known = stepped_known file g y _ h.tabled h.counted map next b f p;
          by_rule = stepped_rule file g y _ h.tabled h.counted map next b f p e;
        },
        each_map (ruled_grown file g y z (stepped_grown file y b fs next p)) y.effects h.ruled,
      );
      names = ap (λ (l : List ℕ). l ++ name_in file (Ok b)) h.names;
      addresses = ap (λ (l : List ℕ). l ++ address_in (Ok b)) h.addresses;
      counted = counted_on file y.cursor (Ok b) next _ _ y.names y.addresses f h.counted;
      tabled = tabled_on y.cursor (Ok b) next _ _ _ f h.tabled;
      passed = behind_on (length file) y.cursor z.cursor es fs (rw at x) h.passed;
    }

-- ---- of every accepted file

module _ (file : List ℕ) (g : Inputs) (top : g.high ≤ 65535) (bytes : Bytes file) where
  -- every turn that leads on keeps it
  keeps_on : (y z : Progress) (es : List Event) → Keeps file g y es → (turn file g y (marks es blank)).answer ≡ leads z
      → Keeps file g z (es ++ (turn file g y (marks es blank)).events)
  unfolding applied_at
  keeps_on y z es h e =
      let l = turn_led file g y (marks es blank) z e in
      let p = IfOk-at_ok (Granted y.cursor) l.read_as (read_granted file g.high g.names y.names y.cursor bytes) in
      let kept = stepped_keeps file g y l.found es l.next (block_fits file g top y l.read_as) p l.done_at h in
      rw l.events (subst (λ (w : Progress). Keeps file g w (es ++ (applied_at file g y (Ok l.found) (marks es blank)).events)) l.leads_to kept)

  -- so it holds of every file that is accepted
  pub judged_keeps : (z : Progress) → (judged file g).answer ≡ finished z → Keeps file g z (judged file g).events
  judged_keeps = judged_holds file g top (Keeps file g) (keeps_first file g) keeps_on
