-- The loop of a walk: the definition's walk has come to the cursor, with the buffers as what it did so far left them.
-- Assumes nothing.
use mathlib.Core.Bool.{Bool}
use mathlib.Core.List.{List, [], ◌∷◌, ◌++◌, append-nil}
use mathlib.Core.Path.{◌≡◌, refl, sym, ap, ◌∙◌, subst}
use Prim.Native.Nat.{ℕ, ◌+◌, ◌-◌, ◌*◌, ◌/◌, ◌≤◌, ◌<◌}
use native.Mathlib.Omega.{arith}
use borrow.Rule.Slice.PartMut.{mid_of}
use lib.ListN.{length}
use lib.Seq.{take-length}
use Rattle.std.proofs.Common.{Result, Ok, Err}
use Rattle.std.proofs.lemmas.Result.{IfOk-at_ok}
use Rattle.std.specs.Prelude.{IfOk}
use Rattle.answer.proofs.Faults.{OfFile, of_file_located}
use Rattle.answer.specs.declared.Failure.{Failure}
use Rattle.answer.specs.declared.Fault.TheVariants.{CutShort}
use Rattle.blocks.proofs.Lying.{BlockFaults, read_lies}
use Rattle.blocks.specs.Blocks.{read}
use Rattle.blocks.specs.Bounds.{Fits}
use Rattle.blocks.specs.declared.Block.{Block}
use Rattle.blocks.specs.declared.Cursor.{Cursor}
use Rattle.events.proofs.Events.{placed_append, adjusted_append, reached_none, reached_more}
use Rattle.events.proofs.Walks.{walk_goes_on, walk_ends}
use Rattle.events.specs.Events.{Event, marks, blank, placed_in, adjusted_in, Ran, Reached, Did}
use Rattle.events.specs.Walk.{Turn, ends, leads, after, bytes_left}
use Rattle.updates.proofs.Faults.{stop_within}
use Rattle.updates.specs.Bodies.{Stop, broken, done, Ended, ended}
use Rattle.updates.specs.declared.Done.{Done}
use Rattle.words.proofs.Runs.{front_holds}
use Rattle.words.specs.Runs.{part, put}
use Rattle.effects.proofs.Ending.{Ends, applied_ends, advanced_at, Behind, behind_first, behind_on, placed_by_lem, stop_broken, stop_done}
use Rattle.effects.proofs.NewNames.{front_is, behind, Counted, counted_first, counted_on, Tabled, tabled_first, tabled_on}
use Rattle.effects.specs.Effects.{Effect, placed_by, applied, advanced, name_in, address_in, first_cursor}
use Rattle.effects.specs.Parts.{NameFits, RoomFits, NameStored}
use Rattle.passes.proofs.Turning.{turn_end, turn_block, carried_broken, behind_read, LeadsOn, carried_done, read_faulty, block_faults, turn_falls}
use Rattle.passes.specs.Parts.{totals, WalkEnd, Bounded, Walked}
use Rattle.passes.specs.Buffers.{Buffers, buffers}
use Rattle.passes.specs.Walk.{Inputs, Progress, Verdict, finished, refused, block_at, applied_at, carried, turn, blocks_from, begun, blocks_of}
use Rattle.passes.specs.declared.Totals.{Totals}

-- a file from its front to its end
pub whole : {file bytes : List ℕ} {end : ℕ} → bytes ≡ part file 0 end → end ≡ length file → bytes ≡ file
unfolding part
whole {file} e f = e ∙ ap (λ (n : ℕ). part file 0 n) f ∙ take-length file

eighth : {n k : ℕ} → n ≡ 8 * k → n / 8 ≡ k
eighth e = omega (arith, e)

finished_same : (low : ℕ) {n k i j l m : ℕ} → k ≡ n → i ≡ j → l ≡ m → ◌≡◌ {A = WalkEnd} (Ok (totals low n i l)) (Ok (totals low k j m))
finished_same low e f g = rw (e, f, g) refl

pub stopped_finished : {e : Failure} {t : Totals} → ◌≡◌ {A = WalkEnd} (Err e) (Ok t) → ⊥
stopped_finished e = let z : ◌≡◌ {A = ℕ} 0 1 = cc in omega arith

-- what a walk that has finished comes to
abbrev pub totals_in : WalkEnd → Totals
totals_in (Err e) = totals 0 0 0 0
totals_in (Ok t) = t

-- where a walk stopped
abbrev offset_in : WalkEnd → ℕ
offset_in (Err e) = e.offset
offset_in (Ok t) = 0

bounded_stopped : (e : Failure) → e.offset ≤ 65536 → Bounded (Err e)
bounded_stopped e h = record { offset = λ f at i. omega (arith, ap offset_in i, h); counts = λ t i. absurd (stopped_finished i) }

bounded_finished : (low named placed adjusted : ℕ) → named ≤ 32 → placed ≤ 65536 → adjusted ≤ 65536
    → Bounded (Ok (totals low named placed adjusted))
bounded_finished low named placed adjusted h i j =
    record {
      offset = λ f at e. absurd (stopped_finished (sym e));
      counts = λ t e. (
        omega (arith, ap (λ (w : WalkEnd). (totals_in w).named) e, h),
        omega (arith, ap (λ (w : WalkEnd). (totals_in w).placed) e, i),
        omega (arith, ap (λ (w : WalkEnd). (totals_in w).adjusted) e, j),
      );
    }

-- ---- where the loop stands

-- what is lent to the walk, which no turn changes
pub record Lent (file : List ℕ) (g : Inputs) (b : Buffers) : Type 0 where
  pub short : length file ≤ 65536
  pub top : g.high ≤ 65535
  pub known : length g.names ≡ 8 * length g.addresses
  pub clear : b.map ≡ blank
  pub room : length b.names ≡ 256
  pub spots : length b.addresses ≡ 32

-- the walk began with the buffers b and a clear map, and stands at the cursor c with two counts and the buffers b'
pub record Going (file : List ℕ) (g : Inputs) (write : Bool) (b : Buffers) (c : Cursor) (placed adjusted : ℕ) (b' : Buffers) : Type 0 where
  pub lent : Lent file g b
  pub events : List Event
  pub names : List ℕ
  pub addresses : List ℕ
  pub effects : List Effect
  pub so_far : blocks_of file g
      ≡ after events (blocks_from file g (record { cursor = c; names = names; addresses = addresses; effects = effects }) (marks events blank))
  pub reached : Reached events write b.memory blank b'.memory b'.map
  pub placed_is : placed ≡ placed_in events
  pub adjusted_is : adjusted ≡ adjusted_in events
  pub passed : Behind (length file) c events
  pub new_names : b'.names ≡ put b.names 0 names
  pub new_addresses : b'.addresses ≡ put b.addresses 0 addresses
  pub counted : Counted c names addresses
  pub tabled : Tabled c

module _ {file : List ℕ} {g : Inputs} {write : Bool} {b : Buffers} where
  -- before the first block
  pub going_first : Lent file g b → Going file g write b (first_cursor g.low) 0 0 (buffers b.memory blank b.names b.addresses)
  unfolding placed_in adjusted_in put blocks_from marks
  going_first lent =
      record {
        lent = lent;
        events = [];
        names = [];
        addresses = [];
        effects = [];
        so_far = so_far_first;
        reached = reached_none write b.memory blank;
        placed_is = refl;
        adjusted_is = refl;
        passed = behind_first (length file) g.low;
        new_names = refl;
        new_addresses = refl;
        counted = counted_first g.low;
        tabled = tabled_first g.low;
      }
    where
      so_far_first : blocks_of file g ≡ after [] (blocks_from file g (begun g) (marks [] blank))
      so_far_first = refl

  module _ {c : Cursor} {placed adjusted : ℕ} {b' : Buffers} (x : Going file g write b c placed adjusted b') where
    -- the progress that the loop stands for
    abbrev here : Progress
    here = record { cursor = c; names = x.names; addresses = x.addresses; effects = x.effects }

    -- the file's own names so far, and their addresses, are the fronts of their buffers
    own_names : mid_of 0 (8 * c.named - 0) b'.names ≡ x.names
    own_names =
        front_is (8 * c.named) b'.names
        ∙ front_holds b.names x.names b'.names (8 * c.named) x.new_names x.counted.bytes (omega (arith, x.lent.room, x.counted.few))

    own_addresses : mid_of 0 (c.named - 0) b'.addresses ≡ x.addresses
    own_addresses =
        front_is c.named b'.addresses
        ∙ front_holds b.addresses x.addresses b'.addresses c.named x.new_addresses x.counted.each
        (omega (arith, x.lent.spots, x.counted.few))

    -- a walk whose next turn ends it has come to its answer
    ends_with : (v : Verdict) → (turn file g here (marks x.events blank)).answer ≡ ends v
        → blocks_of file g ≡ record { answer = v; events = x.events ++ (turn file g here (marks x.events blank)).events }
    unfolding blocks_from
    ends_with v e =
        walk_ends (turn file g) (λ y. refused CutShort (length file) y) (λ y. bytes_left file y.cursor.at) (turn_falls file g x.lent.top) (blocks_of file g) x.events here blank
        x.so_far v e

    -- at the file's end the walk has finished
    pub going_done : c.at ≡ length file → Walked (blocks_of file g) write b (Ok (totals c.low c.named placed adjusted)) b'
    going_done e =
        let t = turn_end file g here (marks x.events blank) e in
        let w : blocks_of file g ≡ record { answer = finished here; events = x.events } =
        ends_with (finished here) (ap (λ (q : Ran (Turn Progress Verdict)). q.answer) t)
        ∙ ap (λ (es : List Event). record { answer = finished here; events = x.events ++ es })
        (ap (λ (q : Ran (Turn Progress Verdict)). q.events) t)
        ∙ ap (λ (es : List Event). record { answer = finished here; events = es }) (append-nil x.events) in
        rw w
        (record {
          did = record {
            answer = finished_same c.low x.counted.each x.placed_is x.adjusted_is;
            reached = rw x.lent.clear x.reached;
          };
          names = x.new_names;
          addresses = x.new_addresses;
          eights = x.counted.bytes ∙ ap (λ (n : ℕ). 8 * n) (sym x.counted.each);
          bounded = bounded_finished c.low c.named placed adjusted x.counted.few
              (omega (arith, x.placed_is, x.passed.counts, x.passed.inside, x.lent.short))
              (omega (arith, x.adjusted_is, x.passed.counts, x.passed.inside, x.lent.short));
        })

    -- a turn that ends the walk with a fault
    stops_with : {e : Failure} {es : List Event} {m p : List ℕ}
        → turn file g here (marks x.events blank) ≡ record { answer = ends (refused e.fault e.offset here); events = es }
        → Reached (x.events ++ es) write b.memory blank m p
        → e.offset ≤ length file
        → Walked (blocks_of file g) write b (Err e) (buffers m p b'.names b'.addresses)
    stops_with {e} {es} t reached w =
        let v : blocks_of file g ≡ record { answer = refused e.fault e.offset here; events = x.events ++ es } =
        ends_with (refused e.fault e.offset here) (ap (λ (q : Ran (Turn Progress Verdict)). q.answer) t)
        ∙ ap (λ (fs : List Event). record { answer = refused e.fault e.offset here; events = x.events ++ fs })
        (ap (λ (q : Ran (Turn Progress Verdict)). q.events) t) in
        rw v
        (record {
          did = record { answer = refl; reached = rw x.lent.clear reached };
          names = x.new_names;
          addresses = x.new_addresses;
          eights = x.counted.bytes ∙ ap (λ (n : ℕ). 8 * n) (sym x.counted.each);
          bounded = bounded_stopped e (omega (arith, w, x.lent.short));
        })

    -- what the program reads is the definition's
    read_is : {r : Result Block Failure} → r ≡ read file g.high g.names (mid_of 0 (8 * c.named - 0) b'.names) c → block_at file g here ≡ r
    read_is e = sym (e ∙ ap (λ (l : List ℕ). read file g.high g.names l c) own_names)

    -- what is no block ends the walk with its fault
    pub going_unread : {e : Failure} → (c.at ≡ length file → ⊥) → Err e ≡ read file g.high g.names (mid_of 0 (8 * c.named - 0) b'.names) c
        → Walked (blocks_of file g) write b (Err e) b'
    going_unread {e} more as_read =
        let i = read_is as_read in
        let w : OfFile (length file) e.fault e.offset = subst (λ (r : Result Block Failure). BlockFaults (length file) r) i (read_faulty file g x.lent.top here) in
        let t = turn_block file g here (marks x.events blank) more
        ∙ ap (λ (r : Result Block Failure). carried file g here r (marks x.events blank)) i in
        let reached : Reached (x.events ++ []) write b.memory blank b'.memory b'.map = rw (append-nil x.events) x.reached in
        stops_with t reached (of_file_located w).within

    module _ {found : Result Block Failure} (as_read : found ≡ read file g.high g.names (mid_of 0 (8 * c.named - 0) b'.names) c) where
      abbrev Fit : Block → Type 0
      Fit = Fits (length file) c (length g.names / 8) (length x.names / 8)

      fits : IfOk found Fit
      fits = subst (λ (r : Result Block Failure). IfOk r Fit) (read_is as_read) (read_lies file g.high g.names x.names c x.lent.top)

      faulty : BlockFaults (length file) found
      faulty = subst (λ (r : Result Block Failure). BlockFaults (length file) r) (read_is as_read) (read_faulty file g x.lent.top here)

      -- a block lies where the parts of the program need it
      pub found_fits : IfOk found (Fits (length file) c (length g.addresses) (length (mid_of 0 (c.named - 0) b'.addresses)))
      found_fits =
          let lent : length g.names / 8 ≡ length g.addresses = omega (arith, x.lent.known) in
          let own : length x.names / 8 ≡ length (mid_of 0 (c.named - 0) b'.addresses) =
          eighth x.counted.bytes ∙ sym x.counted.each ∙ ap length (sym own_addresses) in
          rw (← lent, ← own) fits

      pub name_fits : NameFits (length file) c.named found
      name_fits = record { ends = λ from address e. let l = (IfOk-at_ok Fit e fits).lies in (l.1, l.2) }

      pub room_fits : RoomFits c.low found
      room_fits = record { ends = λ reserves number offset from size e. let l = (IfOk-at_ok Fit e fits).lies in (l.2, l.3) }

      -- and so is what it comes to
      module _ (more : c.at ≡ length file → ⊥) {r : Ended} {m p : List ℕ}
          (did : Did Ended (ended (applied file g.addresses (mid_of 0 (c.named - 0) b'.addresses) c found b'.map)) write
          b'.memory b'.map r m p) where
        abbrev o : Ran Stop
        o = applied_at file g here found (marks x.events blank)

        applied_is : applied file g.addresses (mid_of 0 (c.named - 0) b'.addresses) c found b'.map ≡ o
        unfolding applied_at
        applied_is =
            ap (λ (l : List ℕ). applied file g.addresses l c found b'.map) own_addresses
            ∙ ap (λ (q : List ℕ). applied file g.addresses x.addresses c found q) x.reached.map

        did_is : Did Ended (ended o) write b'.memory b'.map r m p
        did_is = subst (λ (q : Ran Stop). Did Ended (ended q) write b'.memory b'.map r m p) applied_is did

        turn_is : turn file g here (marks x.events blank) ≡ carried file g here found (marks x.events blank)
        turn_is =
            turn_block file g here (marks x.events blank) more
            ∙ ap (λ (q : Result Block Failure). carried file g here q (marks x.events blank)) (read_is as_read)

        reached_then : Reached (x.events ++ o.events) write b.memory blank m p
        reached_then = reached_more x.events write b.memory blank b'.memory b'.map m p (ended o) r x.reached did_is

        -- a fault ends the walk
        pub going_stops : {e : Failure} → r ≡ Err e → Walked (blocks_of file g) write b (Err e) (buffers m p b'.names b'.addresses)
        going_stops {e} i =
            let k : o.answer ≡ broken e.fault e.offset = stop_broken o.answer o.events e.fault e.offset (sym did_is.answer ∙ i) in
            let t = turn_is ∙ carried_broken file g here (marks x.events blank) found e.fault e.offset k in
            stops_with t reached_then (stop_within (block_faults file g here found (marks x.events blank) faulty) k)

        -- else the loop goes on behind the block
        module _ {d : Done} (e : r ≡ Ok d) where
          stopped : (o.answer ≡ done d.next) × (adjusted_in o.events ≡ d.adjusted)
          stopped = stop_done o.answer o.events d.next d.adjusted (sym did_is.answer ∙ e)

          leads_on : LeadsOn file g here (marks x.events blank) found d.next
          leads_on = carried_done file g here (marks x.events blank) found d.next stopped.0

          abbrev then : Progress
          then = behind_read file g here (marks x.events blank) found leads_on.block d.next

          ends_there : Ends (length file) c.at d.next o.events
          unfolding applied_at
          ends_there = applied_ends file g.addresses x.addresses c found _ _ _ fits d.next stopped.0

          so_far_then : blocks_of file g
              ≡ after (x.events ++ o.events) (blocks_from file g then (marks (x.events ++ o.events) blank))
          unfolding blocks_from
          so_far_then =
              let t : turn file g here (marks x.events blank) ≡ record { answer = leads then; events = o.events } = turn_is ∙ leads_on.on in
              walk_goes_on (turn file g) (λ y. refused CutShort (length file) y) (λ y. bytes_left file y.cursor.at) (turn_falls file g x.lent.top) (blocks_of file g) x.events here blank
              x.so_far then (ap (λ (q : Ran (Turn Progress Verdict)). q.answer) t)
              ∙ ap
              (λ (es : List Event). after (x.events ++ es) (blocks_from file g then (marks (x.events ++ es) blank)))
              (ap (λ (q : Ran (Turn Progress Verdict)). q.events) t)

          at_then : (advanced c found d.next).at ≡ d.next
          unfolding applied_at
          at_then = advanced_at file g.addresses x.addresses c found (marks x.events blank) d.next stopped.0

          placed_then : placed_in o.events ≡ placed_by found
          unfolding applied_at
          placed_then = placed_by_lem file g.addresses x.addresses c found _ _ _ fits d.next stopped.0

          -- with fewer bytes left
          pub going_falls : length file - (advanced c found d.next).at < length file - c.at
          going_falls = omega (arith, at_then, ends_there.further, ends_there.inside)

          -- the counts stay within the file
          pub going_counts : (placed + placed_by found ≤ length file) × (adjusted + d.adjusted ≤ length file)
          going_counts = (
            omega (arith, placed_then, x.placed_is, x.passed.counts, ends_there.behind, ends_there.inside),
            omega (arith, stopped.1, x.adjusted_is, x.passed.counts, ends_there.behind, ends_there.inside),
          )

          -- and there it stands, with the block's name behind those before it
          pub going_on : (ns ads : List ℕ) → NameStored file found c.named b'.names b'.addresses ns ads
              → Going file g write b (advanced c found d.next) (placed + placed_by found) (adjusted + d.adjusted) (buffers m p ns ads)
          going_on ns ads stored =
              record {
                lent = x.lent;
                events = x.events ++ o.events;
                names = x.names ++ name_in file found;
                addresses = x.addresses ++ address_in found;
                effects = record { at = c.at; block = leads_on.block; events = o.events } ∷ x.effects;
                so_far = so_far_then;
                reached = reached_then;
                placed_is = omega (arith, x.placed_is, placed_then, placed_append x.events o.events);
                adjusted_is = omega (arith, x.adjusted_is, stopped.1, adjusted_append x.events o.events);
                passed = behind_on (length file) c _ x.events o.events (rw at_then ends_there) x.passed;
                new_names = behind b.names x.names b'.names ns (name_in file found) (8 * c.named) x.new_names
                    x.counted.bytes stored.names;
                new_addresses = behind b.addresses x.addresses b'.addresses ads (address_in found) c.named
                    x.new_addresses x.counted.each stored.addresses;
                counted = counted_on file c found d.next _ _ x.names x.addresses fits x.counted;
                tabled = tabled_on c found d.next _ _ _ fits x.tabled;
              }
