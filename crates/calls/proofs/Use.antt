-- What `tkw_acx_move` and `tkw_index_move` promise is what demand 3 of calls from C asks of a call: used of one that returned 0, and of one by an index that
-- `tkw_index_build` built. And the pairs of a refused load.
-- Assumes nothing.
use mathlib.Core.Bool.{Bool}
use mathlib.Core.List.{List, [], ◌∷◌}
use mathlib.Core.Path.{◌≡◌, refl}
use Prim.Native.Nat.{ℕ}
use Rattle.std.proofs.Common.{Err, Ok, Option}
use Rattle.answer.specs.Report.{Outcome, acceptance, refusal, IsAccepted}
use Rattle.answer.specs.declared.Fault.{Fault}
use Rattle.moves.specs.Call.{call_of}
use Rattle.moves.specs.Demand3.{Made, last, if_accepted, Linked, none, next, Memory, PlainKept}
use Rattle.moves.specs.Sources.{Source, file_in, the_index, AcceptedAt, StandsFor, built}
use Rattle.passes.specs.Buffers.{Buffers}
use Rattle.passes.specs.Walk.{Inputs}
use Rattle.pieces.specs.Pieces.{Outline}
use Rattle.pieces.specs.declared.Bases.{Bases}
use Rattle.words.specs.Runs.{Bytes, part}
use Rattle.calls.proofs.Demands.{told, sdx_refusals, demand3, build_exactly}
use Rattle.calls.specs.Answer.{answer_sized, Answered}
use Rattle.calls.specs.Demands.{MadeFromC}
use Rattle.calls.specs.Build.{Called as BuildCalled}
use Rattle.calls.specs.Move.{Called}
use Rattle.calls.specs.Sdx.{Called as SdxCalled}

-- an accepted call starts where the handler is, and leads to its new bases
starts : (o : Outcome) {s h : Source} → StandsFor s h → (old new : Bases) → IsAccepted o → (p q : List ℕ) (t : Bool) → Linked o h old (call_of s old new p q t)
starts (Ok a) f old new h p q t = (f, refl)
starts (Err r) f old new h p q t = absurd h

leads : (o : Outcome) (old new : Bases) → IsAccepted o → last old (if_accepted o new []) ≡ new
leads (Ok a) old new h = refl
leads (Err r) old new h = absurd h

module _ (by : Source) (old new : Bases) (m p s a : List ℕ) (r : ℕ) (m' p' s' a' : List ℕ)
    (d : Called (call_of by old new p s (answer_sized a)) m a r m' p' s' a') where
  -- the call, with what C was told
  abbrev made : Made
  made = record { call = call_of by old new p s (answer_sized a); report = record { outcome = d.outcome; map = p' } }

  -- it is one of demand 3's
  pub as_made : MadeFromC made m m'
  as_made = record { answer = a; returned = r; scratch = s'; written = a'; called = d; answered = d.answered }

  -- so where 0 was returned, the handler's bytes that are in no field are at their new places
  pub moved_on : (h : Source) → StandsFor by h → Bytes h.bytes → (ps : List Outline) → AcceptedAt h ps old → Memory m → r ≡ 0
      → PlainKept old new ps m m'
  moved_on h f b ps i y e =
      let x = (told d.outcome a r a' d.answered).accepted_only e in
      rw (← leads d.outcome old new x)
      (demand3 h b ps old i (made ∷ []) m m' (next as_made none) y (starts d.outcome f old new x p s (answer_sized a), tt)).plain

-- an index is built through C, and the handler is moved by it through C: where both return 0, its bytes that are in no field are at their new places
pub built_and_moved : (form : ℕ) (b : Bases) (file p q a : List ℕ) (start : Option ℕ) (placed adjusted names low : ℕ) (p' q' a' : List ℕ) → Bytes file
    → BuildCalled form b file p q a 0 p' q' a'
    → Answered (acceptance start placed adjusted names low) a 0 a'
    → (old new : Bases) (m k s c m' k' s' c' : List ℕ) → Called (call_of (the_index (part q' 0 low)) old new k s (answer_sized c)) m c 0 m' k' s' c'
    → (ps : List Outline) → AcceptedAt (file_in form file) ps old → Memory m
    → PlainKept old new ps m m'
built_and_moved form b file p q a start placed adjusted names low p' q' a' y d x old new m k s c m' k' s' c' w ps i z =
    let f = ((build_exactly form b file p q a 0 p' q' a' d _ x).only start placed adjusted names low refl).2.built in
    moved_on (the_index (part q' 0 low)) old new m k s c 0 m' k' s' c' w (file_in form file) (built f) y ps i z refl

-- a refused SDX load leaves the pairs as they were
pub pairs_stay : (file : List ℕ) (g : Inputs) (b : Buffers) (a : List ℕ) (r : ℕ) (b' : Buffers) (a' : List ℕ) → SdxCalled file g b a r b' a' → (fault : Fault)
    (offset side : ℕ)
    → Answered (refusal fault offset side) a r a'
    → b'.addresses ≡ b.addresses
pairs_stay file g b a r b' a' d fault offset side x = (sdx_refusals file g b a r b' a' d (refusal fault offset side) x).1 fault offset side refl
