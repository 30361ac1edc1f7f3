-- What stands for a handler is accepted where the handler is, with the same outlines and entry: an index built from a file, or the handler itself.
-- Assumes nothing.
use mathlib.Core.List.{List}
use mathlib.Core.Path.{◌≡◌, refl, sym, subst}
use Rattle.index.proofs.Built.{agrees}
use Rattle.index.specs.Rules.{Accepts}
use Rattle.pieces.specs.Pieces.{Outline}
use Rattle.pieces.specs.declared.Bases.{Bases}
use Rattle.words.specs.Runs.{Bytes}
use Rattle.moves.specs.Sources.{Source, AcceptedAt, StandsFor, itself, built}

pub stands_accepted : {s h : Source} → StandsFor s h → Bytes h.bytes → (os : List Outline) (b : Bases) (x : AcceptedAt s os b)
    → (y : AcceptedAt h os b) × (y.entry ≡ x.entry)
stands_accepted itself bytes os b x = (x, refl)
stands_accepted (built {form = form} {file = file} {index = index} f) bytes os b x =
    let z = (agrees form file index bytes f b).accepts_only os x.entry x.accepts in
    (record { entry = x.entry; accepts = record { pieces = z.0; outlines = z.2; accepts = z.1 } }, refl)

pub stands_back : {s h : Source} → StandsFor s h → Bytes h.bytes → (os : List Outline) (b : Bases) (x : AcceptedAt h os b)
    → (y : AcceptedAt s os b) × (y.entry ≡ x.entry)
stands_back itself bytes os b x = (x, refl)
stands_back (built {form = form} {file = file} {index = index} f) bytes os b x =
    let h = x.accepts in
    let z = (agrees form file index bytes f b).accepts h.pieces x.entry h.accepts in
    (record { entry = x.entry; accepts = subst (λ (qs : List Outline). Accepts b index qs x.entry) (sym h.outlines) z }, refl)
