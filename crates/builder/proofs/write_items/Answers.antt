-- `builder::write_items` meets its contract: the definition's list of fields has come to the field at hand, and the room holds those before it
-- (`Listing`).
-- Assumes nothing.
use Rattle.std.proofs.Common.{◌≡◌, ◌+◌, ◌*◌}
use mathlib.Core.Path.{◌∙◌}
use native.Mathlib.Omega.{arith}
use Rattle.fields.proofs.Listing.{length_fields, item_next, item_none}
use Rattle.builder.proofs.Writing.{listing_none, listing_long, listing_room, listing_more, listing_end}
use Rattle.builder.proofs.write_items.Goals as goal

pub loop-i-init : goal.loop-i-init
loop-i-init c =
    let r = c.into_iter-i-iterator.ensures.into_iter_gives in
    let k = c.enumerate-i-items.ensures in
    let e = c.chunks_exact.ensures in
    (rw (r, k.source) (e.size ∙ c.item_size.ensures), rw (r, k.source, k.count, e.rest) (listing_none (omega arith)))

pub write_field-requires : goal.write_field-requires
write_field-requires c =
    let l = c.loop-i.invariant in
    let h = c.in-Some.ensures.steps in
    let f = c.field_at.ensures in
    let n = item_next c.args.fixup _ _ _ h.0.1.0 (h.0.1.1 ∙ l.0) f.0 in
    let room = listing_room l.1 n (rw length_fields c.requires) in
    (f.1, f.2, omega (arith, room, h.1))

pub loop-i-preserved : goal.loop-i-preserved
loop-i-preserved c =
    let l = c.loop-i.invariant in
    let h = c.in-Some.ensures.steps in
    let n = item_next c.args.fixup _ _ _ h.0.1.0 (h.0.1.1 ∙ l.0) c.field_at.ensures.0 in
    let e : c.args.at + 3 * c.next.new.self.count ≡ c.args.at + 3 * c.loop-i.i-iterator.count + 3 = omega (arith, h.2) in
    (h.0.0 ∙ l.0, rw e (listing_more l.1 n (rw h.1 at c.write_field.ensures)))

pub returns : goal.returns
returns c =
    let l = c.loop-i.invariant in
    listing_end l.1 (item_none c.args.fixup _ (omega (arith, c.in-None.ensures.steps.0.1.0, l.0)))
