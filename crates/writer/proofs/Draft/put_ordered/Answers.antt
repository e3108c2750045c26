-- `writer::Draft::put_ordered` meets its contract. The invariant: the parameters at the first
-- places of the order stand at the front. Assumes nothing.
use borrow.Author.Rules.{rules}
use native.Mathlib.Omega.{arith}
use mathlib.Core.Path.{◌≡◌, refl, sym, ◌∙◌}
use lib.ListN.{length, take}
use lib.Seq.{take_all}
use Rattle.writer.specs.Laid.{part_at}
use Rattle.writer.proofs.Ordered.{Part, part_room, part_long, part_rest, fit, ordered_more, ordered_all}
use Rattle.writer.proofs.Draft.put_ordered.Goals as goal

pub overflow_sub-n : goal.overflow_sub-n
overflow_sub-n c =
    let d = c.args.self.now in
    let this : Part d.starts d.parts c.args.n c.from-p.result c.loop-place.at = part_room d.starts d.parts c.args.order.now c.args.n c.loop-place.place-index _ c.loop-place.at c.requires.0 c.requires.1 (omega arith) c.loop-place.invariant.0 c.from-p.ensures in
    omega (arith, this.room)

pub put_part-requires : goal.put_part-requires
put_part-requires c =
    let d = c.args.self.now in
    let this : Part d.starts d.parts c.args.n c.from-p.result c.loop-place.at = part_room d.starts d.parts c.args.order.now c.args.n c.loop-place.place-index _ c.loop-place.at c.requires.0 c.requires.1 (omega arith) c.loop-place.invariant.0 c.from-p.ensures in
    let long : length d.parts ≡ 417 = search rules in
    rw (part_rest d.parts 417 _ long) (fit d.starts d.parts c.loop-place.out c.args.n c.from-p.result c.loop-place.at (rw c.loop-place.invariant.1.same c.requires.2) this)

pub loop-place-preserved : goal.loop-place-preserved
unfolding part_at
loop-place-preserved c =
    let d = c.args.self.now in
    let l = c.loop-place in
    let long : length d.parts ≡ 417 = search rules in
    let put = rw (part_rest d.parts 417 _ long) at c.put_part.ensures in
    let this : Part d.starts d.parts c.args.n c.from-p.result l.at = part_room d.starts d.parts c.args.order.now c.args.n l.place-index _ l.at c.requires.0 c.requires.1 (omega arith) l.invariant.0 c.from-p.ensures in
    ordered_more (part_at d.starts d.parts) c.args.order.now l.place-index (omega (arith, c.requires.0.long)) c.from-p.result l.at _ c.args.n _ c.args.out.now l.out _ c.requires.2 l.invariant.0 l.invariant.1 this.room c.from-p.ensures refl (part_long _ _ _ _ _ this) put

pub returns : goal.returns
returns c =
    let l = c.loop-place in
    let o = c.args.order.now in
    let e : take l.place-index o ≡ o = take_all l.place-index o (omega (arith, c.requires.0.long)) in
    ordered_all c.args.n l.at _ _ _ c.requires.1 c.requires.2 (rw e at l.invariant.0 ∙ sym c.requires.1) (rw e at l.invariant.1)
