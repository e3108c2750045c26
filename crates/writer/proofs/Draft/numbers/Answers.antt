-- `writer::Draft::numbers` meets its contract. The invariant: the first `p` places are laid.
-- Assumes nothing.
use native.Mathlib.Omega.{arith}
use native.Mathlib.Nat.{add_comm}
use mathlib.Core.Path.{refl}
use Rattle.catalogue.specs.Catalogue.{defaults}
use Rattle.wire.specs.Wire.{due_number_at}
use Rattle.wire.specs.Stored.{each}
use Rattle.writer.specs.Laid.{laid}
use Rattle.writer.proofs.Laid.{laid_more, room_among}
use Rattle.writer.proofs.Parts.{due_or_none}
use Rattle.writer.proofs.Draft.numbers.Goals as goal

pub loop-p-init : goal.loop-p-init
unfolding each laid
loop-p-init c = refl

pub number-at-requires : goal.number-at-requires
number-at-requires c =
    let l = c.args.self.now in
    room_among (due_number_at c.args.numbers.now) _ 11 0 _ l.parts l.starts _ _ (omega arith) (omega arith) c.requires c.loop-p.invariant

pub loop-p-preserved : goal.loop-p-preserved
unfolding due_number_at defaults
loop-p-preserved c =
    let l = c.args.self.now in
    let laid = rw (c.then_some.ensures, due_or_none _ _ _) at c.number-at.ensures in
    laid_more (due_number_at c.args.numbers.now) c.loop-p.p 1 0 _ _ l.parts l.starts _ _ _ _ c.loop-p.invariant (rw (add_comm 1 c.loop-p.p) laid)
