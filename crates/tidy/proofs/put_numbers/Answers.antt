-- `tidy::put_numbers` meets its contract. The invariant: the places before this one are laid.
-- Assumes nothing.
use native.Mathlib.Omega.{arith}
use mathlib.Core.List.{[]}
use mathlib.Core.Path.{refl}
use Rattle.catalogue.specs.Catalogue.{ids, id_at, defaults}
use Rattle.wire.specs.Wire.{due_number_at}
use Rattle.wire.specs.Stored.{each}
use Rattle.wire.proofs.Put.{put_behind}
use Rattle.writer.specs.Laid.{laid}
use Rattle.writer.proofs.Laid.{laid_one, laid_more}
use Rattle.tidy.proofs.put_numbers.Goals as goal

pub loop-place-init : goal.loop-place-init
unfolding each laid
loop-place-init c = (omega arith, refl)

pub overflow_add-at : goal.overflow_add-at
overflow_add-at c =
    let k = put_behind _ _ _ _ _ c.loop-place.invariant.0 c.put_number-at.ensures in
    omega (arith, k.within, k.same)

pub loop-place-preserved : goal.loop-place-preserved
unfolding due_number_at id_at ids defaults
loop-place-preserved c =
    let l = c.loop-place in
    let a = c.args in
    ((put_behind _ _ _ _ _ l.invariant.0 c.put_number-at.ensures).within, laid_more (due_number_at a.entries.now.kept) l.place 1 0 l.at _ a.out.now [] l.out [] _ [] l.invariant.1 (laid_one _ _ _ _ _ _ [] c.put_number-at.ensures))
