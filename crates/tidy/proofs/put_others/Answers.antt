-- `tidy::put_others` meets its contract. The invariant: the places before this one are laid.
-- Assumes nothing.
use Prim.Native.Nat.{◌+◌, ◌-◌}
use native.Mathlib.Omega.{arith}
use mathlib.Core.List.{[]}
use mathlib.Core.Path.{◌≡◌, refl}
use Rattle.catalogue.specs.Catalogue.{id_at}
use Rattle.index.specs.Answer.{found_of}
use Rattle.wire.specs.Stored.{each}
use Rattle.wire.proofs.Put.{put_behind}
use Rattle.writer.specs.Laid.{laid}
use Rattle.writer.proofs.Laid.{laid_one, laid_more}
use Rattle.tidy.specs.Pieces.{piece_for, others}
use Rattle.tidy.proofs.put_others.Goals as goal

pub loop-place-init : goal.loop-place-init
unfolding each laid
loop-place-init c = (c.requires, refl)

pub overflow_add-at : goal.overflow_add-at
overflow_add-at c =
    let k = put_behind _ _ _ _ _ c.loop-place.invariant.0 c.put_at-at.ensures in
    omega (arith, k.within, k.same)

pub loop-place-preserved : goal.loop-place-preserved
loop-place-preserved c =
    let l = c.loop-place in
    let a = c.args in
    let i : 12 + (l.place - 12) ≡ l.place = omega arith in
    let n : l.place + 1 - 12 ≡ l.place - 12 + 1 = omega arith in
    let k = put_behind _ _ _ _ _ l.invariant.0 c.put_at-at.ensures in
    (k.within, rw n (laid_more (λ j. piece_for (id_at (12 + j)) a.kept.now.src.now (found_of a.kept.now.entries) (12 + j)) (l.place - 12) 12 a.start l.at _ a.out.now [] l.out [] _ [] l.invariant.1 (rw i (laid_one _ _ _ _ _ _ [] c.put_at-at.ensures))))

pub overflow_add-result : goal.overflow_add-result
overflow_add-result c =
    let k = put_behind _ _ _ _ _ c.loop-place.invariant.0 c.put_at.ensures in
    omega (arith, k.within, k.same)

pub returns : goal.returns
unfolding others
returns c =
    let l = c.loop-place in
    let a = c.args in
    let e : l.place - 12 ≡ 9 = omega arith in
    laid_more (λ j. piece_for (id_at (12 + j)) a.kept.now.src.now (found_of a.kept.now.entries) (12 + j)) 9 12 a.start l.at _ a.out.now [] l.out [] _ [] (rw e at l.invariant.1) (laid_one _ _ _ _ _ _ [] c.put_at.ensures)
