-- `writer::put_part` meets its contract. Assumes nothing.
use Prim.Native.Nat.{◌+◌}
use native.Mathlib.Omega.{arith}
use Rattle.writer.proofs.Ordered.{slice_front, front_is, block_more, front_less}
use Rattle.writer.proofs.put_part.Goals as goal

pub returns-then-room-len : goal.returns-then-room-len
returns-then-room-len c =
    let a = c.args in
    let f = c.requires in
    front_is a.len a.room a.part.now a.out.now _ (omega (arith, f.there)) f.small f.within c.put_few.ensures

pub loop-i-init : goal.loop-i-init
loop-i-init c =
    let a = c.args in
    let f = c.requires in (
      omega arith,
      omega arith,
      front_is 16 a.room a.part.now a.out.now _ (omega (arith, f.there)) (omega (arith, c.if-room-len.false)) f.within c.put_few-2.ensures,
    )

pub loop-i-preserved : goal.loop-i-preserved
loop-i-preserved c =
    let a = c.args in
    let l = c.loop-i in
    let e = l.invariant.2.same in
    (omega arith, omega arith, block_more l.i a.room a.part.now _ l.out _ l.invariant.2 (omega arith) c.requires.within (omega (arith, c.requires.there)) (slice_front l.i 16 a.part.now _ _ c.put_few-in-loop-i.ensures))

pub returns-else-room-len : goal.returns-else-room-len
returns-else-room-len c =
    let l = c.loop-i in
    front_less c.args.len l.i c.args.room _ _ _ (omega arith) l.invariant.2

pub returns-else-room-len-2 : goal.returns-else-room-len-2
returns-else-room-len-2 c =
    let a = c.args in
    let l = c.loop-i in
    front_less a.len (l.i + 16) a.room _ _ _ (omega arith)
    (block_more l.i a.room a.part.now _ l.out _ l.invariant.2 (omega arith) c.requires.within (omega (arith, c.requires.there)) (slice_front l.i 16 a.part.now _ _ c.put_few-in-loop-i.ensures))
