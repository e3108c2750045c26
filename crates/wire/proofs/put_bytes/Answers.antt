-- `wire::put_bytes` meets its contract. Assumes nothing.
use native.Mathlib.Omega.{arith}
use Rattle.wire.proofs.Put.{put_copied}
use Rattle.wire.proofs.put_bytes.Goals as goal

pub returns : goal.returns
returns c =
    let l = c.loop-i in
    put_copied c.args.bytes.now c.args.out.now l.out l.i (omega arith) (omega arith) l.invariant
