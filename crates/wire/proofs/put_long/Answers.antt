-- `wire::put_long` meets its contract. Assumes nothing.
use native.Mathlib.Omega.{arith}
use Rattle.wire.proofs.Put.{long_whole}
use Rattle.wire.proofs.put_long.Goals as goal

pub returns : goal.returns
returns c = long_whole _ _ _ c.args.out.now _ c.in-Ok.ensures.stored _ _ _ _ (omega arith) c.put_bytes.ensures c.put_bytes-2.ensures
