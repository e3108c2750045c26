-- `wire::put_short` meets its contract. Assumes nothing.
use native.Mathlib.Omega.{arith}
use Rattle.wire.proofs.Put.{short_put}
use Rattle.wire.proofs.put_short.Goals as goal

pub returns : goal.returns
returns c = short_put _ _ c.args.out.now c.requires.0 c.requires.1 _ _ (omega (arith, c.if-out-n.false)) c.put_bytes.ensures
