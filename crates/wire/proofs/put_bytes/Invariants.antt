-- `wire::put_bytes` meets its contract. The invariant: the first `i` bytes stand at the front.
-- Assumes nothing.
use mathlib.Core.Path.{◌≡◌}
use lib.Seq.{paste}
use Rattle.wire.proofs.put_bytes.Given as goal

abbrev pub invariant-loop-i : goal.invariant-loop-i
invariant-loop-i l = l.out ≡ paste l.initial.out 0 l.bytes l.i
