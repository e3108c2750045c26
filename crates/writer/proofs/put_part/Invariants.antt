-- `writer::put_part` meets its contract. The invariant: the first `i` bytes stand at the front.
-- Assumes nothing.
use Prim.Native.Nat.{◌+◌, ◌≤◌}
use Rattle.writer.specs.Laid.{Front}
use Rattle.writer.proofs.put_part.Given as goal

abbrev pub invariant-loop-i : goal.invariant-loop-i
invariant-loop-i l = (16 ≤ l.i) × (l.i ≤ l.len + 16) × Front l.i l.room l.part l.fn.out l.out
