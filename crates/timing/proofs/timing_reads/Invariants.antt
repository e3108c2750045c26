-- `timing::timing_reads` meets its contract. The invariant: the position and what was kept are
-- those of the calls so far. Assumes nothing.
use Prim.Native.Nat.{◌≤◌}
use mathlib.Core.Path.{◌≡◌}
use lib.ListN.{length}
use Rattle.timing.specs.Timing.{repeat, read_next}
use Rattle.timing.proofs.timing_reads.Given as goal

abbrev pub invariant-loop : goal.invariant-loop
invariant-loop l = (l.at ≤ length l.src) × ((l.at, l.last) ≡ repeat l.counter (read_next l.size l.src) (0, 0))
