-- `timing::write_times` meets its contract. The invariant: the answer and the buffer are those of
-- the calls so far. Assumes nothing.
use mathlib.Core.Path.{◌≡◌}
use Rattle.timing.specs.Timing.{again, repeat}
use Rattle.timing.proofs.write_times.Given as goal

abbrev pub invariant-loop : goal.invariant-loop
invariant-loop l = (l.answer, l.out) ≡ repeat l.counter (again l.r) (0, l.initial.out)
