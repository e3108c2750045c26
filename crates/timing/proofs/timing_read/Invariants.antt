-- `timing::timing_read` meets its contract. The invariant: what is kept is what the last of the
-- calls so far gave. Assumes nothing.
use mathlib.Core.Path.{◌≡◌}
use Rattle.rules.specs.declared.Side.TheVariants.{Client}
use Rattle.reader.specs.Reading.{read}
use Rattle.timing.specs.Timing.{code, last_of}
use Rattle.timing.proofs.timing_read.Given as goal

abbrev pub invariant-loop : goal.invariant-loop
invariant-loop l = l.last ≡ last_of l.counter (code (read Client l.src))
