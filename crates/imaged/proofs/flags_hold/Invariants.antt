-- `imaged::flags_hold` meets its contract. The invariant: what was met and what is left to test
-- decide. Assumes nothing.
use mathlib.Core.Path.{◌≡◌}
use Rattle.image.specs.Image.{flags_hold}
use Rattle.imaged.proofs.Places.{flags_from}
use Rattle.imaged.proofs.flags_hold.Given as goal

abbrev pub invariant-loop-at : goal.invariant-loop-at
invariant-loop-at l = flags_from l.s l.acc l.at-index ≡ flags_hold l.s
