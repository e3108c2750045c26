-- `collect` meets its contract: those found so far. Assumes nothing.
use mathlib.Core.Path.{◌≡◌}
use Rattle.wasting.proofs.Collecting.{Found}
use Rattle.wasting.proofs.collect.Given as goal

abbrev pub invariant-loop-at : goal.invariant-loop-at
invariant-loop-at l = (l.at-iterator.src.now ≡ l.src) × Found l.src l.at-iterator.at l.found.items
