-- `words::all_zero` meets its contract. The invariant: no bit was met, and the rest are zeros,
-- exactly if all are. Assumes nothing.
use mathlib.Core.Path.{◌≡◌}
use mathlib.Core.Bool.{◌&&◌}
use lib.ListN.{drop}
use lib.Dec.{eqb}
use Rattle.words.specs.Words.{zeros}
use Rattle.words.proofs.all_zero.Given as goal

abbrev pub invariant-loop-b : goal.invariant-loop-b
invariant-loop-b l = (eqb l.met 0 && zeros (drop l.b-index l.v)) ≡ zeros l.v
