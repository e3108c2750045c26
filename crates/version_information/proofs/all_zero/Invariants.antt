-- `version_information::all_zero` meets its contract. The invariant: no bit was met, and the rest
-- are zeros, exactly if all are. Assumes nothing.
use mathlib.Core.Path.{◌≡◌}
use mathlib.Core.Bool.{◌&&◌}
use lib.ListN.{drop}
use lib.Dec.{eqb}
use Rattle.words.specs.Words.{zeros}
use Rattle.version_information.proofs.all_zero.Given as goal

abbrev pub invariant-loop-version : goal.invariant-loop-version
invariant-loop-version l = (eqb l.met 0 && zeros (drop l.version-index l.versions)) ≡ zeros l.versions
