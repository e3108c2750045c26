-- `version_information::is_among` meets its contract. The invariant: it was met, or is among the
-- rest, exactly if it is among all. Assumes nothing.
use mathlib.Core.Path.{◌≡◌}
use mathlib.Core.Bool.{◌||◌}
use lib.ListN.{drop}
use Rattle.words.specs.Words.{member}
use Rattle.version_information.proofs.is_among.Given as goal

abbrev pub invariant-loop-other : goal.invariant-loop-other
invariant-loop-other l = (l.met || member l.version (drop l.other-index l.versions)) ≡ member l.version l.versions
