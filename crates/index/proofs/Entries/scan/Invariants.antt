-- `index::Entries::scan` meets its contract. The invariant: from here on, with what is kept so far,
-- the outcome is that of the whole input; the sums so far and those of what is left are the
-- whole's. Assumes nothing.
use mathlib.Core.Path.{◌≡◌}
use Rattle.index.specs.Index.{index_from}
use Rattle.index.specs.Answer.{found_of}
use Rattle.tally.proofs.Along.{Along}
use Rattle.index.proofs.Entries.scan.Given as goal

abbrev pub invariant-loop-at : goal.invariant-loop-at
invariant-loop-at g l =
    (l.at-iterator.src.now ≡ l.src)
    × (index_from l.src l.at-iterator.at (found_of l.self) ≡ index_from l.src 0 (found_of l.initial.self))
    × Along l.src l.at-iterator.at l.sums
