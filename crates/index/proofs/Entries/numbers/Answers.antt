-- `index::Entries::numbers` meets its contract. Assumes nothing.
use mathlib.Core.Path.{refl}
use Rattle.words.specs.Words.{elements}
use Rattle.index.proofs.Entries.numbers.Goals as goal

pub returns : goal.returns
unfolding elements
returns c = refl
