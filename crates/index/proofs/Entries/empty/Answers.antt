-- `index::Entries::empty` meets its contract. Assumes nothing.
use mathlib.Core.Path.{refl}
use Rattle.catalogue.specs.Catalogue.{defaults}
use Rattle.index.specs.Index.{initial_kept, nothing}
use Rattle.index.proofs.Entries.empty.Goals as goal

pub returns : goal.returns
unfolding nothing initial_kept defaults
returns c = refl
