-- `reader::token_of` meets its contract. Assumes nothing.
use native.Mathlib.Omega.{arith}
use borrow.Author.Tests.{eqb-true}
use Rattle.catalogue.specs.Catalogue.{fits}
use Rattle.reader.proofs.token_of.Goals as goal

pub array-requires : goal.array-requires
unfolding fits
array-requires c = (omega arith, eqb-true _ _ c.requires)
