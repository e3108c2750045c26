-- `reader::cid_of` meets its contract. Assumes nothing.
use borrow.Author.Tests.{leb-true}
use Rattle.catalogue.specs.Catalogue.{fits}
use Rattle.reader.proofs.Built.{made_ok, cid_new}
use Rattle.reader.proofs.cid_of.Goals as goal

pub unwrap-requires : goal.unwrap-requires
unfolding fits
unwrap-requires c = made_ok _ _ c.new.ensures (leb-true _ _ c.requires)

pub returns : goal.returns
unfolding fits
returns c = cid_new _ _ _ c.new.ensures (leb-true _ _ c.requires) c.unwrap.ensures
