-- `reader::cid_in` meets its contract. Assumes nothing.
use Rattle.reader.proofs.Given.{mapped, cid_given}
use Rattle.reader.proofs.cid_in.Goals as goal

pub returns : goal.returns
returns c = cid_given _ _ _ (mapped _ _ _ _ c.map.ensures.cases (λ x y q. q)) c.optional.ensures
