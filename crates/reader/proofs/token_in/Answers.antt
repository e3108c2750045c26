-- `reader::token_in` meets its contract. Assumes nothing.
use Rattle.reader.proofs.Given.{mapped, token_given}
use Rattle.reader.proofs.token_in.Goals as goal

pub returns : goal.returns
returns c = token_given _ _ _ (mapped _ _ _ _ c.map.ensures.cases (λ x y q. q)) c.optional.ensures
