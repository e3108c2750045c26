-- `reader::address_in` meets its contract. Assumes nothing.
use Rattle.record.proofs.Defaults.{address_absent}
use Rattle.reader.proofs.Given.{mapped, address_given}
use Rattle.reader.proofs.address_in.Goals as goal

pub returns : goal.returns
returns c =
    address_given _ _ _ _ (mapped _ _ _ _ c.map.ensures.cases (λ x y q. q)) c.unwrap_or_default.ensures
    (λ x d. address_absent _ d.0 d.1.0 d.1.1.0 d.1.1.1.0.0 d.1.1.1.0.1 d.1.1.1.1)
