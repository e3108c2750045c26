-- `order::is_permutation` meets its contract: nothing is wrong exactly with a permutation. Assumes
-- nothing.
use Rattle.order.proofs.Faults.{answered}
use Rattle.order.proofs.is_permutation.Goals as goal

pub returns : goal.returns
returns c = answered _ _ _ c.order_fault.ensures c.is_none.ensures
