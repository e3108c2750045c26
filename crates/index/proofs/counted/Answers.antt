-- `index::counted` meets its contract. Assumes nothing.
use Rattle.refusal.proofs.Laws.{raised}
use Rattle.index.proofs.Sound.{scan_sound}
use Rattle.index.proofs.Settled.{stopped, not_counted}
use Rattle.index.proofs.counted.Goals as goal

pub invariant_of-found : goal.invariant_of-found
invariant_of-found c = record { sound = scan_sound c.args.src.now _ (rw c.empty.ensures at c.in_ok-sums.ensures.found) }

pub returns-in_err-sums : goal.returns-in_err-sums
returns-in_err-sums c =
    rw (raised _ _ c.from_residual.ensures.1)
    (not_counted c.args.side c.args.src.now _ (stopped c.args.side c.args.src.now _ (rw c.empty.ensures at c.in_err-sums.ensures.found)))
