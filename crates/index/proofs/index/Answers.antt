-- `index::index` meets its contract. Assumes nothing.
use Rattle.refusal.proofs.Laws.{raised}
use Rattle.index.proofs.Sound.{scan_sound}
use Rattle.index.proofs.Settled.{stopped}
use Rattle.index.proofs.index.Goals as goal

pub invariant_of-kept : goal.invariant_of-kept
invariant_of-kept c = record { sound = scan_sound c.args.src.now _ (rw c.empty.ensures at c.in_ok-scan.ensures.found) }

pub returns-in_err-scan-clause-found : goal.returns-in_err-scan-clause-found
returns-in_err-scan-clause-found c = rw (raised _ _ c.from_residual.ensures.1) (stopped c.args.side c.args.src.now _ (rw c.empty.ensures at c.in_err-scan.ensures.found))
