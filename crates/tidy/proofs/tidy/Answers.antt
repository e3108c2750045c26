-- `tidy::tidy` meets its contract. Assumes nothing.
use Rattle.refusal.proofs.Laws.{raised}
use Rattle.tidy.proofs.Pieces.{not_read}
use Rattle.tidy.proofs.tidy.Goals as goal

pub returns-in_err-kept : goal.returns-in_err-kept
returns-in_err-kept c = let a = c.args in rw (raised _ _ c.from_residual.ensures.1) (not_read a.side a.src.now a.out.now _ c.in_err-kept.ensures.found)
