-- `reader::read` meets its contract: what is kept, as a record. Assumes nothing.
use Rattle.refusal.proofs.Laws.{raised}
use Rattle.reader.proofs.Indexed.{read_stopped}
use Rattle.reader.proofs.read.Goals as goal

pub returns-in_err-kept : goal.returns-in_err-kept
returns-in_err-kept c = let a = c.args in rw (raised _ _ c.from_residual.ensures.1) (read_stopped a.side a.src.now _ c.in_err-kept.ensures.found)
