-- `HexBytes` prints what its contract says. Assumes nothing.
use Rattle.std.proofs.Common.{rules, arith}
use Rattle.std.proofs.Output.{has_written_append, has_written_of_eq}
use Rattle.text.proofs.HexDigits.{hex_more}
use Rattle.text.proofs.shown.HexBytesDisplay.fmt.Goals as goal

pub loop-b-preserved : goal.loop-b-preserved
loop-b-preserved g c p = has_written_of_eq _ _ _ _ _ (hex_more _ _ (omega arith) (omega arith)) (has_written_append _ _ _ _ _ _ (c.loop-b.invariant p) (search rules))
