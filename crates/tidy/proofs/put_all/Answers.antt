-- `tidy::put_all` meets its contract: one part after another. Assumes nothing.
use native.Mathlib.Omega.{arith}
use mathlib.Core.List.{[]}
use mathlib.Core.Path.{◌∙◌}
use Rattle.index.specs.Answer.{found_of}
use Rattle.wire.specs.Wire.{due_number_at}
use Rattle.wire.specs.Stored.{each}
use Rattle.wire.proofs.Stored.{length_each}
use Rattle.writer.proofs.Laid.{laid_then, laid_within}
use Rattle.tidy.specs.Pieces.{others, pieces}
use Rattle.tidy.proofs.put_all.Goals as goal

pub put_others-requires : goal.put_others-requires
put_others-requires c = (laid_within _ 1 0 _ _ [] _ [] (omega arith) (rw c.entries.ensures at c.put_numbers-start.ensures)).0

pub returns : goal.returns
unfolding pieces
returns c = let a = c.args in c.put_others.ensures ∙ laid_then (each (due_number_at a.kept.now.entries.kept) 11) (others a.kept.now.src.now (found_of a.kept.now.entries)) 1 12 0 _ a.out.now [] _ [] (rw (length_each (due_number_at a.kept.now.entries.kept) 11)) (rw c.entries.ensures at c.put_numbers-start.ensures)
