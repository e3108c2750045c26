-- `writer::Draft::numbers` meets its contract. The invariant: the first `p` places are laid.
-- Assumes nothing.
use Rattle.wire.specs.Wire.{due_number_at}
use Rattle.wire.specs.Stored.{each}
use Rattle.writer.specs.Laid.{Adds}
use Rattle.writer.proofs.Draft.numbers.Given as goal

abbrev pub invariant-loop-p : goal.invariant-loop-p
invariant-loop-p l = Adds (each (due_number_at l.numbers) l.p) 1 0 l.initial.self l.at l.self
