-- `note_differing` meets its contract: what becomes of the writes so far. Assumes nothing.
use Rattle.text.specs.declared.out.Stream.TheVariants.{Error}
use Rattle.text.specs.Printing.{Becomes}
use Rattle.differing.proofs.note_differing.Given as goal

abbrev pub invariant-loop-place : goal.invariant-loop-place
invariant-loop-place l = Becomes Error l.initial.out.fate l.out.fate
