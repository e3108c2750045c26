-- `show_parts` meets its contract: what becomes of the writes so far. Assumes nothing.
use Rattle.text.specs.declared.out.Stream.TheVariants.{Output}
use Rattle.text.specs.Printing.{Becomes}
use Rattle.show.proofs.show_parts.Given as goal

abbrev pub invariant-loop-i : goal.invariant-loop-i
invariant-loop-i l = Becomes Output l.initial.out.fate l.out.fate
