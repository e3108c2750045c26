-- `show_wasters` meets its contract: what becomes of the writes so far. Assumes nothing.
use Rattle.text.specs.declared.out.Stream.TheVariants.{Output}
use Rattle.text.specs.Printing.{Becomes}
use Rattle.picture.proofs.show_wasters.Given as goal

abbrev pub invariant-loop-waster : goal.invariant-loop-waster
invariant-loop-waster l = Becomes Output l.initial.out.fate l.out.fate
