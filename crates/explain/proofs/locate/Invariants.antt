-- `locate` is safe: it goes through the bytes that it was given. Assumes nothing.
use mathlib.Core.Path.{◌≡◌}
use Rattle.explain.proofs.locate.Given as goal

abbrev pub invariant-loop-at : goal.invariant-loop-at
invariant-loop-at l = l.at-iterator.src.now ≡ l.src
