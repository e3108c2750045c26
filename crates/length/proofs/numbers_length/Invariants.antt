-- `length::numbers_length` meets its contract. The invariant: `n` is the sum below `p`. Assumes
-- nothing.
use Prim.Native.Nat.{◌*◌, ◌^◌, ◌≤◌}
use mathlib.Core.Path.{◌≡◌}
use Rattle.catalogue.specs.Sum.{sum}
use Rattle.length.specs.Length.{number_length_at}
use Rattle.length.proofs.numbers_length.Given as goal

abbrev pub invariant-loop-p : goal.invariant-loop-p
invariant-loop-p l = (l.n ≡ sum l.p (number_length_at l.numbers)) × (l.n ≤ 2 ^ 32 * l.p)
