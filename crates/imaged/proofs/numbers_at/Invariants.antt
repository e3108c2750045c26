-- `imaged::numbers_at` meets its contract. The invariant: each number that was met stands in its
-- place. Assumes nothing.
use mathlib.Core.Path.{◌≡◌}
use Prim.Native.Nat.{ℕ, ◌*◌, ◌<◌}
use lib.ListN.{get_or}
use Rattle.image.specs.Image.{number_at}
use Rattle.imaged.proofs.numbers_at.Given as goal

abbrev pub invariant-loop-i : goal.invariant-loop-i
invariant-loop-i l = (k : ℕ) → k < l.i → get_or l.x-items k 0 ≡ number_at (8 * k) 8 l.s
