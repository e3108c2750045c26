-- `version_information::available_of` meets its contract. The invariant: each version that was met
-- stands in its place. Assumes nothing.
use mathlib.Core.Path.{◌≡◌}
use Prim.Native.Nat.{ℕ, ◌+◌, ◌*◌, ◌<◌}
use lib.ListN.{get_or, take, drop}
use Rattle.words.specs.Words.{value_from}
use Rattle.version_information.proofs.available_of.Given as goal

abbrev pub invariant-loop-i : goal.invariant-loop-i
invariant-loop-i l = (k : ℕ) → k < l.i → get_or l.x-items k 0 ≡ value_from 0 (take 4 (drop (4 + 4 * k) l.bytes))
