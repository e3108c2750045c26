-- How the code goes about it: nothing to believe, since the contract of `reader::read` is an
-- equation with `read` (reader/specs/Reading.antt). Bit k of a number, and the number with it set.
use Rattle.std.specs.Prelude.{ℕ, ◌/◌, ◌%◌, ◌^◌, Bool, eqb}
use Rattle.std.specs.Int.Bits.{bit_or}

unfoldable pub marked : ℕ → ℕ → Bool
marked m k = eqb (m / 2 ^ k % 2) 1

unfoldable pub mark : ℕ → ℕ → ℕ
mark m k = bit_or m (2 ^ k)
