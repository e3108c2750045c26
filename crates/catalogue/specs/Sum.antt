-- Sums over places, in catalogue order.
use Rattle.std.specs.Prelude.{ℕ, zero, suc, ◌+◌}

-- of f of the places below n
unfoldable pub sum : ℕ → (ℕ → ℕ) → ℕ
sum zero f = 0
sum (suc n) f = sum n f + f n
