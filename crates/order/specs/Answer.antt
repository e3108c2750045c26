-- The position of an order's first fault, or none: the code's answer in the definition's terms.
use Rattle.std.specs.Prelude.{ℕ, Option as Answer, None, Some}
use Rattle.std.proofs.Math.Option.{Option, none, some}

abbrev pub fault_position : Answer ℕ → Option ℕ
fault_position (Some k) = some k
fault_position None = none
