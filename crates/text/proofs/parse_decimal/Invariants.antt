-- `parse_decimal`: the characters before `b` are digits, and `value` is their number. Assumes
-- nothing.
use mathlib.Core.Path.{◌≡◌}
use mathlib.Core.Bool.{true}
use lib.ListN.{take}
use Rattle.words.specs.Words.{every}
use Rattle.text.specs.Text.{in_range, decimal_from, kept}
use Rattle.text.proofs.parse_decimal.Given as goal

abbrev pub invariant-loop-b : goal.invariant-loop-b
invariant-loop-b l = (every (in_range 48 57) (take l.b-index l.text) ≡ true) × (l.value ≡ kept (decimal_from 0 (take l.b-index l.text)))
