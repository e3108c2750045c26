-- `parse_hex_number`: the characters before `b` are digits, and `value` is their number. Assumes
-- nothing.
use Rattle.text.proofs.HexNumbers.{Read}
use Rattle.text.proofs.parse_hex_number.Given as goal

abbrev pub invariant-loop-b : goal.invariant-loop-b
invariant-loop-b l = Read l.digits l.b-index l.value
