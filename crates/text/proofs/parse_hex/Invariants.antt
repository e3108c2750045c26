-- `parse_hex`: the digits among the first `i` characters, none of which is strange, are stored.
-- Assumes nothing.
use Prim.Native.Nat.{◌≤◌}
use Rattle.text.proofs.Hexes.{Met}
use Rattle.text.proofs.parse_hex.Given as goal

abbrev pub invariant-loop-i : goal.invariant-loop-i
invariant-loop-i l = (l.digits ≤ l.i) × Met l.text l.initial.out l.at l.room l.i l.digits l.out
