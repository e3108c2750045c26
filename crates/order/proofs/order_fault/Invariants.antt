-- `order::order_fault` meets its contract. The invariant: no entry before `i` is at fault, and
-- these are marked; so there are at most 22 of them, and the pass has no more than 23 turns,
-- however long the order. Assumes nothing.
use Prim.Native.Nat.{◌≤◌}
use mathlib.Core.Path.{◌≡◌}
use mathlib.Core.Option.{none}
use lib.ListN.{take}
use Rattle.catalogue.specs.Catalogue.{places}
use Rattle.order.specs.Order.{faulty, first_below}
use Rattle.order.proofs.Faults.{Met}
use Rattle.order.proofs.order_fault.Given as goal

abbrev pub invariant-loop-i : goal.invariant-loop-i
invariant-loop-i l = (l.i ≤ places) × (first_below l.i (faulty l.order) ≡ none) × Met l.met (take l.i l.order)
