-- A write order, of its two fields.
use Rattle.std.specs.Prelude.{ℕ, List, Bool}
use Rattle.record.specs.declared.WriteOrder.{WriteOrder}

abbrev pub order_from : Bool → List ℕ → WriteOrder
order_from p b = record { present = p; places = b }
