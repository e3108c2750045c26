-- What holds of a record that is built.
use Rattle.std.specs.Prelude.{ℕ, ◌%◌, ◌^◌, ◌<◌, ◌≡◌, List, true}
use Rattle.refusal.specs.Outcome.{accepted}
use Rattle.connection_id.specs.declared.ConnectionId.{ConnectionId}
use Rattle.record.specs.declared.TransportParameters.{TransportParameters}
use Rattle.record.specs.Record.{well_formed}
use Rattle.order.specs.Order.{permutation}
use Rattle.building.specs.declared.Settings.{Settings}
use Rattle.building.specs.Building.{drawn_order, build}

-- it is well formed, has the order handed in, a permutation, and a reserved identifier
pub record Sound (order : List ℕ) (r : TransportParameters) : Type 0 where
  pub formed : well_formed r ≡ true
  pub order_kept : r.write_order ≡ drawn_order order
  pub ordered : permutation order ≡ true
  pub reserved : r.grease_transport_parameter.id % 31 ≡ 27
  pub below : r.grease_transport_parameter.id < 2 ^ 62

pub record BuildingLaws : Type 0 where
  pub built_sound :
      (s : Settings) (cid : ConnectionId) (draw : ℕ) (payload order : List ℕ)
      (r : TransportParameters) → build s cid draw payload order ≡ accepted r → Sound order r
