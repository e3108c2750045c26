-- Writing an extension (RFC 9000 section 18): the parameters due, in the order given, and what
-- writing answers; and the length of a record.
use Rattle.std.specs.Prelude.{ℕ, List, [], ◌∷◌, ◌++◌, length, take, eqb}
use Rattle.refusal.specs.Outcome.{Outcome, accepted, refused, pick, store}
use Rattle.record.specs.declared.TransportParameters.{TransportParameters}
use Rattle.record.specs.declared.ReservedTransportParameter.{ReservedTransportParameter}
use Rattle.record.specs.declared.WriteOrder.{WriteOrder}
use Rattle.catalogue.specs.Catalogue.{places, id_at, parameter, parameter_if}
use Rattle.catalogue.specs.Sum.{sum}
use Rattle.record.specs.Values.{values_of}
use Rattle.record.specs.Record.{well_formed}
use Rattle.order.specs.Order.{permutation, catalogue_order}

-- the reserved parameter, if present
unfoldable pub reserved_bytes : ReservedTransportParameter → List ℕ
reserved_bytes x = pick x.present (parameter x.id (take x.payload_len x.payload)) []

-- what is due at a place: places 0 to 10 unless they hold the default, the others if present or set
unfoldable pub parameter_at : TransportParameters → ℕ → List ℕ
parameter_at r p = pick (eqb p 11) (reserved_bytes r.grease_transport_parameter) (parameter_if (id_at p) (values_of r p))

abbrev pub concat_of : (ℕ → List ℕ) → List ℕ → List ℕ
concat_of f [] = []
concat_of f (p ∷ os) = f p ++ concat_of f os

-- the bytes due, in an order
unfoldable pub extension : TransportParameters → List ℕ → List ℕ
extension r os = concat_of (parameter_at r) os

-- no extension of a well-formed record is longer, in bytes (proofs/Extension.antt)
abbrev pub max_extension : ℕ
max_extension = 385

-- no order given means catalogue order
unfoldable pub order_of : WriteOrder → List ℕ
order_of o = pick o.present o.places catalogue_order

-- what writing answers, and the buffer afterwards: 7 for the record, 6 for the order, then 5
unfoldable pub write : TransportParameters → List ℕ → Outcome ℕ × List ℕ
write r out =
    pick (well_formed r)
    (pick (permutation (order_of r.write_order)) (store (extension r (order_of r.write_order)) out) (refused 6, out))
    (refused 7, out)

-- the length of a record: its parameters due, added up in catalogue order, whether or not its own
-- order is a permutation; 7 if it is not well formed
unfoldable pub length_of : TransportParameters → Outcome ℕ
length_of r = pick (well_formed r) (accepted (sum places (λ p. length (parameter_at r p)))) (refused 7)
