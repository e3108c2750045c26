-- What the length of a record says of writing it, over `write` itself: the answer, and the buffer
-- afterwards.
use Rattle.std.specs.Prelude.{ℕ, ◌≤◌, ◌<◌, ◌≡◌, List, ◌↔◌, true, length}
use Rattle.refusal.specs.Outcome.{accepted, refused, front}
use Rattle.catalogue.specs.Catalogue.{places}
use Rattle.record.specs.declared.TransportParameters.{TransportParameters}
use Rattle.record.specs.Record.{having}
use Rattle.record.specs.Fields.{order_from}
use Rattle.order.specs.Order.{permutation}
use Rattle.writer.specs.Writing.{extension, order_of, write, length_of}

-- the record once its order is drawn
unfoldable pub drawn : TransportParameters → List ℕ → TransportParameters
drawn r os = having r.max_datagram_frame_size r.grease_transport_parameter (order_from true os) r

pub record Measure : Type 0 where
  -- whatever permutation is drawn later: writing stores exactly so many bytes, and refuses 5
  -- exactly if the buffer is shorter
  pub stored :
      (r : TransportParameters) (os out : List ℕ) (n : ℕ) → length_of r ≡ accepted n
      → permutation os ≡ true → n ≤ length out
      → write (drawn r os) out ≡ (accepted n, front (extension r os) out)
  pub too_short :
      (r : TransportParameters) (os out : List ℕ) (n : ℕ) → length_of r ≡ accepted n
      → permutation os ≡ true
      → (write (drawn r os) out ≡ (refused 5, out)) ↔ (length out < n)
  -- the same in the order that the record holds, or in catalogue order if it holds none
  pub stored_held :
      (r : TransportParameters) (out : List ℕ) (n : ℕ) → length_of r ≡ accepted n
      → permutation (order_of r.write_order) ≡ true → n ≤ length out
      → write r out ≡ (accepted n, front (extension r (order_of r.write_order)) out)
  pub too_short_held :
      (r : TransportParameters) (out : List ℕ) (n : ℕ) → length_of r ≡ accepted n
      → permutation (order_of r.write_order) ≡ true
      → (write r out ≡ (refused 5, out)) ↔ (length out < n)
  -- and what writing counted is the length
  pub counted :
      (r : TransportParameters) (out out' : List ℕ) (n : ℕ) → write r out ≡ (accepted n, out')
      → length_of r ≡ accepted n
  -- 7 by the one exactly if by the other
  pub ill_formed :
      (r : TransportParameters) (out : List ℕ)
      → (length_of r ≡ refused 7) ↔ (write r out ≡ (refused 7, out))
  -- an order is not tested: any 22 places leave the length as it is
  pub any_order :
      (r : TransportParameters) (os : List ℕ) (n : ℕ) → length_of r ≡ accepted n
      → length os ≡ places → length_of (drawn r os) ≡ accepted n
  -- nothing is longer than 385 bytes, and some record is as long
  pub at_most : (r : TransportParameters) (n : ℕ) → length_of r ≡ accepted n → n ≤ 385
  pub longest : (r : TransportParameters) × (length_of r ≡ accepted 385)
