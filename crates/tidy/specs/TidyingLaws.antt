-- Laws of tidying: what it stores.
use Rattle.std.specs.Prelude.{◌≡◌, List, ℕ}
use Rattle.refusal.specs.Outcome.{accepted, store}
use Rattle.record.specs.declared.TransportParameters.{TransportParameters}
use Rattle.record.specs.Values.{Bytes}
use Rattle.rules.specs.declared.Side.{Side}
use Rattle.index.specs.Index.{Found, indexed}
use Rattle.reader.specs.Reading.{read}
use Rattle.reader.specs.Kept.{record_kept}
use Rattle.order.specs.Order.{catalogue_order}
use Rattle.wire.specs.Stored.{joined}
use Rattle.writer.specs.Writing.{extension}
use Rattle.tidy.specs.Tidying.{tidy}
use Rattle.tidy.specs.Pieces.{pieces}

pub record TidyingLaws : Type 0 where
  -- what is stored of an accepted extension: the parameters of its record, in catalogue order
  pub tidied :
      (s : Side) (e out : List ℕ) (r : TransportParameters) → Bytes e → read s e ≡ accepted r
      → tidy s e out ≡ store (extension r catalogue_order) out
  -- these are the pieces that are found in the extension
  pub whole :
      (s : Side) (e : List ℕ) (f : Found) → Bytes e → indexed s e ≡ accepted f
      → joined (pieces e f) ≡ extension (record_kept e f) catalogue_order
