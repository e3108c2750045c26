-- How long an extension is: the same in every order, and at most 385 bytes.
use Rattle.std.specs.Prelude.{ℕ, ◌≤◌, ◌≡◌, List, true, length}
use Rattle.catalogue.specs.Catalogue.{places}
use Rattle.catalogue.specs.Sum.{sum}
use Rattle.record.specs.declared.TransportParameters.{TransportParameters}
use Rattle.record.specs.Record.{well_formed}
use Rattle.order.specs.Order.{permutation, catalogue_order}
use Rattle.writer.specs.Writing.{parameter_at, extension}

pub record WritingLaws : Type 0 where
  -- in every order as long as the parameters of all places together
  pub any_order :
      (r : TransportParameters) (os : List ℕ) → permutation os ≡ true
      → length (extension r os) ≡ sum places (λ p. length (parameter_at r p))
  -- no well-formed record is longer than 385 bytes,
  pub at_most :
      (r : TransportParameters) (os : List ℕ) → well_formed r ≡ true → permutation os ≡ true
      → length (extension r os) ≤ 385
  -- and there is one of exactly so many
  pub reached :
      (r : TransportParameters)
      × ((well_formed r ≡ true) × (length (extension r catalogue_order) ≡ 385))
