-- Laws of resumption: what is resumed to, from record to record.
use Rattle.std.specs.Prelude.{◌≡◌, true}
use Rattle.refusal.specs.Outcome.{accepted}
use Rattle.record.specs.declared.TransportParameters.{TransportParameters}
use Rattle.record.specs.Record.{well_formed}
use Rattle.resumption.specs.Resumption.{resume}

pub record ResumptionLaws : Type 0 where
  -- a well-formed record is resumed to from itself
  pub itself : (r : TransportParameters) → well_formed r ≡ true → resume r r ≡ accepted tt
  -- from one to a second, and from that to a third: then from the first to the third
  pub through :
      (a b c : TransportParameters) → resume b a ≡ accepted tt → resume c b ≡ accepted tt
      → resume c a ≡ accepted tt
