-- Laws of tidying, proved. Assumes nothing.
use Rattle.tidy.specs.TidyingLaws.{TidyingLaws}
use Rattle.tidy.proofs.Laws.{tidied}
use Rattle.tidy.proofs.Pieces.{whole}

pub tidying_laws : TidyingLaws
tidying_laws = record { tidied = tidied; whole = whole }
