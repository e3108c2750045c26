-- Laws of places and identifiers, proved. Assumes nothing.
use borrow.Author.Tests.{ne_eqb}
use Rattle.catalogue.specs.PlaceLaws.{PlaceLaws}
use Rattle.catalogue.proofs.Places.{place_of_id, id_of_place, reserved_unknown}

pub place_laws : PlaceLaws
place_laws =
    record {
      place_of_id = λ p h n. place_of_id p h (ne_eqb p 11 n);
      id_of_place = id_of_place;
      reserved_unknown = reserved_unknown;
    }
