-- Laws of numbers on the wire, proved. Assumes nothing.
use Rattle.varint.specs.NumberLaws.{NumberLaws}
use Rattle.varint.proofs.Laws.{read_number_bytes, read_form, read_within, read_bounds, read_count}

pub number_laws : NumberLaws
number_laws =
    record {
      read_number_bytes = read_number_bytes;
      read_form = read_form;
      read_within = read_within;
      read_bounds = read_bounds;
      read_count = read_count;
    }
