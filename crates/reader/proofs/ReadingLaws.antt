-- Laws of reading, proved. Assumes nothing.
use Rattle.reader.specs.ReadingLaws.{ReadingLaws}
use Rattle.reader.proofs.Run.{parse_nil, parse_whole}
use Rattle.reader.proofs.Laws.{accepted_legal, same_record}
use Rattle.reader.proofs.Copies.{copy_refused, never_twice}
use Rattle.reader.proofs.Indexed.{read_recorded, read_faulty}

pub reading_laws : ReadingLaws
reading_laws =
    record {
      parse_nil = parse_nil;
      parse_whole = parse_whole;
      accepted_legal = accepted_legal;
      same_record = same_record;
      copy_refused = λ a w b u more s r c k. copy_refused a w b u more c s r k;
      never_twice = λ a w b u more s r c k. never_twice a w b u more c s r k;
      read_indexed = read_recorded;
      read_fault = read_faulty;
    }
