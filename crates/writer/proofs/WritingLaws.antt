-- How long an extension is, proved. Assumes nothing.
use Rattle.writer.specs.WritingLaws.{WritingLaws}
use Rattle.writer.proofs.Extension.{length_extension, longest, longest_record, reached}

pub writing_laws : WritingLaws
writing_laws = record { any_order = length_extension; at_most = longest; reached = (longest_record, reached) }
