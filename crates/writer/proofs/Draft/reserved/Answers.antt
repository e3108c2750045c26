-- `writer::Draft::reserved` meets its contract. Assumes nothing.
use Rattle.writer.proofs.Parts.{reserved_field}
use Rattle.writer.proofs.Draft.reserved.Goals as goal

pub field-requires : goal.field-requires
field-requires c = (reserved_field _ _ c.requires.0 c.from-n.ensures, c.requires.1)
