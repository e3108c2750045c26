-- `writer::Draft::cid` meets its contract. Assumes nothing.
use Rattle.writer.proofs.Parts.{cid_field}
use Rattle.writer.proofs.Draft.cid.Goals as goal

pub field-requires : goal.field-requires
field-requires c = (cid_field _ _ c.requires.0 c.from-n.ensures, c.requires.1)
