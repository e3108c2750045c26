-- `imaged::record_at` meets its contract. Assumes nothing.
use Rattle.image.specs.Image.{record_at}
use Rattle.imaged.proofs.record_at.Goals as goal

pub returns : goal.returns
unfolding record_at
returns c =
    simp (
      c.numbers_at.ensures,
      c.flag_at.ensures,
      c.optional_at.ensures,
      c.optional_cid_at.ensures,
      c.flag_at-2.ensures,
      c.optional_at-2.ensures,
      c.optional_cid_at-2.ensures,
      c.optional_cid_at-3.ensures,
      c.flag_at-3.ensures,
      c.token_at.ensures,
      c.address_at.ensures,
      c.versions_at.ensures,
      c.flag_at-4.ensures,
      c.number_at.ensures,
      c.bytes_at.ensures,
      c.flag_at-5.ensures,
      c.bytes_at-2.ensures,
    )
