-- `image::put_versions` meets its contract. Assumes nothing.
use mathlib.Core.Path.{refl}
use Rattle.image.specs.Image.{versions_parts}
use Rattle.image.proofs.Stores.{byte, behind, done, laid, flag_stored}
use Rattle.image.proofs.put_versions.Goals as goal

pub returns : goal.returns
unfolding versions_parts
returns c =
    let v = c.args.v.now in
    laid c.args.out.now 304 (versions_parts v)
    (byte (flag_stored v.present c.from.ensures)
    (behind c.put_behind.ensures.stored refl c.to_bytes.ensures refl done))
