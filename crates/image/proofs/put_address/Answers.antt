-- `image::put_address` meets its contract. Assumes nothing.
use native.Mathlib.Omega.{arith}
use mathlib.Core.Path.{refl}
use Rattle.record.specs.Values.{of_v4, of_v6}
use Rattle.image.specs.Image.{family_parts, address_parts}
use Rattle.image.proofs.Stores.{byte, put, behind, group, done, laid, flag_stored}
use Rattle.image.proofs.put_address.Goals as goal

pub returns : goal.returns
unfolding address_parts
returns c =
    let a = c.args.a.now in
    laid c.args.out.now 191 (address_parts a)
    (byte (flag_stored a.present c.from.ensures)
    (group {k = 199} (family_parts (of_v4 a.address_v4)) c.put_family.ensures.stored (omega arith)
    (group {k = 218} (family_parts (of_v6 a.address_v6)) c.put_family-2.ensures.stored (omega arith)
    (behind {k = 239} c.put_cid.ensures.stored refl refl (omega arith)
    (put c.put_array.ensures refl done)))))
