-- `image::put_rest` meets its contract. Assumes nothing.
use native.Mathlib.Omega.{arith}
use borrow.Author.Rules.{rules}
use mathlib.Core.Path.{◌≡◌, refl}
use Rattle.image.specs.Image.{eight_bytes, rest_parts}
use Rattle.image.proofs.Stores.{behind, done, laid, flag_stored, eight}
use Rattle.image.proofs.put_rest.Goals as goal

pub returns : goal.returns
unfolding rest_parts eight_bytes
returns c =
    let x = c.args.r.now.grease_transport_parameter in
    let id : c.to_be_bytes.result ≡ eight_bytes x.id = search rules in
    laid c.args.out.now 255 (rest_parts c.args.r.now)
    (behind {k = 264} c.put_behind.ensures.stored (flag_stored x.present c.from.ensures) id (omega (arith, eight x.id))
    (behind {k = 281} c.put_behind-2.ensures.stored refl refl (omega arith)
    (behind c.put_behind-3.ensures.stored (flag_stored c.args.r.now.write_order.present c.from-2.ensures) refl refl done)))
