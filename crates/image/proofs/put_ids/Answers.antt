-- `image::put_ids` meets its contract. Assumes nothing.
use native.Mathlib.Omega.{arith}
use mathlib.Core.Path.{refl}
use Rattle.image.specs.Image.{optional_cid_parts, id_parts}
use Rattle.image.proofs.Stores.{group, behind, done, laid, flag_stored}
use Rattle.image.proofs.put_ids.Goals as goal

pub returns : goal.returns
unfolding id_parts
returns c =
    let r = c.args.r.now in
    laid c.args.out.now 108 (id_parts r)
    (group {k = 130} (optional_cid_parts r.original_dst_cid) c.put_optional_cid.ensures.stored (omega arith)
    (group {k = 152} (optional_cid_parts r.initial_src_cid) c.put_optional_cid-2.ensures.stored (omega arith)
    (group {k = 174} (optional_cid_parts r.retry_src_cid) c.put_optional_cid-3.ensures.stored (omega arith)
    (behind c.put_behind.ensures.stored (flag_stored r.stateless_reset_token.present c.from.ensures) refl refl done))))
