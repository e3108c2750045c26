-- `address::put_cid_and_token` meets its contract: a well-formed ID is not refused. Assumes
-- nothing.
use native.Mathlib.Omega.{arith}
use mathlib.Core.Path.{◌≡◌}
use lib.ListN.{length}
use Rattle.address.proofs.Address.{cid_fits, cid_kept, token_behind}
use borrow.Author.Rules.{rules}
use Rattle.address.proofs.put_cid_and_token.Goals as goal

pub unwrap-at-requires : goal.unwrap-at-requires
unwrap-at-requires c = cid_fits _ _ c.args.out.now _ c.requires.0 (omega arith) c.encode_long.ensures

pub slice_bounds-put_bytes-count : goal.slice_bounds-put_bytes-count
slice_bounds-put_bytes-count c = omega (arith, (cid_kept _ _ _ c.args.out.now _ c.requires.0 (omega arith) c.encode_long.ensures c.unwrap-at.ensures).few)

pub slice_bounds-put_bytes-start : goal.slice_bounds-put_bytes-start
slice_bounds-put_bytes-start c = omega (arith, (cid_kept _ _ _ c.args.out.now _ c.requires.0 (omega arith) c.encode_long.ensures c.unwrap-at.ensures).few)

pub overflow_add-result : goal.overflow_add-result
overflow_add-result c =
    let long : length c.args.a.now.stateless_reset_token.bytes ≡ 16 = search rules in
    let kept = cid_kept _ _ _ c.args.out.now _ c.requires.0 (omega arith) c.encode_long.ensures c.unwrap-at.ensures in
    let stored = token_behind _ _ c.args.a.now.connection_id.len _ _ c.args.out.now _ _ c.requires.1 long kept c.put_bytes.ensures in
    omega (arith, stored.few)

pub returns : goal.returns
returns c =
    let long : length c.args.a.now.stateless_reset_token.bytes ≡ 16 = search rules in
    let kept = cid_kept _ _ _ c.args.out.now _ c.requires.0 (omega arith) c.encode_long.ensures c.unwrap-at.ensures in
    token_behind _ _ c.args.a.now.connection_id.len _ _ c.args.out.now _ _ c.requires.1 long kept c.put_bytes.ensures
