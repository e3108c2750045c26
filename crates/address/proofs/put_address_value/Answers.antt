-- `address::put_address_value` meets its contract. Assumes nothing.
use native.Mathlib.Omega.{arith}
use Prim.Native.Nat.{◌+◌}
use Rattle.wire.proofs.Stored.{wrote_three}
use Rattle.address.proofs.put_address_value.Goals as goal

pub returns : goal.returns
returns c =
    let a = c.args in
    let w = wrote_three 6 18 (17 + a.a.now.connection_id.len) 6 18 _ _ _ _ a.out.now _ _ _ (omega (arith, c.requires.1)) c.put_family.ensures c.put_family-2.ensures c.put_cid_and_token.ensures in
    record { count = omega (arith, w.count); few = omega (arith, w.few); bytes = w.bytes }
