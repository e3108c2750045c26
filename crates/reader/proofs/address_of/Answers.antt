-- `reader::address_of` meets its contract. Assumes nothing.
use native.Mathlib.Omega.{arith}
use Rattle.reader.proofs.Built.{made_ok, cid_new, id_part, token_part, address_built}
use Rattle.reader.proofs.address_of.Goals as goal

pub array-requires : goal.array-requires
array-requires c = rw c.from-end.ensures (omega arith, token_part c.args.v.now c.requires)

pub unwrap-requires : goal.unwrap-requires
unwrap-requires c = made_ok _ _ c.new.ensures (rw c.from-end.ensures (id_part c.args.v.now c.requires))

pub returns : goal.returns
returns c =
    let v = c.args.v.now in
    let e = c.from-end.ensures in
    let d = cid_new _ _ _ c.new.ensures (rw e (id_part v c.requires)) c.unwrap.ensures in
    address_built v c.requires _ _ _ _ c.family_in.ensures c.family_in-2.ensures (rw e at d) (rw e at c.array.ensures)
