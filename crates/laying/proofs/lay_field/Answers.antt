-- `laying::lay_field` meets its contract. Assumes nothing.
use native.Mathlib.Omega.{arith}
use Prim.Native.Nat.{◌+◌}
use mathlib.Core.Path.{◌≡◌, sym, ◌∙◌}
use mathlib.Core.Bool.{true}
use lib.ListN.{length}
use Rattle.wire.proofs.Put.{stored}
use Rattle.wire.proofs.Stored.{behind}
use Rattle.laying.proofs.Wide.{is_field, field_widely}
use Rattle.laying.proofs.lay_field.Goals as goal

pub returns : goal.returns
returns c =
    let whole : is_field c.args.n c.args.v.now ≡ true = sym c.is_field.ensures ∙ c.if-not-is_field.false in
    let a = c.put_wide-a.ensures in
    let m = c.put_wide-a.new.out in
    let v = c.args.v.now in
    rw c.if-not-due.false
    (field_widely _ _ v c.args.out.now whole (omega arith) (omega arith) _ _ _ a.count a.stored
    (stored _ v _ _ (behind (length v) (c.put_wide-a.result + 1) m (omega (arith, a.room))) c.put_bytes.ensures))
