-- `reader::family_in` meets its contract. Assumes nothing.
use Prim.Native.Nat.{◌-◌}
use mathlib.Core.Path.{◌≡◌, sym, ◌∙◌}
use native.Mathlib.Omega.{arith}
use lib.ListN.{length, drop, length-drop}
use lib.Seq.{take_all}
use Rattle.words.specs.Words.{value_from}
use Rattle.reader.proofs.Built.{port_is}
use Rattle.record.specs.Values.{family_in}
use Rattle.reader.proofs.family_in.Goals as goal

pub returns : goal.returns
unfolding family_in
returns g c =
    let v = c.args.v.now in
    let n = g.row.N in
    let e : drop n v ≡ c.array-2.result = sym (c.array-2.ensures ∙ take_all (length v - n) (drop n v) (rw length-drop (omega arith))) in
    let p : c.from_be_bytes.result ≡ value_from 0 (drop n v) = c.from_be_bytes.ensures ∙ rw (← e) (port_is (drop n v) (rw length-drop (omega arith))) in
    rw (c.all_zero.ensures, c.array.ensures, p)
