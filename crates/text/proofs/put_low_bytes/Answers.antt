-- `put_low_bytes` meets its contract. Assumes nothing.
use Prim.Native.Nat.{◌/◌, ◌%◌}
use mathlib.Core.Path.{ap, ◌∙◌}
use mathlib.Core.Path.{◌≡◌}
use Rattle.std.specs.Int.Bits.{bit_and}
use Rattle.std.proofs.lemmas.Nat.{and_mask}
use native.Mathlib.Omega.{arith}
use Rattle.text.proofs.Decimals.{stored_out, byte_before, less}
use Rattle.text.proofs.put_low_bytes.Goals as goal

pub loop-k-preserved : goal.loop-k-preserved
loop-k-preserved c =
    let a = c.args in
    let l = c.loop-k in
    let m : bit_and l.rest 255 ≡ l.rest % 256 = and_mask l.rest 8 in
    let b = m ∙ ap (λ r. r % 256) l.invariant.0 in
    let e = stored_out _ _ l.out _ _ c.set.ensures in (
      ap (λ r. r / 256) l.invariant.0 ∙ less a.x l.k,
      rw (e.0, b) (byte_before a.out.now l.out a.at l.k a.n a.x (omega arith) l.invariant.1),
    )
