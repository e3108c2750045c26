-- `writer::Draft::put` meets its contract. Assumes nothing.
use native.Mathlib.Omega.{arith}
use Prim.Native.Nat.{ℕ}
use mathlib.Core.Path.{◌≡◌}
use Rattle.writer.proofs.Answers.{laid_ordered, laid_plain, copied_count}
use Rattle.writer.proofs.Draft.put.Goals as goal

pub returns-then-order : goal.returns-then-order
returns-then-order c = laid_ordered _ _ _ _ c.args.out.now _ _ _ _ c.if-order.true c.requires (omega arith) c.put_ordered.ensures

pub returns : goal.returns
returns c =
    let k = copied_count _ _ _ _ c.args.out.now _ _ _ c.if-order.false c.requires (omega arith) c.put_bytes.ensures in
    laid_plain _ _ _ _ c.args.out.now _ _ _ _ (omega (arith, k)) c.if-order.false c.requires (omega arith) c.put_bytes.ensures
