-- `writer::write` meets its contract: the tests that led to each `return` pick the case of the
-- definition. Assumes nothing.
use native.Mathlib.Omega.{arith}
use mathlib.Core.Path.{◌≡◌, ap, ◌∙◌}
use mathlib.Core.Bool.{true}
use mathlib.Core.List.{List}
use Prim.Native.Nat.{ℕ, ◌+◌}
use lib.ListN.{replicate}
use Rattle.refusal.specs.Outcome.{store}
use Rattle.record.specs.Record.{well_formed}
use Rattle.order.specs.Order.{permutation}
use Rattle.writer.specs.Writing.{max_extension, order_of}
use Rattle.writer.proofs.Answers.{due, ready, write_stored}
use Rattle.writer.proofs.write.Goals as goal

pub put-requires : goal.put-requires
unfolding order_of
put-requires c =
    let well : well_formed c.args.r.now ≡ true = grind arith in
    let orderly : permutation (order_of c.args.r.now.write_order) ≡ true = grind arith in
    ready c.args.r.now well _ (replicate (max_extension + 32) 0) _ _ (omega arith) orderly c.catalogue-n.ensures (omega arith)

pub returns : goal.returns
unfolding order_of
returns c =
    let a = c.args in
    let w : well_formed c.args.r.now ≡ true = grind arith in
    let p : permutation (order_of c.args.r.now.write_order) ≡ true = grind arith in
    let d = due a.r.now w _ (replicate (max_extension + 32) 0) _ _ (omega arith) p c.catalogue-n.ensures (omega arith) in
    c.put.ensures ∙ ap (λ (bs : List ℕ). store bs a.out.now) d ∙ write_stored a.r.now a.out.now w p
