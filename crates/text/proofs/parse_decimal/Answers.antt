-- `parse_decimal` meets its contract. Assumes nothing.
use Prim.Native.Nat.{◌-◌}
use mathlib.Core.Path.{refl, sym, ap, ◌∙◌}
use native.Mathlib.Omega.{arith}
use lib.ListN.{take, get_or}
use borrow.Author.Tests.{eqb-false}
use Rattle.text.specs.Text.{decimal_from, kept}
use Rattle.text.proofs.Decimals.{kept_more, every_more, decimal_more, whole}
use Rattle.text.proofs.parse_decimal.Goals as goal

pub loop-b-init : goal.loop-b-init
unfolding kept
loop-b-init c = (refl, refl)

pub loop-b-preserved : goal.loop-b-preserved
loop-b-preserved c =
    let l = c.loop-b in
    let s = c.args.text.now in
    let i = l.b-index in (
      every_more s i (omega arith) (omega arith) (omega arith) l.invariant.0,
      c.appended-value.ensures ∙ rw l.invariant.1 (kept_more (decimal_from 0 (take i s)) (get_or s i 0 - 48) (omega arith)) ∙ ap kept (sym (decimal_more s i (omega arith))),
    )

pub returns : goal.returns
returns c =
    let l = c.loop-b in
    whole _ l.b-index l.value (omega (arith, eqb-false _ _ (sym c.is_empty.ensures ∙ c.if-is_empty.false))) (omega arith) l.invariant.0 l.invariant.1
