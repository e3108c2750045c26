-- `value::check_address` meets its contract: the tests that led to each `return` pick the case.
-- Assumes nothing.
use native.Mathlib.Omega.{arith}
use mathlib.Core.Path.{sym, ◌∙◌}
use Rattle.value.proofs.Checks.{address_illegal, address_judged}
use Rattle.value.proofs.check_address.Goals as goal

pub returns-then-all_zero : goal.returns-then-all_zero
returns-then-all_zero c =
    let n = c.from-n.ensures in
    let l = rw n at c.if-v-end.false in
    address_illegal c.args.start c.args.v.now c.if-v-lt25.false (rw n at c.if-n-gt-MAX_SIZE.false) (omega (arith, l)) (sym c.all_zero.ensures ∙ c.if-all_zero.true)

pub returns : goal.returns
returns c =
    let n = c.from-n.ensures in
    let l = rw n at c.if-v-end.false in
    c.fits_if.ensures ∙ rw (n, c.stands.ensures) (address_judged c.args.start c.args.v.now c.if-v-lt25.false (rw n at c.if-n-gt-MAX_SIZE.false) (omega (arith, l)) (sym c.all_zero.ensures ∙ c.if-all_zero.false))
