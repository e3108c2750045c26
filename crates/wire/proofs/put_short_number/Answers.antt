-- `wire::put_short_number` meets its contract. Assumes nothing.
use native.Mathlib.Omega.{arith}
use Rattle.wire.proofs.Put.{number_fits, encoded, number_declined}
use Rattle.wire.proofs.put_short_number.Goals as goal

pub returns-in_default : goal.returns-in_default
returns-in_default c = number_declined _ _ c.args.out.now c.requires _ _ (omega arith) c.in_default.ensures

pub overflow_cast-out-2 : goal.overflow_cast-out-2
overflow_cast-out-2 c = omega (arith, number_fits _ _ (encoded _ _ _ _ c.in-Ok.ensures).count)

pub overflow_add-result : goal.overflow_add-result
overflow_add-result c = omega (arith, number_fits _ _ (encoded _ _ _ _ c.in-Ok.ensures).count)
