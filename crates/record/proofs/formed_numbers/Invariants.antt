-- `record::formed_numbers` meets its contract. The invariant: the bits met, and the rest, are below
-- 2 ^ 62 exactly if all are. Assumes nothing.
use mathlib.Core.Path.{◌≡◌}
use mathlib.Core.Bool.{◌&&◌}
use lib.ListN.{drop}
use lib.Dec.{ltb}
use Rattle.varint.specs.Number.{bound}
use Rattle.words.specs.Words.{every}
use Rattle.record.proofs.formed_numbers.Given as goal

abbrev pub invariant-loop-x : goal.invariant-loop-x
invariant-loop-x l = (ltb l.acc bound && every (λ x. ltb x bound) (drop l.x-index l.n)) ≡ every (λ x. ltb x bound) l.n
