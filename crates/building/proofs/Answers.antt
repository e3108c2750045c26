-- What the tests that the code makes of draws and orders show. Assumes nothing.
use Prim.Native.Nat.{ℕ, ◌-◌, ◌<◌, ◌≤◌}
use mathlib.Core.Path.{◌≡◌}
use mathlib.Core.List.{List}
use mathlib.Core.Bool.{true}
use native.Mathlib.Omega.{arith}
use lib.ListN.{length}
use borrow.Author.Tests.{eqb-true}
use Rattle.std.proofs.lemmas.Bool.Decides.{nat_tests}
use Rattle.refusal.proofs.Laws.{all_at}
use Rattle.varint.specs.Number.{bound}
use Rattle.order.specs.Order.{permutation}
use Rattle.catalogue.specs.Catalogue.{places}
use Rattle.building.specs.Building.{draw_fits}

pub draw_facts : (d : ℕ) (payload : List ℕ) → draw_fits d payload ≡ true → (d < bound - 27) × (length payload ≤ 15)
unfolding draw_fits
draw_facts d payload h = grind (arith, nat_tests)

pub order_length : (order : List ℕ) → permutation order ≡ true → length order ≡ places
unfolding permutation
order_length order h = eqb-true _ _ (all_at _ h 0)
