-- Laws of orders, proved. Assumes nothing.
use Prim.Native.Nat.{ℕ, ◌<◌}
use mathlib.Core.Path.{◌≡◌}
use mathlib.Core.List.{List}
use mathlib.Core.Bool.{true}
use borrow.Author.Tests.{eqb-true}
use Rattle.refusal.proofs.Laws.{all_at}
use Rattle.words.specs.Words.{member}
use Rattle.catalogue.specs.Catalogue.{places}
use Rattle.order.specs.Order.{permutation}
use Rattle.order.specs.OrderLaws.{OrderLaws}
use Rattle.order.proofs.Orders.{full, in_catalogue}

every_place : (os : List ℕ) (p : ℕ) → permutation os ≡ true → p < places → member p os ≡ true
unfolding permutation
every_place os p h l = full os (all_at _ h 1) (eqb-true _ _ (all_at _ h 0)) p l

pub order_laws : OrderLaws
order_laws = record { every_place = every_place; in_catalogue = in_catalogue }
