-- Laws of orders: a permutation is 22 places, none of them twice; that is all of them.
use Rattle.std.specs.Prelude.{ℕ, ◌<◌, ◌≡◌, List, true}
use Rattle.words.specs.Words.{member}
use Rattle.catalogue.specs.Catalogue.{places}
use Rattle.order.specs.Order.{permutation, catalogue_order}

pub record OrderLaws : Type 0 where
  -- a permutation has every place
  pub every_place :
      (os : List ℕ) (p : ℕ) → permutation os ≡ true → p < places → member p os ≡ true
  -- catalogue order is one
  pub in_catalogue : permutation catalogue_order ≡ true
