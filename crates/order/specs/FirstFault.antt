-- What the position of an order's first fault says, of entries and positions alone.
use Rattle.std.specs.Prelude.{ℕ, ◌≤◌, ◌<◌, ◌≡◌, List, ◌++◌, ◌↔◌, ◌⊎◌, true, length, get_or}
use Rattle.std.proofs.Math.Option.{none, some}
use Rattle.catalogue.specs.Catalogue.{places}
use Rattle.order.specs.Order.{permutation, order_fault}

pub record FirstFault : Type 0 where
  -- there is none exactly for a permutation
  pub nothing : (os : List ℕ) → (order_fault os ≡ none) ↔ (permutation os ≡ true)
  -- the entry there is out of range, or equals an earlier one,
  pub entry :
      (os : List ℕ) (k : ℕ) → order_fault os ≡ some k → k < length os
      → (places ≤ get_or os k 0) ⊎ ((j : ℕ) × (j < k) × (get_or os j 0 ≡ get_or os k 0))
  -- and every entry before it is a place, none equal to an earlier one
  pub in_range :
      (os : List ℕ) (k j : ℕ) → order_fault os ≡ some k → j < k → get_or os j 0 < places
  pub unequal :
      (os : List ℕ) (k j i : ℕ) → order_fault os ≡ some k → j < k → i < j
      → get_or os i 0 ≡ get_or os j 0 → ⊥
  -- where no entry stands there, it is the length, and entries are only missing
  pub missing :
      (os : List ℕ) (k : ℕ) → order_fault os ≡ some k → length os ≤ k
      → (k ≡ length os) × (k < places)
  -- of more than 22 entries one of the first 23 is at fault, and what follows these changes nothing
  pub within :
      (os : List ℕ) → places < length os → (k : ℕ) × (k ≤ places) × (order_fault os ≡ some k)
  pub behind :
      (os more : List ℕ) → places < length os → order_fault (os ++ more) ≡ order_fault os
