-- Laws of orders. Assumes nothing.
--     first          what the first of distinct places is
--     weighed        a sum over distinct places is a sum over all places
--     at_most        no more than 22 places are distinct
--     full           every place is in an order of 22 distinct ones
--     weigh_all      so that a sum over the order is the sum over all places
--     in_catalogue   catalogue order is a permutation
use Prim.Native.Nat.{ℕ, zero, suc, ◌+◌, ◌≤◌, ◌<◌}
use mathlib.Core.Path.{◌≡◌, refl, ap, sym, ◌∙◌}
use mathlib.Core.List.{List, [], ◌∷◌}
use mathlib.Core.Bool.{Bool, true, false, ◌&&◌, ◌||◌, not}
use native.Mathlib.Omega.{arith}
use lib.ListN.{length}
use lib.Dec.{eqb, ltb}
use borrow.Author.Tests.{eqb-true, ltb-true, not-true}
use Rattle.std.proofs.lemmas.Bool.{and_parts}
use Rattle.refusal.specs.Outcome.{pick, all}
use Rattle.catalogue.specs.Catalogue.{places}
use Rattle.catalogue.specs.Sum.{sum}
use Rattle.catalogue.proofs.Sums.{but, sum_eq, sum_but}
use Rattle.words.specs.Words.{member}
use Rattle.order.specs.Order.{distinct, permutation, catalogue_order}

-- what an order of distinct places has of its first
pub record First (p : ℕ) (os : List ℕ) : Type 0 where
  pub below : p < places
  pub new : member p os ≡ false
  pub more : distinct os ≡ true

pub first : (p : ℕ) (os : List ℕ) → distinct (p ∷ os) ≡ true → First p os
first p os e =
    let a = and_parts (ltb p places) (not (member p os) && distinct os) e in
    let b = and_parts (not (member p os)) (distinct os) a.1 in
    record { below = ltb-true _ _ a.0; new = not-true _ b.0; more = b.1 }

-- w of the places in an order
abbrev in_order : (ℕ → ℕ) → List ℕ → ℕ → ℕ
in_order w os q = pick (member q os) (w q) 0

abbrev pub weigh : (ℕ → ℕ) → List ℕ → ℕ
weigh w [] = 0
weigh w (p ∷ os) = w p + weigh w os

none : (n : ℕ) (w : ℕ → ℕ) → sum n (in_order w []) ≡ 0
unfolding sum
none zero w = refl
none (suc n) w = omega (arith, none n w)

-- a sum over distinct places is a sum over all places
pub weighed : (w : ℕ → ℕ) (os : List ℕ) → distinct os ≡ true → weigh w os ≡ sum places (in_order w os)
weighed w [] e = sym (none places w)
weighed w (p ∷ os) e =
    let f = first p os e in
    let z : in_order w os p ≡ 0 = rw f.new in
    let s : sum places (in_order w (p ∷ os)) ≡ sum places (but (in_order w os) p (w p)) = sum_eq places (in_order w (p ∷ os)) (but (in_order w os) p (w p)) (λ q k. at q (eqb q p) (member q os) refl) in
    omega (arith, sum_but places (in_order w os) p (w p) f.below, weighed w os f.more)
  where
    at : (q : ℕ) (a b : Bool) → eqb q p ≡ a → pick (a || b) (w q) 0 ≡ pick a (w p) (pick b (w q) 0)
    at q true b e = ap w (eqb-true q p e)
    at q false b e = refl

length_weigh : (os : List ℕ) → weigh (λ q. 1) os ≡ length os
length_weigh [] = refl
length_weigh (p ∷ os) = omega (arith, length_weigh os)

ones : (n : ℕ) (f : ℕ → ℕ) → ((q : ℕ) → f q ≤ 1) → sum n f ≤ n
unfolding sum
ones zero f h = omega arith
ones (suc n) f h = omega (arith, ones n f h, h n)

-- no more than 22 places are distinct
pub at_most : (os : List ℕ) → distinct os ≡ true → length os ≤ places
at_most os d = omega (arith, weighed (λ q. 1) os d, length_weigh os, ones places (in_order (λ q. 1) os) (λ q. one (member q os)))
  where
    one : (a : Bool) → pick a 1 0 ≤ 1
    one true = omega arith
    one false = omega arith

-- every place is in an order of 22 distinct ones
pub full : (os : List ℕ) → distinct os ≡ true → length os ≡ places → (q : ℕ) → q < places → member q os ≡ true
full os d n q h = go (member q os) refl
  where
    one : (a b : Bool) → pick a 1 (pick b 1 0) ≤ 1
    one true b = omega arith
    one false true = omega arith
    one false false = omega arith

    go : (b : Bool) → member q os ≡ b → b ≡ true
    go true e = refl
    go false e =
        let z : in_order (λ q. 1) os q ≡ 0 = rw e in
        let s = ones places (but (in_order (λ q. 1) os) q 1) (λ k. one (eqb k q) (member k os)) in
        absurd (omega (arith, sum_but places (in_order (λ q. 1) os) q 1 h, weighed (λ q. 1) os d, length_weigh os))

pub weigh_all : (w : ℕ → ℕ) (os : List ℕ) → distinct os ≡ true → length os ≡ places → weigh w os ≡ sum places w
weigh_all w os d n = weighed w os d ∙ sum_eq places (in_order w os) w (λ q h. rw (full os d n q h))

pub in_catalogue : permutation catalogue_order ≡ true
unfolding permutation catalogue_order all
in_catalogue = refl
