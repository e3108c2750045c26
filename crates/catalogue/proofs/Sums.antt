-- Sums over places, for any catalogue. Assumes nothing.
--     sum_le     a sum of smaller terms is smaller
--     sum_eq     a sum of the same terms is the same
--     sum_but    a sum with one term replaced
--     sum_more   a sum with one term more
use Prim.Native.Nat.{ℕ, zero, suc, ◌+◌, ◌≤◌, ◌<◌}
use mathlib.Core.Path.{◌≡◌, refl, ap}
use mathlib.Core.Bool.{Bool, true, false}
use native.Mathlib.Omega.{arith}
use native.Mathlib.Numerals.{add-one}
use lib.Dec.{eqb}
use borrow.Author.Tests.{ne_eqb, eqb-true, eqb-false}
use Rattle.refusal.specs.Outcome.{pick}
use Rattle.catalogue.specs.Sum.{sum}

-- f but x at p
abbrev pub but : (ℕ → ℕ) → ℕ → ℕ → ℕ → ℕ
but f p x q = pick (eqb q p) x (f q)

pub sum_le : (n : ℕ) (f g : ℕ → ℕ) → ((q : ℕ) → q < n → f q ≤ g q) → sum n f ≤ sum n g
unfolding sum
sum_le zero f g h = omega arith
sum_le (suc n) f g h = omega (arith, sum_le n f g (λ q k. h q (omega arith)), h n (omega arith))

pub sum_eq : (n : ℕ) (f g : ℕ → ℕ) → ((q : ℕ) → q < n → f q ≡ g q) → sum n f ≡ sum n g
unfolding sum
sum_eq zero f g h = refl
sum_eq (suc n) f g h = omega (arith, sum_eq n f g (λ q k. h q (omega arith)), h n (omega arith))

pub sum_but : (n : ℕ) (f : ℕ → ℕ) (p x : ℕ) → p < n → sum n (but f p x) + f p ≡ sum n f + x
unfolding sum
sum_but zero f p x h = absurd (omega arith)
sum_but (suc n) f p x h = go (eqb n p) refl (sum_but n f p x)
  where
    go : (t : Bool) → eqb n p ≡ t → (p < n → sum n (but f p x) + f p ≡ sum n f + x) → sum n (but f p x) + pick t x (f n) + f p ≡ sum n f + f n + x
    go true e ih =
        let i : n ≡ p = eqb-true n p e in
        let s : sum n (but f p x) ≡ sum n f = sum_eq n (but f p x) f (λ q k. rw (ne_eqb q p (omega arith))) in
        let j : f n ≡ f p = ap f i in
        omega arith
    go false e ih = let j = eqb-false n p e in omega (arith, ih (omega arith))

pub sum_more : (f : ℕ → ℕ) (p n m : ℕ) → n ≡ sum p f → m ≡ f p → n + m ≡ sum (p + 1) f
unfolding sum
sum_more f p n m e g = rw (e, g, add-one p)
