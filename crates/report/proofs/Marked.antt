-- The places named, as the number of marks set. Assumes nothing.
--     ones_marked     the ones of a mask are the places that it marks
use Prim.Native.Nat.{ℕ, zero, suc, ◌+◌, ◌/◌, ◌%◌, ◌^◌, ◌<◌}
use mathlib.Core.Path.{◌≡◌, refl, ap, sym, ◌∙◌}
use mathlib.Core.Bool.{Bool, true, false}
use native.Mathlib.Nat.{div-div-eq-div-mul, mul_comm, pow-suc, div-one}
use native.Mathlib.Omega.{arith}
use lib.Dec.{eqb}
use lib.Count.{ones, ones_step}
use borrow.Author.Tests.{eqb-true, eqb-false}
use Rattle.refusal.specs.Outcome.{pick}
use Rattle.marks.specs.Mark.{marked}
use Rattle.catalogue.specs.Sum.{sum}
use Rattle.catalogue.proofs.Sums.{sum_eq}

-- a sum by its first term
sum_front : (n : ℕ) (f : ℕ → ℕ) → sum (suc n) f ≡ f 0 + sum n (λ p. f (suc p))
unfolding sum
sum_front zero f = omega arith
sum_front (suc n) f = omega (arith, sum_front n f)

marked_half : (m p : ℕ) → marked (m / 2) p ≡ marked m (suc p)
unfolding marked
marked_half m p = ap (λ (x : ℕ). eqb (x % 2) 1) (div-div-eq-div-mul m 2 (2 ^ p) ∙ ap (λ (k : ℕ). m / k) (mul_comm 2 (2 ^ p) ∙ sym (pow-suc 2 p)))

low_bit : (m : ℕ) → m % 2 ≡ pick (marked m 0) 1 0
unfolding marked
low_bit m = rw (div-one m) (go (eqb (m % 2) 1) refl)
  where
    go : (b : Bool) → eqb (m % 2) 1 ≡ b → m % 2 ≡ pick b 1 0
    go true e = eqb-true (m % 2) 1 e
    go false e = let n = eqb-false (m % 2) 1 e in omega arith

pub ones_marked : (n m : ℕ) → m < 2 ^ n → ones m ≡ sum n (λ p. pick (marked m p) 1 0)
unfolding sum ones
ones_marked zero m h = let e : m ≡ 0 = omega arith in rw e
ones_marked (suc n) m h =
    let k : m / 2 < 2 ^ n = let q = pow-suc 2 n in omega arith in
    let s : sum n (λ p. pick (marked (m / 2) p) 1 0) ≡ sum n (λ p. pick (marked m (suc p)) 1 0)
    = sum_eq n (λ p. pick (marked (m / 2) p) 1 0) (λ p. pick (marked m (suc p)) 1 0) (λ p q. rw (marked_half m p)) in
    omega (arith, ones_step m, ones_marked n (m / 2) k, s, sum_front n (λ p. pick (marked m p) 1 0), low_bit m)
