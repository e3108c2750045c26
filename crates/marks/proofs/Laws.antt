-- Laws of marks: a mark changes its own place (marked_same) and no other (marked_other); without
-- any, no place is marked (unmarked); marks of places below n are below 2 ^ n (mark_below). Assumes
-- nothing.
use Prim.Native.Nat.{ℕ, ◌/◌, ◌%◌, ◌^◌, ◌<◌, ◌≤◌}
use mathlib.Core.Bool.{true, false}
use mathlib.Core.Path.{◌≡◌, ap}
use native.Mathlib.Omega.{arith}
use lib.Dec.{eqb}
use borrow.Author.Tests.{eq-eqb}
use lib.Bits.{bit_or}
use Rattle.std.proofs.lemmas.Nat.{or_lt}
use Rattle.std.proofs.Math.Pow.{pow-lt}
use Rattle.std.proofs.lemmas.Nat.Bits.{bit_at_or, bit_at-lt, bit_at-zero, bit_at-pow_same, bit_at-pow_other, bit_at_above}
use Rattle.marks.specs.Mark.{marked, mark}

pub marked_same : (m k : ℕ) → marked (mark m k) k ≡ true
unfolding marked mark
marked_same m k = eq-eqb _ 1 (omega (arith, bit_at_or m (2 ^ k) k, bit_at-pow_same k, bit_at-lt m k))

pub marked_other : (m k j : ℕ) → (j ≡ k → ⊥) → marked (mark m k) j ≡ marked m j
unfolding marked mark
marked_other m k j ne =
    let same : bit_or m (2 ^ k) / 2 ^ j % 2 ≡ m / 2 ^ j % 2 = omega (arith, bit_at_or m (2 ^ k) j, bit_at-pow_other k j ne) in
    ap (λ (n : ℕ). eqb n 1) same

pub mark_below : (n m k : ℕ) → m < 2 ^ n → k < n → mark m k < 2 ^ n
unfolding mark
mark_below n m k h l = or_lt n m (2 ^ k) h (pow-lt l)

pub unmarked : (k : ℕ) → marked 0 k ≡ false
unfolding marked
unmarked k = rw (bit_at-zero k)

-- nothing from place 32 on
pub marked_beyond : (m k : ℕ) → m < 2 ^ 32 → 32 ≤ k → marked m k ≡ false
unfolding marked
marked_beyond m k h l = rw (bit_at_above m 32 k h l)
