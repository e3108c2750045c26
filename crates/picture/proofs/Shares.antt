-- Shares: there is room for what they are made of, and none is over the whole. Assumes nothing.
use Prim.Native.Nat.{ℕ, ◌+◌, ◌*◌, ◌/◌, ◌^◌, ◌≤◌, ◌<◌}
use mathlib.Core.Path.{◌≡◌, sym}
use native.Mathlib.Omega.{arith}
use Rattle.std.specs.Prelude.{min}
use Rattle.std.proofs.Math.Nat.{div-zero, div-lt_iff_lt-mul, min-le_right}
use Rattle.std.proofs.lemmas.Nat.{mul-le}
use Rattle.picture.specs.Picture.{share_of}

pub room : (n m : ℕ) → n ≤ 100 → m < 2 ^ 64 → n * m < 2 ^ 71
room n m h k = let e : n * m ≤ 100 * 2 ^ 64 = mul-le n m 100 (2 ^ 64) h (omega arith) in omega arith

pub of_nothing : (n part : ℕ) → 0 ≡ share_of n part 0
of_nothing n part = sym (div-zero (n * min part 0 + 0 / 2))

pub at_most : (n part whole : ℕ) → 0 < whole → share_of n part whole ≤ n
at_most n part whole h =
    let e : n * min part whole ≤ n * whole = mul-le n (min part whole) n whole (omega arith) (min-le_right part whole) in
    let d : (n + 1) * whole ≡ n * whole + whole = grind arith in
    let k : share_of n part whole < n + 1 = (div-lt_iff_lt-mul h).1 (omega (arith, e, d)) in
    omega arith
