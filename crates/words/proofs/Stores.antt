-- Bytes stored at a place. Assumes nothing.
--     sets_append    bytes stored, and more behind them
--     stored_then    the same of two stores
use Prim.Native.Nat.{ℕ, suc, ◌+◌}
use mathlib.Core.Path.{◌≡◌, ap₂, sym, ◌∙◌}
use mathlib.Core.List.{List, [], ◌∷◌, ◌++◌}
use native.Mathlib.Nat.{add-zero}
use native.Mathlib.Omega.{arith}
use lib.ListN.{length, set}
use lib.Seq.{sets}

pub sets_append : (l : List ℕ) (at : ℕ) (xs ys : List ℕ) → sets l at (xs ++ ys) ≡ sets (sets l at xs) (at + length xs) ys
sets_append l at [] ys = rw add-zero
sets_append l at (x ∷ xs) ys =
    let e : suc at + length xs ≡ at + suc (length xs) = omega arith in
    sets_append (set l at x) (suc at) xs ys ∙ rw e

pub stored_then : (l m out xs ys : List ℕ) (at k : ℕ) → m ≡ sets l at xs → at + length xs ≡ k → out ≡ sets m k ys → out ≡ sets l at (xs ++ ys)
stored_then l m out xs ys at k e n f = f ∙ ap₂ (λ (t : List ℕ) (j : ℕ). sets t j ys) e (sym n) ∙ sym (sets_append l at xs ys)
