-- Laws of the number that hexadecimal digits make. Assumes nothing.
--     no_digit          a character that is none
--     empty, long, strange    texts that are no number
--     Read              what is so of the first i characters, digits that make v; and what follows
--                       from it:
--       start, read_more    before the first, and one character later
--       room, whole    there is room for one more digit; and what the whole text is
use Prim.Native.Nat.{ℕ, ◌+◌, ◌*◌, ◌^◌, ◌≤◌, ◌<◌}
use mathlib.Core.Path.{◌≡◌, refl}
use mathlib.Core.List.{List, [], ◌∷◌, ◌++◌}
use mathlib.Core.Logic.{◌⊎◌, inl, inr}
use mathlib.Core.Bool.{true}
use native.Mathlib.Omega.{arith}
use lib.ListN.{length, get_or, take}
use lib.Seq.{take_all}
use lib.Pow.{pow_mono}
use borrow.Author.Tests.{lt-ltb, le-ltb, le-leb, lt-leb}
use Rattle.std.proofs.Math.Bool.{and-false}
use Rattle.std.proofs.lemmas.Nat.{pow-add}
use Rattle.std.specs.Prelude.{Some, None}
use Rattle.words.specs.Words.{every}
use Rattle.words.proofs.Laws.{every_append}
use Rattle.text.specs.declared.Character.{Character}
use Rattle.text.specs.declared.Character.TheVariants.{Digit, Gap, Other}
use Rattle.text.specs.Text.{IsCharacter, digit_of, hex_from, is_digit, hex_number}
use Rattle.text.proofs.Decimals.{more, not_every}

pub no_digit : (b : ℕ) (x : Character) → IsCharacter b x → (x ≡ Gap) ⊎ (x ≡ Other) → 16 ≤ digit_of b
no_digit b (Digit d) i (inl e) = cc
no_digit b (Digit d) i (inr e) = cc
no_digit b Gap i e = omega (arith, i)
no_digit b Other i e = omega (arith, i)

pub empty : (s : List ℕ) → length s ≡ 0 → None ≡ hex_number s
unfolding hex_number
empty s h = rw (le-ltb 0 (length s) (omega arith))

pub long : (s : List ℕ) → 8 < length s → None ≡ hex_number s
unfolding hex_number
long s h = rw (lt-leb (length s) 8 h, and-false)

hex_append : (a b : List ℕ) (v : ℕ) → hex_from v (a ++ b) ≡ hex_from (hex_from v a) b
hex_append [] b v = refl
hex_append (x ∷ a) b v = hex_append a b (16 * v + digit_of x)

pub record Read (s : List ℕ) (i v : ℕ) : Type 0 where
  pub digits : every is_digit (take i s) ≡ true
  pub is : v ≡ hex_from 0 (take i s)
  pub small : v < 2 ^ (4 * i)

pub start : (s : List ℕ) → Read s 0 0
start s = record { digits = refl; is = refl; small = omega arith }

module _ (s : List ℕ) (i : ℕ) (h : i < length s) where
  pub strange : 16 ≤ digit_of (get_or s i 0) → None ≡ hex_number s
  unfolding hex_number
  strange d = rw (not_every is_digit s i h (le-ltb (digit_of (get_or s i 0)) 16 d), and-false, and-false)

  module _ (v : ℕ) (r : Read s i v) where
    pub room : length s ≤ 8 → (d : ℕ) → d < 16 → 16 * v + d < 2 ^ 32
    room k d e = let m : 2 ^ (4 * i) ≤ 2 ^ 28 = pow_mono {i = 4 * i} {j = 28} (omega arith) in omega (arith, r.small, m)

    pub read_more : (d : ℕ) → d ≡ digit_of (get_or s i 0) → d < 16 → Read s (i + 1) (16 * v + d)
    read_more d e k =
        let n : 4 * (i + 1) ≡ 4 * i + 4 = omega arith in
        record {
          digits = rw (more s i h, every_append is_digit (take i s) (get_or s i 0 ∷ []), r.digits, ← e, lt-ltb d 16 k);
          is = rw (more s i h, hex_append (take i s) (get_or s i 0 ∷ []) 0, ← r.is, ← e);
          small = rw (n, pow-add 2 (4 * i) 4) (omega (arith, r.small));
        }

pub whole : (s : List ℕ) (i v : ℕ) → 0 < length s → length s ≤ 8 → length s ≤ i → Read s i v → Some v ≡ hex_number s
unfolding hex_number
whole s i v h k l r =
    let t : take i s ≡ s = take_all i s l in
    let d : every is_digit s ≡ true = rw t at r.digits in
    rw (lt-ltb 0 (length s) h, le-leb (length s) 8 k, d, r.is, t)
