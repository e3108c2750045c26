-- Laws of characters, of decimal numbers, and of storing them. Assumes nothing.
--     stored_out        the buffer with a byte stored
--     range_is_not      what is in no range
--     decimal_digit, lower_digit, upper_digit, gap, other    what a character stands for
--     kept_more         a number as it is kept, with one more digit
--     not_every         a character that fails
--     more, rest, every_more, decimal_more    one more character
--     strange, empty, whole       what a text is: by a character that is no digit, without
--                                 characters, and with none but digits
--     byte_before, less      one more byte of a number, before those that are stored; the number
--                            without it
use Prim.Native.Nat.{ℕ, zero, suc, ◌+◌, ◌-◌, ◌*◌, ◌/◌, ◌%◌, ◌^◌, ◌≤◌, ◌<◌}
use mathlib.Core.Path.{◌≡◌, refl, ap, ◌∙◌}
use mathlib.Core.List.{List, [], ◌∷◌, ◌++◌}
use mathlib.Core.Bool.{Bool, true, false, ◌&&◌, ◌||◌}
use Rattle.std.proofs.Math.Bool.{and-false}
use native.Mathlib.Omega.{arith}
use native.Mathlib.Numerals.{add-one}
use lib.ListN.{length, get_or, take, drop, set, length-set}
use lib.Seq.{take-suc, drop-cons, take_all, sets, set_comm}
use native.Mathlib.Nat.{div-div-eq-div-mul, pow-succ', mul_comm}
use lib.Dec.{eqb, leb, ltb}
use borrow.Author.Tests.{eqb-true, lt-ltb, le-ltb, ltb-true, ltb-false, leb-true, le-leb, lt-leb}
use Rattle.refusal.specs.Outcome.{pick}
use Rattle.words.specs.Words.{every, bytes_of}
use Rattle.words.proofs.Laws.{every_append}
use Rattle.std.specs.Prelude.{Some, None}
use Rattle.text.specs.Text.{stored, in_range, is_gap, digit_of, decimal_from, kept, decimal}

pub stored_out : (p b : ℕ) (out l : List ℕ) (r : Bool) → (r, l) ≡ stored p b out → (l ≡ set out p b) × (length l ≡ length out)
stored_out p b out l r e =
    let f : l ≡ set out p b = ap (λ x. x.1) e in
    (f, ap length f ∙ length-set out p b)

range_is : (low high b : ℕ) → low ≤ b → b ≤ high → in_range low high b ≡ true
range_is low high b h k = rw (le-leb low b h, le-leb b high k)

pub range_is_not : (low high b : ℕ) → (low ≤ b → b ≤ high → ⊥) → in_range low high b ≡ false
range_is_not low high b h = go (leb low b) refl (leb b high) refl
  where
    go : (s : Bool) → leb low b ≡ s → (t : Bool) → leb b high ≡ t → (s && t) ≡ false
    go true e true f = absurd (h (leb-true low b e) (leb-true b high f))
    go true e false f = refl
    go false e t f = refl

-- what a character stands for
module _ (b : ℕ) where
  pub decimal_digit : 48 ≤ b → b ≤ 57 → digit_of b ≡ b - 48
  unfolding digit_of
  decimal_digit h k = rw (range_is 48 57 b h k)

  pub lower_digit : 97 ≤ b → b ≤ 102 → digit_of b ≡ b - 97 + 10
  unfolding digit_of
  lower_digit h k = rw (range_is_not 48 57 b (λ x y. omega arith), range_is 97 102 b h k)

  pub upper_digit : 65 ≤ b → b ≤ 70 → digit_of b ≡ b - 65 + 10
  unfolding digit_of
  upper_digit h k = rw (range_is_not 48 57 b (λ x y. omega arith), range_is_not 97 102 b (λ x y. omega arith), range_is 65 70 b h k)

  pub gap : is_gap 58 b ≡ true → digit_of b ≡ 16
  unfolding is_gap digit_of
  gap = go (eqb b 32) refl (eqb b 9) refl (eqb b 10) refl (eqb b 13) refl (eqb b 58) refl
    where
      go : (s : Bool) → eqb b 32 ≡ s → (t : Bool) → eqb b 9 ≡ t → (u : Bool) → eqb b 10 ≡ u → (v : Bool) → eqb b 13 ≡ v → (w : Bool) → eqb b 58 ≡ w
          → (s || (t || (u || (v || w)))) ≡ true → digit_of b ≡ 16
      go true e t f u g v h w k x = rw (eqb-true b 32 e)
      go false e true f u g v h w k x = rw (eqb-true b 9 f)
      go false e false f true g v h w k x = rw (eqb-true b 10 g)
      go false e false f false g true h w k x = rw (eqb-true b 13 h)
      go false e false f false g false h true k x = rw (eqb-true b 58 k)
      go false e false f false g false h false k x = cc

  pub other : is_gap 58 b ≡ false → (48 ≤ b → b ≤ 57 → ⊥) → (97 ≤ b → b ≤ 102 → ⊥) → (65 ≤ b → b ≤ 70 → ⊥) → digit_of b ≡ 17
  unfolding digit_of
  other e f g h = rw (range_is_not 48 57 b f, range_is_not 97 102 b g, range_is_not 65 70 b h, e)

pub ruleset characters = (decimal_digit, lower_digit, upper_digit, gap, other)

-- a number as it is kept, with one more digit
pub kept_more : (v d : ℕ) → d < 10 → pick (leb (2 ^ 60) (kept v)) (2 ^ 64 - 1) (10 * kept v + d) ≡ kept (10 * v + d)
unfolding kept
kept_more v d h = go (ltb (v / 10) (2 ^ 60)) refl (ltb ((10 * v + d) / 10) (2 ^ 60)) refl
  where
    go : (s : Bool) → ltb (v / 10) (2 ^ 60) ≡ s → (t : Bool) → ltb ((10 * v + d) / 10) (2 ^ 60) ≡ t
        → pick (leb (2 ^ 60) (pick s v (2 ^ 64 - 1))) (2 ^ 64 - 1) (10 * pick s v (2 ^ 64 - 1) + d) ≡ pick t (10 * v + d) (2 ^ 64 - 1)
    go true e true f = rw (lt-leb (2 ^ 60) v (omega (arith, ltb-true ((10 * v + d) / 10) (2 ^ 60) f)))
    go true e false f = rw (le-leb (2 ^ 60) v (omega (arith, ltb-false ((10 * v + d) / 10) (2 ^ 60) f)))
    go false e true f = absurd (omega (arith, ltb-true ((10 * v + d) / 10) (2 ^ 60) f, ltb-false (v / 10) (2 ^ 60) e))
    go false e false f = refl

decimal_append : (a b : List ℕ) (v : ℕ) → decimal_from v (a ++ b) ≡ decimal_from (decimal_from v a) b
decimal_append [] b v = refl
decimal_append (x ∷ a) b v = decimal_append a b (10 * v + (x - 48))

pub not_every : (f : ℕ → Bool) (l : List ℕ) (p : ℕ) → p < length l → f (get_or l p 0) ≡ false → every f l ≡ false
not_every f [] p h e = absurd (omega arith)
not_every f (x ∷ l) zero h e = rw e
not_every f (x ∷ l) (suc p) h e = rw (not_every f l p (omega arith) e) (and-false (f x))

-- one more character of a text
module _ (s : List ℕ) (i : ℕ) (h : i < length s) where
  pub more : take (i + 1) s ≡ take i s ++ (get_or s i 0 ∷ [])
  more = rw (add-one i) (take-suc s i 0 h)

  pub rest : drop i s ≡ get_or s i 0 ∷ drop (i + 1) s
  rest = rw (add-one i) (drop-cons s i 0 h)

  pub every_more : 48 ≤ get_or s i 0 → get_or s i 0 ≤ 57 → every (in_range 48 57) (take i s) ≡ true → every (in_range 48 57) (take (i + 1) s) ≡ true
  every_more d f e = rw (more, every_append (in_range 48 57) (take i s) (get_or s i 0 ∷ []), e, range_is 48 57 (get_or s i 0) d f)

  pub decimal_more : decimal_from 0 (take (i + 1) s) ≡ 10 * decimal_from 0 (take i s) + (get_or s i 0 - 48)
  decimal_more = rw (more, decimal_append (take i s) (get_or s i 0 ∷ []) 0)

  pub strange : (48 ≤ get_or s i 0 → get_or s i 0 ≤ 57 → ⊥) → None ≡ decimal s
  unfolding decimal
  strange d = rw (not_every (in_range 48 57) s i h (range_is_not 48 57 (get_or s i 0) d), and-false)

pub empty : (s : List ℕ) → length s ≡ 0 → None ≡ decimal s
unfolding decimal
empty s h = rw (le-ltb 0 (length s) (omega arith))

pub whole : (s : List ℕ) (i v : ℕ) → 0 < length s → length s ≤ i → every (in_range 48 57) (take i s) ≡ true → v ≡ kept (decimal_from 0 (take i s))
    → Some v ≡ decimal s
unfolding decimal
whole s i v h l e k =
    let t : take i s ≡ s = take_all i s l in
    rw (lt-ltb 0 (length s) h, rw t at e, rw t at k)

-- a byte stored before others
set_first : (vs l : List ℕ) (p q v : ℕ) → p < q → set (sets l q vs) p v ≡ sets (set l p v) q vs
set_first [] l p q v h = refl
set_first (w ∷ vs) l p q v h =
    set_first vs (set l q w) p (suc q) v (omega arith) ∙ ap (λ m. sets m (suc q) vs) (set_comm l q p w v (λ e. omega arith))

pub byte_before : (l m : List ℕ) (at k n x : ℕ) → k < n → m ≡ sets l (at + (n - k)) (bytes_of k x)
    → set m (at + (n - 1 - k)) (x / 256 ^ k % 256) ≡ sets l (at + (n - (k + 1))) (bytes_of (k + 1) x)
byte_before l m at k n x h s =
    let p : at + (n - k) ≡ suc (at + (n - 1 - k)) = omega arith in
    let q : n - (k + 1) ≡ n - 1 - k = omega arith in
    rw (s, p, q, add-one k) (set_first (bytes_of k x) l (at + (n - 1 - k)) (suc (at + (n - 1 - k))) (x / 256 ^ k % 256) (omega arith))

pub less : (x k : ℕ) → x / 256 ^ k / 256 ≡ x / 256 ^ (k + 1)
less x k = rw (add-one k, pow-succ', div-div-eq-div-mul x (256 ^ k) 256, mul_comm 256 (256 ^ k))
