-- Laws of the words of specs/Words.antt. Assumes nothing.
--     every_at, every_of    every element passes exactly if each does
--     same_itself, same_are    two lists hold the same exactly if they are equal
--     zeros_are         zeros are a list of zeros
--     zeros_replicate   a list of zeros is zeros
--     zeros_append      zeros, part by part
--     or_none           bits joined are none exactly if both are none
--     or_below          numbers joined bit by bit are below a power of two exactly if both are
--     zeros_drop        zeros from a place on: the byte there, and the rest
--     zeros_end         from the end on, only the bits met before count
--     member_drop, member_end    whether x is among the elements from a place on, and from the end
--                                on
--     or_beside         two numbers side by side in 64 bits
--     word_append       bytes as a number, part by part
--     zeros_word        bytes are zeros from a place on exactly if their number, shifted, is 0
--     in_first, in_second, in_third, in_none    a number of three words, shifted, is 0
use Prim.Native.Nat.{ℕ, zero, suc, ◌+◌, ◌-◌, ◌*◌, ◌/◌, ◌%◌, ◌^◌, ◌≤◌, ◌<◌}
use mathlib.Core.Path.{◌≡◌, refl, ap, ap₂, sym, ◌∙◌}
use mathlib.Core.List.{List, [], ◌∷◌, ◌++◌}
use mathlib.Core.Bool.{Bool, true, false, ◌&&◌, ◌||◌, and-true, and-false, and_assoc, or_assoc, or-false}
use native.Mathlib.Omega.{arith}
use lib.ListN.{length, get_or, take, drop, replicate, drop_of_length-le, length-drop}
use lib.Seq.{drop-cons, get_or-drop, take_all}
use lib.Bits.{bit_or, or_lt, or_add_and, and_le_l, and_le_r}
use lib.Dec.{eqb, ltb}
use borrow.Author.Tests.{lt-ltb, le-ltb, ltb-true, ltb-false, eq-eqb, ne_eqb, eqb-true, eqb-false}
use native.Mathlib.Nat.{pow-le-pow_right, one-le-pow, pow-succ', mul_assoc, mod-eq_of_lt, add-mul-div_left, div-eq_of_lt, div-lt_iff_lt-mul, div-one, zero-div}
use lib.Pow.{shr-shr}
use lib.Bits.{or_shifted}
use lib.Seq.{drop-drop, length-take-le}
use lib.ListN.{take-append-drop}
use Rattle.std.proofs.lemmas.Bool.{and_parts}
use Rattle.std.proofs.lemmas.Bool.Decides.{nat_tests}
use Rattle.std.proofs.lemmas.List.{drop_all, drop_more, drop-replicate}
use Rattle.std.proofs.lemmas.Nat.{le_or_l, le_or_r}
use Rattle.std.specs.Int.{w64, from_le_bytes}
use Rattle.words.specs.Words.{every, member, zeros, same_bytes, word_of, bytewise, Word, elements}

pub same_itself : (l : List ℕ) → same_bytes l l ≡ true
same_itself [] = refl
same_itself (b ∷ l) = rw (eq-eqb b b refl) (same_itself l)

pub same_are : (a b : List ℕ) → same_bytes a b ≡ true → a ≡ b
same_are [] [] h = refl
same_are [] (y ∷ b) h = cc
same_are (x ∷ a) [] h = cc
same_are (x ∷ a) (y ∷ b) h = let p = and_parts (eqb x y) (same_bytes a b) h in ap₂ ◌∷◌ (eqb-true x y p.0) (same_are a b p.1)

pub zeros_are : (l : List ℕ) → zeros l ≡ true → l ≡ replicate (length l) 0
zeros_are [] h = refl
zeros_are (b ∷ l) h = let p = and_parts (eqb b 0) (zeros l) h in ap₂ ◌∷◌ (eqb-true b 0 p.0) (zeros_are l p.1)

pub zeros_replicate : (n : ℕ) → zeros (replicate n 0) ≡ true
zeros_replicate zero = refl
zeros_replicate (suc n) = zeros_replicate n

pub zeros_append : (a b : List ℕ) → zeros (a ++ b) ≡ (zeros a && zeros b)
zeros_append [] b = refl
zeros_append (x ∷ a) b = ap (λ t. eqb x 0 && t) (zeros_append a b) ∙ sym (and_assoc (eqb x 0) (zeros a) (zeros b))

pub or_none : (a b : ℕ) → eqb (bit_or a b) 0 ≡ (eqb a 0 && eqb b 0)
or_none a b = grind (arith, nat_tests, or_add_and a b, and_le_l a b, and_le_r a b)

pub or_below : (k a b : ℕ) → ltb (bit_or a b) (2 ^ k) ≡ (ltb a (2 ^ k) && ltb b (2 ^ k))
or_below k a b = go (ltb a (2 ^ k)) refl (ltb b (2 ^ k)) refl
  where
    go : (s : Bool) → ltb a (2 ^ k) ≡ s → (t : Bool) → ltb b (2 ^ k) ≡ t → ltb (bit_or a b) (2 ^ k) ≡ (s && t)
    go true e true f = lt-ltb _ _ (or_lt k a b (ltb-true _ _ e) (ltb-true _ _ f))
    go true e false f = le-ltb _ _ (omega (arith, le_or_r a b, ltb-false b (2 ^ k) f))
    go false e t f = le-ltb _ _ (omega (arith, le_or_l a b, ltb-false a (2 ^ k) e))

-- the zeros from place i on, with the bits met before them
pub zeros_drop : (acc : ℕ) (l : List ℕ) (i : ℕ) → i < length l → (eqb acc 0 && zeros (drop i l)) ≡ (eqb (bit_or acc (get_or l i 0)) 0 && zeros (drop (i + 1) l))
zeros_drop acc l i h = rw (drop_more l i 0 h, or_none acc (get_or l i 0)) (sym (and_assoc (eqb acc 0) (eqb (get_or l i 0) 0) (zeros (drop (i + 1) l))))

pub zeros_end : (acc : ℕ) (l : List ℕ) (i : ℕ) → length l ≤ i → (eqb acc 0 && zeros (drop i l)) ≡ eqb acc 0
zeros_end acc l i h = rw (drop_all i l h) (and-true (eqb acc 0))

-- the elements from place i on, with what was met before them
pub member_drop : (met : Bool) (x : ℕ) (l : List ℕ) (i : ℕ) → i < length l → (met || member x (drop i l)) ≡ ((met || eqb x (get_or l i 0)) || member x (drop (i + 1) l))
member_drop met x l i h = rw (drop_more l i 0 h) (sym (or_assoc met (eqb x (get_or l i 0)) (member x (drop (i + 1) l))))

pub member_end : (met : Bool) (x : ℕ) (l : List ℕ) (i : ℕ) → length l ≤ i → (met || member x (drop i l)) ≡ met
member_end met x l i h = rw (drop_all i l h) (or-false met)

pub every_at : (f : ℕ → Bool) (l : List ℕ) → every f l ≡ true → (p : ℕ) → p < length l → f (get_or l p 0) ≡ true
every_at f [] h p k = absurd (omega arith)
every_at f (x ∷ l) h zero k = (and_parts (f x) (every f l) h).0
every_at f (x ∷ l) h (suc p) k = every_at f l (and_parts (f x) (every f l) h).1 p (omega arith)

pub every_of : (f : ℕ → Bool) (l : List ℕ) → ((p : ℕ) → p < length l → f (get_or l p 0) ≡ true) → every f l ≡ true
every_of f [] h = refl
every_of f (x ∷ l) h = rw (h 0 (omega arith)) (every_of f l (λ p k. h (suc p) (omega arith)))

-- two numbers side by side in 64 bits, the lower one in k of them
pub or_beside : (k a b : ℕ) → a * 2 ^ k < 2 ^ 64 → b < 2 ^ k → bit_or (a * 2 ^ k % 2 ^ 64) b ≡ a * 2 ^ k + b
or_beside k a b h hb = rw (mod-eq_of_lt h) (or_shifted a k b hb)

pub word_append : (a b : List ℕ) → word_of (a ++ b) ≡ word_of a + 256 ^ length a * word_of b
word_append [] b = omega arith
word_append (x ∷ a) b = rw (pow-succ', mul_assoc) (omega (arith, word_append a b))

-- a sum whose lower part is below 2 ^ 64
module _ (u x : ℕ) (h : u < 2 ^ 64) where
  pub above : (k : ℕ) → (u + 2 ^ 64 * x) / 2 ^ (64 + k) ≡ x / 2 ^ k
  above k = sym (shr-shr (u + 2 ^ 64 * x) 64 k) ∙ ap (λ y. y / 2 ^ k) (add-mul-div_left u x {y = 2 ^ 64} (omega arith) ∙ omega (arith, div-eq_of_lt h))

  pub within : (k : ℕ) → 2 ^ k ≤ 2 ^ 64 → 0 < 2 ^ k → eqb ((u + 2 ^ 64 * x) / 2 ^ k) 0 ≡ (eqb (u / 2 ^ k) 0 && eqb x 0)
  within k l p = go (eqb x 0) refl
    where
      go : (t : Bool) → eqb x 0 ≡ t → eqb ((u + 2 ^ 64 * x) / 2 ^ k) 0 ≡ (eqb (u / 2 ^ k) 0 && t)
      go true e =
          let z : u + 2 ^ 64 * x ≡ u = omega (arith, eqb-true x 0 e) in
          rw (z, and-true)
      go false e =
          ne_eqb _ 0 (λ (q : (u + 2 ^ 64 * x) / 2 ^ k ≡ 0).
          let b : u + 2 ^ 64 * x < 1 * 2 ^ k = (div-lt_iff_lt-mul {x = u + 2 ^ 64 * x} {y = 1} p).0 (omega arith) in absurd (omega (arith, eqb-false x 0 e)))
          ∙ sym (and-false (eqb (u / 2 ^ k) 0))

pub every_append : (f : ℕ → Bool) (a b : List ℕ) → every f (a ++ b) ≡ (every f a && every f b)
every_append f [] b = refl
every_append f (x ∷ a) b = ap (λ t. f x && t) (every_append f a b) ∙ sym (and_assoc (f x) (every f a) (every f b))

pub bytes_join : (a b : List ℕ) → bytewise a ≡ true → bytewise b ≡ true → bytewise (a ++ b) ≡ true
bytes_join a b h k = every_append (λ b. ltb b 256) a b ∙ rw (h, k)

pub zeros_word : (n : ℕ) (l : List ℕ) → bytewise l ≡ true → zeros (drop n l) ≡ eqb (word_of l / 2 ^ (8 * n)) 0
zeros_word zero l h = rw (div-one (word_of l)) (all_zero l)
  where
    all_zero : (l : List ℕ) → zeros l ≡ eqb (word_of l) 0
    all_zero [] = refl
    all_zero (b ∷ l) = rw (all_zero l) (both b (word_of l))
      where
        both : (b w : ℕ) → (eqb b 0 && eqb w 0) ≡ eqb (b + 256 * w) 0
        both b w = grind (arith, nat_tests)
zeros_word (suc n) [] h = sym (eq-eqb _ 0 (zero-div (2 ^ (8 * suc n))))
zeros_word (suc n) (b ∷ l) h =
    let p = and_parts (ltb b 256) (bytewise l) h in
    let q : (b + 256 * word_of l) / 2 ^ 8 ≡ word_of l = omega (arith, ltb-true b 256 p.0) in
    let k : 8 + 8 * n ≡ 8 * suc n = omega arith in
    zeros_word n l p.1 ∙ rw (← k, ← shr-shr (b + 256 * word_of l) 8 (8 * n), q)

-- three words, shifted by k bits
module _ (u v w k : ℕ) (hu : u < 2 ^ 64) (hv : v < 2 ^ 64) where
  two : eqb (v + 2 ^ 64 * w) 0 ≡ (eqb v 0 && eqb w 0)
  two = rw (div-one (v + 2 ^ 64 * w), div-one v) at (within v w hv 0 (omega arith) (omega arith))

  pub in_first : k ≤ 64 → eqb (bit_or (u / 2 ^ k) (bit_or v w)) 0 ≡ eqb ((u + 2 ^ 64 * (v + 2 ^ 64 * w)) / 2 ^ k) 0
  in_first h =
      or_none (u / 2 ^ k) (bit_or v w) ∙ ap (λ t. eqb (u / 2 ^ k) 0 && t) (or_none v w ∙ sym two)
      ∙ sym (within u (v + 2 ^ 64 * w) hu k (pow-le-pow_right {n = 2} (omega arith) h) (one-le-pow k 2 (omega arith)))

  pub in_second : (j : ℕ) → 64 + k ≡ j → k ≤ 64 → eqb (bit_or (v / 2 ^ k) w) 0 ≡ eqb ((u + 2 ^ 64 * (v + 2 ^ 64 * w)) / 2 ^ j) 0
  in_second j e h =
      or_none (v / 2 ^ k) w ∙ sym (within v w hv k (pow-le-pow_right {n = 2} (omega arith) h) (one-le-pow k 2 (omega arith)))
      ∙ rw (← e, above u (v + 2 ^ 64 * w) hu k)

  pub in_third : (j : ℕ) → 128 + k ≡ j → eqb (w / 2 ^ k) 0 ≡ eqb ((u + 2 ^ 64 * (v + 2 ^ 64 * w)) / 2 ^ j) 0
  in_third j e = let s : j ≡ 64 + (64 + k) = omega arith in rw (s, above u (v + 2 ^ 64 * w) hu (64 + k), above v w hv k)

pub in_none : (u v w j : ℕ) → u < 2 ^ 64 → v < 2 ^ 64 → w < 2 ^ 64 → 192 ≤ j → true ≡ eqb ((u + 2 ^ 64 * (v + 2 ^ 64 * w)) / 2 ^ j) 0
in_none u v w j hu hv hw h =
    let k = j - 192 in
    let s : j ≡ 64 + (64 + (64 + k)) = omega arith in
    rw (s, above u (v + 2 ^ 64 * w) hu (64 + (64 + k)), above v w hv (64 + k), ← shr-shr w 64 k, div-eq_of_lt hw, zero-div (2 ^ k))

elements_all : (n i : ℕ) (s : List ℕ) → i + n ≡ length s → elements n i s ≡ drop i s
unfolding elements
elements_all zero i s h = sym (drop_of_length-le s {i = i} (omega arith))
elements_all (suc n) i s h = rw (drop-cons s i 0 (omega arith)) (ap (λ t. get_or s i 0 ∷ t) (elements_all n (suc i) s (omega arith)))

-- the test of three words is that of their bytes
pub zero_words : (n u v w : ℕ) (r : Bool) (a b d : List ℕ) → length a ≡ 8 → length b ≡ 8 → Word a u → Word b v → Word d w
    → r ≡ eqb ((u + 2 ^ 64 * (v + 2 ^ 64 * w)) / 2 ^ (8 * n)) 0 → r ≡ zeros (drop n (a ++ (b ++ d)))
zero_words n u v w r a b d la lb x y z e =
    e ∙ rw (zeros_word n (a ++ (b ++ d)) (bytes_join a (b ++ d) x.low (bytes_join b d y.low z.low)), word_append a (b ++ d), word_append b d, la, lb, ← x.is, ← y.is, ← z.is)

-- an array's elements are the array
pub whole_array : (n : ℕ) (s : List ℕ) → length s ≡ n → elements n 0 s ≡ s
whole_array n s h = elements_all n 0 s (omega arith)

-- the bytes of a number below 2 ^ 64, low byte first
word_lt : (bs : List ℕ) → ((i : ℕ) → get_or bs i 0 < 256) → word_of bs < 256 ^ length bs
word_lt [] hs = omega arith
word_lt (b ∷ bs) hs = rw pow-succ' (omega (arith, word_lt bs (λ i. hs (suc i)), hs 0))

-- bytes stay below 256 in a part
pub bytes_take : (n : ℕ) (bs : List ℕ) → ((i : ℕ) → get_or bs i 0 < 256) → (i : ℕ) → get_or (take n bs) i 0 < 256
bytes_take zero bs h i = omega arith
bytes_take (suc n) [] h i = omega arith
bytes_take (suc n) (b ∷ bs) h zero = h 0
bytes_take (suc n) (b ∷ bs) h (suc i) = bytes_take n bs (λ j. h (suc j)) i

pub bytes_part : (n k : ℕ) (s : List ℕ) → ((i : ℕ) → get_or s i 0 < 256) → (i : ℕ) → get_or (take n (drop k s)) i 0 < 256
bytes_part n k s h = bytes_take n (drop k s) (λ i. rw get_or-drop (h (k + i)))

pub le_word : (bs : List ℕ) (r : ℕ) → length bs ≡ 8 → ((i : ℕ) → get_or bs i 0 < 256) → r ≡ from_le_bytes w64 bs → Word bs r
unfolding elements
le_word bs r h hs e =
    let i : word_of (elements 8 0 bs) ≡ word_of bs = ap word_of (whole_array 8 bs h) in
    let j : r ≡ word_of bs = omega (arith, e, i) in
    record { is = j; low = every_of (λ b. ltb b 256) bs (λ p k. lt-ltb _ _ (hs p)); small = rw j (word_lt bs hs) }

-- 24 bytes, eight to a word
three_words : (l : List ℕ) → length l ≡ 24 → take 8 l ++ (take 8 (drop 8 l) ++ take 8 (drop 16 l)) ≡ l
three_words l h =
    let t : take 8 (drop 16 l) ≡ drop 16 l = take_all 8 (drop 16 l) (omega (arith, length-drop 16 l)) in
    let d : drop 8 (drop 8 l) ≡ drop 16 l = drop-drop 8 8 l in
    rw (t, ← d, take-append-drop, take-append-drop)

pub zero_24 : (n u v w : ℕ) (r : Bool) (l : List ℕ) → length l ≡ 24 → Word (take 8 l) u → Word (take 8 (drop 8 l)) v → Word (take 8 (drop 16 l)) w
    → r ≡ eqb ((u + 2 ^ 64 * (v + 2 ^ 64 * w)) / 2 ^ (8 * n)) 0 → r ≡ zeros (drop n l)
zero_24 n u v w r l h x y z e =
    let a : length (take 8 l) ≡ 8 = length-take-le 8 l (omega arith) in
    let b : length (take 8 (drop 8 l)) ≡ 8 = length-take-le 8 (drop 8 l) (omega (arith, length-drop 8 l)) in
    rw (three_words l h) at (zero_words n u v w r (take 8 l) (take 8 (drop 8 l)) (take 8 (drop 16 l)) a b x y z e)

-- zeros behind them change nothing
pub zeros_behind : (n : ℕ) (l : List ℕ) (k : ℕ) → zeros (drop n (l ++ replicate k 0)) ≡ zeros (drop n l)
zeros_behind zero l k = zeros_append l (replicate k 0) ∙ rw (zeros_replicate k) (and-true (zeros l))
zeros_behind (suc n) [] k = rw drop-replicate (zeros_replicate (k - suc n))
zeros_behind (suc n) (b ∷ l) k = zeros_behind n l k
