-- Words that several crates' definitions use.
use Rattle.std.specs.Prelude.{ℕ, zero, suc, ◌+◌, ◌*◌, ◌/◌, ◌%◌, ◌^◌, ◌<◌, ◌≡◌, Bool, true, false, ◌&&◌, ◌||◌, List, [], ◌∷◌, ◌++◌, length, get_or, take, drop, eqb, ltb}

-- every element passes
abbrev pub every : (ℕ → Bool) → List ℕ → Bool
every f [] = true
every f (x ∷ xs) = f x && every f xs

-- every byte is zero
abbrev pub zeros : List ℕ → Bool
zeros [] = true
zeros (b ∷ bs) = eqb b 0 && zeros bs

-- x is one of the elements
abbrev pub member : ℕ → List ℕ → Bool
member x [] = false
member x (y ∷ ys) = eqb x y || member x ys

-- two lists hold the same
abbrev pub same_bytes : List ℕ → List ℕ → Bool
same_bytes [] [] = true
same_bytes [] (y ∷ ys) = false
same_bytes (x ∷ xs) [] = false
same_bytes (x ∷ xs) (y ∷ ys) = eqb x y && same_bytes xs ys

-- the number that the bytes make, most significant first, after the number a
abbrev pub value_from : ℕ → List ℕ → ℕ
value_from a [] = a
value_from a (b ∷ bs) = value_from (a * 256 + b) bs

-- the low n bytes of v, most significant first
abbrev pub bytes_of : ℕ → ℕ → List ℕ
bytes_of zero v = []
bytes_of (suc n) v = v / 256 ^ n % 256 ∷ bytes_of n v

-- numbers of w bytes each, one after another: their bytes, and n numbers of some bytes. Where these
-- end a number has the bytes that are left, and then it is 0
unfoldable pub numbers_bytes : ℕ → List ℕ → List ℕ
numbers_bytes w [] = []
numbers_bytes w (x ∷ xs) = bytes_of w x ++ numbers_bytes w xs

unfoldable pub numbers_of : ℕ → ℕ → List ℕ → List ℕ
numbers_of w zero bs = []
numbers_of w (suc n) bs = value_from 0 (take w bs) ∷ numbers_of w n (drop w bs)

-- the number that the bytes make, low byte first
abbrev pub word_of : List ℕ → ℕ
word_of [] = 0
word_of (b ∷ bs) = b + 256 * word_of bs

-- each is below 256, as a byte's type says
abbrev pub bytewise : List ℕ → Bool
bytewise bs = every (λ b. ltb b 256) bs

-- r is the number that the bytes make
pub record Word (bs : List ℕ) (r : ℕ) : Type 0 where
  pub is : r ≡ word_of bs
  pub low : bytewise bs ≡ true
  pub small : r < 256 ^ length bs

-- n elements from place i on, 0 where there is none
unfoldable pub elements : ℕ → ℕ → List ℕ → List ℕ
elements zero i s = []
elements (suc n) i s = get_or s i 0 ∷ elements n (suc i) s
