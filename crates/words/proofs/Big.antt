-- Laws of numbers made of bytes, most significant first. Assumes nothing.
--     length_bytes_of, take_bytes_of    how many bytes they are; the first of them
--     bytes_above                       what stands above them
--     value_bytes_of, bytes_value       from a number to its bytes and back; from bytes to their
--                                       number and back
--     value_lt                          how large the number is
--     value_gathered                    the number, byte by byte
use Prim.Native.Nat.{ℕ, zero, suc, ◌+◌, ◌*◌, ◌/◌, ◌%◌, ◌^◌, ◌≤◌, ◌<◌}
use mathlib.Core.Path.{◌≡◌, refl, ap, ap₂}
use mathlib.Core.List.{List, [], ◌∷◌}
use native.Mathlib.Nat.{pow-succ', add-mul-div_left, add-mul, mul_assoc, mul_comm, add_assoc, one-le-pow, div-div-eq-div-mul}
use native.Mathlib.Omega.{arith}
use lib.ListN.{length, get_or, take, drop}
use lib.Seq.{drop-cons}
use lib.Pow.{pow-add}
use lib.Arith.{mod-mul, digits_div}
use Rattle.words.specs.Words.{value_from, bytes_of}

pub length_bytes_of : (n v : ℕ) → length (bytes_of n v) ≡ n
length_bytes_of zero v = refl
length_bytes_of (suc n) v = ap suc (length_bytes_of n v)

-- the low n bytes of v, read after a
pub value_bytes_of : (n a v : ℕ) → value_from a (bytes_of n v) ≡ a * 256 ^ n + v % 256 ^ n
value_bytes_of zero a v = omega arith
value_bytes_of (suc n) a v =
    rw (value_bytes_of n, pow-succ', mod-mul v {m = 256} (omega arith) (one-le-pow n 256 (omega arith)), add-mul, mul_assoc, add_assoc)

pub value_lt : (bs : List ℕ) (a c : ℕ) → ((i : ℕ) → get_or bs i 0 < 256) → a < c → value_from a bs < c * 256 ^ length bs
value_lt [] a c hs h = omega arith
value_lt (b ∷ bs) a c hs h =
    rw (pow-succ', ← mul_assoc) (value_lt bs (a * 256 + b) (c * 256) (λ i. hs (suc i)) (omega (arith, hs 0)))

-- n bytes of s from i on, one after another
abbrev pub gathered : ℕ → ℕ → ℕ → List ℕ → ℕ
gathered zero i a s = a
gathered (suc n) i a s = gathered n (suc i) (a * 256 + get_or s i 0) s

pub value_gathered : (n i a : ℕ) (s : List ℕ) → i + n ≤ length s → value_from a (take n (drop i s)) ≡ gathered n i a s
value_gathered zero i a s h = refl
value_gathered (suc n) i a s h =
    rw (drop-cons s i 0 (omega arith)) (value_gathered n (suc i) (a * 256 + get_or s i 0) s (omega arith))

-- the number before, and the number behind
value_parts : (l : List ℕ) (a : ℕ) → value_from a l ≡ a * 256 ^ length l + value_from 0 l
value_parts [] a = omega arith
value_parts (b ∷ l) a = rw (value_parts l (a * 256 + b), value_parts l (0 * 256 + b), pow-succ', add-mul, mul_assoc) (omega arith)

pub bytes_value : (l : List ℕ) (a : ℕ) → ((i : ℕ) → get_or l i 0 < 256) → bytes_of (length l) (value_from a l) ≡ l
bytes_value [] a hs = refl
bytes_value (b ∷ l) a hs =
    let h : value_from 0 l < 256 ^ length l = omega (arith, value_lt l 0 1 (λ i. hs (suc i)) (omega arith)) in
    let d : value_from (a * 256 + b) l / 256 ^ length l ≡ a * 256 + b = rw (value_parts l (a * 256 + b)) (digits_div (a * 256 + b) h) in
    let m : (a * 256 + b) % 256 ≡ b = omega (arith, hs 0) in
    ap₂ ◌∷◌ (rw (d, m)) (bytes_value l (a * 256 + b) (λ i. hs (suc i)))

-- the first bytes of a number are those of the number without its last
pub take_bytes_of : (n m k v : ℕ) → n + m ≡ k → take n (bytes_of k v) ≡ bytes_of n (v / 256 ^ m)
take_bytes_of zero m k v e = refl
take_bytes_of (suc n) m zero v e = absurd (omega arith)
take_bytes_of (suc n) m (suc k) v e =
    let q : m + n ≡ k = omega arith in
    ap₂ ◌∷◌ (rw (div-div-eq-div-mul v (256 ^ m) (256 ^ n), ← pow-add 256 m n, q)) (take_bytes_of n m k v (omega arith))

-- what stands above the low n bytes does not count
pub bytes_above : (n a v : ℕ) → bytes_of n (v + 256 ^ n * a) ≡ bytes_of n v
bytes_above zero a v = refl
bytes_above (suc n) a v =
    rw (pow-succ', mul_comm 256 (256 ^ n), mul_assoc (256 ^ n) 256 a)
    (ap₂ ◌∷◌ (rw (add-mul-div_left v (256 * a) (one-le-pow n 256 (omega arith))) (omega arith)) (bytes_above n (256 * a) v))
