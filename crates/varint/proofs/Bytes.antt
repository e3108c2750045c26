-- Laws of the tag, and of the forms at every width. Assumes nothing.
use Prim.Native.Nat.{ℕ, zero, suc, ◌+◌, ◌-◌, ◌*◌, ◌/◌, ◌%◌, ◌^◌, ◌≤◌, ◌<◌}
use mathlib.Core.Path.{◌≡◌, refl, ap, ap₂, sym, ◌∙◌}
use mathlib.Core.List.{List, [], ◌∷◌, ◌++◌}
use native.Mathlib.Nat.{mul_comm, mul_assoc, add-mul-div_left, one-le-pow}
use native.Mathlib.Omega.{arith}
use lib.ListN.{length, get_or, take, drop, replicate, length-append, length-replicate}
use lib.Seq.{sets, sets-eq, take_all, drop-drop}
use Rattle.std.proofs.Common.{append-nil}
use Rattle.std.proofs.lemmas.List.{take-replicate}
use Rattle.std.specs.Int.{w64, from_be_bytes}
use lib.Dec.{leb}
use lib.Pow.{pow_mono}
use lib.Bits.{bit_or, bit_and, or_shifted, and_mask}
use borrow.Author.Tests.{ltb-true, ltb-false, lt-ltb, le-ltb, le-leb, lt-leb}
use Rattle.refusal.specs.Outcome.{accepted, refused, pick, front}
use Rattle.refusal.proofs.Laws.{pick_cases}
use Rattle.varint.specs.Number.{tag_of, form, number_bytes, with_saved, read_number}
use Rattle.words.specs.Words.{value_from, bytes_of}
use Rattle.words.proofs.Big.{length_bytes_of, bytes_above, gathered, value_gathered}

-- bytes stored one after another from the front on
pub stored : (vs out : List ℕ) → length vs ≤ length out → sets out 0 vs ≡ front vs out
unfolding front
stored vs out h = let e : 0 + length vs ≡ length vs = omega arith in rw e at (sets-eq vs out 0 (omega arith))

pub tag_cases : (v : ℕ) (P : ℕ → Type 0) → (v < 2 ^ 6 → P 0) → (2 ^ 6 ≤ v → v < 2 ^ 14 → P 1) → (2 ^ 14 ≤ v → v < 2 ^ 30 → P 2)
    → (2 ^ 30 ≤ v → P 3) → P (tag_of v)
unfolding tag_of
tag_cases v P p0 p1 p2 p3 =
    pick_cases P _ _ _ (λ h. p0 (ltb-true _ _ h)) λ h0.
    pick_cases P _ _ _ (λ h. p1 (ltb-false _ _ h0) (ltb-true _ _ h)) λ h1.
    pick_cases P _ _ _ (λ h. p2 (ltb-false _ _ h1) (ltb-true _ _ h)) λ h2. p3 (ltb-false _ _ h2)

pub tag_le : (v : ℕ) → tag_of v ≤ 3
tag_le v = tag_cases v (λ k. k ≤ 3) (λ _. omega arith) (λ _ _. omega arith) (λ _ _. omega arith) (λ _. omega arith)

pub tag_room : (v : ℕ) → v < 2 ^ 62 → v < 64 * 256 ^ (2 ^ tag_of v - 1)
tag_room v h =
    tag_cases v (λ k. v < 64 * 256 ^ (2 ^ k - 1))
    (λ a. omega arith) (λ a b. omega arith) (λ a b. omega arith) (λ a. omega arith)

-- a tag is one of four
pub four : (k : ℕ) (P : ℕ → Type 0) → k ≤ 3 → P 0 → P 1 → P 2 → P 3 → P k
four zero P h p0 p1 p2 p3 = p0
four (suc zero) P h p0 p1 p2 p3 = p1
four (suc (suc zero)) P h p0 p1 p2 p3 = p2
four (suc (suc (suc zero))) P h p0 p1 p2 p3 = p3
four (suc (suc (suc (suc k)))) P h p0 p1 p2 p3 = absurd (omega arith)

pub width_range : (k : ℕ) → k ≤ 3 → (1 ≤ 2 ^ k) × (2 ^ k ≤ 8)
width_range k h = four k (λ k. (1 ≤ 2 ^ k) × (2 ^ k ≤ 8)) h (omega arith) (omega arith) (omega arith) (omega arith)

pub tag_least : (v k : ℕ) → k ≤ 3 → v < 64 * 256 ^ (2 ^ k - 1) → tag_of v ≤ k
tag_least v k hk h =
    tag_cases v (λ t. t ≤ k)
    (λ a. omega arith) (λ a b. four k (λ k. v < 64 * 256 ^ (2 ^ k - 1) → 1 ≤ k) hk (omega arith) (omega arith) (omega arith) (omega arith) h)
    (λ a b. four k (λ k. v < 64 * 256 ^ (2 ^ k - 1) → 2 ≤ k) hk (omega arith) (omega arith) (omega arith) (omega arith) h)
    (λ a. four k (λ k. v < 64 * 256 ^ (2 ^ k - 1) → 3 ≤ k) hk (omega arith) (omega arith) (omega arith) (omega arith) h)

pub length_form : (k v : ℕ) → k ≤ 3 → length (form k v) ≡ 2 ^ k
unfolding form
length_form k v h = let r = width_range k h in rw length_bytes_of (omega arith)

-- a number that a form of k's size has room for
pub no_longer : (v k : ℕ) → k ≤ 3 → v < 64 * 256 ^ (2 ^ k - 1) → length (number_bytes v) ≤ 2 ^ k
no_longer v k hk h = rw (length_form (tag_of v) v (tag_le v)) (pow_mono (tag_least v k hk h))

-- the bits that a form of n bytes leaves, as its first byte says
pub bits_room : (s : List ℕ) (n v : ℕ) → ((i : ℕ) → get_or s i 0 < 256) → n ≡ 2 ^ (get_or s 0 0 / 64) → length (number_bytes (bit_and v ((2 ^ 62 - 1) / 2 ^ (64 - 8 * n)))) ≤ n
bits_room s n v hs e =
    let k : get_or s 0 0 / 64 ≤ 3 = omega (arith, hs 0) in
    rw e
    (four (get_or s 0 0 / 64) (λ k. length (number_bytes (bit_and v ((2 ^ 62 - 1) / 2 ^ (64 - 8 * 2 ^ k)))) ≤ 2 ^ k) k
    (no_longer _ 0 (omega arith) (omega (arith, and_mask v 6)))
    (no_longer _ 1 (omega arith) (omega (arith, and_mask v 14)))
    (no_longer _ 2 (omega arith) (omega (arith, and_mask v 30)))
    (no_longer _ 3 (omega arith) (omega (arith, and_mask v 62))))

pub read_none : (s : List ℕ) → length s ≡ 0 → refused 3 ≡ read_number s
unfolding read_number
read_none [] h = refl
read_none (b ∷ s) h = absurd (omega arith)

-- what stands in bytes whose first has the tag k
module _ (s : List ℕ) (k : ℕ) (h : 0 < length s) (e : k ≡ get_or s 0 0 / 64) where
  read_some : read_number s ≡ pick (leb (2 ^ k) (length s)) (accepted (with_saved (value_from (get_or s 0 0 % 64) (take (2 ^ k - 1) (drop 1 s))) (2 ^ k))) (refused 3)
  unfolding read_number
  read_some = rw e (go s h)
    where
      go : (s : List ℕ) → 0 < length s → read_number s ≡ pick (leb (2 ^ (get_or s 0 0 / 64)) (length s))
          (accepted (with_saved (value_from (get_or s 0 0 % 64) (take (2 ^ (get_or s 0 0 / 64) - 1) (drop 1 s))) (2 ^ (get_or s 0 0 / 64)))) (refused 3)
      go [] h = absurd (omega arith)
      go (b ∷ s) h = refl

  pub read_short : length s < 2 ^ k → refused 3 ≡ read_number s
  read_short l = sym (rw (lt-leb (2 ^ k) (length s) l) at read_some)

  pub read_whole : 2 ^ k ≤ length s → (n : ℕ) → 2 ^ k ≡ suc n → read_number s ≡ accepted (with_saved (gathered n 1 (get_or s 0 0 % 64) s) (suc n))
  read_whole l n q =
      let m : 2 ^ k - 1 ≡ n = omega arith in
      rw (le-leb (2 ^ k) (length s) l, m, q) at read_some
      ∙ ap (λ v. accepted (with_saved v (suc n))) (value_gathered n 1 (get_or s 0 0 % 64) s (omega arith))

-- a form of k's size, and the bytes of a word of which it is the low end
module _ (s : List ℕ) (hs : (i : ℕ) → get_or s i 0 < 256) (h : 0 < length s) where
  pub read_sized : (k v : ℕ) → k ≤ 3 → k ≡ get_or s 0 0 / 64 → 2 ^ k ≤ length s → v ≡ value_from 0 (take (2 ^ k) s)
      → accepted (with_saved (bit_and v ((2 ^ 62 - 1) / 2 ^ (64 - 8 * 2 ^ k))) (2 ^ k)) ≡ read_number s
  read_sized k v hk =
      four k (λ k. k ≡ get_or s 0 0 / 64 → 2 ^ k ≤ length s → v ≡ value_from 0 (take (2 ^ k) s) → accepted (with_saved (bit_and v ((2 ^ 62 - 1) / 2 ^ (64 - 8 * 2 ^ k))) (2 ^ k)) ≡ read_number s) hk
      (λ e l q. ap (λ x. accepted (with_saved x 1)) (omega (arith, q, value_gathered 1 0 0 s l, and_mask v 6)) ∙ sym (read_whole s 0 h e l 0 refl))
      (λ e l q. ap (λ x. accepted (with_saved x 2)) (omega (arith, q, value_gathered 2 0 0 s l, and_mask v 14, hs 0, hs 1)) ∙ sym (read_whole s 1 h e l 1 refl))
      (λ e l q. ap (λ x. accepted (with_saved x 4)) (omega (arith, q, value_gathered 4 0 0 s l, and_mask v 30, hs 0, hs 1, hs 2, hs 3)) ∙ sym (read_whole s 2 h e l 3 refl))
      (λ e l q. ap (λ x. accepted (with_saved x 8)) (omega (arith, q, value_gathered 8 0 0 s l, and_mask v 62, hs 0, hs 1, hs 2, hs 3, hs 4, hs 5, hs 6, hs 7)) ∙ sym (read_whole s 3 h e l 7 refl))

value_zeros : (n : ℕ) (l : List ℕ) → value_from 0 (replicate n 0 ++ l) ≡ value_from 0 l
value_zeros zero l = refl
value_zeros (suc n) l = value_zeros n l

-- eight bytes, of which the last n are l
abbrev eight : List ℕ
eight = replicate 8 0

pub low_end : (n r : ℕ) (l : List ℕ) → n ≤ 8 → length l ≡ n → r ≡ from_be_bytes w64 (take (8 - n) eight ++ (l ++ drop (8 - (8 - n)) (drop (8 - n) eight))) → r ≡ value_from 0 l
low_end n r l h e q =
    let d : 8 - n + (8 - (8 - n)) ≡ 8 = omega arith in
    let z : take (8 - n) eight ≡ replicate (8 - n) 0 = take-replicate (8 - n) 8 0 (omega arith) in
    go (replicate (8 - n) 0 ++ l) (simp (length-append, length-replicate) (omega arith)) (rw (drop-drop, d, append-nil, z) at q) ∙ value_zeros (8 - n) l
  where
    go : (b : List ℕ) → length b ≡ 8 → r ≡ from_be_bytes w64 b → r ≡ value_from 0 b
    go b k p = omega (arith, p, rw (take_all 8 b (omega arith)) at (value_gathered 8 0 0 b (omega arith)))

-- the tests of the code pick the tag
pub tag_0 : (v : ℕ) → v < 2 ^ 6 → tag_of v ≡ 0
unfolding tag_of
tag_0 v h = simp (lt-ltb _ _ h)

pub tag_1 : (v : ℕ) → 2 ^ 6 ≤ v → v < 2 ^ 14 → tag_of v ≡ 1
unfolding tag_of
tag_1 v l h = simp (le-ltb _ _ l, lt-ltb _ _ h)

pub tag_2 : (v : ℕ) → 2 ^ 14 ≤ v → v < 2 ^ 30 → tag_of v ≡ 2
unfolding tag_of
tag_2 v l h = let m : 2 ^ 6 ≤ v = omega arith in simp (le-ltb _ _ m, le-ltb _ _ l, lt-ltb _ _ h)

pub tag_3 : (v : ℕ) → 2 ^ 30 ≤ v → tag_of v ≡ 3
unfolding tag_of
tag_3 v l =
    let m : 2 ^ 6 ≤ v = omega arith in
    let n : 2 ^ 14 ≤ v = omega arith in
    simp (le-ltb _ _ m, le-ltb _ _ n, le-ltb _ _ l)

-- the tag k above the n bytes below the first, and the first byte's bits
tagged_word : (k n v : ℕ) → (v / 256 ^ n + k * 64 < 256) → bit_or (k * (64 * 256 ^ n)) v ≡ k * (64 * 256 ^ n) + v
    → bytes_of (suc n) (bit_or (k * (64 * 256 ^ n)) v) ≡ (k * 64 + v / 256 ^ n) ∷ bytes_of n v
tagged_word k n v h e =
    let s : k * (64 * 256 ^ n) + v ≡ v + 256 ^ n * (k * 64) = rw (mul_comm (256 ^ n) (k * 64), mul_assoc) (omega arith) in
    rw (e, s) (ap₂ ◌∷◌ (rw (add-mul-div_left v (k * 64) (one-le-pow n 256 (omega arith))) (omega arith)) (bytes_above n (k * 64) v))

pub one_byte : (v : ℕ) → v < 64 → v ∷ [] ≡ bytes_of 1 (bit_or (0 * 2 ^ 6) v)
one_byte v h = rw (or_shifted 0 6 v h) (ap (λ b. b ∷ []) (omega arith))

-- the shortest form has a known tag
module _ (v k : ℕ) (e : tag_of v ≡ k) where
  pub size_at_lem : length (number_bytes v) ≡ 2 ^ k
  size_at_lem = rw e (length_form k v (rw e at (tag_le v)))

  -- the form is the bytes of a number, with the tag above it
  form_word : v < 2 ^ 62 → bytes_of (2 ^ k) (bit_or (k * 2 ^ (8 * 2 ^ k - 2)) v) ≡ number_bytes v
  unfolding form
  form_word h =
      rw e
      (four k (λ k. v < 64 * 256 ^ (2 ^ k - 1) → bytes_of (2 ^ k) (bit_or (k * 2 ^ (8 * 2 ^ k - 2)) v) ≡ form k v) (rw e at (tag_le v))
      (λ l. tagged_word 0 0 v (omega arith) (or_shifted 0 6 v l))
      (λ l. tagged_word 1 1 v (omega arith) (or_shifted 1 14 v l))
      (λ l. tagged_word 2 3 v (omega arith) (or_shifted 2 30 v l))
      (λ l. tagged_word 3 7 v (omega arith) (or_shifted 3 62 v l))
      (rw e at (tag_room v h)))

  pub stored_form : (bytes out m : List ℕ) (n : ℕ) → v < 2 ^ 62 → bytes ≡ bytes_of (2 ^ k) (bit_or (k * 2 ^ (8 * 2 ^ k - 2)) v) → (n ≡ 2 ^ k) × (m ≡ front bytes out)
      → (n ≡ length (number_bytes v)) × (m ≡ front (number_bytes v) out)
  stored_form bytes out m n h b s = (s.0 ∙ sym size_at_lem, s.1 ∙ ap (λ (x : List ℕ). front x out) (b ∙ form_word h))

-- how many bytes the shortest form has
pub size_1 : (v : ℕ) → v < 64 → length (number_bytes v) ≡ 1
size_1 v h = size_at_lem v 0 (tag_0 v h)

pub size_2 : (v : ℕ) → 64 ≤ v → v < 16384 → length (number_bytes v) ≡ 2
size_2 v l h = size_at_lem v 1 (tag_1 v l h)

pub size_4 : (v : ℕ) → 16384 ≤ v → v < 1073741824 → length (number_bytes v) ≡ 4
size_4 v l h = size_at_lem v 2 (tag_2 v l h)

pub size_8 : (v : ℕ) → 1073741824 ≤ v → length (number_bytes v) ≡ 8
size_8 v l = size_at_lem v 3 (tag_3 v l)

-- a number of one byte has no shorter form
pub one_saved : (v : ℕ) → v < 64 → with_saved v 1 ≡ record { value = v; count = 1; saved = 0 }
one_saved v h = rw (size_1 v h)
