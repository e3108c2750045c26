-- Laws of numbers of w bytes each, one after another. Assumes nothing.
--     numbers_size      how many bytes they have
--     bytes_one, numbers_one    one, and then the others
--     numbers_append    those of several, part by part
--     numbers_more      stored one after another: one more
--     numbers_back      read back, with zeros behind them where the bytes end
--     numbers_whole     as many as there are, whatever stands behind them
--     numbers_read      n numbers of as many bytes have these bytes
--     numbers_behind    zeros behind whole numbers change nothing
--     numbers_at        the k-th of them
--     numbers_first     the first of more
--     numbers_rest      those behind the first
--     numbers_small     numbers of bytes fit w bytes
use Prim.Native.Nat.{ℕ, zero, suc, ◌+◌, ◌-◌, ◌*◌, ◌^◌, ◌≤◌, ◌<◌}
use mathlib.Core.Path.{◌≡◌, refl, ap, ap₂, sym, ◌∙◌}
use mathlib.Core.List.{List, [], ◌∷◌, ◌++◌, append_assoc, append-nil}
use mathlib.Core.Bool.{true}
use native.Mathlib.Omega.{arith}
use native.Mathlib.Nat.{suc-mul, zero-mul, add_comm, sub-zero, mod-eq_of_lt, pow-le-pow_right, lt_of_lt_of_le}
use native.Mathlib.Numerals.{add-one}
use lib.ListN.{length, get_or, take, drop, replicate, length-append, length-take, length-drop, take-append-drop}
use lib.Seq.{sets, take_at, drop_at, drop-drop, take-suc, take-append-le, drop-append-le, length-take-le, get_or-drop}
use lib.Dec.{ltb}
use borrow.Author.Tests.{ltb-true, lt-ltb}
use Rattle.std.proofs.lemmas.Bool.{and_parts}
use Rattle.std.proofs.lemmas.List.{drop-replicate}
use Rattle.words.specs.Words.{every, value_from, bytes_of, numbers_bytes, numbers_of}
use Rattle.words.proofs.Big.{length_bytes_of, value_bytes_of, bytes_value, value_lt}
use Rattle.words.proofs.Laws.{bytes_take}
use Rattle.words.proofs.Stores.{stored_then}

module _ (w : ℕ) where
  pub numbers_size : (xs : List ℕ) → length (numbers_bytes w xs) ≡ length xs * w
  unfolding numbers_bytes
  numbers_size [] = sym (zero-mul w)
  numbers_size (x ∷ xs) =
      length-append (bytes_of w x) (numbers_bytes w xs) ∙ rw (suc-mul (length xs) w) (omega (arith, length_bytes_of w x, numbers_size xs))

  pub numbers_append : (xs ys : List ℕ) → numbers_bytes w (xs ++ ys) ≡ numbers_bytes w xs ++ numbers_bytes w ys
  unfolding numbers_bytes
  numbers_append [] ys = refl
  numbers_append (x ∷ xs) ys = rw (numbers_append xs ys) (sym (append_assoc (bytes_of w x) (numbers_bytes w xs) (numbers_bytes w ys)))

  pub numbers_more : (l v out ys b : List ℕ) (i k : ℕ) → i < length v → i * w ≡ k → out ≡ sets l 0 (numbers_bytes w (take i v)) → b ≡ bytes_of w (get_or v i 0)
      → ys ≡ sets out k b → ys ≡ sets l 0 (numbers_bytes w (take (i + 1) v))
  unfolding numbers_bytes
  numbers_more l v out ys b i k h m e f g =
      let n : length (take i v) ≡ i = length-take-le i v (omega arith) in
      let j : length (numbers_bytes w (take i v)) ≡ k = numbers_size (take i v) ∙ ap (λ t. t * w) n ∙ m in
      stored_then l out ys (numbers_bytes w (take i v)) (bytes_of w (get_or v i 0)) 0 k e (omega arith) (g ∙ ap (sets out k) f)
      ∙ rw (add-one, take-suc v i 0 h, numbers_append (take i v) (get_or v i 0 ∷ []), append-nil (bytes_of w (get_or v i 0)))

  -- one by one
  pub bytes_one : (x : ℕ) (xs : List ℕ) → numbers_bytes w (x ∷ xs) ≡ bytes_of w x ++ numbers_bytes w xs
  unfolding numbers_bytes
  bytes_one x xs = refl

  pub numbers_one : (n : ℕ) (v : List ℕ) → numbers_of w (suc n) v ≡ value_from 0 (take w v) ∷ numbers_of w n (drop w v)
  unfolding numbers_of
  numbers_one n v = refl

  -- read back
  number_back : (x : ℕ) (t : List ℕ) → x < 256 ^ w → value_from 0 (take w (bytes_of w x ++ t)) ≡ x
  number_back x t h = rw (take_at (bytes_of w x) t w (length_bytes_of w x), value_bytes_of w 0 x, mod-eq_of_lt h, zero-mul (256 ^ w)) (omega arith)

  pub numbers_back : (n : ℕ) (xs t : List ℕ) → every (λ x. ltb x (256 ^ w)) xs ≡ true → length xs ≤ n
      → numbers_of w n (numbers_bytes w xs ++ t) ≡ xs ++ numbers_of w (n - length xs) t
  unfolding numbers_bytes numbers_of
  numbers_back n [] t h l = rw (sub-zero n)
  numbers_back zero (x ∷ xs) t h l = absurd (omega arith)
  numbers_back (suc n) (x ∷ xs) t h l =
      let p = and_parts (ltb x (256 ^ w)) (every (λ x. ltb x (256 ^ w)) xs) h in
      let a : (bytes_of w x ++ numbers_bytes w xs) ++ t ≡ bytes_of w x ++ (numbers_bytes w xs ++ t) = append_assoc (bytes_of w x) (numbers_bytes w xs) t in
      let m : suc n - suc (length xs) ≡ n - length xs = omega arith in
      rw (a, m)
      (ap₂ ◌∷◌ (number_back x (numbers_bytes w xs ++ t) (ltb-true _ _ p.0))
      (ap (numbers_of w n) (drop_at (bytes_of w x) (numbers_bytes w xs ++ t) w (length_bytes_of w x)) ∙ numbers_back n xs t p.1 (omega arith)))

  pub numbers_whole : (xs t : List ℕ) → every (λ x. ltb x (256 ^ w)) xs ≡ true → numbers_of w (length xs) (numbers_bytes w xs ++ t) ≡ xs
  unfolding numbers_of
  numbers_whole xs t h = let n : length xs - length xs ≡ 0 = omega arith in numbers_back (length xs) xs t h (omega arith) ∙ rw (n, append-nil xs)

  -- of zeros
  value_zeros : (n k : ℕ) → value_from 0 (take n (replicate k 0)) ≡ 0
  value_zeros zero k = refl
  value_zeros (suc n) zero = refl
  value_zeros (suc n) (suc k) = value_zeros n k

  numbers_zeros : (n k : ℕ) → numbers_of w n (replicate k 0) ≡ replicate n 0
  unfolding numbers_of
  numbers_zeros zero k = refl
  numbers_zeros (suc n) k = ap₂ ◌∷◌ (value_zeros w k) (ap (numbers_of w n) (drop-replicate w k 0) ∙ numbers_zeros n (k - w))

  pub numbers_none : (n : ℕ) → numbers_of w n [] ≡ replicate n 0
  numbers_none n = numbers_zeros n 0

  pub numbers_behind : (m n k : ℕ) (v : List ℕ) → length v ≡ m * w → numbers_of w n (v ++ replicate k 0) ≡ numbers_of w n v
  unfolding numbers_of
  numbers_behind zero n k [] h = numbers_zeros n k ∙ sym (numbers_none n)
  numbers_behind zero n k (x ∷ v) h = let z : zero * w ≡ 0 = zero-mul w in absurd (omega arith)
  numbers_behind (suc m) zero k v h = refl
  numbers_behind (suc m) (suc n) k v h =
      let l : length v ≡ m * w + w = h ∙ suc-mul m w in
      let e : length (drop w v) ≡ m * w = length-drop w v ∙ omega arith in
      let i : take w (v ++ replicate k 0) ≡ take w v = take-append-le w v (replicate k 0) (omega arith) in
      let j : drop w (v ++ replicate k 0) ≡ drop w v ++ replicate k 0 = drop-append-le w v (replicate k 0) (omega arith) in
      rw (i, j, numbers_behind m n k (drop w v) e)

  -- as many numbers as there are
  pub numbers_read : (n : ℕ) (v : List ℕ) → length v ≡ n * w → ((i : ℕ) → get_or v i 0 < 256) → numbers_bytes w (numbers_of w n v) ≡ v
  unfolding numbers_bytes numbers_of
  numbers_read zero [] h b = refl
  numbers_read zero (x ∷ v) h b = let z : zero * w ≡ 0 = zero-mul w in absurd (omega arith)
  numbers_read (suc n) v h b =
      let l : length v ≡ n * w + w = h ∙ suc-mul n w in
      let e : length (drop w v) ≡ n * w = length-drop w v ∙ omega arith in
      let k : length (take w v) ≡ w = length-take-le w v (omega arith) in
      let i : bytes_of w (value_from 0 (take w v)) ≡ take w v = rw k at (bytes_value (take w v) 0 (bytes_take w v b)) in
      rw (i, numbers_read n (drop w v) e (λ j. rw (get_or-drop w v j 0) (b (w + j))), take-append-drop)

  -- parts of the numbers
  pub numbers_long : (n : ℕ) (v : List ℕ) → length (numbers_of w n v) ≡ n
  unfolding numbers_of
  numbers_long zero v = refl
  numbers_long (suc n) v = ap suc (numbers_long n (drop w v))

  pub numbers_at : (n k : ℕ) (v : List ℕ) → k < n → get_or (numbers_of w n v) k 0 ≡ value_from 0 (take w (drop (k * w) v))
  unfolding numbers_of
  numbers_at zero k v h = absurd (omega arith)
  numbers_at (suc n) zero v h = rw (zero-mul w)
  numbers_at (suc n) (suc k) v h =
      numbers_at n k (drop w v) (omega arith) ∙ ap (λ l. value_from 0 (take w l)) (drop-drop (k * w) w v) ∙ rw (suc-mul k w, add_comm (k * w) w)

  pub numbers_first : (n m : ℕ) (v : List ℕ) → n ≤ m → take n (numbers_of w m v) ≡ numbers_of w n v
  unfolding numbers_of
  numbers_first zero m v h = refl
  numbers_first (suc n) zero v h = absurd (omega arith)
  numbers_first (suc n) (suc m) v h = ap (λ l. value_from 0 (take w v) ∷ l) (numbers_first n m (drop w v) (omega arith))

  pub numbers_rest : (n m : ℕ) (v : List ℕ) → n ≤ m → drop n (numbers_of w m v) ≡ numbers_of w (m - n) (drop (n * w) v)
  unfolding numbers_of
  numbers_rest zero m v h = rw (sub-zero m, zero-mul w)
  numbers_rest (suc n) zero v h = absurd (omega arith)
  numbers_rest (suc n) (suc m) v h =
      let e : suc m - suc n ≡ m - n = omega arith in
      numbers_rest n m (drop w v) (omega arith) ∙ rw (e, drop-drop (n * w) w v, suc-mul n w, add_comm (n * w) w)

  -- numbers of bytes
  pub numbers_small : (n : ℕ) (v : List ℕ) → ((i : ℕ) → get_or v i 0 < 256) → every (λ x. ltb x (256 ^ w)) (numbers_of w n v) ≡ true
  unfolding numbers_of
  numbers_small zero v b = refl
  numbers_small (suc n) v b =
      let m : length (take w v) ≤ w = rw length-take (omega arith) in
      let s : value_from 0 (take w v) < 256 ^ length (take w v) = omega (arith, value_lt (take w v) 0 1 (bytes_take w v b) (omega arith)) in
      rw (lt-ltb _ _ (lt_of_lt_of_le s (pow-le-pow_right {n = 256} (omega arith) m)), numbers_small n (drop w v) (λ j. rw (get_or-drop w v j 0) (b (w + j))))
