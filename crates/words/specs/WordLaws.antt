-- Laws of numbers of w bytes each, one after another, for every width w.
use Rattle.std.specs.Prelude.{ℕ, ◌-◌, ◌*◌, ◌^◌, ◌≤◌, ◌<◌, ◌≡◌, List, ◌++◌, true, length, get_or, replicate, ltb}
use Rattle.words.specs.Words.{every, numbers_bytes, numbers_of}

pub record WordLaws : Type 0 where
  -- numbers that fit w bytes are read back from theirs, and then those of what stands behind
  pub numbers_back :
      (w n : ℕ) (xs t : List ℕ) → every (λ x. ltb x (256 ^ w)) xs ≡ true → length xs ≤ n
      → numbers_of w n (numbers_bytes w xs ++ t) ≡ xs ++ numbers_of w (n - length xs) t
  -- as many numbers as there are have these bytes
  pub numbers_read :
      (w n : ℕ) (v : List ℕ) → length v ≡ n * w → ((i : ℕ) → get_or v i 0 < 256)
      → numbers_bytes w (numbers_of w n v) ≡ v
  -- zeros behind whole numbers change nothing
  pub numbers_behind :
      (w m n k : ℕ) (v : List ℕ) → length v ≡ m * w
      → numbers_of w n (v ++ replicate k 0) ≡ numbers_of w n v
