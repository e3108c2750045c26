-- Laws of numbers on the wire (RFC 9000 section 16).
use Rattle.std.specs.Prelude.{ℕ, ◌+◌, ◌-◌, ◌*◌, ◌^◌, ◌≤◌, ◌<◌, ◌≡◌, List, ◌++◌, length, get_or}
use Rattle.refusal.specs.Outcome.{accepted}
use Rattle.varint.specs.declared.Decoded.{Decoded}
use Rattle.varint.specs.Number.{form, number_bytes, with_saved, read_number}

pub record NumberLaws : Type 0 where
  -- a number that was written is read back, whatever bytes follow it;
  pub read_number_bytes :
      (v : ℕ) (rest : List ℕ) → v < 2 ^ 62
      → read_number (number_bytes v ++ rest) ≡ accepted (with_saved v (length (number_bytes v)))
  -- so it is in each of the four forms that has room for it, longer than needed or not
  pub read_form :
      (k v : ℕ) (rest : List ℕ) → k ≤ 3 → v < 64 * 256 ^ (2 ^ k - 1)
      → read_number (form k v ++ rest) ≡ accepted (with_saved v (2 ^ k))
  -- what is read has a byte at least, and lies within the input
  pub read_within :
      (bs : List ℕ) (a : Decoded) → read_number bs ≡ accepted a
      → (1 ≤ a.count) × (a.count ≤ length bs) × (a.saved ≤ a.count)
  -- it is below 2 ^ 62, and no shorter than the shortest form
  pub read_bounds :
      (bs : List ℕ) (a : Decoded) → ((i : ℕ) → get_or bs i 0 < 256) → read_number bs ≡ accepted a
      → (a.value < 2 ^ 62) × (a.count ≤ length bs) × (length (number_bytes a.value) ≤ a.count)
  -- its byte count is the length of the shortest form and what this would have saved
  pub read_count :
      (bs : List ℕ) (a : Decoded) → ((i : ℕ) → get_or bs i 0 < 256) → read_number bs ≡ accepted a
      → a.count ≡ length (number_bytes a.value) + a.saved
