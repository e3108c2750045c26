-- Laws of a number at the front of eight bytes, which make the word w. Assumes nothing.
use Prim.Native.Nat.{ℕ, suc, ◌+◌, ◌-◌, ◌*◌, ◌/◌, ◌%◌, ◌^◌, ◌≤◌, ◌<◌}
use mathlib.Core.Path.{◌≡◌, refl, ap, sym, ◌∙◌}
use mathlib.Core.List.{List}
use native.Mathlib.Omega.{arith}
use lib.ListN.{length, get_or, take, drop, take-append-drop}
use lib.Seq.{length-take-le}
use borrow.Author.Tests.{le-leb}
use Rattle.refusal.specs.Outcome.{accepted}
use Rattle.words.specs.Words.{value_from, bytes_of}
use Rattle.words.proofs.Big.{value_bytes_of, take_bytes_of, bytes_value}
use Rattle.varint.specs.Number.{number_bytes, with_saved, read_number, read_wide}
use Rattle.varint.specs.declared.Decoded.{Decoded}
use Rattle.varint.proofs.Bytes.{four, no_longer}
use Rattle.varint.proofs.Laws.{number_append}
use Rattle.words.proofs.Laws.{bytes_take}

-- the bits of a number with the tag k
pub bits_range : (k : ℕ) → k ≤ 3 → (8 ≤ 8 * 2 ^ k % 2 ^ 32) × (8 * 2 ^ k % 2 ^ 32 ≤ 64) × (1 * 2 ^ k % 2 ^ 64 ≤ 8)
bits_range k h =
    four k (λ k. (8 ≤ 8 * 2 ^ k % 2 ^ 32) × (8 * 2 ^ k % 2 ^ 32 ≤ 64) × (1 * 2 ^ k % 2 ^ 64 ≤ 8)) h (omega arith) (omega arith) (omega arith) (omega arith)

module _ (w : ℕ) (h : w < 2 ^ 64) where
  read_at : (k n m : ℕ) → k ≡ w / 2 ^ 62 → 2 ^ k ≡ suc n → n + m ≡ 7 → read_number (bytes_of 8 w) ≡ accepted (with_saved (w / 2 ^ 56 % 64 * 256 ^ n + w / 256 ^ m % 256 ^ n) (suc n))
  unfolding read_number
  read_at k n m e q j =
      let b : w / 2 ^ 56 % 256 / 64 ≡ k = omega arith in
      let o : w / 2 ^ 56 % 256 % 64 ≡ w / 2 ^ 56 % 64 = omega arith in
      let d : 2 ^ k - 1 ≡ n = omega arith in
      let l : suc n ≤ 8 = omega arith in
      rw (b, d, q, o, le-leb (suc n) 8 l, take_bytes_of n m 7 w j, value_bytes_of n (w / 2 ^ 56 % 64) (w / 256 ^ m))

  pub read_word : accepted (with_saved (w % 2 ^ 62 / 2 ^ (64 - 8 * 2 ^ (w / 2 ^ 62) % 2 ^ 32)) (1 * 2 ^ (w / 2 ^ 62) % 2 ^ 64)) ≡ read_number (bytes_of 8 w)
  read_word =
      four (w / 2 ^ 62) (λ k. k ≡ w / 2 ^ 62 → accepted (with_saved (w % 2 ^ 62 / 2 ^ (64 - 8 * 2 ^ k % 2 ^ 32)) (1 * 2 ^ k % 2 ^ 64)) ≡ read_number (bytes_of 8 w)) (omega arith)
      (λ e. ap (λ x. accepted (with_saved x 1)) (omega arith) ∙ sym (read_at 0 0 7 e refl refl))
      (λ e. ap (λ x. accepted (with_saved x 2)) (omega arith) ∙ sym (read_at 1 1 6 e refl refl))
      (λ e. ap (λ x. accepted (with_saved x 4)) (omega arith) ∙ sym (read_at 2 3 4 e refl refl))
      (λ e. ap (λ x. accepted (with_saved x 8)) (omega arith) ∙ sym (read_at 3 7 0 e refl refl))
      refl

  pub word_room : length (number_bytes (w % 2 ^ 62 / 2 ^ (64 - 8 * 2 ^ (w / 2 ^ 62) % 2 ^ 32))) ≤ 1 * 2 ^ (w / 2 ^ 62) % 2 ^ 64
  word_room =
      four (w / 2 ^ 62) (λ k. length (number_bytes (w % 2 ^ 62 / 2 ^ (64 - 8 * 2 ^ k % 2 ^ 32))) ≤ 1 * 2 ^ k % 2 ^ 64) (omega arith)
      (no_longer _ 0 (omega arith) (omega arith))
      (no_longer _ 1 (omega arith) (omega arith))
      (no_longer _ 2 (omega arith) (omega arith))
      (no_longer _ 3 (omega arith) (omega arith))

-- of eight bytes or more
pub read_front : (s : List ℕ) (a : Decoded) → 8 ≤ length s → ((i : ℕ) → get_or s i 0 < 256) → accepted a ≡ read_number (bytes_of 8 (value_from 0 (take 8 s))) → accepted a ≡ read_wide s
read_front s a h hs e =
    let l = length-take-le 8 s h in
    let b : bytes_of 8 (value_from 0 (take 8 s)) ≡ take 8 s = rw l at (bytes_value (take 8 s) 0 (bytes_take 8 s hs)) in
    let r : read_number (take 8 s) ≡ accepted a = rw b at (sym e) in
    rw (le-leb 8 (length s) h) (sym (rw (take-append-drop 8 s) at (number_append (take 8 s) (drop 8 s) a r)))
