-- Flags at their places. Assumes nothing.
--     flags_more     a turn of the loop that tests the flags
--     image_long     how long an image is
use Prim.Native.Nat.{ℕ, suc, ◌+◌, ◌<◌}
use mathlib.Core.Path.{◌≡◌, refl}
use mathlib.Core.List.{List}
use mathlib.Core.Bool.{Bool, true, ◌&&◌, and_assoc, and-true}
use native.Mathlib.Numerals.{add-one}
use native.Mathlib.Omega.{arith}
use lib.ListN.{length, get_or, drop}
use lib.Seq.{drop-cons}
use lib.Dec.{leb}
use lib.Bits.{bit_or}
use borrow.Author.Tests.{eqb-true}
use Rattle.refusal.proofs.Laws.{all_at}
use Rattle.words.specs.Words.{every}
use Rattle.words.proofs.Laws.{or_below}
use Rattle.std.proofs.lemmas.Bool.Decides.{nat_tests}
use Rattle.image.specs.Image.{flag_places, flags_hold, is_image}

-- FLAGS: those met are joined_parts in acc, and the rest stand from the i-th place on
or_flags : (a b : ℕ) → leb (bit_or a b) 1 ≡ (leb a 1 && leb b 1)
or_flags a b = grind (arith, nat_tests, or_below 1 a b)

pub flags_from : List ℕ → ℕ → ℕ → Bool
flags_from s acc i = leb acc 1 && every (λ p. leb (get_or s p 0) 1) (drop i flag_places)

module _ (s : List ℕ) (acc i : ℕ) where
  pub flags_more : i < 14 → flags_from s (bit_or acc (get_or s (get_or flag_places i 0) 0)) (i + 1) ≡ flags_from s acc i
  unfolding flag_places flags_from
  flags_more h =
      rw (add-one, drop-cons flag_places i 0 h, or_flags acc (get_or s (get_or flag_places i 0) 0))
      (and_assoc (leb acc 1) (leb (get_or s (get_or flag_places i 0) 0) 1) (every (λ p. leb (get_or s p 0) 1) (drop (suc i) flag_places)))

  pub flags_none : i ≡ 14 → flags_from s acc i ≡ leb acc 1
  unfolding flags_from flag_places
  flags_none e = rw e (and-true (leb acc 1))

pub flags_all : (s : List ℕ) → flags_from s 0 0 ≡ flags_hold s
unfolding flags_from flags_hold
flags_all s = refl

-- what is an image has 374 bytes
pub image_long : (s : List ℕ) → is_image s ≡ true → length s ≡ 374
unfolding is_image
image_long s h = eqb-true _ _ (all_at _ h 0)
