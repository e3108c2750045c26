-- Laws of words, and of lists of numbers. Assumes nothing.
--     before_most, before_is    how many characters stand before one that passes
--     split             the first word, and what stands behind it
--     Listed            what is so behind the words before word k; and what follows from it:
--       listed_more    one word later
--       cut, whole, ended    what the list is
use Prim.Native.Nat.{ℕ, suc, ◌+◌, ◌-◌, ◌≤◌, ◌<◌}
use mathlib.Core.Path.{◌≡◌, refl, ap, ◌∙◌}
use mathlib.Core.List.{List, [], ◌∷◌, ◌++◌}
use mathlib.Core.Bool.{Bool, true, false, not, cond}
use native.Mathlib.Omega.{arith}
use lib.ListN.{length, get_or, take, drop, set, length-drop}
use lib.Seq.{drop-cons, take-suc, take_all, sets, length-take-le}
use lib.Dec.{eqb, ltb}
use borrow.Author.Tests.{ltb-false, eq-eqb, ne_eqb, le-leb}
use Rattle.refusal.specs.Outcome.{pick}
use Rattle.std.specs.Prelude.{Option, Some, None, unwrap_or, position}
use Rattle.std.specs.List.{position_or_len}
use Rattle.std.proofs.lemmas.List.Recursion.{is_position_or_len}
use Rattle.text.specs.Text.{is_gap, before, past_word, word_at, decimal, listed, byte_words, list_stored}

module _ (f : ℕ → Bool) where
  pub before_most : (l : List ℕ) → before f l ≤ length l
  before_most [] = omega arith
  before_most (c ∷ l) = go (f c) (before_most l)
    where
      go : (t : Bool) → before f l ≤ length l → pick t 0 (suc (before f l)) ≤ suc (length l)
      go true e = omega arith
      go false e = omega arith

  -- as std's iterators say it
  pub before_is : (l : List ℕ) → unwrap_or (position f l) (length l) ≡ before f l
  before_is l =
      let e : before f l ≡ position_or_len f l = is_position_or_len (before f) f refl (λ x m. step (f x) (before f m)) l in
      rw (← e) (go (ltb (before f l) (length l)) refl)
    where
      step : (t : Bool) (n : ℕ) → pick t 0 (suc n) ≡ cond t 0 (1 + n)
      step true n = refl
      step false n = omega arith

      go : (t : Bool) → ltb (before f l) (length l) ≡ t → unwrap_or (cond t (Some (before f l)) None) (length l) ≡ before f l
      go true h = refl
      go false h = omega (arith, ltb-false (before f l) (length l) h, before_most l)

-- the first word and what stands behind it, as std's functions give them
pub split : (sep : ℕ) (s m u v : List ℕ) (p q : Option ℕ) (i j : ℕ) → p ≡ position (λ b. not (is_gap sep b)) s → i ≡ unwrap_or p (length s) → m ≡ drop i s
    → q ≡ position (λ b. is_gap sep b) m → j ≡ unwrap_or q (length m) → u ≡ take j m → v ≡ drop j m → (u ≡ word_at sep 0 s) × (v ≡ past_word sep s)
split sep s m u v p q i j e f g h k x y =
    let a : i ≡ before (λ b. not (is_gap sep b)) s = f ∙ (ap (λ r. unwrap_or r (length s)) e ∙ before_is (λ b. not (is_gap sep b)) s) in
    let b : j ≡ before (is_gap sep) m = k ∙ (ap (λ r. unwrap_or r (length m)) h ∙ before_is (λ b. is_gap sep b) m) in
    (rw (x, b, g, a), rw (y, b, g, a))

-- LISTS OF NUMBERS
sets_snoc : (a l : List ℕ) (p x : ℕ) → sets l p (a ++ (x ∷ [])) ≡ set (sets l p a) (p + length a) x
sets_snoc [] l p x = let e : p + 0 ≡ p = omega arith in rw e
sets_snoc (v ∷ a) l p x =
    let e : p + suc (length a) ≡ suc p + length a = omega arith in
    rw e (sets_snoc a (set l p v) (suc p) x)

-- the rest of a list from place j on begins with x
module _ (l m : List ℕ) (j x : ℕ) (e : drop j l ≡ x ∷ m) where
  longer : j < length l
  longer = omega (arith, length-drop j l, ap length e)

  next : drop (suc j) l ≡ m
  next = let d = drop-cons l j 0 longer in cc

  one_more : take (suc j) l ≡ take j l ++ (x ∷ [])
  one_more = let d = drop-cons l j 0 longer in let y : get_or l j 0 ≡ x = cc in rw y at (take-suc l j 0 longer)

pub record Listed (s first : List ℕ) (from to sep at k : ℕ) (out : List ℕ) : Type 0 where
  pub low : k - from ≤ to - from
  pub count : k - from ≤ length (byte_words sep s (to - from) from)
  pub left : drop (k - from) (byte_words sep s (to - from) from) ≡ byte_words sep s (to - k) k
  pub stores : out ≡ sets first at (take (k - from) (byte_words sep s (to - from) from))

module _ (s first : List ℕ) (from to sep at k : ℕ) (out : List ℕ) (m : Listed s first from to sep at k out) (g : from ≤ k) where
  module _ (h : k < to) where
    first_word : byte_words sep s (to - k) k ≡ listed (decimal (word_at sep k s)) (byte_words sep s (to - (k + 1)) (k + 1))
    first_word =
        let e : to - k ≡ suc (to - (k + 1)) = omega arith in
        let f : suc k ≡ k + 1 = omega arith in
        rw (e, f)

    pub listed_more : (x : ℕ) → decimal (word_at sep k s) ≡ Some x → x ≤ 255 → Listed s first from to sep at (k + 1) (set out (at + (k - from)) x)
    listed_more x d b =
        let all = byte_words sep s (to - from) from in
        let more = byte_words sep s (to - (k + 1)) (k + 1) in
        let r : drop (k - from) all ≡ x ∷ more = m.left ∙ first_word ∙ rw (d, le-leb x 255 b) in
        let e : k + 1 - from ≡ suc (k - from) = omega arith in
        record {
          low = omega arith;
          count = rw e (longer all more (k - from) x r);
          left = rw e (next all more (k - from) x r);
          stores =
              rw (e, one_more all more (k - from) x r, sets_snoc (take (k - from) all) first at x, ← m.stores, length-take-le (k - from) all m.count);
        }

    -- a word that is no such number
    pub cut : listed (decimal (word_at sep k s)) (byte_words sep s (to - (k + 1)) (k + 1)) ≡ [] → (false, out) ≡ list_stored s from to sep at first
    unfolding list_stored
    cut d =
        let z : length (byte_words sep s (to - from) from) ≤ k - from = omega (arith, length-drop (k - from) (byte_words sep s (to - from) from), ap length (m.left ∙ first_word ∙ d)) in
        rw (ne_eqb (length (byte_words sep s (to - from) from)) (to - from) (λ e. omega arith), ← take_all (k - from) (byte_words sep s (to - from) from) z, ← m.stores)

  pub whole : to ≤ k → (eqb (length (word_at sep to s)) 0, out) ≡ list_stored s from to sep at first
  unfolding list_stored
  whole h =
      let e : to - k ≡ 0 = omega arith in
      let l : drop (k - from) (byte_words sep s (to - from) from) ≡ [] = rw e at m.left in
      let z : length (byte_words sep s (to - from) from) ≤ k - from = omega (arith, length-drop (k - from) (byte_words sep s (to - from) from), ap length l) in
      rw (eq-eqb (length (byte_words sep s (to - from) from)) (to - from) (omega (arith, m.low, m.count)), ← take_all (k - from) (byte_words sep s (to - from) from) z, ← m.stores)

  -- the same, of what was asked of word `to`
  pub ended : (b : Bool) → b ≡ eqb (length (word_at sep to s)) 0 → to ≤ k → (b, out) ≡ list_stored s from to sep at first
  ended b e h = rw e (whole h)
