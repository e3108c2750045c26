-- Laws of the words of a text. Assumes nothing.
--     no_word, one_word    the words, by the first
--     nth_word             word k, of the list of them
--     first_long           each has a character
--     Behind               those from word k on; and what follows from it:
--       behind_none, behind_more    before the first, and one word later
--       behind_word, behind_end, behind_last    word k; that there is none; and whether there is
use Prim.Native.Nat.{ℕ, zero, suc, ◌+◌, ◌≤◌, ◌<◌}
use mathlib.Core.Path.{◌≡◌, refl, sym, ap, ◌∙◌}
use mathlib.Core.List.{List, [], ◌∷◌}
use mathlib.Core.Bool.{Bool, true, false, not}
use native.Mathlib.Omega.{arith}
use lib.ListN.{length, get_or, take, drop, length-take, length-drop}
use lib.Dec.{eqb}
use borrow.Author.Tests.{eqb-true, eqb-false, eq-eqb, ne_eqb}
use Rattle.std.proofs.Common.{Option, Some, None, Bor}
use Rattle.std.specs.Prelude.{MatchOption, is_some}
use Rattle.std.proofs.lemmas.List.{nil_from_length}
use Rattle.refusal.specs.Outcome.{pick}
use Rattle.text.specs.Text.{is_gap, before, from_word, past_word, word_at, words_up_to, words_in}

module _ (sep : ℕ) where
  -- what stands behind a word is shorter
  shorter : (s : List ℕ) → 0 < length (word_at sep 0 s) → length (past_word sep s) < length s
  shorter s h =
      let m = from_word sep s in
      let j = before (is_gap sep) m in
      omega (arith, h, length-take j m, length-drop j m, length-drop (before (λ c. not (is_gap sep c)) s) s)

  short : (s : List ℕ) → length (word_at sep 0 s) ≤ length s
  short s =
      let m = from_word sep s in
      omega (arith, length-take (before (is_gap sep) m) m, length-drop (before (λ c. not (is_gap sep c)) s) s)

  -- from a character on that is no gap, the first word is not empty
  begins : (s : List ℕ) → length (word_at sep 0 s) ≡ 0 → length (from_word sep s) ≡ 0
  begins [] h = refl
  begins (c ∷ s) h = go (is_gap sep c) refl h (begins s)
    where
      go : (b : Bool) → is_gap sep c ≡ b
          → length (take (before (is_gap sep) (drop (pick (not b) 0 (suc (before (λ c. not (is_gap sep c)) s))) (c ∷ s))) (drop (pick (not b) 0 (suc (before (λ c. not (is_gap sep c)) s))) (c ∷ s))) ≡ 0
          → (length (word_at sep 0 s) ≡ 0 → length (from_word sep s) ≡ 0)
          → length (drop (pick (not b) 0 (suc (before (λ c. not (is_gap sep c)) s))) (c ∷ s)) ≡ 0
      go true e k ih = ih k
      go false e k ih = absurd (omega (arith, rw e at k))

  no_words : (n : ℕ) (s : List ℕ) → length (word_at sep 0 s) ≡ 0 → words_up_to sep n s ≡ []
  no_words zero s h = refl
  no_words (suc n) s h = rw (eq-eqb (length (word_at sep 0 s)) 0 h)

  -- so many words as there are characters are all
  enough : (n m : ℕ) (s : List ℕ) → length s ≤ n → length s ≤ m → words_up_to sep n s ≡ words_up_to sep m s
  enough zero m s h k = sym (no_words m s (omega (arith, short s)))
  enough (suc n) zero s h k = no_words (suc n) s (omega (arith, short s))
  enough (suc n) (suc m) s h k = go (eqb (length (word_at sep 0 s)) 0) refl (λ l. enough n m (past_word sep s) (omega (arith, l)) (omega (arith, l)))
    where
      go : (b : Bool) → eqb (length (word_at sep 0 s)) 0 ≡ b
          → (length (past_word sep s) < length s → words_up_to sep n (past_word sep s) ≡ words_up_to sep m (past_word sep s))
          → pick b [] (word_at sep 0 s ∷ words_up_to sep n (past_word sep s)) ≡ pick b [] (word_at sep 0 s ∷ words_up_to sep m (past_word sep s))
      go true e more = refl
      go false e more = ap (λ l. word_at sep 0 s ∷ l) (more (shorter s (omega (arith, eqb-false (length (word_at sep 0 s)) 0 e))))

  pub no_word : (s : List ℕ) → length (word_at sep 0 s) ≡ 0 → words_in sep s ≡ []
  unfolding words_in
  no_word s h = no_words (length s) s h

  pub one_word : (s : List ℕ) → 0 < length (word_at sep 0 s) → words_in sep s ≡ word_at sep 0 s ∷ words_in sep (past_word sep s)
  unfolding words_in
  one_word s h =
      let l = shorter s h in
      enough (length s) (suc (length s)) s (omega arith) (omega arith)
      ∙ rw (ne_eqb (length (word_at sep 0 s)) 0 (λ e. omega (arith, h)), enough (length s) (length (past_word sep s)) (past_word sep s) (omega (arith, l)) (omega arith))

  -- behind the last word there is none
  none : (k : ℕ) (s : List ℕ) → length (from_word sep s) ≡ 0 → word_at sep k s ≡ []
  none zero s h =
      nil_from_length (word_at sep 0 s) (omega (arith, h, length-take (before (is_gap sep) (from_word sep s)) (from_word sep s)))
  none (suc k) s h =
      none k (past_word sep s)
      (omega (arith, h, length-drop (before (is_gap sep) (from_word sep s)) (from_word sep s), length-drop (before (λ c. not (is_gap sep c)) (past_word sep s)) (past_word sep s)))

  by_first : (k : ℕ) (s : List ℕ) → get_or (word_at sep 0 s ∷ words_in sep (past_word sep s)) k [] ≡ word_at sep k s → get_or (words_in sep s) k [] ≡ word_at sep k s
  by_first k s f = go (eqb (length (word_at sep 0 s)) 0) refl
    where
      go : (b : Bool) → eqb (length (word_at sep 0 s)) 0 ≡ b → get_or (words_in sep s) k [] ≡ word_at sep k s
      go true e =
          let h = eqb-true (length (word_at sep 0 s)) 0 e in
          rw (no_word s h) (sym (none k s (begins s h)))
      go false e = rw (one_word s (omega (arith, eqb-false (length (word_at sep 0 s)) 0 e))) f

  pub nth_word : (k : ℕ) (s : List ℕ) → get_or (words_in sep s) k [] ≡ word_at sep k s
  nth_word zero s = by_first zero s refl
  nth_word (suc k) s = by_first (suc k) s (nth_word k (past_word sep s))

  pub first_long : (s w : List ℕ) (ws : List (List ℕ)) → words_in sep s ≡ w ∷ ws → 0 < length w
  first_long s w ws e = go (eqb (length (word_at sep 0 s)) 0) refl
    where
      go : (b : Bool) → eqb (length (word_at sep 0 s)) 0 ≡ b → 0 < length w
      go true f = let h : ◌≡◌ {A = List (List ℕ)} [] (w ∷ ws) = sym (no_word s (eqb-true (length (word_at sep 0 s)) 0 f)) ∙ e in absurd (omega (arith, ap length h))
      go false f =
          let l : 0 < length (word_at sep 0 s) = omega (arith, eqb-false (length (word_at sep 0 s)) 0 f) in
          let h : word_at sep 0 s ≡ w = ap (λ l. get_or l 0 []) (sym (one_word s l) ∙ e) in
          rw (← h) l

-- THOSE FROM WORD k ON
module _ (sep : ℕ) where
  abbrev pub Behind : List ℕ → ℕ → List (List ℕ) → Type 0
  Behind s k ws = (j : ℕ) → get_or ws j [] ≡ word_at sep (k + j) s

  pub behind_none : (s : List ℕ) → Behind s 0 (words_in sep s)
  behind_none s j = let z : 0 + j ≡ j = omega arith in rw z (nth_word sep j s)

  pub behind_more : (s : List ℕ) (k : ℕ) (r : Option (Bor (List ℕ))) (ws vs : List (List ℕ)) → Behind s k ws → MatchOption r ((ws ≡ []) × (vs ≡ [])) (λ x. ws ≡ x.now ∷ vs) → Behind s (k + 1) vs
  behind_more s k None ws vs b e j = let z : k + 1 + j ≡ k + suc j = omega arith in rw (z, e.1) (rw e.0 at (b (suc j)))
  behind_more s k (Some x) ws vs b e j = let z : k + 1 + j ≡ k + suc j = omega arith in rw z (rw e at (b (suc j)))

  -- word k, if it is there
  pub behind_word : (s : List ℕ) (k : ℕ) (w : List ℕ) (ws vs : List (List ℕ)) → Behind s k ws → ws ≡ w ∷ vs → w ≡ word_at sep k s
  behind_word s k w ws vs b e = let z : k + 0 ≡ k = omega arith in rw z at (rw e at (b 0))

  pub behind_end : (s : List ℕ) (k : ℕ) (ws : List (List ℕ)) → Behind s k ws → ws ≡ [] → word_at sep k s ≡ []
  behind_end s k ws b e = let z : k + 0 ≡ k = omega arith in sym (rw z at (rw e at (b 0)))

  pub behind_last : (s m : List ℕ) (k : ℕ) (r : Option (Bor (List ℕ))) (vs : List (List ℕ)) (t : ℕ) (b : Bool) → is_some r ≡ not b → Behind s k (words_in t m)
      → MatchOption r ((words_in t m ≡ []) × (vs ≡ [])) (λ x. words_in t m ≡ x.now ∷ vs) → b ≡ eqb (length (word_at sep k s)) 0
  behind_last s m k None vs t true n b e = rw (behind_end s k (words_in t m) b e.0)
  behind_last s m k None vs t false n b e = cc
  behind_last s m k (Some x) vs t true n b e = cc
  behind_last s m k (Some x) vs t false n b e =
      let w = behind_word s k x.now (words_in t m) vs b e in
      sym (ne_eqb (length (word_at sep k s)) 0 (λ z. omega (arith, first_long t m x.now vs e, ap length w)))
