-- What is wrong with an order: laws of the definition, and of a pass over the entries from the
-- front. Assumes nothing.
--     located             the first position at which a test holds: it holds there and nowhere
--                         before, or nowhere
--     by_entry, by_end    what is wrong is the first entry at fault or, where none is, what the end
--                         shows
--     front_distinct      no entry before a position is at fault exactly if these entries are
--                         distinct places
--     turns               so there are at most 22 of them
--     none_permutation    nothing is wrong exactly with a permutation
--     first_fault         what the position says (specs/FirstFault.antt)
--     at_fault, one_more, met_more, at_end    a pass: an entry that is at fault, one that is not,
--       and the end
--     at_outside, at_repeat, too_short, long_enough    its answers: an entry that is no place or
--       repeats one, and the end with and without entries missing
--     next_met            one more entry is met, and still no more than 22
use Prim.Native.Nat.{ℕ, zero, suc, ◌+◌, ◌≤◌, ◌<◌}
use mathlib.Core.Path.{◌≡◌, refl, ap, sym, ◌∙◌}
use mathlib.Core.List.{List, [], ◌∷◌, ◌++◌}
use mathlib.Core.Logic.{◌↔◌, ◌⊎◌, inl, inr, ⊎_elim}
use mathlib.Core.Bool.{Bool, true, false, ◌&&◌, ◌||◌, not, or-true, and-false}
use mathlib.Core.Option.{Option, none, some, or_else}
use native.Mathlib.Omega.{arith}
use native.Mathlib.Numerals.{add-one}
use lib.ListN.{length, get_or, take, length-append, get_or-append}
use lib.Seq.{take-suc, take-length, length-take-le, take-append-le, get_or-take}
use lib.Dec.{eqb, ltb}
use borrow.Author.Tests.{ltb-true, ltb-false, leb-true, leb-false, lt-ltb, le-ltb, le-leb, lt-leb, eqb-true, eqb-false, eq-eqb, ne_eqb}
use Rattle.std.proofs.lemmas.Bool.{or_cases, or_parts}
use Rattle.std.proofs.lemmas.Bool.Decides.{nat_tests}
use Rattle.refusal.specs.Outcome.{pick, all}
use Rattle.marks.specs.Mark.{marked, mark}
use Rattle.marks.proofs.Laws.{marked_same, marked_other}
use Rattle.catalogue.specs.Catalogue.{places}
use Rattle.words.specs.Words.{member}
use Rattle.order.specs.Order.{distinct, permutation, outside, repeats, faulty, first_below, order_fault}
use Rattle.std.specs.Prelude.{Option as Answer, None, Some, is_some as is_some_of}
use Rattle.order.specs.Answer.{fault_position}
use Rattle.order.specs.FirstFault.{FirstFault}
use Rattle.order.proofs.Orders.{at_most}

-- THE FIRST POSITION
-- below n a test holds at k and nowhere before, or nowhere
record Found (t : ℕ → Bool) (n k : ℕ) : Type 0 where
  pub below : k < n
  pub holds : t k ≡ true
  pub before : (j : ℕ) → j < k → t j ≡ false

abbrev Located : (ℕ → Bool) → ℕ → Option ℕ → Type 0
Located t n (some k) = Found t n k
Located t n none = (j : ℕ) → j < n → t j ≡ false

module _ (t : ℕ → Bool) where
  located : (n : ℕ) → Located t n (first_below n t)
  unfolding or_else
  located zero = λ j h. absurd (omega arith)
  located (suc n) = go (first_below n t) (t n) refl (located n)
    where
      at : t n ≡ false → Located t n none → (j : ℕ) → j < suc n → (b : Bool) → ltb j n ≡ b → t j ≡ false
      at y r j h true l = r j (ltb-true j n l)
      at y r j h false l = let s : j ≡ n = omega (arith, ltb-false j n l) in rw s y

      go : (o : Option ℕ) (b : Bool) → t n ≡ b → Located t n o → Located t (suc n) (or_else o (pick b (some n) none))
      go (some k) b y r = record { below = omega (arith, r.below); holds = r.holds; before = r.before }
      go none true y r = record { below = omega arith; holds = y; before = r }
      go none false y r = λ j h. at y r j h (ltb j n) refl

  located_at : (n : ℕ) (o : Option ℕ) → first_below n t ≡ o → Located t n o
  located_at n o e = rw e at (located n)

  -- what was found stays
  stays : (m n k : ℕ) → first_below m t ≡ some k → m ≤ n → first_below n t ≡ some k
  unfolding or_else
  stays m zero k e h = let s : m ≡ 0 = omega arith in rw s at e
  stays m (suc n) k e h = go (ltb n m) refl (stays m n k e)
    where
      go : (b : Bool) → ltb n m ≡ b → (m ≤ n → first_below n t ≡ some k) → first_below (suc n) t ≡ some k
      go true l r = let s : m ≡ suc n = omega (arith, ltb-true n m l) in rw s at e
      go false l r = rw (r (ltb-false n m l))

  -- one position more
  here : (n : ℕ) → first_below n t ≡ none → t n ≡ true → first_below (suc n) t ≡ some n
  unfolding or_else
  here n e f = rw (e, f)

  past : (n : ℕ) → first_below n t ≡ none → t n ≡ false → first_below (suc n) t ≡ none
  unfolding or_else
  past n e f = rw (e, f)

same_below : (n : ℕ) (t u : ℕ → Bool) → ((k : ℕ) → k < n → t k ≡ u k) → first_below n t ≡ first_below n u
same_below zero t u h = refl
same_below (suc n) t u h = rw (same_below n t u (λ k l. h k (omega arith)), h n (omega arith))

-- WHAT IS WRONG
module _ (os : List ℕ) where
  by_entry : (m k : ℕ) → m ≤ length os → first_below m (faulty os) ≡ some k → order_fault os ≡ some k
  unfolding order_fault or_else
  by_entry m k h e = rw (stays (faulty os) m (length os) k e h)

  by_end : first_below (length os) (faulty os) ≡ none → order_fault os ≡ pick (ltb (length os) places) (some (length os)) none
  unfolding order_fault or_else
  by_end e = rw e

-- DISTINCT PLACES
member_last : (q x : ℕ) (xs : List ℕ) → member q (xs ++ (x ∷ [])) ≡ (eqb q x || member q xs)
member_last q x [] = refl
member_last q x (p ∷ xs) = rw (member_last q x xs) (swap (eqb q p) (eqb q x) (member q xs))
  where
    swap : (a b c : Bool) → (a || (b || c)) ≡ (b || (a || c))
    swap a b c = grind (arith, nat_tests)

distinct_last : (x : ℕ) (xs : List ℕ) → distinct (xs ++ (x ∷ [])) ≡ (distinct xs && (ltb x places && not (member x xs)))
distinct_last x [] = refl
distinct_last x (p ∷ xs) =
    let e : eqb p x ≡ eqb x p = grind (arith, nat_tests) in
    rw (member_last p x xs, distinct_last x xs, e) (go (ltb p places) (eqb x p) (member p xs) (distinct xs) (ltb x places) (member x xs))
  where
    go : (a b c d e f : Bool) → (a && (not (b || c) && (d && (e && not f)))) ≡ ((a && (not c && d)) && (e && not (b || f)))
    go a b c d e f = grind (arith, nat_tests)

abbrev is_none : Option ℕ → Bool
is_none none = true
is_none (some k) = false

-- no entry before a position is at fault exactly if these entries are distinct places
front_distinct : (os : List ℕ) (n : ℕ) → n ≤ length os → is_none (first_below n (faulty os)) ≡ distinct (take n os)
unfolding or_else
front_distinct os zero h = refl
front_distinct os (suc n) h =
    both (first_below n (faulty os)) (faulty os n)
    ∙ rw (take-suc os n 0 (omega arith), distinct_last (get_or os n 0) (take n os), front_distinct os n (omega arith)) (ap (λ b. distinct (take n os) && b) (at (ltb (get_or os n 0) places) refl))
  where
    both : (o : Option ℕ) (b : Bool) → is_none (or_else o (pick b (some n) none)) ≡ (is_none o && not b)
    both none true = refl
    both none false = refl
    both (some k) b = refl

    at : (b : Bool) → ltb (get_or os n 0) places ≡ b → not (faulty os n) ≡ (b && not (repeats os n))
    at true e = rw (lt-leb places (get_or os n 0) (ltb-true _ _ e))
    at false e = rw (le-leb places (get_or os n 0) (ltb-false _ _ e))

-- so there are at most 22 of them
pub turns : (os : List ℕ) (n : ℕ) → n ≤ length os → first_below n (faulty os) ≡ none → n ≤ places
turns os n h e = let d : distinct (take n os) ≡ true = sym (front_distinct os n h) ∙ ap is_none e in omega (arith, at_most (take n os) d, length-take-le n os h)

-- NOTHING IS WRONG
none_permutation : (os : List ℕ) → is_none (order_fault os) ≡ permutation os
unfolding permutation all
none_permutation os = go (first_below (length os) (faulty os)) refl (rw (take-length os) at (front_distinct os (length os) (omega arith)))
  where
    long : first_below (length os) (faulty os) ≡ none → (b : Bool) → ltb (length os) places ≡ b → is_none (pick b (some (length os)) none) ≡ (eqb (length os) places && (true && true))
    long e true h = rw (ne_eqb (length os) places (λ f. absurd (omega (arith, ltb-true (length os) places h))))
    long e false h = rw (eq-eqb (length os) places (omega (arith, ltb-false (length os) places h, turns os (length os) (omega arith) e)))

    go : (o : Option ℕ) → first_below (length os) (faulty os) ≡ o → is_none (first_below (length os) (faulty os)) ≡ distinct os
        → is_none (order_fault os) ≡ (eqb (length os) places && (distinct os && true))
    go none e d = rw (by_end os e, ← d, e) (long e (ltb (length os) places) refl)
    go (some k) e d = rw (by_entry os (length os) k (omega arith) e, ← d, e) (sym (and-false (eqb (length os) places)))

-- what an answer says of it
pub answered : (os : List ℕ) (r : Answer ℕ) (b : Bool) → fault_position r ≡ order_fault os → is_some_of r ≡ not b → b ≡ permutation os
answered os None true e h = ap is_none e ∙ none_permutation os
answered os None false e h = cc
answered os (Some k) true e h = cc
answered os (Some k) false e h = ap is_none e ∙ none_permutation os

nothing_wrong : (os : List ℕ) → (order_fault os ≡ none) ↔ (permutation os ≡ true)
nothing_wrong os = (λ e. sym (none_permutation os) ∙ ap is_none e, λ p. is_none_lem (order_fault os) (none_permutation os ∙ p))
  where
    is_none_lem : (o : Option ℕ) → is_none o ≡ true → o ≡ none
    is_none_lem none e = refl
    is_none_lem (some k) e = cc

-- WHAT THE POSITION SAYS
member_at : (q : ℕ) (os : List ℕ) → member q os ≡ true → (j : ℕ) × (j < length os) × (get_or os j 0 ≡ q)
member_at q [] e = cc
member_at q (p ∷ os) e =
    ⊎_elim (λ x. (0, omega arith, sym (eqb-true q p x)))
    (λ m. let r = member_at q os m in (suc r.0, omega (arith, r.1), r.2)) (or_cases (eqb q p) (member q os) e)

at_member : (os : List ℕ) (i : ℕ) → i < length os → member (get_or os i 0) os ≡ true
at_member [] i h = absurd (omega arith)
at_member (p ∷ os) zero h = rw (eq-eqb p p refl)
at_member (p ∷ os) (suc i) h = rw (at_member os i (omega arith)) (or-true (eqb (get_or os i 0) p))

module _ (os : List ℕ) (k : ℕ) (e : order_fault os ≡ some k) where
  -- an entry is at fault, or entries are only missing
  data Which : Type 0 where
    entry : Found (faulty os) (length os) k → Which
    end : Located (faulty os) (length os) none → k ≡ length os → k < places → Which

  which : Which
  which = go (first_below (length os) (faulty os)) refl
    where
      last : Located (faulty os) (length os) none → (b : Bool) → ltb (length os) places ≡ b → pick b (some (length os)) none ≡ some k → Which
      last r true h f = let s : length os ≡ k = cc in end r (sym s) (omega (arith, ltb-true (length os) places h))
      last r false h f = cc

      go : (o : Option ℕ) → first_below (length os) (faulty os) ≡ o → Which
      go (some m) f = let s : m ≡ k = cc (by_entry os (length os) m (omega arith) f) in entry (rw s at (located_at (faulty os) (length os) (some m) f))
      go none f = last (located_at (faulty os) (length os) none f) (ltb (length os) places) refl (sym (by_end os f) ∙ e)

  -- no entry before it is at fault
  sound : (j : ℕ) → j < k → faulty os j ≡ false
  sound j h = go which
    where
      go : Which → faulty os j ≡ false
      go (entry f) = f.before j h
      go (end r s l) = r j (omega arith)

  within_length : k ≤ length os
  within_length = go which
    where
      go : Which → k ≤ length os
      go (entry f) = omega (arith, f.below)
      go (end r s l) = omega arith

  wrong_entry : k < length os → (places ≤ get_or os k 0) ⊎ ((j : ℕ) × (j < k) × (get_or os j 0 ≡ get_or os k 0))
  wrong_entry h = go which
    where
      again : repeats os k ≡ true → (j : ℕ) × (j < k) × (get_or os j 0 ≡ get_or os k 0)
      again t =
          let m = member_at (get_or os k 0) (take k os) t in
          let l : m.0 < k = omega (arith, m.1, length-take-le k os (omega arith)) in
          (m.0, l, sym (get_or-take k os m.0 0 l) ∙ m.2)

      go : Which → (places ≤ get_or os k 0) ⊎ ((j : ℕ) × (j < k) × (get_or os j 0 ≡ get_or os k 0))
      go (entry f) = ⊎_elim (λ t. inl (leb-true places (get_or os k 0) t)) (λ t. inr (again t)) (or_cases (outside os k) (repeats os k) f.holds)
      go (end r s l) = absurd (omega arith)

  in_range_lem : (j : ℕ) → j < k → get_or os j 0 < places
  in_range_lem j h = leb-false places (get_or os j 0) (or_parts (outside os j) (repeats os j) (sound j h)).0

  unequal : (j i : ℕ) → j < k → i < j → get_or os i 0 ≡ get_or os j 0 → ⊥
  unequal j i h l f =
      let n : length (take j os) ≡ j = length-take-le j os (omega (arith, within_length)) in
      let m : repeats os j ≡ true = rw (get_or-take j os i 0 l ∙ f) at (at_member (take j os) i (omega arith)) in
      cc (or_parts (outside os j) (repeats os j) (sound j h)).1

  only_missing : length os ≤ k → (k ≡ length os) × (k < places)
  only_missing h = go which
    where
      go : Which → (k ≡ length os) × (k < places)
      go (entry f) = absurd (omega (arith, f.below))
      go (end r s l) = (s, l)

-- 23 entries are enough
module _ (os : List ℕ) (h : places < length os) where
  soon : (k : ℕ) × (k ≤ places) × (first_below (suc places) (faulty os) ≡ some k)
  soon = go (first_below (suc places) (faulty os)) refl
    where
      go : (o : Option ℕ) → first_below (suc places) (faulty os) ≡ o → (k : ℕ) × (k ≤ places) × (o ≡ some k)
      go (some k) e = (k, omega (arith, (located_at (faulty os) (suc places) (some k) e).below), refl)
      go none e = absurd (omega (arith, turns os (suc places) (omega arith) e))

  same_faults : (more : List ℕ) → first_below (suc places) (faulty (os ++ more)) ≡ first_below (suc places) (faulty os)
  same_faults more = same_below (suc places) (faulty (os ++ more)) (faulty os) (λ k l. rw (get_or-append os more 0 k (omega arith), take-append-le k os more (omega arith)))

  nothing_behind : (more : List ℕ) → order_fault (os ++ more) ≡ order_fault os
  nothing_behind more =
      by_entry (os ++ more) (suc places) soon.0 (omega (arith, length-append os more)) (same_faults more ∙ soon.2) ∙ sym (by_entry os (suc places) soon.0 (omega arith) soon.2)

pub first_fault : FirstFault
first_fault =
    record {
      nothing = nothing_wrong;
      entry = wrong_entry;
      in_range = λ os k j e h. in_range_lem os k e j h;
      unequal = λ os k j i e h l f. unequal os k e j i h l f;
      missing = only_missing;
      within = λ os h. ((soon os h).0, (soon os h).1, by_entry os (suc places) (soon os h).0 (omega arith) (soon os h).2);
      behind = λ os more h. nothing_behind os h more;
    }

-- A PASS FROM THE FRONT
-- the marks are those of the places in an order
abbrev pub Met : ℕ → List ℕ → Type 0
Met m os = (q : ℕ) → marked m q ≡ member q os

module _ (os : List ℕ) (i : ℕ) (e : first_below i (faulty os) ≡ none) where
  at_fault : i < length os → faulty os i ≡ true → some i ≡ order_fault os
  at_fault l f = sym (by_entry os (suc i) i (omega arith) (here (faulty os) i e f))

  one_more : faulty os i ≡ false → first_below (i + 1) (faulty os) ≡ none
  one_more f = rw (add-one i) (past (faulty os) i e f)

  at_end : length os ≡ i → pick (ltb i places) (some (length os)) none ≡ order_fault os
  at_end s = rw (← s) (sym (by_end os (rw (← s) at e)))

met_more : (os : List ℕ) (i m : ℕ) → i < length os → get_or os i 0 < places → Met m (take i os)
    → Met (pick (ltb (get_or os i 0) 32) (mark m (get_or os i 0)) m) (take (i + 1) os)
met_more os i m l p f q = rw (add-one i, take-suc os i 0 l, member_last q (get_or os i 0) (take i os), lt-ltb (get_or os i 0) 32 (omega arith)) (go (get_or os i 0) (eqb q (get_or os i 0)) refl)
  where
    go : (x : ℕ) (b : Bool) → eqb q x ≡ b → marked (mark m x) q ≡ (b || member q (take i os))
    go x true e = rw (eqb-true q x e) (marked_same m x)
    go x false e = marked_other m x q (eqb-false q x e) ∙ f q

-- the answers of the pass
module _ (os : List ℕ) (i : ℕ) (e : first_below i (faulty os) ≡ none) where
  pub at_outside : i < length os → places ≤ get_or os i 0 → some i ≡ order_fault os
  at_outside l p = at_fault os i e l (rw (le-leb places (get_or os i 0) p))

  module _ (m : ℕ) (f : Met m (take i os)) (l : i < length os) (p : get_or os i 0 < places) where
    pub at_repeat : marked m (get_or os i 0) ≡ true → some i ≡ order_fault os
    at_repeat k = let r : repeats os i ≡ true = sym (f (get_or os i 0)) ∙ k in at_fault os i e l (rw (lt-leb places (get_or os i 0) p, r))

    pub next_met : marked m (get_or os i 0) ≡ false
        → (i + 1 ≤ places) × (first_below (i + 1) (faulty os) ≡ none) × Met (pick (ltb (get_or os i 0) 32) (mark m (get_or os i 0)) m) (take (i + 1) os)
    next_met k =
        let r : repeats os i ≡ false = sym (f (get_or os i 0)) ∙ k in
        let n = one_more os i e (rw (lt-leb places (get_or os i 0) p, r)) in
        (turns os (i + 1) (omega arith) n, n, met_more os i m l p f)

  pub too_short : i ≡ length os → i < places → some (length os) ≡ order_fault os
  too_short s l = rw (lt-ltb i places l) at (at_end os i e (sym s))

  pub long_enough : i ≡ length os → places ≤ i → none ≡ order_fault os
  long_enough s l = rw (le-ltb i places l) at (at_end os i e (sym s))
