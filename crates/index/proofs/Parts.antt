-- The parts of what is kept, as the definitions have them. Assumes nothing.
--     of_bytes, there, there_at                 where a value stands
--     none_outside, none_number, none_unmet     where there is none
--     versions_fit       version information that was met fits
--     address_long       a preferred address that was met has a connection ID's length
use Prim.Native.Nat.{ℕ, ◌+◌, ◌-◌, ◌≤◌, ◌<◌}
use mathlib.Core.Path.{◌≡◌, refl, sym, ◌∙◌}
use mathlib.Core.List.{List}
use mathlib.Core.Option.{Option, none, some}
use mathlib.Core.Bool.{Bool, true, false, ◌&&◌, and-false}
use native.Mathlib.Omega.{arith}
use lib.ListN.{length, get_or, take, drop, length-drop}
use lib.Seq.{length-take-le, get_or-take, get_or-drop}
use lib.Dec.{ltb}
use borrow.Author.Tests.{leb-true, lt-ltb, le-ltb}
use Rattle.refusal.specs.Outcome.{pick}
use Rattle.refusal.proofs.Laws.{all_at, pick_cases}
use Rattle.marks.specs.Mark.{marked}
use Rattle.catalogue.specs.Catalogue.{Kind, number, flag, cid, token, address, versions, reserved, places, kind_at, kinds, other_kinds, fits}
use Rattle.value.proofs.Checks.{number_at_lem, not_number_at}
use Rattle.index.specs.Index.{Found, id_len, value_at, holds_bytes, value_of, Sound}

-- where a value stands, and where there is none
module _ (s : List ℕ) (f : Found) (p : ℕ) where
  pub none_outside : places ≤ p → none ≡ value_of s f p
  unfolding value_of
  none_outside h = rw (le-ltb p places h)

  pub none_number : marked 0x1047ff p ≡ true → none ≡ value_of s f p
  unfolding value_of
  none_number m = rw (number_at_lem p m, and-false)

  pub none_unmet : marked f.0 p ≡ false → none ≡ value_of s f p
  unfolding value_of value_at
  none_unmet h = pick_cases (λ (o : Option (List ℕ)). none ≡ o) (ltb p places && holds_bytes (kind_at p)) (value_at s f p) none (λ _. rw h) (λ _. refl)

  pub of_bytes : p < places → (kind_at p ≡ number → ⊥) → value_of s f p ≡ value_at s f p
  unfolding value_of
  of_bytes h n = rw (lt-ltb p places h) (go (kind_at p) n)
    where
      go : (k : Kind) → (k ≡ number → ⊥) → pick (holds_bytes k) (value_at s f p) none ≡ value_at s f p
      go number n = absurd (n refl)
      go flag n = refl
      go cid n = refl
      go token n = refl
      go address n = refl
      go versions n = refl
      go reserved n = refl

  pub there : p < places → marked 0x1047ff p ≡ false → marked f.0 p ≡ true → some (take (get_or f.2 p 0) (drop (get_or f.1 p 0) s)) ≡ value_of s f p
  unfolding value_at
  there h n m = rw (of_bytes h (not_number_at p n), m)

  -- from where it starts to where it ends
  pub there_at : (a e : ℕ) → p < places → marked 0x1047ff p ≡ false → marked f.0 p ≡ true → a ≡ get_or f.1 p 0 → e ≡ a + get_or f.2 p 0
      → some (take (e - a) (drop a s)) ≡ value_of s f p
  there_at a e h n m ea ee =
      let k : e - a ≡ get_or f.2 p 0 = omega (arith, ee) in
      rw (k, ea) (there h n m)

-- 15 holds an address
pub address_place : kind_at 15 ≡ address
unfolding kind_at kinds other_kinds
address_place = refl

pub address_no : kind_at 15 ≡ number → ⊥
address_no e = let q : address ≡ number = sym address_place ∙ e in cc

-- 21 holds version information
versions_place : kind_at 21 ≡ versions
unfolding kind_at kinds other_kinds
versions_place = refl

pub versions_no : kind_at 21 ≡ number → ⊥
versions_no e = let q : versions ≡ number = sym versions_place ∙ e in cc

pub versions_fit : (s : List ℕ) (f : Found) → Sound s f → (v : List ℕ) → some v ≡ value_at s f 21 → fits versions v ≡ true
unfolding value_at
versions_fit s f i v e = go (marked f.0 21) refl e
  where
    go : (b : Bool) → marked f.0 21 ≡ b → some v ≡ pick b (some (take (get_or f.2 21 0) (drop (get_or f.1 21 0) s))) none → fits versions v ≡ true
    go false m q = cc
    go true m q = let w : v ≡ take (get_or f.2 21 0) (drop (get_or f.1 21 0) s) = cc in rw w (rw versions_place at (i.fit 21 versions_no m))

module _ (s : List ℕ) (f : Found) (i : Sound s f) where
  abbrev pub span : List ℕ
  span = take (get_or f.2 15 0) (drop (get_or f.1 15 0) s)

  address_long : marked f.0 15 ≡ true → (41 ≤ length span) × (length span ≡ get_or f.2 15 0)
  unfolding fits
  address_long m =
      let t : fits address span ≡ true = rw address_place at (i.fit 15 address_no m) in
      (leb-true 41 (length span) (all_at _ t 0), length-take-le _ _ (rw length-drop (omega (arith, i.within 15 address_no))))

  -- where the length of the connection ID stands
  pub id_there : (v : List ℕ) → some v ≡ value_at s f 15 → (24 < length v) × (get_or v 24 0 ≡ id_len s f)
  unfolding value_at id_len
  id_there v e = go (marked f.0 15) refl e
    where
      go : (b : Bool) → marked f.0 15 ≡ b → some v ≡ pick b (some span) none → (24 < length v) × (get_or v 24 0 ≡ pick b (get_or s (get_or f.1 15 0 + 24) 0) 0)
      go false m q = cc
      go true m q =
          let h = address_long m in
          let w : v ≡ span = cc in
          let k : 24 < get_or f.2 15 0 = omega (arith, h) in
          rw w (omega (arith, h), get_or-take _ (drop (get_or f.1 15 0) s) 24 0 k ∙ get_or-drop (get_or f.1 15 0) s 24 0)

  pub id_none : none ≡ value_at s f 15 → 0 ≡ id_len s f
  unfolding value_at id_len
  id_none e = go (marked f.0 15) e
    where
      go : (b : Bool) → none ≡ pick b (some span) none → 0 ≡ pick b (get_or s (get_or f.1 15 0 + 24) 0) 0
      go false q = refl
      go true q = cc
