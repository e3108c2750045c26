-- The laws of the tables. Assumes nothing.
--     place_of_id, id_of_place    identifiers and places belong together
--     place_within                an identifier's place is one of the catalogue, or the number of
--                                 them
--     id_lt                       a number holds each identifier
--     reserved_unknown            a reserved identifier has no place
--     number_kind, default_lt     places 0 to 10 hold numbers, and their defaults are numbers
use Prim.Native.Nat.{ℕ, suc, ◌^◌, ◌%◌, ◌≤◌, ◌<◌}
use mathlib.Core.Path.{◌≡◌, refl, ap, sym, ◌∙◌}
use mathlib.Core.List.{List, [], ◌∷◌}
use mathlib.Core.Bool.{Bool, true, false, not}
use native.Mathlib.Omega.{arith}
use lib.ListN.{length, get_or, replicate, get_or-append, get_or-replicate}
use lib.Dec.{ltb, eqb}
use borrow.Author.Tests.{ltb-true, ne_eqb, eqb-true, eqb-false}
use Rattle.std.proofs.lemmas.Bool.{and_parts, agree_below_at, not-true}
use Rattle.refusal.specs.Outcome.{pick}
use Rattle.varint.specs.Number.{bound}
use Rattle.words.specs.Words.{every}
use Rattle.catalogue.specs.Catalogue.{number, reserved, places, place_of, ids, id_at, kinds, other_kinds, kind_at, defaults, index_of}

-- each identifier has its place and fits a number, but the one of place 11
pub place_of_id : (p : ℕ) → p < places → eqb p 11 ≡ false → place_of (id_at p) ≡ p
unfolding place_of id_at ids
place_of_id p h k = eqb-true _ _ (rw k at (agree_below_at (λ p. pick (eqb p 11) true (eqb (place_of (id_at p)) p)) (λ p. true) places p refl h))

pub id_lt : (p : ℕ) → p < places → eqb p 11 ≡ false → id_at p < 2 ^ 62
unfolding id_at ids
id_lt p h k = ltb-true _ _ (rw k at (agree_below_at (λ p. pick (eqb p 11) true (ltb (id_at p) (2 ^ 62))) (λ p. true) places p refl h))

index_at : (x : ℕ) (ys : List ℕ) → index_of x ys < length ys → get_or ys (index_of x ys) 0 ≡ x
index_at x [] h = absurd (omega arith)
index_at x (y ∷ ys) h = go (eqb x y) refl h (index_at x ys)
  where
    go : (b : Bool) → eqb x y ≡ b → pick b 0 (suc (index_of x ys)) < suc (length ys) → (index_of x ys < length ys → get_or ys (index_of x ys) 0 ≡ x)
        → get_or (y ∷ ys) (pick b 0 (suc (index_of x ys))) 0 ≡ x
    go true e h ih = sym (eqb-true x y e)
    go false e h ih = ih (omega arith)

pub id_of_place : (id : ℕ) → place_of id < places → id_at (place_of id) ≡ id
unfolding place_of id_at ids
id_of_place id h = go (ltb id bound) h
  where
    go : (b : Bool) → pick b (index_of id ids) places < places → get_or ids (pick b (index_of id ids) places) 0 ≡ id
    go true k = index_at id ids k
    go false k = absurd (omega arith)

index_within : (x : ℕ) (ys : List ℕ) → index_of x ys ≤ length ys
index_within x [] = omega arith
index_within x (y ∷ ys) = go (eqb x y) (index_within x ys)
  where
    go : (b : Bool) → index_of x ys ≤ length ys → pick b 0 (suc (index_of x ys)) ≤ suc (length ys)
    go true h = omega arith
    go false h = omega arith

pub place_within : (id : ℕ) → place_of id ≤ places
unfolding place_of ids
place_within id = go (ltb id bound)
  where
    go : (b : Bool) → pick b (index_of id ids) places ≤ places
    go true = index_within id ids
    go false = omega arith

-- an identifier with remainder 27 on division by 31 is unknown
none_of : (x : ℕ) (ys : List ℕ) → every (λ y. not (eqb (y % 31) 27)) ys ≡ true → x % 31 ≡ 27 → index_of x ys ≡ length ys
none_of x [] h k = refl
none_of x (y ∷ ys) h k =
    let p = and_parts (not (eqb (y % 31) 27)) (every (λ y. not (eqb (y % 31) 27)) ys) h in
    let n : eqb x y ≡ false = ne_eqb x y (λ q. eqb-false (y % 31) 27 (not-true (eqb (y % 31) 27) p.0) (rw q at k)) in
    rw n (ap suc (none_of x ys p.1 k))

pub reserved_unknown : (x : ℕ) → x % 31 ≡ 27 → places ≤ place_of x
unfolding place_of ids
reserved_unknown x h = go (ltb x bound)
  where
    go : (b : Bool) → places ≤ pick b (index_of x ids) places
    go true = omega (arith, none_of x ids refl h)
    go false = omega arith

pub number_kind : (p : ℕ) → p < 11 → kind_at p ≡ number
unfolding kind_at kinds
number_kind p h = get_or-append (replicate 11 number) other_kinds reserved p h ∙ get_or-replicate 11 p number reserved h

pub default_lt : (p : ℕ) → p < 11 → get_or defaults p 0 < 2 ^ 62
unfolding defaults
default_lt p h = ltb-true _ _ (agree_below_at (λ p. ltb (get_or defaults p 0) (2 ^ 62)) (λ p. true) 11 p refl h)
