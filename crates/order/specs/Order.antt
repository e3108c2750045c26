-- Orders of the places. A permutation of 0 to 21: 22 entries, each a place, and none of them twice.
-- And what is wrong with a list of entries, by the position of its first fault.
use Rattle.std.specs.Prelude.{ℕ, zero, suc, List, [], ◌∷◌, Bool, true, ◌&&◌, ◌||◌, not, length, get_or, take, leb, ltb, eqb}
use Rattle.std.proofs.Math.Option.{Option, none, some, or_else}
use Rattle.refusal.specs.Outcome.{all, pick}
use Rattle.words.specs.Words.{member}
use Rattle.catalogue.specs.Catalogue.{places}

abbrev pub distinct : List ℕ → Bool
distinct [] = true
distinct (p ∷ os) = ltb p places && (not (member p os) && distinct os)

unfoldable pub permutation : List ℕ → Bool
permutation os = all (eqb (length os) places ∷ distinct os ∷ [])

unfoldable pub catalogue_order : List ℕ
catalogue_order = 0 ∷ 1 ∷ 2 ∷ 3 ∷ 4 ∷ 5 ∷ 6 ∷ 7 ∷ 8 ∷ 9 ∷ 10 ∷ 11 ∷ 12 ∷ 13 ∷ 14 ∷ 15 ∷ 16 ∷ 17 ∷ 18 ∷ 19 ∷ 20 ∷ 21 ∷ []

-- entry k, counted from 0, is no place
abbrev pub outside : List ℕ → ℕ → Bool
outside os k = leb places (get_or os k 0)

-- it equals an earlier one
abbrev pub repeats : List ℕ → ℕ → Bool
repeats os k = member (get_or os k 0) (take k os)

-- it is at fault
abbrev pub faulty : List ℕ → ℕ → Bool
faulty os k = outside os k || repeats os k

-- the first position below n at which a test holds. `or_else` is the first of two, or the second
-- where that is none
abbrev pub first_below : ℕ → (ℕ → Bool) → Option ℕ
first_below zero t = none
first_below (suc n) t = or_else (first_below n t) (pick (t n) (some n) none)

-- the position of the first entry at fault; the length if there is no such entry and entries are
-- missing; none otherwise
unfoldable pub order_fault : List ℕ → Option ℕ
order_fault os = or_else (first_below (length os) (faulty os)) (pick (ltb (length os) places) (some (length os)) none)
