-- Sums over the places of what was read, against sums over the parameters that it was read from:
-- where no place repeats, each known parameter adds what its place counts. Nothing here names a
-- place. Assumes nothing.
--     read_gains     the two are the same
use Prim.Native.Nat.{ℕ, zero, suc, ◌+◌, ◌<◌}
use mathlib.Core.Path.{◌≡◌, refl, ap, sym, ◌∙◌}
use mathlib.Core.List.{List, [], ◌∷◌}
use mathlib.Core.Option.{Option, none, some}
use mathlib.Core.Bool.{Bool, true, false}
use native.Mathlib.Omega.{arith}
use lib.Dec.{ltb, eqb}
use borrow.Author.Tests.{le-ltb, lt-ltb, eqb-true}
use Rattle.refusal.specs.Outcome.{accepted, pick}
use Rattle.refusal.proofs.Laws.{inverted}
use Rattle.catalogue.specs.Catalogue.{places, place_of}
use Rattle.catalogue.specs.Sum.{sum}
use Rattle.catalogue.proofs.Sums.{but, sum_eq, sum_but}
use Rattle.record.specs.Values.{Values, no_values, is_some, upd}
use Rattle.front.specs.Whole.{Whole, Wholes, concat}
use Rattle.reader.specs.Reading.{step, parse}
use Rattle.reader.proofs.Run.{parse_nil, parse_whole, stepped}
use Rattle.tally.specs.Tally.{sum_of}

-- what places count of their values
abbrev pub Measure : Type 0
Measure = ℕ → Option (List ℕ) → ℕ

abbrev pub over : Measure → Values → ℕ
over f l = sum places (λ p. f p (l p))

unfoldable pub gain : Measure → ℕ → List ℕ → ℕ
gain f id v = pick (ltb (place_of id) places) (f (place_of id) (some v)) 0

is_none : (o : Option (List ℕ)) → is_some o ≡ false → o ≡ none
is_none none e = refl
is_none (some v) e = cc

zeroes : (n : ℕ) (g : ℕ → ℕ) → ((p : ℕ) → g p ≡ 0) → sum n g ≡ 0
unfolding sum
zeroes zero g z = refl
zeroes (suc n) g z = omega (arith, zeroes n g z, z n)

module _ (f : Measure) (z : (p : ℕ) → f p none ≡ 0) where
  upd_gain : (l : Values) (p : ℕ) (v : List ℕ) → p < places → is_some (l p) ≡ false → over f (upd l p (some v)) ≡ over f l + f p (some v)
  unfolding upd
  upd_gain l p v h n =
      let e : sum places (λ q. f q (upd l p (some v) q)) ≡ sum places (but (λ q. f q (l q)) p (f p (some v)))
      = sum_eq places (λ q. f q (upd l p (some v) q)) (but (λ q. f q (l q)) p (f p (some v))) (λ q k. at q (eqb q p) refl) in
      let y : f p (l p) ≡ 0 = ap (f p) (is_none (l p) n) ∙ z p in
      omega (arith, e, sum_but places (λ q. f q (l q)) p (f p (some v)) h)
    where
      at : (q : ℕ) (b : Bool) → eqb q p ≡ b → f q (pick b (some v) (l q)) ≡ pick b (f p (some v)) (f q (l q))
      at q true e = rw (eqb-true q p e)
      at q false e = refl

  step_gain : (l k : Values) (id : ℕ) (v : List ℕ) → step l id v ≡ accepted k → over f k ≡ over f l + gain f id v
  unfolding gain
  step_gain l k id v e =
      stepped l k id v e (λ h q. rw (le-ltb (place_of id) places h, q) (omega arith)) λ h n i x q.
      rw (lt-ltb (place_of id) places h, ← q) (upd_gain l (place_of id) v h n)

  gains : (g : List ℕ → ℕ) → ((w : List ℕ) (h : Whole w) → g w ≡ gain f h.id h.v) → (ws : List (List ℕ)) (h : Wholes ws) (l m : Values)
      → parse l (concat ws) ≡ accepted m → over f m ≡ over f l + sum_of g ws
  gains g k [] h l m e = let q : l ≡ m = cc (parse_nil l) in rw q (omega arith)
  gains g k (w ∷ ws) h l m e =
      let ih = gains g k ws h.1 in
      inverted (step l h.0.id h.0.v) _ m (sym (parse_whole l w (concat ws) h.0.id h.0.v h.0.is) ∙ e) λ n ne nf.
      omega (arith, step_gain l n h.0.id h.0.v ne, k w h.0, ih n m nf)

  pub read_gains : (g : List ℕ → ℕ) → ((w : List ℕ) (h : Whole w) → g w ≡ gain f h.id h.v) → (ws : List (List ℕ)) (h : Wholes ws) (m : Values)
      → parse no_values (concat ws) ≡ accepted m → sum_of g ws ≡ over f m
  unfolding no_values
  read_gains g k ws h m e = omega (arith, gains g k ws h no_values m e, zeroes places (λ p. f p none) z)
