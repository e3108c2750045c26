-- What reading gives, for any catalogue: nothing here names a place. Assumes nothing.
--     grown      each value fits its place, and the shortest forms of all of them are no longer
--                than the bytes read
use Prim.Native.Nat.{ℕ, zero, suc, ◌+◌, ◌≤◌, ◌<◌}
use mathlib.Core.Path.{◌≡◌, refl}
use mathlib.Core.List.{List, [], ◌∷◌}
use mathlib.Core.Option.{some}
use mathlib.Core.Bool.{Bool, true, false}
use native.Mathlib.Omega.{arith}
use lib.ListN.{length}
use lib.Dec.{eqb}
use borrow.Author.Tests.{eqb-true}
use Rattle.refusal.specs.Outcome.{accepted, pick}
use Rattle.refusal.proofs.Laws.{inverted}
use Rattle.catalogue.specs.Catalogue.{places, place_of, id_at, kind_at, parameter, parameter_if}
use Rattle.record.specs.Values.{Bytes, Values, no_values, upd}
use Rattle.catalogue.specs.Sum.{sum}
use Rattle.catalogue.proofs.Sums.{but, sum_eq, sum_but}
use Rattle.record.proofs.KindLaws.{Fits, IfSome}
use Rattle.catalogue.proofs.Places.{id_of_place}
use Rattle.record.proofs.Records.{Good, size_at}
use Rattle.front.specs.Parameter.{read_parameter}
use Rattle.reader.specs.Reading.{step, parse_in, parse}
use Rattle.reader.proofs.Run.{stepped}
use Rattle.reader.proofs.Sized.{sized}

-- the bytes of the values of all places, in their shortest form
unfoldable pub total : Values → ℕ
total l = sum places (size_at l)

upd_total : (l : Values) (p : ℕ) (v : List ℕ) → p < places → total (upd l p (some v)) ≤ total l + length (parameter (id_at p) v)
unfolding total upd
upd_total l p v h =
    let e : sum places (size_at (upd l p (some v))) ≡ sum places (but (size_at l) p (length (parameter (id_at p) v)))
    = sum_eq places (size_at (upd l p (some v))) (but (size_at l) p (length (parameter (id_at p) v))) (λ q k. at q (eqb q p) refl) in
    omega (arith, sum_but places (size_at l) p (length (parameter (id_at p) v)) h)
  where
    at : (q : ℕ) (b : Bool) → eqb q p ≡ b → length (parameter_if (id_at q) (pick b (some v) (l q))) ≡ pick b (length (parameter (id_at p) v)) (length (parameter_if (id_at q) (l q)))
    at q true e = rw (eqb-true q p e)
    at q false e = refl

upd_good : (l : Values) (p : ℕ) (v : List ℕ) → Good l → Fits (kind_at p) v → Good (upd l p (some v))
unfolding upd
upd_good l p v g f q = go (eqb q p) refl
  where
    go : (b : Bool) → eqb q p ≡ b → IfSome (Fits (kind_at q)) (pick b (some v) (l q))
    go true h = rw (eqb-true q p h) f
    go false h = g q

step_good : (l l' : Values) (id : ℕ) (v : List ℕ) → Good l → Bytes v → step l id v ≡ accepted l' → Good l' × (total l' ≤ total l + length (parameter id v))
step_good l l' id v g hb e =
    stepped l l' id v e (λ h i. rw (← i) (g, omega arith)) λ h m x y i.
    rw (← i) (upd_good l (place_of id) v g (record { legal = x; fit = y; bytes = hb }), rw (id_of_place id h) at (upd_total l (place_of id) v h))

grow : (f : ℕ) (l l' : Values) (bs : List ℕ) → Good l → Bytes bs → parse_in f l bs ≡ accepted l' → Good l' × (total l' ≤ total l + length bs)
grow zero l l' [] g hb e = let i : l ≡ l' = cc in rw (← i) (g, omega arith)
grow zero l l' (b ∷ bs) g hb e = cc
grow (suc f) l l' [] g hb e = let i : l ≡ l' = cc in rw (← i) (g, omega arith)
grow (suc f) l l' (b ∷ bs) g hb e =
    let ih = grow f in
    inverted (read_parameter (b ∷ bs)) _ l' e λ i ie ef.
    inverted (step l i.0 i.1) _ l' ef λ k ke kf.
    let s = sized (b ∷ bs) i hb ie in
    let a = step_good l k i.0 i.1 g s.value_bytes ke in
    let c = ih k l' i.2 a.0 s.rest_bytes kf in
    (c.0, omega arith)

empty_total : total no_values ≡ 0
unfolding total no_values sum
empty_total = refl

empty_good : Good no_values
unfolding no_values
empty_good p = tt

pub grown : (l : Values) (bs : List ℕ) → Bytes bs → parse no_values bs ≡ accepted l → Good l × (total l ≤ length bs)
unfolding parse
grown l bs hb e = let a = grow (length bs) no_values l bs empty_good hb e in (a.0, omega (arith, empty_total))
