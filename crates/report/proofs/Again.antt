-- What is sent again for the values that were read, place by place: nothing for a default of places
-- 0 to 10, a number in its shortest form, any other value as it came. Assumes nothing.
--     sent_again      of each place
--     size_again      so that the tidied length is a sum over the places of what was read
use Prim.Native.Nat.{ℕ, zero, suc, ◌+◌, ◌-◌, ◌<◌}
use mathlib.Core.Path.{◌≡◌, refl, ap, sym, ◌∙◌, subst}
use mathlib.Core.List.{List, [], ◌∷◌}
use mathlib.Core.Option.{Option, none, some}
use mathlib.Core.Bool.{Bool, true, false}
use native.Mathlib.Omega.{arith}
use lib.ListN.{length, get_or}
use lib.Dec.{ltb, eqb}
use borrow.Author.Tests.{lt-ltb, ltb-true, ltb-false, eq-eqb, eqb-true, eqb-false}
use Rattle.refusal.specs.Outcome.{pick}
use Rattle.varint.specs.Number.{read_number}
use Rattle.connection_id.proofs.Laws.{cid_same}
use Rattle.catalogue.specs.Catalogue.{number, flag, cid, token, address, versions, reserved, places, id_at, kinds, other_kinds, kind_at, fits, defaults, parameter_if}
use Rattle.catalogue.proofs.Sums.{sum_eq}
use Rattle.catalogue.proofs.Places.{number_kind}
use Rattle.record.specs.Values.{Values, is_some, value, number_in, number_out, optional_in, optional_out, flag_out, cid_in, cid_out, token_in, token_out, address_in, address_out, versions_in, versions_out, numbers_in, no_reserved, record_of, other_values, values_of}
use Rattle.record.proofs.KindLaws.{Fits, IfSome, versions_kept}
use Rattle.record.proofs.Address.{address_kept}
use Rattle.record.proofs.Records.{Each, Good, number_in_lem}
use Rattle.order.specs.Order.{catalogue_order}
use Rattle.order.proofs.Orders.{in_catalogue}
use Rattle.writer.specs.Writing.{reserved_bytes, parameter_at, extension}
use Rattle.writer.proofs.Extension.{length_extension}
use Rattle.tally.specs.Tally.{shortest, restates}
use Rattle.report.proofs.Gains.{Measure, over}

-- the value sent again for a value received
unfoldable pub again : ℕ → Option (List ℕ) → Option (List ℕ)
again p none = none
again p (some v) = pick (restates p (value (read_number v))) none (some (shortest (kind_at p) v))

unfoldable pub size_of_again : Measure
size_of_again p o = length (parameter_if (id_at p) (again p o))

eleven : length defaults ≡ 11
unfolding defaults
eleven = refl

-- places 0 to 10
number_again : (p : ℕ) (o : Option (List ℕ)) → p < 11 → number_out (get_or defaults p 0) (number_in (get_or defaults p 0) o) ≡ again p o
unfolding number_out number_in again restates shortest
number_again p none h = rw (eq-eqb (get_or defaults p 0) (get_or defaults p 0) refl)
number_again p (some v) h = rw (eleven, lt-ltb p 11 h, number_kind p h)

-- the others, by kind
module _ (p : ℕ) (h : ltb p 11 ≡ false) where
  again_some : (v : List ℕ) → again p (some v) ≡ some (shortest (kind_at p) v)
  unfolding again restates
  again_some v = rw (eleven, h)

  optional_again : (o : Option (List ℕ)) → kind_at p ≡ number → optional_out (optional_in o) ≡ again p o
  unfolding optional_out optional_in shortest
  optional_again none k = unfold again in refl
  optional_again (some v) k = rw (again_some v, k)

  token_again : (o : Option (List ℕ)) → kind_at p ≡ token → token_out (token_in o) ≡ again p o
  unfolding token_out token_in shortest
  token_again none k = unfold again in refl
  token_again (some v) k = rw (again_some v, k)

  cid_again : (o : Option (List ℕ)) → kind_at p ≡ cid → cid_out (cid_in o) ≡ again p o
  unfolding cid_out cid_in shortest
  cid_again none k = unfold again in refl
  cid_again (some v) k = rw (again_some v, k) (ap some (cid_same v))

  flag_again : (o : Option (List ℕ)) → IfSome (Fits flag) o → kind_at p ≡ flag → flag_out (is_some o) ≡ again p o
  unfolding flag_out fits shortest
  flag_again none f k = unfold again in refl
  flag_again (some []) f k = rw (again_some [], k)
  flag_again (some (b ∷ v)) f k = let z : suc (length v) ≡ 0 = eqb-true (suc (length v)) 0 f.fit in absurd (omega arith)

  address_again : (o : Option (List ℕ)) → IfSome (Fits address) o → kind_at p ≡ address → address_out (address_in o) ≡ again p o
  unfolding shortest
  address_again none f k = address_kept none f ∙ (unfold again in refl)
  address_again (some v) f k = rw (again_some v, k) (address_kept (some v) f)

  versions_again : (o : Option (List ℕ)) → IfSome (Fits versions) o → kind_at p ≡ versions → versions_out (versions_in o) ≡ again p o
  unfolding shortest
  versions_again none f k = versions_kept none f ∙ (unfold again in refl)
  versions_again (some v) f k = rw (again_some v, k) (versions_kept (some v) f)

reserved_again : (p : ℕ) (o : Option (List ℕ)) → IfSome (Fits reserved) o → none ≡ again p o
unfolding again fits
reserved_again p none f = refl
reserved_again p (some v) f = let e : false ≡ true = f.fit in cc

-- a fact of each of the places from k on
each_at : (P : ℕ → Option (List ℕ) → Type 0) (k : ℕ) (os : List (Option (List ℕ))) → Each P k os → (i : ℕ) → i < length os → P (k + i) (get_or os i none)
each_at P k [] h i n = absurd (omega arith)
each_at P k (o ∷ os) h zero n = let e : k + 0 ≡ k = omega arith in rw e h.0
each_at P k (o ∷ os) h (suc i) n = let e : k + suc i ≡ suc k + i = omega arith in rw e (each_at P (suc k) os h.1 i (omega arith))

module _ (l : Values) (g : Good l) where
  others_again : Each (λ p o. o ≡ again p (l p)) 12 (other_values (record_of l))
  unfolding other_values record_of kind_at kinds other_kinds
  others_again = (
    token_again 12 refl (l 12) refl,
    (
      flag_again 13 refl (l 13) (g 13) refl,
      (
        optional_again 14 refl (l 14) refl,
        (
          address_again 15 refl (l 15) (g 15) refl,
          (
            cid_again 16 refl (l 16) refl,
            (
              cid_again 17 refl (l 17) refl,
              (
                cid_again 18 refl (l 18) refl,
                (
                  flag_again 19 refl (l 19) (g 19) refl,
                  (optional_again 20 refl (l 20) refl, (versions_again 21 refl (l 21) (g 21) refl, tt)),
                ),
              ),
            ),
          ),
        ),
      ),
    ),
  )

  ten : length (other_values (record_of l)) ≡ 10
  unfolding other_values
  ten = refl

  numbers_are : (record_of l).numbers ≡ numbers_in defaults 0 l
  unfolding record_of
  numbers_are = refl

  eleven_none : none ≡ again 11 (l 11)
  unfolding kind_at kinds other_kinds
  eleven_none = reserved_again 11 (l 11) (g 11)

  pub sent_again : (p : ℕ) → p < places → values_of (record_of l) p ≡ again p (l p)
  unfolding values_of
  sent_again p h = go (ltb p 11) (eqb p 11) refl refl
    where
      go : (b c : Bool) → ltb p 11 ≡ b → eqb p 11 ≡ c
          → pick b (number_out (get_or defaults p 0) (get_or (record_of l).numbers p 0)) (pick c none (get_or (other_values (record_of l)) (p - 12) none)) ≡ again p (l p)
      go true c e f = let k = ltb-true p 11 e in rw (numbers_are, number_in_lem l p k) (number_again p (l p) k)
      go false true e f = rw (eqb-true p 11 f) eleven_none
      go false false e f =
          let k : p ≡ 12 + (p - 12) = omega (arith, ltb-false p 11 e, eqb-false p 11 f) in
          subst (λ q. get_or (other_values (record_of l)) (p - 12) none ≡ again q (l q)) (sym k)
          (each_at (λ q o. o ≡ again q (l q)) 12 (other_values (record_of l)) others_again (p - 12) (omega (arith, ten)))

  no_reserved_bytes : reserved_bytes (record_of l).grease_transport_parameter ≡ []
  unfolding reserved_bytes record_of no_reserved
  no_reserved_bytes = refl

  sized : (p : ℕ) → p < places → length (parameter_at (record_of l) p) ≡ size_of_again p (l p)
  unfolding parameter_at size_of_again
  sized p h = go (eqb p 11) refl
    where
      go : (b : Bool) → eqb p 11 ≡ b → length (pick b (reserved_bytes (record_of l).grease_transport_parameter) (parameter_if (id_at p) (values_of (record_of l) p))) ≡ size_of_again p (l p)
      go true e = let q : again p (l p) ≡ none = rw (eqb-true p 11 e) (sym eleven_none) in rw (no_reserved_bytes, q)
      go false e = rw (sent_again p h)

  pub size_again : length (extension (record_of l) catalogue_order) ≡ over size_of_again l
  size_again = length_extension (record_of l) catalogue_order in_catalogue ∙ sum_eq places (λ p. length (parameter_at (record_of l) p)) (λ p. size_of_again p (l p)) sized
