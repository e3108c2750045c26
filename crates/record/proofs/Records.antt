-- The laws of the kinds, at each place of the catalogue. Assumes nothing.
--     values_of_at                a fact of the values sent for a record, place by place
--     values_of_none              no value is sent beyond the last place
--     sound                       the values sent for a well-formed record are read without fault
--     back                        they are read back
--     formed, families            a record of values that fit is well formed, and its families as
--                                 they should be
--     short                       it is no longer when it is sent
use Prim.Native.Nat.{ℕ, zero, suc, ◌+◌, ◌-◌, ◌^◌, ◌≤◌, ◌<◌}
use mathlib.Core.Path.{◌≡◌, refl, ap, sym, subst}
use mathlib.Core.List.{List, [], ◌∷◌}
use mathlib.Core.Option.{Option, none}
use mathlib.Core.Bool.{Bool, true, false}
use native.Mathlib.Omega.{arith}
use lib.ListN.{length, get_or, get_or-eq_default}
use lib.Seq.{ext_get_or}
use lib.Dec.{ltb, eqb}
use borrow.Author.Tests.{lt-ltb, le-ltb, ltb-true, ltb-false, ne_eqb, eqb-true, eqb-false}
use Rattle.refusal.specs.Outcome.{pick, all}
use Rattle.refusal.proofs.Laws.{all_at}
use Rattle.record.specs.declared.TransportParameters.{TransportParameters}
use Rattle.catalogue.specs.Catalogue.{number, places, id_at, kinds, kind_at, defaults, parameter_if}
use Rattle.record.specs.Values.{Values, number_in, number_out, numbers_in, record_of, no_reserved, no_order, other_values, values_of}
use Rattle.record.specs.Record.{formed_reserved, formed_order, well_formed, family_rules, bare}
use Rattle.words.proofs.Laws.{every_at, every_of}
use Rattle.catalogue.proofs.Places.{number_kind, default_lt}
use Rattle.record.proofs.KindLaws
use Rattle.record.proofs.KindLaws.{Fits, IfSome, Sound}
use Rattle.record.proofs.Address.{address_back, address_sent, address_formed, families_formed, address_short}

-- a fact of each place: the numbers alike, then place 11, then 12 to 21 by a list
abbrev pub Each : (ℕ → Option (List ℕ) → Type 0) → ℕ → List (Option (List ℕ)) → Type 0
Each P k [] = Unit {0}
Each P k (o ∷ os) = P k o × Each P (suc k) os

each_at : (P : ℕ → Option (List ℕ) → Type 0) (k : ℕ) (os : List (Option (List ℕ))) → Each P k os → ((q : ℕ) → P q none) → (i : ℕ) → P (k + i) (get_or os i none)
each_at P k [] h z i = z (k + i)
each_at P k (o ∷ os) h z zero = let e : k + 0 ≡ k = omega arith in rw e h.0
each_at P k (o ∷ os) h z (suc i) = let e : k + suc i ≡ suc k + i = omega arith in rw e (each_at P (suc k) os h.1 z i)

pub values_of_at : (P : ℕ → Option (List ℕ) → Type 0) (r : TransportParameters) → ((q : ℕ) → P q none)
    → ((p : ℕ) → p < 11 → P p (number_out (get_or defaults p 0) (get_or r.numbers p 0))) → Each P 12 (other_values r) → (p : ℕ) → P p (values_of r p)
unfolding values_of
values_of_at P r z n h p = go (ltb p 11) (eqb p 11) refl refl
  where
    go : (b c : Bool) → ltb p 11 ≡ b → eqb p 11 ≡ c
        → P p (pick b (number_out (get_or defaults p 0) (get_or r.numbers p 0)) (pick c none (get_or (other_values r) (p - 12) none)))
    go true c e f = n p (ltb-true p 11 e)
    go false true e f = z p
    go false false e f =
        let k : p ≡ 12 + (p - 12) = omega (arith, ltb-false p 11 e, eqb-false p 11 f) in
        subst (λ q. P q (get_or (other_values r) (p - 12) none)) (sym k) (each_at P 12 (other_values r) h z (p - 12))

pub values_of_none : (r : TransportParameters) (q : ℕ) → places ≤ q → values_of r q ≡ none
unfolding values_of other_values
values_of_none r q h = rw (le-ltb q 11 (omega arith), ne_eqb q 11 (omega arith), get_or-eq_default (other_values r) none {n = q - 12} (omega arith))

-- places 0 to 10
pub numbers_length : (ds : List ℕ) (k : ℕ) (l : Values) → length (numbers_in ds k l) ≡ length ds
numbers_length [] k l = refl
numbers_length (d ∷ ds) k l = ap suc (numbers_length ds (suc k) l)

numbers_at_lem : (ds : List ℕ) (k : ℕ) (l : Values) (i : ℕ) → i < length ds → get_or (numbers_in ds k l) i 0 ≡ number_in (get_or ds i 0) (l (k + i))
numbers_at_lem [] k l i h = absurd (omega arith)
numbers_at_lem (d ∷ ds) k l zero h = let e : k + 0 ≡ k = omega arith in rw e
numbers_at_lem (d ∷ ds) k l (suc i) h = let e : k + suc i ≡ suc k + i = omega arith in rw e (numbers_at_lem ds (suc k) l i (omega arith))

pub number_in_lem : (l : Values) (p : ℕ) → p < 11 → get_or (numbers_in defaults 0 l) p 0 ≡ number_in (get_or defaults p 0) (l p)
unfolding defaults
number_in_lem l p h = let e : 0 + p ≡ p = omega arith in rw e at (numbers_at_lem defaults 0 l p h)

-- what is sent for a well-formed record is read without fault, and read back
abbrev pub Families : TransportParameters → Type 0
Families r = family_rules r.preferred_address ≡ true

module _ (r : TransportParameters) (w : well_formed r ≡ true) where
  eleven : length r.numbers ≡ 11
  unfolding well_formed
  eleven = eqb-true _ _ (all_at _ w 0)

  pub number_lt : (p : ℕ) → p < 11 → get_or r.numbers p 0 < 2 ^ 62
  unfolding well_formed
  number_lt p h = ltb-true _ _ (every_at _ r.numbers (all_at _ w 1) p (omega (arith, eleven)))

  pub sound : (p : ℕ) → IfSome (Sound (Families r) (kind_at p)) (values_of r p)
  unfolding well_formed other_values kind_at kinds
  sound =
      values_of_at (λ p o. IfSome (Sound (Families r) (kind_at p)) o) r (λ q. tt)
      (λ p h. rw (number_kind p h) (KindLaws.number_sent (Families r) (get_or defaults p 0) (get_or r.numbers p 0) (number_lt p h))) (
        KindLaws.token_sent (Families r) _ (all_at _ w 3),
        (
          KindLaws.flag_sent (Families r) _,
          (
            KindLaws.optional_sent (Families r) _ (all_at _ w 4),
            (
              address_sent _ (all_at _ w 5),
              (KindLaws.cid_sent (Families r) _ (all_at _ w 6), (KindLaws.cid_sent (Families r) _ (all_at _ w 7), (KindLaws.cid_sent (Families r) _ (all_at _ w 8), (KindLaws.flag_sent (Families r) _, (KindLaws.optional_sent (Families r) _ (all_at _ w 9), (KindLaws.versions_sent (Families r) _ (all_at _ w 10), tt)))))),
            ),
          ),
        ),
      )

  numbers_back : numbers_in defaults 0 (values_of r) ≡ r.numbers
  unfolding values_of defaults
  numbers_back =
      ext_get_or 0 (numbers_in defaults 0 (values_of r)) r.numbers (rw (numbers_length defaults 0 (values_of r), eleven)) λ p h.
      let k : p < 11 = rw (numbers_length defaults 0 (values_of r)) at h in
      rw (number_in_lem (values_of r) p k, lt-ltb p 11 k) (KindLaws.number_back (get_or defaults p 0) (get_or r.numbers p 0) (number_lt p k))

  pub back : Families r → record_of (values_of r) ≡ bare r
  unfolding record_of bare values_of other_values well_formed
  back f =
      rw (
        numbers_back,
        KindLaws.token_back _ (all_at _ w 3),
        KindLaws.flag_back r.disable_active_migration,
        KindLaws.optional_back _ (all_at _ w 4),
        address_back _ (all_at _ w 5) f,
        KindLaws.cid_back _ (all_at _ w 6),
        KindLaws.cid_back _ (all_at _ w 7),
        KindLaws.cid_back _ (all_at _ w 8),
        KindLaws.flag_back r.grease_quic_bit,
        KindLaws.optional_back _ (all_at _ w 9),
        KindLaws.versions_back _ (all_at _ w 10),
      )

-- what is read is well formed, and no longer when it is sent again
abbrev pub Good : Values → Type 0
Good l = (p : ℕ) → IfSome (Fits (kind_at p)) (l p)

abbrev pub size_at : Values → ℕ → ℕ
size_at l p = length (parameter_if (id_at p) (l p))

module _ (l : Values) (g : Good l) where
  number_fits : (p : ℕ) → p < 11 → IfSome (Fits number) (l p)
  number_fits p h = rw (number_kind p h) at (g p)

  number_small : (p : ℕ) → p < 11 → get_or (numbers_in defaults 0 l) p 0 < 2 ^ 62
  number_small p h = rw (number_in_lem l p h) (KindLaws.number_formed (get_or defaults p 0) (l p) (default_lt p h) (number_fits p h))

  pub formed : well_formed (record_of l) ≡ true
  unfolding well_formed record_of all kind_at kinds defaults formed_reserved no_reserved formed_order no_order
  formed =
      rw (
        every_of (λ x. ltb x (2 ^ 62)) (numbers_in defaults 0 l) (λ p h. lt-ltb (get_or (numbers_in defaults 0 l) p 0) (2 ^ 62) (number_small p h)),
        KindLaws.token_formed (l 12) (g 12),
        KindLaws.optional_formed (l 14) (g 14),
        address_formed (l 15) (g 15),
        KindLaws.cid_formed (l 16) (g 16),
        KindLaws.cid_formed (l 17) (g 17),
        KindLaws.cid_formed (l 18) (g 18),
        KindLaws.optional_formed (l 20) (g 20),
        KindLaws.versions_formed (l 21) (g 21),
      )

  pub families : family_rules (record_of l).preferred_address ≡ true
  unfolding record_of kind_at kinds
  families = families_formed (l 15) (g 15)

  pub short : (p : ℕ) → size_at (values_of (record_of l)) p ≤ size_at l p
  unfolding record_of other_values kind_at kinds
  short =
      values_of_at (λ p o. length (parameter_if (id_at p) o) ≤ length (parameter_if (id_at p) (l p))) (record_of l) (λ q. omega arith)
      (λ p h. rw (number_in_lem l p h) (KindLaws.number_short (get_or defaults p 0) (l p) (number_fits p h) (id_at p))) (
        KindLaws.token_short (l 12) (g 12) _,
        (
          KindLaws.flag_short (l 13) (g 13) _,
          (
            KindLaws.optional_short (l 14) (g 14) _,
            (
              address_short (l 15) (g 15) _,
              (KindLaws.cid_short (l 16) (g 16) _, (KindLaws.cid_short (l 17) (g 17) _, (KindLaws.cid_short (l 18) (g 18) _, (KindLaws.flag_short (l 19) (g 19) _, (KindLaws.optional_short (l 20) (g 20) _, (KindLaws.versions_short (l 21) (g 21) _, tt)))))),
            ),
          ),
        ),
      )
