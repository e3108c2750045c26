-- What is written is read back, and no longer than what was read. Assumes nothing.
--     parsed             a well-formed record's parameters in any order: its values are read
--     read_back          a legal record's: it is read, but for its order and reserved parameter
--     catalogue_back     a record that was read: it is read again
--     shortest           and is written in no more bytes than it was read from
use Prim.Native.Nat.{ℕ, ◌^◌, ◌%◌, ◌≤◌, ◌<◌}
use mathlib.Core.Path.{◌≡◌, refl, ap, ◌∙◌}
use mathlib.Core.List.{List, [], ◌++◌}
use mathlib.Core.Option.{Option, none, some}
use mathlib.Core.Bool.{Bool, true, false, ◌&&◌}
use native.Mathlib.Omega.{arith}
use lib.ListN.{length, take}
use lib.Seq.{length-take-le}
use lib.Dec.{eqb}
use borrow.Author.Tests.{leb-true, lt-ltb, ltb-true, eqb-true}
use Rattle.refusal.specs.Outcome.{accepted, pick}
use Rattle.refusal.proofs.Laws.{all_at}
use Rattle.record.specs.declared.TransportParameters.{TransportParameters}
use Rattle.record.specs.declared.ReservedTransportParameter.{ReservedTransportParameter}
use Rattle.rules.specs.declared.Side.{Side}
use Rattle.catalogue.specs.Catalogue.{places, id_at, kind_at, parameter, parameter_if, widest}
use Rattle.record.specs.Values.{Bytes, Values, no_values, upd, no_reserved, record_of, values_of}
use Rattle.record.specs.Record.{formed_reserved, well_formed, family_rules, bare}
use Rattle.rules.specs.Rules.{value_rules, legal}
use Rattle.catalogue.proofs.Sums.{sum_le}
use Rattle.record.proofs.KindLaws.{IfSome, Sound}
use Rattle.catalogue.proofs.Places.{place_of_id, id_lt, reserved_unknown}
use Rattle.record.proofs.Records.{values_of_none, Families, sound, back, Good, size_at, short}
use Rattle.reader.specs.Reading.{receive, step, parse, judge, read}
use Rattle.front.proofs.Front.{front_parameter}
use Rattle.reader.proofs.Run.{parse_front, step_unknown, upd_at}
use Rattle.reader.proofs.Grow.{total, grown}
use Rattle.reader.proofs.Laws.{accepts, accepted_legal}
use Rattle.writer.specs.Writing.{reserved_bytes, parameter_at, extension}
use Rattle.order.specs.Order.{permutation, catalogue_order}
use Rattle.order.proofs.Orders.{in_catalogue}
use Rattle.writer.proofs.Extension.{length_extension}
use Rattle.writer.proofs.Places.{widest_le}
use Rattle.canonical.specs.OperationLaws.{Adds}
use Rattle.canonical.proofs.AnyOrder.{every_order}

-- an update by what is there already
upd_none : (l : Values) (p : ℕ) → l p ≡ none → upd l p none ≡ l
upd_none l p e = upd_at l l p none e (λ q k. refl)

reserved_skipped : (x : ReservedTransportParameter) → formed_reserved x ≡ true → (l : Values) (cs : List ℕ) → parse l (reserved_bytes x ++ cs) ≡ parse l cs
unfolding reserved_bytes formed_reserved
reserved_skipped x h l cs = go x.present (all_at _ h 4)
  where
    m : x.payload_len ≤ 16
    m = leb-true _ _ (all_at _ h 2)

    n : length x.payload ≡ 16
    n = eqb-true _ _ (all_at _ h 0)

    k : length (take x.payload_len x.payload) ≡ x.payload_len
    k = length-take-le x.payload_len x.payload (omega (arith, m, n))

    go : (b : Bool) → pick b (eqb (x.id % 31) 27) (eqb x.id 0 && eqb x.payload_len 0) ≡ true
        → parse l (pick b (parameter x.id (take x.payload_len x.payload)) [] ++ cs) ≡ parse l cs
    go false i = refl
    go true i =
        parse_front l (parameter x.id (take x.payload_len x.payload) ++ cs) (x.id, take x.payload_len x.payload, cs)
        (front_parameter x.id (take x.payload_len x.payload) cs (ltb-true _ _ (all_at _ h 1)) (omega (arith, k, m)))
        ∙ rw (step_unknown l x.id (take x.payload_len x.payload) (reserved_unknown x.id (eqb-true _ _ i)))

-- no value is near 2 ^ 62 bytes
small : (p : ℕ) {n : ℕ} → n ≤ widest (kind_at p) → n < 2 ^ 62
small p h = omega (arith, widest_le (kind_at p))

module _ (r : TransportParameters) (w : well_formed r ≡ true) (f : family_rules r.preferred_address ≡ true) where
  adds : Adds (values_of r) (parameter_at r)
  unfolding parameter_at values_of step receive well_formed
  adds p h l cs e = go (eqb p 11) refl
    where
      at : (o : Option (List ℕ)) → values_of r p ≡ o → IfSome (Sound (Families r) (kind_at p)) o → eqb p 11 ≡ false → parse l (parameter_if (id_at p) o ++ cs) ≡ parse (upd l p o) cs
      at none d s k = rw (upd_none l p e)
      at (some v) d s k =
          parse_front l (parameter (id_at p) v ++ cs) (id_at p, v, cs) (front_parameter (id_at p) v cs (id_lt p h k) (small p s.small))
          ∙ rw (place_of_id p h k, lt-ltb p places h, e, s.legal f, s.fit)

      go : (b : Bool) → eqb p 11 ≡ b → parse l (pick b (reserved_bytes r.grease_transport_parameter) (parameter_if (id_at p) (values_of r p)) ++ cs) ≡ parse (upd l p (values_of r p)) cs
      go true k = let q : p ≡ 11 = eqb-true p 11 k in let z : values_of r p ≡ none = rw q in rw (z, upd_none l p e) (reserved_skipped r.grease_transport_parameter (all_at _ w 2) l cs)
      go false k = at (values_of r p) refl (sound r w p) k

  -- in every order the values of the record are read
  pub parsed : (os : List ℕ) → permutation os ≡ true → parse no_values (extension r os) ≡ accepted (values_of r)
  unfolding extension permutation
  parsed os h = every_order (values_of r) (parameter_at r) adds (values_of_none r) os (all_at _ h 1) (eqb-true _ _ (all_at _ h 0))

pub read_back : (s : Side) (r : TransportParameters) (os : List ℕ) → legal s r ≡ true → permutation os ≡ true → read s (extension r os) ≡ accepted (bare r)
unfolding read judge legal
read_back s r os h p =
    let w : well_formed r ≡ true = all_at _ h 0 in
    let f : family_rules r.preferred_address ≡ true = all_at _ h 1 in
    let k : value_rules s (bare r) ≡ true = unfold value_rules bare in all_at _ h 2 in
    rw (parsed r w f os p, back r w f, k)

-- what was read, written in catalogue order, is read again by that side
pub catalogue_back : (s : Side) (bs : List ℕ) (r : TransportParameters) → Bytes bs → read s bs ≡ accepted r → read s (extension r catalogue_order) ≡ accepted r
catalogue_back s bs r hb e = let k = accepted_legal s bs r hb e in read_back s r catalogue_order k.0 in_catalogue ∙ ap accepted k.1

read_size : (l : Values) → Good l → (p : ℕ) → length (parameter_at (record_of l) p) ≤ size_at l p
unfolding parameter_at
read_size l g p = go (eqb p 11) (short l g p)
  where
    z : reserved_bytes (record_of l).grease_transport_parameter ≡ []
    z = unfold reserved_bytes record_of no_reserved in refl

    go : (b : Bool) → size_at (values_of (record_of l)) p ≤ size_at l p → length (pick b (reserved_bytes (record_of l).grease_transport_parameter) (parameter_if (id_at p) (values_of (record_of l) p))) ≤ size_at l p
    go true h = rw z (omega arith)
    go false h = h

pub shortest : (s : Side) (bs : List ℕ) (r : TransportParameters) → Bytes bs → read s bs ≡ accepted r → length (extension r catalogue_order) ≤ length bs
unfolding total
shortest s bs r hb e =
    let a = accepts s bs r e in
    let g = grown a.values bs hb a.was in
    let k : length (extension (record_of a.values) catalogue_order) ≤ length bs
    = rw (length_extension (record_of a.values) catalogue_order in_catalogue) (omega (arith, g.1, sum_le places (λ p. length (parameter_at (record_of a.values) p)) (size_at a.values) (λ p h. read_size a.values g.0 p))) in
    rw a.is at k
