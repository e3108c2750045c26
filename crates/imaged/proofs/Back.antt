-- What stands in an image is what it was made of. Assumes nothing.
--     back             a well-formed record, from its image
--     size             how long that is
--     cid_from_image   a connection ID of 20 bytes, from its image
use Prim.Native.Nat.{ℕ, zero, suc, ◌+◌, ◌^◌, ◌<◌}
use mathlib.Core.Path.{◌≡◌, refl, ap, sym, ◌∙◌}
use mathlib.Core.List.{List, [], ◌∷◌, ◌++◌, map}
use mathlib.Core.Bool.{Bool, true, false, ◌||◌}
use native.Mathlib.Nat.{add-zero, mod-eq_of_lt}
use native.Mathlib.Omega.{arith}
use lib.ListN.{length, get_or, drop, get_or-map}
use lib.Seq.{take_at, take_all, drop-append-add, get_or-drop}
use lib.Dec.{T, leb, ltb, eqb, lit<}
use borrow.Author.Tests.{eqb-true, ltb-true, lt-ltb, eq-eqb}
use Rattle.refusal.specs.Outcome.{accepted, pick, all}
use Rattle.refusal.proofs.Laws.{all_at}
use Rattle.varint.specs.Number.{bound}
use Rattle.words.proofs.Big.{value_bytes_of}
use Rattle.words.specs.Words.{every, value_from, bytes_of, numbers_of}
use Rattle.words.proofs.Laws.{every_at, every_of}
use Rattle.words.proofs.Numbers.{numbers_whole}
use Rattle.version_information.specs.VersionInformation.{versions_with}
use Rattle.version_information.proofs.Laws.{formed_facts, all_with}
use Rattle.connection_id.specs.declared.ConnectionId.{ConnectionId}
use Rattle.connection_id.specs.ConnectionId.{formed_cid}
use Rattle.record.specs.declared.TransportParameters.{TransportParameters}
use Rattle.record.specs.Optional.{OptionalNumber}
use Rattle.std.specs.Prelude.{None, Some}
use Rattle.record.specs.Optional.{OptionalConnectionId}
use Rattle.record.specs.Values.{Family, of_v4, of_v6}
use Rattle.record.specs.Record.{is_present, least, well_formed, formed_optional, formed_optional_cid, formed_token, formed_optional_token, formed_family, formed_address, formed_reserved, formed_order}
use Rattle.image.specs.Image.{part, flag_at, flag_byte, eight_bytes, numbers_at, optional_at, cid_image, cid_at, optional_cid_at, address_at, joined_parts, front_parts, id_parts, address_parts, rest_parts, versions_parts, parts, image_of, record_at, flag_places, flags_hold, zero_if_absent, is_image, record_from, cid_from, Sized}
use Rattle.image.proofs.Stores.{sizes, parts_sizes, image_size}

-- A PART, by its number: where it begins, and that it stands there
abbrev before : ℕ → List ℕ → ℕ
before zero ns = 0
before (suc k) [] = 0
before (suc k) (n ∷ ns) = n + before k ns

from_part : (ps : List (List ℕ)) (k : ℕ) → k < length ps → drop (before k (map length ps)) (joined_parts ps) ≡ get_or ps k [] ++ joined_parts (drop (suc k) ps)
from_part [] k h = absurd (omega arith)
from_part (p ∷ ps) zero h = refl
from_part (p ∷ ps) (suc k) h = drop-append-add p (joined_parts ps) (before k (map length ps)) ∙ from_part ps k (omega arith)

-- the flag that stands as a byte
flag_back : (b : Bool) → eqb (flag_byte b) 1 ≡ b
flag_back true = refl
flag_back false = refl

flag_small : (b : Bool) → leb (flag_byte b) 1 ≡ true
flag_small true = refl
flag_small false = refl

-- numbers
number_back : (n x : ℕ) → x < 256 ^ n → value_from 0 (bytes_of n x) ≡ x
number_back n x h = rw (value_bytes_of n 0 x, mod-eq_of_lt h) (omega arith)

eight_back : (x : ℕ) → x < bound → value_from 0 (eight_bytes x) ≡ x
unfolding eight_bytes
eight_back x h = number_back 8 x (omega arith)

below : (ns : List ℕ) → every (λ x. ltb x bound) ns ≡ true → every (λ x. ltb x (256 ^ 8)) ns ≡ true
below ns h = every_of (λ x. ltb x (256 ^ 8)) ns λ p k. lt-ltb _ _ (omega (arith, ltb-true _ _ (every_at (λ x. ltb x bound) ns h p k)))

optional_small : (o : OptionalNumber) → formed_optional o ≡ true → least o < bound
unfolding formed_optional
optional_small None h = omega arith
optional_small (Some x) h = ltb-true _ _ h

optional_back : (o : OptionalNumber) → pick (is_present o) (Some (least o)) None ≡ o
optional_back None = refl
optional_back (Some x) = refl

optional_zero : (o : OptionalNumber) → (is_present o || eqb (least o) 0) ≡ true
optional_zero None = refl
optional_zero (Some x) = refl

-- WHAT A WELL-FORMED RECORD IS: arrays of their sizes, numbers in their range
cid_long : (c : ConnectionId) → formed_cid c ≡ true → length c.bytes ≡ 20
unfolding formed_cid
cid_long c f = eqb-true _ _ (all_at _ f 0)

optional_cid_long : (o : OptionalConnectionId) → formed_optional_cid o ≡ true → length o.value.bytes ≡ 20
unfolding formed_optional_cid
optional_cid_long o f = cid_long o.value (all_at _ f 0)

family_formed : (n : ℕ) (f : Family) → formed_family n f ≡ true → (length f.1 ≡ n) × (f.2 < 65536)
unfolding formed_family
family_formed n f e = (eqb-true _ _ (all_at _ e 0), ltb-true _ _ (all_at _ e 1))

module _ (r : TransportParameters) (h : well_formed r ≡ true) where
  address_formed : formed_address r.preferred_address ≡ true
  unfolding well_formed
  address_formed = all_at _ h 5

  v4_formed : (length r.preferred_address.address_v4.ip ≡ 4) × (r.preferred_address.address_v4.port < 65536)
  unfolding formed_address
  v4_formed = family_formed 4 (of_v4 r.preferred_address.address_v4) (all_at _ address_formed 0)

  v6_formed : (length r.preferred_address.address_v6.ip ≡ 16) × (r.preferred_address.address_v6.port < 65536)
  unfolding formed_address
  v6_formed = family_formed 16 (of_v6 r.preferred_address.address_v6) (all_at _ address_formed 1)

  reserved_formed : (length r.grease_transport_parameter.payload ≡ 16) × (r.grease_transport_parameter.id < bound)
  unfolding well_formed formed_reserved
  reserved_formed = let f = all_at _ h 2 in (eqb-true _ _ (all_at _ f 0), ltb-true _ _ (all_at _ f 1))

  sized : Sized r
  unfolding well_formed formed_optional_token formed_token formed_order formed_address
  sized =
      record {
        numbers = eqb-true _ _ (all_at _ h 0);
        original = optional_cid_long r.original_dst_cid (all_at _ h 6);
        initial = optional_cid_long r.initial_src_cid (all_at _ h 7);
        retry = optional_cid_long r.retry_src_cid (all_at _ h 8);
        token = eqb-true _ _ (all_at _ (all_at _ h 3) 0);
        v4 = v4_formed.0;
        v6 = v6_formed.0;
        id = cid_long r.preferred_address.connection_id (all_at _ address_formed 2);
        reset = eqb-true _ _ (all_at _ address_formed 3);
        payload = reserved_formed.0;
        order = eqb-true _ _ (all_at _ (all_at _ h 11) 0);
        versions = (formed_facts r.version_information (all_at _ h 10)).long;
      }

  optional_formed : (least r.max_datagram_frame_size < bound) × (least r.min_ack_delay < bound)
  unfolding well_formed
  optional_formed = (optional_small r.max_datagram_frame_size (all_at _ h 4), optional_small r.min_ack_delay (all_at _ h 9))

  -- a well-formed record's image has 374 bytes
  pub size : length (image_of r) ≡ 374
  size = image_size r sized

  -- THE LAW: the k-th part stands at its place
  count : length (parts r) ≡ 37
  unfolding parts front_parts id_parts address_parts rest_parts versions_parts
  count = refl

  from : (k : ℕ) → T (ltb k 37) → drop (before k sizes) (image_of r) ≡ get_or (parts r) k [] ++ joined_parts (drop (suc k) (parts r))
  unfolding image_of
  from k t =
      let l : k < 37 = lit< t in
      ap (λ ns. drop (before k ns) (image_of r)) (sym (parts_sizes r sized)) ∙ from_part (parts r) k (omega (arith, count))

  field : (k : ℕ) → T (ltb k 37) → part (before k sizes) (get_or sizes k 0) (image_of r) ≡ get_or (parts r) k []
  field k t =
      let n : length (get_or (parts r) k []) ≡ get_or sizes k 0 = sym (get_or-map length (parts r) k []) ∙ ap (λ ns. get_or ns k 0) (parts_sizes r sized) in
      rw (from k t) (take_at (get_or (parts r) k []) (joined_parts (drop (suc k) (parts r))) (get_or sizes k 0) n)

  byte : (k : ℕ) → T (ltb k 37) → get_or (image_of r) (before k sizes) 0 ≡ get_or (get_or (parts r) k [] ++ joined_parts (drop (suc k) (parts r))) 0 0
  byte k t = ap (λ i. get_or (image_of r) i 0) (sym (add-zero (before k sizes))) ∙ sym (get_or-drop (before k sizes) (image_of r) 0 0) ∙ ap (λ l. get_or l 0 0) (from k t)

  numbers_back : numbers_at 11 0 (image_of r) ≡ r.numbers
  unfolding well_formed parts front_parts
  numbers_back =
      ap (λ n. numbers_at n 0 (image_of r)) (sym sized.numbers)
      ∙ ap (numbers_of 8 (length r.numbers)) (from 0 tt)
      ∙ numbers_whole 8 r.numbers (joined_parts (drop 1 (parts r))) (below r.numbers (all_at _ h 1))

  versions_back : versions_with (flag_at 304 (image_of r)) (get_or (image_of r) 305 0) (part 306 68 (image_of r)) ≡ r.version_information
  unfolding well_formed parts front_parts id_parts address_parts rest_parts versions_parts
  versions_back =
      rw (byte 34 tt, byte 35 tt, field 36 tt, flag_back r.version_information.present) (all_with r.version_information (all_at _ h 10))

  record_back : record_at (image_of r) ≡ r
  unfolding record_at optional_at optional_cid_at cid_at address_at parts front_parts id_parts address_parts rest_parts versions_parts
  record_back =
      rw (
        numbers_back,
        byte 1 tt,
        byte 2 tt,
        byte 3 tt,
        field 4 tt,
        eight_back (least r.max_datagram_frame_size) optional_formed.0,
        byte 5 tt,
        field 6 tt,
        eight_back (least r.min_ack_delay) optional_formed.1,
        byte 7 tt,
        byte 8 tt,
        field 9 tt,
        byte 10 tt,
        byte 11 tt,
        field 12 tt,
        byte 13 tt,
        byte 14 tt,
        field 15 tt,
        byte 16 tt,
        field 17 tt,
        byte 18 tt,
        byte 19 tt,
        field 20 tt,
        field 21 tt,
        number_back 2 r.preferred_address.address_v4.port v4_formed.1,
        byte 22 tt,
        field 23 tt,
        field 24 tt,
        number_back 2 r.preferred_address.address_v6.port v6_formed.1,
        byte 25 tt,
        field 26 tt,
        field 27 tt,
        byte 28 tt,
        field 29 tt,
        eight_back r.grease_transport_parameter.id reserved_formed.1,
        byte 30 tt,
        field 31 tt,
        byte 32 tt,
        field 33 tt,
        versions_back,
      )
      (simp (flag_back, optional_back))

  flags_back : flags_hold (image_of r) ≡ true
  unfolding flags_hold flag_places parts front_parts id_parts address_parts rest_parts versions_parts
  flags_back =
      rw (
        byte 1 tt,
        byte 2 tt,
        byte 3 tt,
        byte 5 tt,
        byte 7 tt,
        byte 10 tt,
        byte 13 tt,
        byte 16 tt,
        byte 18 tt,
        byte 19 tt,
        byte 22 tt,
        byte 28 tt,
        byte 32 tt,
        byte 34 tt,
      )
      (simp flag_small)

  zero_back : (zero_if_absent 90 (image_of r) ≡ true) × (zero_if_absent 99 (image_of r) ≡ true)
  unfolding zero_if_absent parts front_parts
  zero_back = (
    rw (byte 3 tt, field 4 tt, eight_back (least r.max_datagram_frame_size) optional_formed.0) (simp (flag_back, optional_zero)),
    rw (byte 5 tt, field 6 tt, eight_back (least r.min_ack_delay) optional_formed.1) (simp (flag_back, optional_zero)),
  )

  -- a well-formed record, from its image
  pub back : record_from (image_of r) ≡ accepted r
  unfolding record_from is_image all
  back = rw (eq-eqb (length (image_of r)) 374 size, flags_back, zero_back.0, zero_back.1, record_back)

-- a connection ID of 20 bytes, from its image
pub cid_from_image : (c : ConnectionId) → length c.bytes ≡ 20 → cid_from (cid_image c) ≡ accepted c
unfolding cid_from cid_at
cid_from_image c l =
    rw (eq-eqb (length (cid_image c)) 21 (ap suc l)) (ap (λ b. accepted (record { len = c.len; bytes = b })) (take_all 20 c.bytes (omega arith)))
