-- The lengths that the code adds up are those of the parameters due. Assumes nothing.
--     not_due, is_due    of a parameter
--     due_or_none    of a number
--     all_lengths        all of them, for a well-formed record
use Prim.Native.Nat.{ℕ, ◌+◌, ◌≤◌, ◌<◌}
use mathlib.Core.Path.{◌≡◌, refl, ap}
use mathlib.Core.List.{List, []}
use mathlib.Core.Option.{none, some}
use mathlib.Core.Bool.{Bool, true, false, not}
use native.Mathlib.Omega.{arith}
use lib.ListN.{length, get_or, take, length-append}
use lib.Seq.{length-take-le}
use lib.Dec.{eqb}
use borrow.Author.Tests.{eqb-true, leb-true, lt-ltb, ne_eqb}
use Rattle.refusal.specs.Outcome.{accepted, refused, pick}
use Rattle.refusal.proofs.Laws.{all_at}
use Rattle.varint.specs.Number.{number_bytes}
use Rattle.connection_id.specs.ConnectionId.{cid_bytes}
use Rattle.connection_id.proofs.Laws.{cid_facts, cid_length_lem}
use Rattle.catalogue.specs.Catalogue.{places, id_at, defaults, parameter, parameter_if}
use Rattle.catalogue.specs.Sum.{sum}
use Rattle.catalogue.proofs.Sums.{sum_eq}
use Rattle.version_information.proofs.Laws.{versions_long}
use Rattle.record.specs.declared.TransportParameters.{TransportParameters}
use Rattle.record.specs.Optional.{OptionalNumber}
use Rattle.std.specs.Prelude.{None, Some}
use Rattle.std.specs.Bool.{then_some}
use Rattle.record.specs.Optional.{OptionalConnectionId}
use Rattle.record.specs.declared.ReservedTransportParameter.{ReservedTransportParameter}
use Rattle.record.specs.Values.{number_out, optional_out, flag_out, cid_out, token_out, address_out, versions_out, other_values, values_of}
use Rattle.record.specs.Record.{formed_optional_cid, formed_token, formed_optional_token, formed_reserved, well_formed}
use Rattle.record.proofs.Address.{address_length_lem}
use Rattle.writer.specs.Writing.{reserved_bytes, parameter_at, length_of}
use Rattle.length.specs.Length.{value_length, number_length, number_length_at, optional_length, cid_length, reserved_length, versions_length, others_length}

-- what the code gives for a parameter
pub not_due : (id n : ℕ) → 0 ≡ value_length false id n
unfolding value_length
not_due id n = refl

pub is_due : (id n a b : ℕ) → a ≡ length (number_bytes id) → b ≡ length (number_bytes n) → a + b + n ≡ value_length true id n
unfolding value_length
is_due id n a b e f = rw (e, f)

-- a number that is there if it is due
pub due_or_none : (due : Bool) (id x : ℕ) → optional_length id (then_some due x) ≡ number_length due id x
unfolding value_length
due_or_none true id x = refl
due_or_none false id x = refl

-- a value that is sent if something holds
value_length_lem : (id n : ℕ) (due : Bool) (v : List ℕ) → length v ≡ n → length (parameter_if id (pick due (some v) none)) ≡ value_length due id n
unfolding value_length parameter
value_length_lem id n true v h = rw (← h) (simp length-append (omega arith))
value_length_lem id n false v h = refl

number_length_lem : (id d x : ℕ) → length (parameter_if id (number_out d x)) ≡ value_length (not (eqb x d)) id (length (number_bytes x))
unfolding number_out
number_length_lem id d x = go (eqb x d)
  where
    go : (b : Bool) → length (parameter_if id (pick b none (some (number_bytes x)))) ≡ value_length (not b) id (length (number_bytes x))
    go true = value_length_lem id _ false (number_bytes x) refl
    go false = value_length_lem id _ true (number_bytes x) refl

optional_length_lem : (id : ℕ) (o : OptionalNumber) → length (parameter_if id (optional_out o)) ≡ optional_length id o
unfolding optional_out
optional_length_lem id None = value_length_lem id _ false (number_bytes 0) refl
optional_length_lem id (Some x) = value_length_lem id _ true (number_bytes x) refl

cid_length_at : (id : ℕ) (o : OptionalConnectionId) → formed_optional_cid o ≡ true → length (parameter_if id (cid_out o)) ≡ cid_length id o
unfolding cid_out formed_optional_cid
cid_length_at id o h = value_length_lem id o.value.len o.present (cid_bytes o.value) (cid_length_lem o.value (cid_facts o.value (all_at _ h 0)))

reserved_length_lem : (x : ReservedTransportParameter) → formed_reserved x ≡ true → length (reserved_bytes x) ≡ reserved_length x
unfolding reserved_bytes formed_reserved
reserved_length_lem x h = go x.present
  where
    v : List ℕ
    v = take x.payload_len x.payload

    n : length v ≡ x.payload_len
    n =
        let k : x.payload_len ≤ 16 = leb-true _ _ (all_at _ h 2) in
        let l : length x.payload ≡ 16 = eqb-true _ _ (all_at _ h 0) in
        length-take-le x.payload_len x.payload (omega arith)

    go : (b : Bool) → length (pick b (parameter x.id v) []) ≡ value_length b x.id x.payload_len
    go true = value_length_lem x.id _ true v n
    go false = value_length_lem x.id _ false v n

module _ (r : TransportParameters) (w : well_formed r ≡ true) where
  abbrev at : ℕ → ℕ
  at p = length (parameter_at r p)

  number_at_lem : (p : ℕ) → p < 11 → number_length_at r.numbers p ≡ at p
  unfolding parameter_at values_of number_length_at
  number_at_lem p h = rw (ne_eqb p 11 (omega arith), lt-ltb p 11 h, number_length_lem (id_at p) (get_or defaults p 0) (get_or r.numbers p 0))

  others_at : others_length r ≡ at 11 + at 12 + at 13 + at 14 + at 15 + at 16 + at 17 + at 18 + at 19 + at 20
  unfolding others_length parameter_at values_of other_values token_out flag_out address_out well_formed formed_optional_token formed_token
  others_at =
      rw (
        reserved_length_lem r.grease_transport_parameter (all_at _ w 2),
        value_length_lem (id_at 12) 16 r.stateless_reset_token.present _ (eqb-true _ _ (all_at _ (all_at _ w 3) 0)),
        value_length_lem (id_at 13) 0 r.disable_active_migration [] refl,
        optional_length_lem (id_at 14) r.max_datagram_frame_size,
        value_length_lem (id_at 15) _ r.preferred_address.present _ (address_length_lem _ (all_at _ w 5)),
        cid_length_at (id_at 16) r.original_dst_cid (all_at _ w 6),
        cid_length_at (id_at 17) r.initial_src_cid (all_at _ w 7),
        cid_length_at (id_at 18) r.retry_src_cid (all_at _ w 8),
        value_length_lem (id_at 19) 0 r.grease_quic_bit [] refl,
        optional_length_lem (id_at 20) r.min_ack_delay,
      )

  versions_at : versions_length r.version_information ≡ at 21
  unfolding parameter_at values_of other_values versions_out well_formed
  versions_at = rw (value_length_lem (id_at 21) _ r.version_information.present _ (versions_long _ (all_at _ w 10)))

  -- all together: the length of the record
  pub all_lengths : sum 11 (number_length_at r.numbers) + others_length r + versions_length r.version_information ≡ sum places at
  all_lengths = let e = sum_eq 11 (number_length_at r.numbers) at number_at_lem in rw (e, others_at, versions_at) (unfold sum in omega arith)

  -- what is returned
  pub measured : (n m k : ℕ) → n ≡ sum 11 (number_length_at r.numbers) → m ≡ others_length r → k ≡ versions_length r.version_information
      → accepted (n + m + k) ≡ length_of r
  unfolding length_of
  measured n m k f g h = rw (w, f, g, h) (ap accepted all_lengths)

pub not_measured : (r : TransportParameters) → well_formed r ≡ false → refused 7 ≡ length_of r
unfolding length_of
not_measured r h = rw h
