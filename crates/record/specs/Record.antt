-- Records: well formed; what else a preferred address must be; with a part replaced, and so without
-- order and reserved parameter.
use Rattle.std.specs.Prelude.{ℕ, ◌%◌, [], ◌∷◌, Bool, true, ◌&&◌, ◌||◌, not, length, drop, ltb, leb, eqb}
use Rattle.refusal.specs.Outcome.{pick, all}
use Rattle.catalogue.specs.Catalogue.{places}
use Rattle.varint.specs.Number.{bound}
use Rattle.words.specs.Words.{every, zeros}
use Rattle.connection_id.specs.ConnectionId.{formed_cid}
use Rattle.version_information.specs.VersionInformation.{formed_versions}
use Rattle.record.specs.declared.TransportParameters.{TransportParameters}
use Rattle.record.specs.Optional.{OptionalNumber}
use Rattle.std.specs.Prelude.{is_some, None, Some}
use Rattle.std.specs.Option.{unwrap_or}
use Rattle.record.specs.Optional.{OptionalConnectionId}
use Rattle.record.specs.declared.ResetToken.{ResetToken}
use Rattle.record.specs.Optional.{OptionalResetToken}
use Rattle.record.specs.declared.PreferredAddress.{PreferredAddress}
use Rattle.record.specs.declared.ReservedTransportParameter.{ReservedTransportParameter}
use Rattle.record.specs.declared.WriteOrder.{WriteOrder}
use Rattle.record.specs.Values.{Family, of_v4, of_v6, no_values, record_of, no_reserved, no_order}

-- 0 is not the same as absent
abbrev pub is_present : OptionalNumber → Bool
is_present o = is_some o

-- the number, 0 if it is absent
abbrev pub least : OptionalNumber → ℕ
least o = unwrap_or o 0

-- WELL FORMED: numbers below 2 ^ 62; IDs of at most 20 bytes, zeros after them; only zeros, and
-- length 0, in whatever is absent. What the types say of lengths and ports stands here too
unfoldable pub formed_optional : OptionalNumber → Bool
formed_optional None = true
formed_optional (Some x) = ltb x bound

unfoldable pub formed_optional_cid : OptionalConnectionId → Bool
formed_optional_cid o = all (formed_cid o.value ∷ (o.present || eqb o.value.len 0) ∷ [])

unfoldable pub formed_token : ResetToken → Bool
formed_token t = eqb (length t.bytes) 16

unfoldable pub formed_optional_token : OptionalResetToken → Bool
formed_optional_token o = all (formed_token o.value ∷ (o.present || zeros o.value.bytes) ∷ [])

-- an address of zeros and port 0
abbrev pub unspecified : Family → Bool
unspecified f = zeros f.1 && eqb f.2 0

unfoldable pub formed_family : ℕ → Family → Bool
formed_family n f = all (eqb (length f.1) n ∷ ltb f.2 65536 ∷ (f.0 || unspecified f) ∷ [])

unfoldable pub formed_address : PreferredAddress → Bool
formed_address a =
    all (
    formed_family 4 (of_v4 a.address_v4)
    ∷ formed_family 16 (of_v6 a.address_v6)
    ∷ formed_cid a.connection_id
    ∷ formed_token a.stateless_reset_token
    ∷ (a.present
    || all (
    not a.address_v4.present
    ∷ not a.address_v6.present
    ∷ eqb a.connection_id.len 0
    ∷ zeros a.stateless_reset_token.bytes
    ∷ []
    ))
    ∷ []
    )

-- a reserved identifier has remainder 27 on division by 31 (RFC 9000 sections 18.1 and 22.3)
unfoldable pub formed_reserved : ReservedTransportParameter → Bool
formed_reserved x =
    all (
    eqb (length x.payload) 16
    ∷ ltb x.id bound
    ∷ leb x.payload_len 16
    ∷ zeros (drop x.payload_len x.payload)
    ∷ pick x.present (eqb (x.id % 31) 27) (eqb x.id 0 && eqb x.payload_len 0)
    ∷ []
    )

unfoldable pub formed_order : WriteOrder → Bool
formed_order o = all (eqb (length o.places) places ∷ (o.present || zeros o.places) ∷ [])

unfoldable pub well_formed : TransportParameters → Bool
well_formed r =
    all (
    eqb (length r.numbers) 11
    ∷ every (λ x. ltb x bound) r.numbers
    ∷ formed_reserved r.grease_transport_parameter
    ∷ formed_optional_token r.stateless_reset_token
    ∷ formed_optional r.max_datagram_frame_size
    ∷ formed_address r.preferred_address
    ∷ formed_optional_cid r.original_dst_cid
    ∷ formed_optional_cid r.initial_src_cid
    ∷ formed_optional_cid r.retry_src_cid
    ∷ formed_optional r.min_ack_delay
    ∷ formed_versions r.version_information
    ∷ formed_order r.write_order
    ∷ []
    )

-- a preferred address has a family, and none present is all zero with port 0
unfoldable pub family_rules : PreferredAddress → Bool
family_rules a =
    all (
    (not a.address_v4.present || not (unspecified (of_v4 a.address_v4)))
    ∷ (not a.address_v6.present || not (unspecified (of_v6 a.address_v6)))
    ∷ (not a.present || (a.address_v4.present || a.address_v6.present))
    ∷ []
    )

-- the record of an extension that says nothing
abbrev pub default_record : TransportParameters
default_record = record_of no_values

-- a record with this datagram size, reserved parameter and order, and all else as it is
abbrev pub having : OptionalNumber → ReservedTransportParameter → WriteOrder → TransportParameters → TransportParameters
having size reserved order r =
    record {
      numbers = r.numbers;
      disable_active_migration = r.disable_active_migration;
      max_datagram_frame_size = size;
      initial_src_cid = r.initial_src_cid;
      grease_quic_bit = r.grease_quic_bit;
      min_ack_delay = r.min_ack_delay;
      original_dst_cid = r.original_dst_cid;
      retry_src_cid = r.retry_src_cid;
      stateless_reset_token = r.stateless_reset_token;
      preferred_address = r.preferred_address;
      version_information = r.version_information;
      grease_transport_parameter = reserved;
      write_order = order;
    }

-- RECORD EQUALITY leaves out the order and the reserved parameter: the record without them
unfoldable pub bare : TransportParameters → TransportParameters
bare r = having r.max_datagram_frame_size no_reserved no_order r
