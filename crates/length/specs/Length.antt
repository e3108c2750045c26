-- How the code goes about it: nothing to believe, since the contract of `length::length` is an
-- equation with `length_of` (writer/specs/Writing.antt). How long the parameters of a record are,
-- from the lengths of their values alone.
use Rattle.std.specs.Prelude.{ℕ, ◌+◌, ◌*◌, List, Bool, not, length, get_or, eqb}
use Rattle.refusal.specs.Outcome.{pick}
use Rattle.varint.specs.Number.{number_bytes}
use Rattle.catalogue.specs.Catalogue.{defaults, id_at}
use Rattle.version_information.specs.declared.VersionInformation.{VersionInformation}
use Rattle.record.specs.declared.TransportParameters.{TransportParameters}
use Rattle.record.specs.Optional.{OptionalNumber}
use Rattle.record.specs.Optional.{OptionalConnectionId}
use Rattle.record.specs.declared.PreferredAddress.{PreferredAddress}
use Rattle.record.specs.declared.ReservedTransportParameter.{ReservedTransportParameter}
use Rattle.record.specs.Record.{is_present, least}

-- a parameter, if it is due: identifier, length, and a value of n bytes
unfoldable pub value_length : Bool → ℕ → ℕ → ℕ
value_length due id n = pick due (length (number_bytes id) + length (number_bytes n) + n) 0

-- one that holds a number
abbrev pub number_length : Bool → ℕ → ℕ → ℕ
number_length due id x = value_length due id (length (number_bytes x))

-- that of a place from 0 to 10
unfoldable pub number_length_at : List ℕ → ℕ → ℕ
number_length_at ns p = number_length (not (eqb (get_or ns p 0) (get_or defaults p 0))) (id_at p) (get_or ns p 0)

-- those of the places from 11 on
abbrev pub optional_length : ℕ → OptionalNumber → ℕ
optional_length id o = number_length (is_present o) id (least o)

abbrev pub cid_length : ℕ → OptionalConnectionId → ℕ
cid_length id o = value_length o.present id o.value.len

abbrev pub reserved_length : ReservedTransportParameter → ℕ
reserved_length x = value_length x.present x.id x.payload_len

-- two families of 6 and 18 bytes, a length byte, the ID, 16 bytes of token
abbrev pub address_length : PreferredAddress → ℕ
address_length a = value_length a.present (id_at 15) (41 + a.connection_id.len)

-- four bytes for each version, the chosen one and those available
abbrev pub versions_length : VersionInformation → ℕ
versions_length i = value_length i.present (id_at 21) (4 + 4 * i.available_len)

-- those of places 11 to 20
unfoldable pub others_length : TransportParameters → ℕ
others_length r =
    reserved_length r.grease_transport_parameter
    + value_length r.stateless_reset_token.present (id_at 12) 16
    + value_length r.disable_active_migration (id_at 13) 0
    + optional_length (id_at 14) r.max_datagram_frame_size
    + address_length r.preferred_address
    + cid_length (id_at 16) r.original_dst_cid
    + cid_length (id_at 17) r.initial_src_cid
    + cid_length (id_at 18) r.retry_src_cid
    + value_length r.grease_quic_bit (id_at 19) 0
    + optional_length (id_at 20) r.min_ack_delay
