-- Records and the values on the wire: for each kind, what the record holds for a value received
-- (In), and the value that is sent for what the record holds (Out); then the whole record from the
-- values of all places, and the values of a record.
use Rattle.std.specs.Prelude.{ℕ, suc, ◌+◌, ◌-◌, ◌<◌, List, [], ◌∷◌, ◌++◌, Bool, true, false, not, get_or, take, drop, replicate, ltb, eqb}
use Rattle.std.proofs.Math.Option.{Option, none, some}
use Rattle.refusal.specs.Outcome.{Outcome, accepted, refused, pick}
use Rattle.varint.specs.Number.{read_number, number_bytes}
use Rattle.varint.specs.declared.Decoded.{Decoded}
use Rattle.words.specs.Words.{zeros, value_from, bytes_of}
use Rattle.connection_id.specs.ConnectionId.{cid_of, cid_bytes}
use Rattle.version_information.specs.declared.VersionInformation.{VersionInformation}
use Rattle.version_information.specs.VersionInformation.{no_versions, versions_of, versions_bytes}
use Rattle.record.specs.declared.TransportParameters.{TransportParameters}
use Rattle.record.specs.Optional.{OptionalNumber}
use Rattle.std.specs.Prelude.{None, Some}
use Rattle.record.specs.Optional.{OptionalConnectionId}
use Rattle.record.specs.declared.ResetToken.{ResetToken}
use Rattle.record.specs.Optional.{OptionalResetToken}
use Rattle.record.specs.Optional.{SocketAddrV4, SocketAddrV6}
use Rattle.record.specs.declared.SocketAddr.{SocketAddr}
use Rattle.record.specs.declared.PreferredAddress.{PreferredAddress}
use Rattle.record.specs.declared.ReservedTransportParameter.{ReservedTransportParameter}
use Rattle.record.specs.declared.WriteOrder.{WriteOrder}
use Rattle.catalogue.specs.Catalogue.{places, defaults, id_length}

-- bytes are below 256
abbrev pub Bytes : List ℕ → Type 0
Bytes bs = (i : ℕ) → get_or bs i 0 < 256

-- the value at each place, or none
abbrev pub Values : Type 0
Values = ℕ → Option (List ℕ)

unfoldable pub no_values : Values
no_values p = none

abbrev pub is_some : Option (List ℕ) → Bool
is_some none = false
is_some (some v) = true

-- the values with that of one place replaced
unfoldable pub upd : Values → ℕ → Option (List ℕ) → Values
upd l p x q = pick (eqb q p) x (l q)

-- NUMBERS, of default d: the default is not sent
abbrev pub value : Outcome Decoded → ℕ
value (accepted a) = a.value
value (refused e) = 0

unfoldable pub number_in : ℕ → Option (List ℕ) → ℕ
number_in d none = d
number_in d (some v) = value (read_number v)

unfoldable pub number_out : ℕ → ℕ → Option (List ℕ)
number_out d x = pick (eqb x d) none (some (number_bytes x))

-- optional numbers: 0 is not the same as absent
unfoldable pub optional_in : Option (List ℕ) → OptionalNumber
optional_in none = None
optional_in (some v) = Some (value (read_number v))

unfoldable pub optional_out : OptionalNumber → Option (List ℕ)
optional_out None = none
optional_out (Some x) = some (number_bytes x)

-- FLAGS: a parameter without a value
unfoldable pub flag_out : Bool → Option (List ℕ)
flag_out b = pick b (some []) none

-- CONNECTION IDs
unfoldable pub cid_in : Option (List ℕ) → OptionalConnectionId
cid_in none = record { present = false; value = cid_of [] }
cid_in (some v) = record { present = true; value = cid_of v }

unfoldable pub cid_out : OptionalConnectionId → Option (List ℕ)
cid_out o = pick o.present (some (cid_bytes o.value)) none

-- THE RESET TOKEN
abbrev pub token_of : List ℕ → ResetToken
token_of v = record { bytes = v }

unfoldable pub token_in : Option (List ℕ) → OptionalResetToken
token_in none = record { present = false; value = token_of (replicate 16 0) }
token_in (some v) = record { present = true; value = token_of v }

unfoldable pub token_out : OptionalResetToken → Option (List ℕ)
token_out o = pick o.present (some o.value.bytes) none

-- THE PREFERRED ADDRESS. A family: whether it is offered, its address and its port; not offered is
-- all zero
abbrev pub Family : Type 0
Family = Bool × List ℕ × ℕ

unfoldable pub family_in : ℕ → List ℕ → Family
family_in n v = (not (zeros v), take n v, value_from 0 (drop n v))

unfoldable pub family_out : Family → List ℕ
family_out f = f.1 ++ bytes_of 2 f.2

abbrev pub of_address : {n : ℕ} → SocketAddr n → Family
of_address a = (a.present, a.ip, a.port)

abbrev pub to_v4 : Family → SocketAddrV4
to_v4 f = record { present = f.0; ip = f.1; port = f.2 }

abbrev pub to_v6 : Family → SocketAddrV6
to_v6 f = record { present = f.0; ip = f.1; port = f.2 }

abbrev pub of_v4 : SocketAddrV4 → Family
of_v4 a = of_address a

abbrev pub of_v6 : SocketAddrV6 → Family
of_v6 a = of_address a

-- one of n bytes that is not offered
abbrev pub absent_address : (n : ℕ) → SocketAddr n
absent_address n = record { present = false; ip = replicate n 0; port = 0 }

unfoldable pub address_in : Option (List ℕ) → PreferredAddress
address_in none =
    record {
      present = false;
      address_v4 = to_v4 (family_in 4 (replicate 6 0));
      address_v6 = to_v6 (family_in 16 (replicate 18 0));
      connection_id = cid_of [];
      stateless_reset_token = token_of (replicate 16 0);
    }
address_in (some v) =
    record {
      present = true;
      address_v4 = to_v4 (family_in 4 (take 6 v));
      address_v6 = to_v6 (family_in 16 (take 18 (drop 6 v)));
      connection_id = cid_of (take (id_length v) (drop 25 v));
      stateless_reset_token = token_of (drop (25 + id_length v) v);
    }

unfoldable pub address_out : PreferredAddress → Option (List ℕ)
address_out a =
    pick a.present
    (some (
    family_out (of_v4 a.address_v4)
    ++ (family_out (of_v6 a.address_v6)
    ++ (a.connection_id.len ∷ (cid_bytes a.connection_id ++ a.stateless_reset_token.bytes)))
    ))
    none

-- VERSION INFORMATION
unfoldable pub versions_in : Option (List ℕ) → VersionInformation
versions_in none = no_versions
versions_in (some v) = versions_of v

unfoldable pub versions_out : VersionInformation → Option (List ℕ)
versions_out i = pick i.present (some (versions_bytes i)) none

-- THE RECORD. What reading does not give: the reserved parameter and the order
unfoldable pub no_reserved : ReservedTransportParameter
no_reserved = record { present = false; id = 0; payload = replicate 16 0; payload_len = 0 }

unfoldable pub no_order : WriteOrder
no_order = record { present = false; places = replicate places 0 }

-- the numbers from place k on, by their defaults
abbrev pub numbers_in : List ℕ → ℕ → Values → List ℕ
numbers_in [] k l = []
numbers_in (d ∷ ds) k l = number_in d (l k) ∷ numbers_in ds (suc k) l

-- the record of the values received
unfoldable pub record_of : Values → TransportParameters
record_of l =
    record {
      numbers = numbers_in defaults 0 l;
      disable_active_migration = is_some (l 13);
      max_datagram_frame_size = optional_in (l 14);
      initial_src_cid = cid_in (l 17);
      grease_quic_bit = is_some (l 19);
      min_ack_delay = optional_in (l 20);
      original_dst_cid = cid_in (l 16);
      retry_src_cid = cid_in (l 18);
      stateless_reset_token = token_in (l 12);
      preferred_address = address_in (l 15);
      version_information = versions_in (l 21);
      grease_transport_parameter = no_reserved;
      write_order = no_order;
    }

-- places 12 to 21 of a record
unfoldable pub other_values : TransportParameters → List (Option (List ℕ))
other_values r =
    token_out r.stateless_reset_token ∷ flag_out r.disable_active_migration ∷ optional_out r.max_datagram_frame_size
    ∷ address_out r.preferred_address ∷ cid_out r.original_dst_cid ∷ cid_out r.initial_src_cid
    ∷ cid_out r.retry_src_cid ∷ flag_out r.grease_quic_bit ∷ optional_out r.min_ack_delay
    ∷ versions_out r.version_information ∷ []

-- the values that are sent for a record; the reserved parameter, at place 11, has no value of its
-- own
unfoldable pub values_of : TransportParameters → Values
values_of r p =
    pick (ltb p 11) (number_out (get_or defaults p 0) (get_or r.numbers p 0))
    (pick (eqb p 11) none (get_or (other_values r) (p - 12) none))
