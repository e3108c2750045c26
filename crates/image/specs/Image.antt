-- The images of records and connection IDs, in 374 and 21 bytes: the form in which the C interface
-- passes them. Numbers have the high byte first, a flag is 0 or 1, and what is absent is all zero.
-- First what an image is made of, then what stands at its places.
use Rattle.std.specs.Prelude.{ℕ, ◌+◌, ◌≡◌, List, [], ◌∷◌, ◌++◌, Bool, ◌||◌, length, get_or, take, drop, leb, eqb}
use Rattle.refusal.specs.Outcome.{Outcome, accepted, refused, pick, all}
use Rattle.words.specs.Words.{every, value_from, bytes_of, numbers_bytes, numbers_of}
use Rattle.connection_id.specs.declared.ConnectionId.{ConnectionId}
use Rattle.version_information.specs.declared.VersionInformation.{VersionInformation}
use Rattle.version_information.specs.VersionInformation.{all_bytes, versions_with}
use Rattle.record.specs.declared.TransportParameters.{TransportParameters}
use Rattle.record.specs.Optional.{OptionalNumber}
use Rattle.std.specs.Prelude.{None, Some}
use Rattle.record.specs.Optional.{OptionalConnectionId}
use Rattle.record.specs.declared.PreferredAddress.{PreferredAddress}
use Rattle.record.specs.Values.{Family, token_of, to_v4, to_v6, of_v4, of_v6}
use Rattle.record.specs.Record.{is_present, least}

abbrev pub record_size : ℕ
record_size = 374

abbrev pub cid_size : ℕ
cid_size = 21

-- THE IMAGE: parts, one after another
abbrev pub joined_parts : List (List ℕ) → List ℕ
joined_parts [] = []
joined_parts (p ∷ ps) = p ++ joined_parts ps

abbrev pub flag_byte : Bool → ℕ
flag_byte b = pick b 1 0

abbrev pub flag : Bool → List ℕ
flag b = flag_byte b ∷ []

unfoldable pub eight_bytes : ℕ → List ℕ
eight_bytes x = bytes_of 8 x

abbrev pub numbers_image : List ℕ → List ℕ
numbers_image xs = numbers_bytes 8 xs

-- 0 if absent
abbrev pub optional_parts : OptionalNumber → List (List ℕ)
optional_parts o = flag (is_present o) ∷ eight_bytes (least o) ∷ []

-- the length, then the 20 bytes
abbrev pub cid_parts : ConnectionId → List (List ℕ)
cid_parts c = (c.len ∷ []) ∷ c.bytes ∷ []

abbrev pub optional_cid_parts : OptionalConnectionId → List (List ℕ)
optional_cid_parts o = flag o.present ∷ cid_parts o.value

-- the flag, the address, the port
abbrev pub family_parts : Family → List (List ℕ)
family_parts f = flag f.0 ∷ f.1 ∷ bytes_of 2 f.2 ∷ []

unfoldable pub front_parts : TransportParameters → List (List ℕ)
front_parts r =
    numbers_image r.numbers ∷ flag r.disable_active_migration ∷ flag r.grease_quic_bit
    ∷ (optional_parts r.max_datagram_frame_size ++ optional_parts r.min_ack_delay)

unfoldable pub id_parts : TransportParameters → List (List ℕ)
id_parts r =
    optional_cid_parts r.original_dst_cid
    ++ (optional_cid_parts r.initial_src_cid
    ++ (optional_cid_parts r.retry_src_cid ++ (flag r.stateless_reset_token.present ∷ r.stateless_reset_token.value.bytes ∷ [])))

unfoldable pub address_parts : PreferredAddress → List (List ℕ)
address_parts a =
    flag a.present
    ∷ (family_parts (of_v4 a.address_v4)
    ++ (family_parts (of_v6 a.address_v6) ++ (cid_parts a.connection_id ++ (a.stateless_reset_token.bytes ∷ []))))

-- the reserved parameter: the flag, the identifier, the length of the payload, the payload; then
-- the order
unfoldable pub rest_parts : TransportParameters → List (List ℕ)
rest_parts r =
    flag r.grease_transport_parameter.present ∷ eight_bytes r.grease_transport_parameter.id
    ∷ (r.grease_transport_parameter.payload_len ∷ []) ∷ r.grease_transport_parameter.payload
    ∷ flag r.write_order.present ∷ r.write_order.places ∷ []

-- version information: the flag, how many versions are available, the chosen one, all sixteen
-- places of the others
unfoldable pub versions_parts : VersionInformation → List (List ℕ)
versions_parts i = flag i.present ∷ (i.available_len ∷ []) ∷ all_bytes i ∷ []

unfoldable pub parts : TransportParameters → List (List ℕ)
parts r = front_parts r ++ (id_parts r ++ (address_parts r.preferred_address ++ (rest_parts r ++ versions_parts r.version_information)))

unfoldable pub image_of : TransportParameters → List ℕ
image_of r = joined_parts (parts r)

abbrev pub cid_image : ConnectionId → List ℕ
cid_image c = c.len ∷ c.bytes

-- AT A PLACE: n bytes, a flag, a number of n bytes
abbrev pub part : ℕ → ℕ → List ℕ → List ℕ
part at n s = take n (drop at s)

abbrev pub flag_at : ℕ → List ℕ → Bool
flag_at at s = eqb (get_or s at 0) 1

abbrev pub number_at : ℕ → ℕ → List ℕ → ℕ
number_at at n s = value_from 0 (part at n s)

abbrev pub numbers_at : ℕ → ℕ → List ℕ → List ℕ
numbers_at n at s = numbers_of 8 n (drop at s)

unfoldable pub optional_at : ℕ → List ℕ → OptionalNumber
optional_at at s = pick (flag_at at s) (Some (number_at (at + 1) 8 s)) None

unfoldable pub cid_at : ℕ → List ℕ → ConnectionId
cid_at at s = record { len = get_or s at 0; bytes = part (at + 1) 20 s }

unfoldable pub optional_cid_at : ℕ → List ℕ → OptionalConnectionId
optional_cid_at at s = record { present = flag_at at s; value = cid_at (at + 1) s }

unfoldable pub address_at : List ℕ → PreferredAddress
address_at s =
    record {
      present = flag_at 191 s;
      address_v4 = to_v4 (flag_at 192 s, part 193 4 s, number_at 197 2 s);
      address_v6 = to_v6 (flag_at 199 s, part 200 16 s, number_at 216 2 s);
      connection_id = cid_at 218 s;
      stateless_reset_token = token_of (part 239 16 s);
    }

unfoldable pub record_at : List ℕ → TransportParameters
record_at s =
    record {
      numbers = numbers_at 11 0 s;
      disable_active_migration = flag_at 88 s;
      max_datagram_frame_size = optional_at 90 s;
      initial_src_cid = optional_cid_at 130 s;
      grease_quic_bit = flag_at 89 s;
      min_ack_delay = optional_at 99 s;
      original_dst_cid = optional_cid_at 108 s;
      retry_src_cid = optional_cid_at 152 s;
      stateless_reset_token = record { present = flag_at 174 s; value = token_of (part 175 16 s) };
      preferred_address = address_at s;
      version_information = versions_with (flag_at 304 s) (get_or s 305 0) (part 306 68 s);
      grease_transport_parameter
          = record { present = flag_at 255 s; id = number_at 256 8 s; payload = part 265 16 s; payload_len = get_or s 264 0 };
      write_order = record { present = flag_at 281 s; places = part 282 22 s };
    }

-- IMAGES: 374 bytes, flags that are 0 or 1, and 0 for a number that is absent. Whatever else stands
-- there is the record's, well formed or not
unfoldable pub flag_places : List ℕ
flag_places = 88 ∷ 89 ∷ 90 ∷ 99 ∷ 108 ∷ 130 ∷ 152 ∷ 174 ∷ 191 ∷ 192 ∷ 199 ∷ 255 ∷ 281 ∷ 304 ∷ []

unfoldable pub flags_hold : List ℕ → Bool
flags_hold s = every (λ p. leb (get_or s p 0) 1) flag_places

unfoldable pub zero_if_absent : ℕ → List ℕ → Bool
zero_if_absent at s = flag_at at s || eqb (number_at (at + 1) 8 s) 0

unfoldable pub is_image : List ℕ → Bool
is_image s = all (eqb (length s) record_size ∷ flags_hold s ∷ zero_if_absent 90 s ∷ zero_if_absent 99 s ∷ [])

-- the record of an image: 7 for what is none
unfoldable pub record_from : List ℕ → Outcome TransportParameters
record_from s = pick (is_image s) (accepted (record_at s)) (refused 7)

-- the connection ID of an image: 7 for another length
unfoldable pub cid_from : List ℕ → Outcome ConnectionId
cid_from s = pick (eqb (length s) cid_size) (accepted (cid_at 0 s)) (refused 7)

-- how the code goes about it: what the types of a record say, how long its arrays are
pub record Sized (r : TransportParameters) : Type 0 where
  pub numbers : length r.numbers ≡ 11
  pub original : length r.original_dst_cid.value.bytes ≡ 20
  pub initial : length r.initial_src_cid.value.bytes ≡ 20
  pub retry : length r.retry_src_cid.value.bytes ≡ 20
  pub token : length r.stateless_reset_token.value.bytes ≡ 16
  pub v4 : length r.preferred_address.address_v4.ip ≡ 4
  pub v6 : length r.preferred_address.address_v6.ip ≡ 16
  pub id : length r.preferred_address.connection_id.bytes ≡ 20
  pub reset : length r.preferred_address.stateless_reset_token.bytes ≡ 16
  pub payload : length r.grease_transport_parameter.payload ≡ 16
  pub order : length r.write_order.places ≡ 22
  pub versions : length r.version_information.available ≡ 16
