-- Building a record from settings, and from drawn values handed in.
use Rattle.std.specs.Prelude.{ℕ, ◌+◌, ◌-◌, ◌*◌, ◌/◌, min, List, [], ◌∷◌, ◌++◌, Bool, true, ◌&&◌, not, length, get_or, replicate, ltb, leb, eqb}
use Rattle.refusal.specs.Outcome.{Outcome, accepted, refused, pick}
use Rattle.varint.specs.Number.{bound}
use Rattle.connection_id.specs.declared.ConnectionId.{ConnectionId}
use Rattle.connection_id.specs.ConnectionId.{formed_cid}
use Rattle.record.specs.declared.TransportParameters.{TransportParameters}
use Rattle.record.specs.Optional.{OptionalNumber}
use Rattle.std.specs.Prelude.{None, Some}
use Rattle.record.specs.declared.ReservedTransportParameter.{ReservedTransportParameter}
use Rattle.record.specs.declared.WriteOrder.{WriteOrder}
use Rattle.catalogue.specs.Catalogue.{defaults}
use Rattle.words.specs.Words.{every}
use Rattle.record.specs.Record.{least, default_record}
use Rattle.rules.specs.Rules.{is_server}
use Rattle.order.specs.Order.{permutation}
use Rattle.building.specs.declared.Settings.{Settings}

-- SETTINGS. Those that are sent as they are have to be below 2 ^ 62; not so a datagram size, which
-- is cut, or the generator's ID length
unfoldable pub sent_settings : Settings → List ℕ
sent_settings s =
    s.max_concurrent_bidi_streams
    ∷ s.max_concurrent_uni_streams
    ∷ s.receive_window
    ∷ s.stream_receive_window
    ∷ least s.max_idle_timeout
    ∷ s.max_udp_payload_size
    ∷ []

unfoldable pub settings_fit : Settings → Bool
settings_fit s = every (λ x. ltb x bound) (sent_settings s)

-- active_connection_id_limit (RFC 9000 section 18.2), by the length of the IDs that are generated
unfoldable pub id_limit : ℕ → ℕ
id_limit n = pick (eqb n 0) 2 5

-- max_datagram_frame_size (RFC 9221 section 3): at most 65,535
unfoldable pub cut_size : OptionalNumber → OptionalNumber
cut_size None = None
cut_size (Some x) = Some (min x 65535)

-- places 0 to 10, with the active_connection_id_limit. An absent idle timeout is 0, no timeout (RFC
-- 9000 section 10.1); the stream window is that of all three kinds of stream; ack_delay_exponent
-- and max_ack_delay have their defaults
unfoldable pub numbers_from : Settings → ℕ → List ℕ
numbers_from s limit =
    least s.max_idle_timeout
    ∷ s.max_udp_payload_size
    ∷ s.receive_window
    ∷ s.stream_receive_window
    ∷ s.stream_receive_window
    ∷ s.stream_receive_window
    ∷ s.max_concurrent_bidi_streams
    ∷ s.max_concurrent_uni_streams
    ∷ get_or defaults 8 0
    ∷ get_or defaults 9 0
    ∷ limit
    ∷ []

-- DRAWN VALUES. The reserved parameter: an identifier 31 * N + 27 (RFC 9000 sections 18.1 and 22.3)
-- below 2 ^ 62, and a payload
unfoldable pub draw_fits : ℕ → List ℕ → Bool
draw_fits d payload = ltb d (bound - 27) && leb (length payload) 15

unfoldable pub reserved_id : ℕ → ℕ
reserved_id d = 31 * (d / 31) + 27

unfoldable pub reserved_from : ℕ → List ℕ → ReservedTransportParameter
reserved_from d payload =
    record {
      present = true;
      id = reserved_id d;
      payload = payload ++ replicate (16 - length payload) 0;
      payload_len = length payload;
    }

unfoldable pub drawn_order : List ℕ → WriteOrder
drawn_order order = record { present = true; places = order }

-- THE RECORD. Only a server that forbids migration disables it (RFC 9000 section 18.2);
-- min_ack_delay is a millisecond, in microseconds (draft-ietf-quic-ack-frequency-08 section 3).
-- What neither settings nor draws say is as in the default record
unfoldable pub built_record : Settings → ConnectionId → ReservedTransportParameter → WriteOrder → TransportParameters
built_record s cid reserved order =
    record {
      numbers = numbers_from s (id_limit s.cid_len);
      disable_active_migration = is_server s.side && not s.migration;
      max_datagram_frame_size = cut_size s.datagram_receive_buffer_size;
      initial_src_cid = record { present = true; value = cid };
      grease_quic_bit = s.grease_quic_bit;
      min_ack_delay = Some 1000;
      original_dst_cid = default_record.original_dst_cid;
      retry_src_cid = default_record.retry_src_cid;
      stateless_reset_token = default_record.stateless_reset_token;
      preferred_address = default_record.preferred_address;
      version_information = default_record.version_information;
      grease_transport_parameter = reserved;
      write_order = order;
    }

-- building: 4 for a setting, 7 for the connection ID, 9 for the draw or the payload, then 6 for the
-- order
unfoldable pub build : Settings → ConnectionId → ℕ → List ℕ → List ℕ → Outcome TransportParameters
build s cid draw payload order =
    pick (settings_fit s)
    (pick (formed_cid cid)
    (pick (draw_fits draw payload)
    (pick (permutation order) (accepted (built_record s cid (reserved_from draw payload) (drawn_order order))) (refused 6))
    (refused 9))
    (refused 7))
    (refused 4)
