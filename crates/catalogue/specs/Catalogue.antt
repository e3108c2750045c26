-- The catalogue of transport parameters (RFC 9000 section 18.2, RFC 9221 section 3, RFC 9287
-- section 3, RFC 9368 section 3, draft-ietf-quic-ack-frequency-08 section 3): identifier, kind and
-- default by place, which values fit a kind, and a parameter on the wire (RFC 9000 section 18).
use Rattle.std.specs.Prelude.{ℕ, suc, ◌+◌, ◌%◌, ◌^◌, List, [], ◌∷◌, ◌++◌, Bool, false, codes, length, get_or, take, replicate, ltb, leb, eqb}
use Rattle.std.proofs.Math.Option.{Option, none, some}
use Rattle.refusal.specs.Outcome.{Outcome, accepted, refused, pick, all}
use Rattle.varint.specs.Number.{bound, read_number, number_bytes}
use Rattle.varint.specs.declared.Decoded.{Decoded}
use Rattle.words.specs.Words.{zeros}

abbrev pub places : ℕ
places = 22

-- the name of each place, as in quinn's source; `reserved` and `version_information` are our own
unfoldable pub names : List (List ℕ)
names =
    codes "max_idle_timeout"
    ∷ codes "max_udp_payload_size"
    ∷ codes "initial_max_data"
    ∷ codes "initial_max_stream_data_bidi_local"
    ∷ codes "initial_max_stream_data_bidi_remote"
    ∷ codes "initial_max_stream_data_uni"
    ∷ codes "initial_max_streams_bidi"
    ∷ codes "initial_max_streams_uni"
    ∷ codes "ack_delay_exponent"
    ∷ codes "max_ack_delay"
    ∷ codes "active_connection_id_limit"
    ∷ codes "reserved"
    ∷ codes "stateless_reset_token"
    ∷ codes "disable_active_migration"
    ∷ codes "max_datagram_frame_size"
    ∷ codes "preferred_address"
    ∷ codes "original_dst_cid"
    ∷ codes "initial_src_cid"
    ∷ codes "retry_src_cid"
    ∷ codes "grease_quic_bit"
    ∷ codes "min_ack_delay"
    ∷ codes "version_information"
    ∷ []

-- the identifier of each place. Place 11 is the reserved parameter's, which has none of its own: no
-- number on the wire is 2 ^ 62
unfoldable pub ids : List ℕ
ids =
    0x01 ∷ 0x03 ∷ 0x04 ∷ 0x05 ∷ 0x06 ∷ 0x07 ∷ 0x08 ∷ 0x09 ∷ 0x0a ∷ 0x0b ∷ 0x0e ∷ 2 ^ 62 ∷ 0x02 ∷ 0x0c ∷ 0x20 ∷ 0x0d ∷ 0x00 ∷ 0x0f ∷ 0x10
    ∷ 0x2ab2 ∷ 0xff04de1b ∷ 0x11 ∷ []

-- of places 0 to 10
unfoldable pub defaults : List ℕ
defaults = 0 ∷ 65527 ∷ 0 ∷ 0 ∷ 0 ∷ 0 ∷ 0 ∷ 0 ∷ 3 ∷ 25 ∷ 2 ∷ []

pub data Kind : Type 0 where
  number flag cid token address versions reserved : Kind

-- from place 11 on
unfoldable pub other_kinds : List Kind
other_kinds = reserved ∷ token ∷ flag ∷ number ∷ address ∷ cid ∷ cid ∷ cid ∷ flag ∷ number ∷ versions ∷ []

unfoldable pub kinds : List Kind
unfolding other_kinds
kinds = replicate 11 number ++ other_kinds

unfoldable pub kind_at : ℕ → Kind
kind_at p = get_or kinds p reserved

unfoldable pub id_at : ℕ → ℕ
id_at p = get_or ids p 0

-- the longest value of a kind, in bytes
unfoldable pub widest : Kind → ℕ
widest number = 8
widest flag = 0
widest cid = 20
widest token = 16
widest address = 61
widest versions = 68
widest reserved = 16

-- where x first stands, or the length
abbrev pub index_of : ℕ → List ℕ → ℕ
index_of x [] = 0
index_of x (y ∷ ys) = pick (eqb x y) 0 (suc (index_of x ys))

-- the place of an identifier, which is a number below 2 ^ 62; 22 if it is unknown
unfoldable pub place_of : ℕ → ℕ
place_of id = pick (ltb id bound) (index_of id ids) places

-- a number that is as long as its bytes
abbrev pub fills : ℕ → Outcome Decoded → Bool
fills n (accepted a) = eqb a.count n
fills n (refused e) = false

-- a preferred address: 4 and 2 bytes of one family, 16 and 2 of the other, a length byte, the
-- connection ID, 16 bytes of token
abbrev pub id_length : List ℕ → ℕ
id_length v = get_or v 24 0

-- a value that uses exactly its bytes; of version information, a chosen version and at most 16
-- available ones, four bytes each
unfoldable pub fits : Kind → List ℕ → Bool
fits number v = fills (length v) (read_number v)
fits flag v = eqb (length v) 0
fits cid v = leb (length v) 20
fits token v = eqb (length v) 16
fits address v = all (leb 41 (length v) ∷ leb (id_length v) 20 ∷ eqb (length v) (41 + id_length v) ∷ [])
fits versions v = all (leb 4 (length v) ∷ leb (length v) 68 ∷ eqb (length v % 4) 0 ∷ [])
fits reserved v = false

-- an address that can be read as far as its token and offers no family
unfoldable pub illegal : Kind → List ℕ → Bool
illegal number v = false
illegal flag v = false
illegal cid v = false
illegal token v = false
illegal address v = all (leb 25 (length v) ∷ leb (id_length v) 20 ∷ leb (41 + id_length v) (length v) ∷ zeros (take 24 v) ∷ [])
illegal versions v = false
illegal reserved v = false

-- a parameter on the wire: identifier, length and value, numbers in their shortest form
unfoldable pub parameter : ℕ → List ℕ → List ℕ
parameter id v = number_bytes id ++ (number_bytes (length v) ++ v)

-- the same, if there is a value
abbrev pub parameter_if : ℕ → Option (List ℕ) → List ℕ
parameter_if id none = []
parameter_if id (some v) = parameter id v
