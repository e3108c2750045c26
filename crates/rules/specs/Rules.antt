-- The value rules, records legal for the side that reads them, and checking one.
use Rattle.std.specs.Prelude.{ℕ, ◌*◌, ◌^◌, List, [], ◌∷◌, Bool, true, false, ◌&&◌, ◌||◌, not, get_or, ltb, leb, eqb}
use Rattle.refusal.specs.Outcome.{Outcome, accepted, refused, pick, all}
use Rattle.words.specs.Words.{member}
use Rattle.version_information.specs.declared.VersionInformation.{VersionInformation}
use Rattle.version_information.specs.VersionInformation.{available_in}
use Rattle.record.specs.declared.TransportParameters.{TransportParameters}
use Rattle.record.specs.Record.{least, well_formed, family_rules}
use Rattle.rules.specs.declared.Side.{Side}
use Rattle.rules.specs.declared.Side.TheVariants.{Client, Server}

abbrev pub is_server : Side → Bool
is_server Client = false
is_server Server = true

-- the value rules (RFC 9000 sections 4.6 and 18.2, draft-ietf-quic-ack-frequency-08 section 3): of
-- the numbers, with the minimum delay
unfoldable pub number_rules : List ℕ → ℕ → Bool
number_rules ns delay =
    all (
    -- ack_delay_exponent, max_ack_delay, active_connection_id_limit, max_udp_payload_size
    leb (get_or ns 8 0) 20
    ∷ ltb (get_or ns 9 0) 16384
    ∷ leb 2 (get_or ns 10 0)
    ∷ leb 1200 (get_or ns 1 0)
    -- initial_max_streams_bidi and _uni
    ∷ leb (get_or ns 6 0) (2 ^ 60)
    ∷ leb (get_or ns 7 0) (2 ^ 60)
    -- min_ack_delay, in microseconds, and max_ack_delay, in milliseconds
    ∷ leb delay (1000 * get_or ns 9 0)
    ∷ []
    )

-- of what else is present: no server is sent original_dst_cid, preferred_address, retry_src_cid or
-- the token; an address has an ID
unfoldable pub presence_rules : Bool → Bool → Bool → Bool → Bool → ℕ → Bool
presence_rules server original address retry token id_len =
    all (not (server && (original || (address || (retry || token)))) ∷ not (address && eqb id_len 0) ∷ [])

-- of version information (RFC 9368 section 4): no version is 0; and for a server the chosen one is
-- available
unfoldable pub version_rules : Bool → VersionInformation → Bool
version_rules server i =
    not i.present
    || all (not (member 0 (i.chosen ∷ available_in i)) ∷ (not server || member i.chosen (available_in i)) ∷ [])

unfoldable pub value_rules : Side → TransportParameters → Bool
value_rules s r =
    all (
    number_rules r.numbers (least r.min_ack_delay)
    ∷ presence_rules (is_server s) r.original_dst_cid.present r.preferred_address.present r.retry_src_cid.present
    r.stateless_reset_token.present r.preferred_address.connection_id.len
    ∷ version_rules (is_server s) r.version_information
    ∷ []
    )

unfoldable pub legal : Side → TransportParameters → Bool
legal s r = all (well_formed r ∷ family_rules r.preferred_address ∷ value_rules s r ∷ [])

-- checking a record for a side: 7, then 2
unfoldable pub check_record : Side → TransportParameters → Outcome (Unit {0})
check_record s r = pick (well_formed r) (pick (legal s r) (accepted tt) (refused 2)) (refused 7)
