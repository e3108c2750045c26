-- Resumption from remembered parameters (RFC 9000 section 7.4.1, RFC 9221 section 3, RFC 9287
-- section 3), and how many connection IDs are issued to a peer (RFC 9000 section 18.2).
use Rattle.std.specs.Prelude.{ℕ, min, List, [], ◌∷◌, Bool, ◌&&◌, ◌||◌, not, get_or, leb}
use Rattle.refusal.specs.Outcome.{Outcome, accepted, refused, pick, all}
use Rattle.record.specs.declared.TransportParameters.{TransportParameters}
use Rattle.record.specs.Optional.{OptionalNumber}
use Rattle.words.specs.Words.{every}
use Rattle.record.specs.Record.{least, well_formed}

-- the places of the limits that are remembered for 0-RTT (RFC 9000 section 7.4.1):
-- active_connection_id_limit, initial_max_data, initial_max_stream_data_bidi_local, _bidi_remote
-- and _uni, initial_max_streams_bidi and _uni
unfoldable pub remembered : List ℕ
remembered = 10 ∷ 2 ∷ 3 ∷ 4 ∷ 5 ∷ 6 ∷ 7 ∷ []

-- none of them is reduced: the new numbers, and those remembered
unfoldable pub limits_kept : List ℕ → List ℕ → Bool
limits_kept new cached = every (λ p. leb (get_or cached p 0) (get_or new p 0)) remembered

-- max_datagram_frame_size (RFC 9221 section 3): its default is 0, so an absent one counts as 0
unfoldable pub size_rank : OptionalNumber → ℕ
size_rank = least

-- a remembered grease_quic_bit is not withdrawn (RFC 9287 section 3)
unfoldable pub nothing_reduced : TransportParameters → TransportParameters → Bool
nothing_reduced new cached =
    all (
    limits_kept new.numbers cached.numbers
    ∷ leb (size_rank cached.max_datagram_frame_size) (size_rank new.max_datagram_frame_size)
    ∷ (not cached.grease_quic_bit || new.grease_quic_bit)
    ∷ []
    )

-- resuming with new parameters from those remembered: 7 for either record, then 8
unfoldable pub resume : TransportParameters → TransportParameters → Outcome (Unit {0})
resume new cached =
    pick (well_formed new && well_formed cached) (pick (nothing_reduced new cached) (accepted tt) (refused 8)) (refused 7)

-- how many connection IDs are issued to the peer of a record: as many as its
-- active_connection_id_limit takes, and at most 8
unfoldable pub issue_limit : TransportParameters → ℕ
issue_limit r = min (get_or r.numbers 10 0) 8
