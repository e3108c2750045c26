-- Who is at the other end: the connection IDs of a peer's record are held to those that packets
-- carried (RFC 9000 section 7.3). The side is ours, the one that has read the record.
use Rattle.std.specs.Prelude.{[], ◌∷◌, Bool, ◌&&◌, ◌||◌, not}
use Rattle.refusal.specs.Outcome.{Outcome, accepted, refused, pick, all}
use Rattle.connection_id.specs.ConnectionId.{formed_cid, same_cid}
use Rattle.record.specs.declared.TransportParameters.{TransportParameters}
use Rattle.record.specs.Optional.{OptionalConnectionId}
use Rattle.record.specs.Record.{formed_optional_cid, well_formed}
use Rattle.rules.specs.declared.Side.{Side}
use Rattle.rules.specs.declared.Side.TheVariants.{Client, Server}
use Rattle.authentication.specs.declared.SeenConnectionIds.{SeenConnectionIds}

-- every ID handed in, looked at or not; that of a Retry is empty and zero if there was none
unfoldable pub formed_seen : SeenConnectionIds → Bool
formed_seen seen = all (formed_cid seen.initial_src_cid ∷ formed_cid seen.original_dst_cid ∷ formed_optional_cid seen.retry_src_cid ∷ [])

-- what a side needs: initial_src_cid; a client also original_dst_cid and, if there was a Retry,
-- retry_src_cid
unfoldable pub has_needed : Side → TransportParameters → SeenConnectionIds → Bool
has_needed Server r seen = r.initial_src_cid.present
has_needed Client r seen =
    all (r.initial_src_cid.present ∷ r.original_dst_cid.present ∷ (not seen.retry_src_cid.present || r.retry_src_cid.present) ∷ [])

-- the ID of the Retry; without a Retry there is none
unfoldable pub retry_as_seen : OptionalConnectionId → OptionalConnectionId → Bool
retry_as_seen o seen = pick seen.present (same_cid o.value seen.value) (not o.present)

-- what a side looks at is what was seen, length and bytes
unfoldable pub as_seen : Side → TransportParameters → SeenConnectionIds → Bool
as_seen Server r seen = same_cid r.initial_src_cid.value seen.initial_src_cid
as_seen Client r seen =
    all (
    same_cid r.initial_src_cid.value seen.initial_src_cid
    ∷ same_cid r.original_dst_cid.value seen.original_dst_cid
    ∷ retry_as_seen r.retry_src_cid seen.retry_src_cid
    ∷ []
    )

-- 7 for the record or any ID, then 13, then 14
unfoldable pub authenticate_cids : Side → TransportParameters → SeenConnectionIds → Outcome (Unit {0})
authenticate_cids side r seen =
    pick (well_formed r && formed_seen seen)
    (pick (has_needed side r seen) (pick (as_seen side r seen) (accepted tt) (refused 14)) (refused 13)) (refused 7)
