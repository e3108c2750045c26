-- Connection IDs of at most 20 bytes, and their form behind a length byte: the long header's (RFC
-- 9000 section 17.2), and the preferred address's (RFC 9000 section 18.2).
use Rattle.std.specs.Prelude.{ℕ, ◌+◌, ◌-◌, Bool, ◌&&◌, List, [], ◌∷◌, ◌++◌, length, take, drop, replicate, leb, eqb}
use Rattle.refusal.specs.Outcome.{Outcome, accepted, refused, pick, all, store}
use Rattle.words.specs.Words.{zeros, same_bytes}
use Rattle.connection_id.specs.declared.ConnectionId.{ConnectionId}

-- the ID of at most 20 bytes v: zeros after it
unfoldable pub cid_of : List ℕ → ConnectionId
cid_of v = record { len = length v; bytes = v ++ replicate (20 - length v) 0 }

-- the ID's own bytes
abbrev pub cid_bytes : ConnectionId → List ℕ
cid_bytes c = take c.len c.bytes

-- well formed: an array of 20 bytes, as its type says, of which at most 20 are the ID's, and zeros
-- after them
unfoldable pub formed_cid : ConnectionId → Bool
formed_cid c = all (eqb (length c.bytes) 20 ∷ leb c.len 20 ∷ zeros (drop c.len c.bytes) ∷ [])

-- the same length, and the same bytes
unfoldable pub same_cid : ConnectionId → ConnectionId → Bool
same_cid c d = eqb c.len d.len && same_bytes c.bytes d.bytes

-- the ID of bytes handed in: 7 for more than 20
unfoldable pub make_cid : List ℕ → Outcome ConnectionId
make_cid v = pick (leb (length v) 20) (accepted (cid_of v)) (refused 7)

-- the ID behind its length byte: 1 if there is no length byte, it exceeds 20, or fewer bytes
-- follow; else the ID and its byte count
unfoldable pub read_cid : List ℕ → Outcome (ConnectionId × ℕ)
read_cid [] = refused 1
read_cid (n ∷ bs) = pick (leb n 20 && leb n (length bs)) (accepted (cid_of (take n bs), n + 1)) (refused 1)

-- the bytes due: the length byte, and the ID
abbrev pub cid_wire : ConnectionId → List ℕ
cid_wire c = c.len ∷ cid_bytes c

-- what writing an ID to a buffer answers, and the buffer afterwards: 7, then 5
unfoldable pub write_cid : ConnectionId → List ℕ → Outcome ℕ × List ℕ
write_cid c out = pick (formed_cid c) (store (cid_wire c) out) (refused 7, out)
