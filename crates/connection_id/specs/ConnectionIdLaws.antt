-- Laws of connection IDs behind a length byte, and of comparing them.
use Rattle.std.specs.Prelude.{ℕ, ◌+◌, ◌≤◌, ◌≡◌, ◌↔◌, List, ◌++◌, true, length, take}
use Rattle.refusal.specs.Outcome.{accepted}
use Rattle.connection_id.specs.declared.ConnectionId.{ConnectionId}
use Rattle.connection_id.specs.ConnectionId.{cid_bytes, formed_cid, same_cid, read_cid, cid_wire}

pub record ConnectionIdLaws : Type 0 where
  -- a well-formed ID that was written is read back, whatever bytes follow it
  pub cid_back :
      (c : ConnectionId) (rest : List ℕ) → formed_cid c ≡ true
      → read_cid (cid_wire c ++ rest) ≡ accepted (c, c.len + 1)
  -- what is read is well formed, lies within the input, and stands there in its only form
  pub cid_sound :
      (bs : List ℕ) (c : ConnectionId) (n : ℕ) → read_cid bs ≡ accepted (c, n)
      → (formed_cid c ≡ true)
      × ((n ≤ length bs) × ((n ≡ length (cid_wire c)) × (take n bs ≡ cid_wire c)))
  -- two IDs are the same exactly if they are equal, malformed ones too;
  pub same_exactly : (c d : ConnectionId) → (same_cid c d ≡ true) ↔ (c ≡ d)
  -- well-formed ones exactly if their bytes are, as a packet carries them
  pub same_told :
      (c d : ConnectionId) → formed_cid c ≡ true → formed_cid d ≡ true
      → (same_cid c d ≡ true) ↔ (cid_bytes c ≡ cid_bytes d)
