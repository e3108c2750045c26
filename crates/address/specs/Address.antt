-- How the code goes about it: nothing to believe, since the contract of `writer::write` is an
-- equation with `write` (writer/specs/Writing.antt). The value of a preferred address (RFC 9000
-- section 18.2, figure 22).
use Rattle.std.specs.Prelude.{ℕ, List, ◌∷◌, ◌++◌}
use Rattle.connection_id.specs.ConnectionId.{cid_bytes}
use Rattle.record.specs.declared.PreferredAddress.{PreferredAddress}
use Rattle.record.specs.Values.{of_v4, of_v6, family_out}

-- the address and port of each family, the ID behind its length, the token
abbrev pub address_bytes : PreferredAddress → List ℕ
address_bytes a =
    family_out (of_v4 a.address_v4)
    ++ (family_out (of_v6 a.address_v6) ++ (a.connection_id.len ∷ (cid_bytes a.connection_id ++ a.stateless_reset_token.bytes)))
