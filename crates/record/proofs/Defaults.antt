-- What derived defaults are: nothing, and all zero. Assumes nothing.
use Prim.Native.Nat.{ℕ}
use lib.ListN.{replicate}
use mathlib.Core.Path.{◌≡◌, ap, ap₂, ◌∙◌}
use mathlib.Core.List.{[]}
use mathlib.Core.Bool.{false}
use mathlib.Core.Option.{none}
use Rattle.connection_id.specs.ConnectionId.{cid_of}
use Rattle.connection_id.proofs.Defaults.{Zeros, zeros_of, cid_default}
use Rattle.version_information.specs.declared.VersionInformation.{VersionInformation}
use Rattle.version_information.specs.VersionInformation.{no_versions}
use Rattle.record.specs.declared.WriteOrder.{WriteOrder}
use Rattle.record.specs.declared.ReservedTransportParameter.{ReservedTransportParameter}
use Rattle.record.specs.declared.PreferredAddress.{PreferredAddress}
use Rattle.record.specs.declared.SocketAddr.{SocketAddr}
use Rattle.record.specs.Optional.{OptionalConnectionId, OptionalResetToken}
use Rattle.record.specs.Values.{cid_in, token_in, address_in, versions_in, family_in, absent_address, no_reserved, no_order}

pub order_absent : (w : WriteOrder) → w.present ≡ false → Zeros w.places 22 → w ≡ no_order
unfolding no_order
order_absent w h z = ap₂ (λ p b. record { present = p; places = b }) h (zeros_of w.places 22 z)

pub reserved_absent : (x : ReservedTransportParameter) → x.present ≡ false → x.id ≡ 0 → Zeros x.payload 16 → x.payload_len ≡ 0 → x ≡ no_reserved
unfolding no_reserved
reserved_absent x h i z n =
    ap₂ (λ p i. record { present = p; id = i; payload = x.payload; payload_len = x.payload_len }) h i
    ∙ ap₂ (λ b n. record { present = false; id = 0; payload = b; payload_len = n }) (zeros_of x.payload 16 z) n

pub versions_absent : (i : VersionInformation) → i.present ≡ false → i.available_len ≡ 0 → i.chosen ≡ 0 → Zeros i.available 16 → i ≡ versions_in none
unfolding versions_in no_versions
versions_absent i h n c z =
    ap₂ (λ p k. record { present = p; available_len = k; chosen = i.chosen; available = i.available }) h n
    ∙ ap₂ (λ x b. record { present = false; available_len = 0; chosen = x; available = b }) c (zeros_of i.available 16 z)

pub token_absent : (o : OptionalResetToken) → o.present ≡ false → Zeros o.value.bytes 16 → o ≡ token_in none
unfolding token_in
token_absent o h z = ap₂ (λ p b. record { present = p; value = record { bytes = b } }) h (zeros_of o.value.bytes 16 z)

pub cid_absent : (o : OptionalConnectionId) → o.present ≡ false → o.value.len ≡ 0 → Zeros o.value.bytes 20 → o ≡ cid_in none
unfolding cid_in
cid_absent o h n z = ap₂ (λ p c. record { present = p; value = c }) h (cid_default o.value n z)

family_absent : (n : ℕ) (a : SocketAddr n) → a.present ≡ false → Zeros a.ip n → a.port ≡ 0 → a ≡ absent_address n
family_absent n a h z p =
    ap₂ (λ q b. record { present = q; ip = b; port = a.port }) h (zeros_of a.ip n z) ∙ ap (λ q. record { present = false; ip = replicate n 0; port = q }) p

pub address_absent : (a : PreferredAddress) → a.present ≡ false
    → (a.address_v4.present ≡ false) × (Zeros a.address_v4.ip 4 × (a.address_v4.port ≡ 0))
    → (a.address_v6.present ≡ false) × (Zeros a.address_v6.ip 16 × (a.address_v6.port ≡ 0))
    → a.connection_id.len ≡ 0 → Zeros a.connection_id.bytes 20 → Zeros a.stateless_reset_token.bytes 16 → a ≡ address_in none
unfolding address_in family_in
address_absent a h v4 v6 n z t =
    ap (λ p. record { present = p; address_v4 = a.address_v4; address_v6 = a.address_v6; connection_id = a.connection_id; stateless_reset_token = a.stateless_reset_token }) h
    ∙ ap₂ (λ x y. record { present = false; address_v4 = x; address_v6 = y; connection_id = a.connection_id; stateless_reset_token = a.stateless_reset_token })
    (family_absent 4 a.address_v4 v4.0 v4.1.0 v4.1.1)
    (family_absent 16 a.address_v6 v6.0 v6.1.0 v6.1.1)
    ∙ ap (λ c. record { present = false; address_v4 = absent_address 4; address_v6 = absent_address 16; connection_id = c; stateless_reset_token = a.stateless_reset_token }) (cid_default a.connection_id n z)
    ∙ ap (λ b. record { present = false; address_v4 = absent_address 4; address_v6 = absent_address 16; connection_id = cid_of []; stateless_reset_token = record { bytes = b } }) (zeros_of a.stateless_reset_token.bytes 16 t)
