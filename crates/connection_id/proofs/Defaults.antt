-- What the derived default is: the ID of no bytes. Assumes nothing.
use Prim.Native.Nat.{ℕ, ◌<◌}
use mathlib.Core.Path.{◌≡◌, ap₂, sym, ◌∙◌}
use mathlib.Core.List.{List, []}
use native.Mathlib.Omega.{arith}
use lib.ListN.{replicate, length-replicate, get_or-replicate}
use Rattle.std.proofs.lemmas.List.{same_lists}
use Rattle.std.specs.Array.{AllOfLen}
use Rattle.connection_id.specs.declared.ConnectionId.{ConnectionId}
use Rattle.connection_id.specs.ConnectionId.{cid_of}

abbrev pub Zeros : List ℕ → ℕ → Type 0
Zeros xs n = AllOfLen (λ (x : ℕ). x ≡ 0) xs n

pub zeros_of : (xs : List ℕ) (n : ℕ) → Zeros xs n → xs ≡ replicate n 0
zeros_of xs n z =
    same_lists xs (replicate n 0) (z.long ∙ sym (length-replicate n 0)) λ k d h.
    let l : k < n = omega (arith, z.long) in
    z.at k d l ∙ sym (get_or-replicate n k 0 d l)

pub cid_default : (c : ConnectionId) → c.len ≡ 0 → Zeros c.bytes 20 → c ≡ cid_of []
unfolding cid_of
cid_default c h z = ap₂ (λ n b. record { len = n; bytes = b }) h (zeros_of c.bytes 20 z)
