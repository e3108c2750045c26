-- What may be missing, made of a value that may be missing. Assumes nothing.
--     mapped                                   what a function made
--     cid_given, token_given, address_given    as a record holds it
use Prim.Native.Nat.{ℕ}
use mathlib.Core.Path.{◌≡◌, ap}
use mathlib.Core.List.{List}
use mathlib.Core.Bool.{true, false}
use mathlib.Core.Option.{none, some}
use denote.Ref.{Bor}
use Rattle.std.specs.Prelude.{Option as Maybe, None, Some, MatchOption, IsSomeAnd, option_map, option_copied}
use Rattle.std.specs.Option.{UnwrapsOrElse}
use Rattle.connection_id.specs.ConnectionId.{cid_of}
use Rattle.connection_id.proofs.Defaults.{Zeros}
use Rattle.connection_id.specs.declared.ConnectionId.{ConnectionId}
use Rattle.record.specs.declared.PreferredAddress.{PreferredAddress}
use Rattle.record.specs.declared.ResetToken.{ResetToken}
use Rattle.record.specs.Optional.{OptionalConnectionId, OptionalResetToken}
use Rattle.record.specs.Values.{token_of, cid_in, token_in, address_in}
use Rattle.record.proofs.Defaults.{cid_absent, token_absent}
use Rattle.index.specs.Answer.{option_of}

pub mapped : {A B : Type 0} (v : Maybe (Bor A)) (m : Maybe B) (f : A → B) (Q : Bor A → B → Type 0) → MatchOption v (m ≡ None) (λ x. IsSomeAnd m (Q x))
    → ((x : Bor A) (y : B) → Q x y → y ≡ f x.now) → m ≡ option_map f (option_copied v)
mapped None m f Q h g = h
mapped (Some x) None f Q h g = absurd h
mapped (Some x) (Some y) f Q h g = ap Some (g x y h)

pub cid_given : (w : Maybe (List ℕ)) (m : Maybe ConnectionId) (o : OptionalConnectionId) → m ≡ option_map cid_of w
    → MatchOption m ((o.present ≡ false) × ((o.value.len ≡ 0) × Zeros o.value.bytes 20)) (λ x. (o.present ≡ true) × (o.value ≡ x)) → o ≡ cid_in (option_of w)
unfolding cid_in
cid_given None m o e h = let k = rw e at h in cid_absent o k.0 k.1.0 k.1.1
cid_given (Some v) m o e h = let k = rw e at h in rw (k.0, k.1)

pub token_given : (w : Maybe (List ℕ)) (m : Maybe ResetToken) (o : OptionalResetToken) → m ≡ option_map token_of w
    → MatchOption m ((o.present ≡ false) × Zeros o.value.bytes 16) (λ x. (o.present ≡ true) × (o.value ≡ x)) → o ≡ token_in (option_of w)
unfolding token_in
token_given None m o e h = let k = rw e at h in token_absent o k.0 k.1
token_given (Some v) m o e h = let k = rw e at h in rw (k.0, k.1)

pub address_given : (w : Maybe (List ℕ)) (m : Maybe PreferredAddress) (a : PreferredAddress) (P : PreferredAddress → Type 0) → m ≡ option_map (λ v. address_in (some v)) w
    → UnwrapsOrElse m P a → ((x : PreferredAddress) → P x → x ≡ address_in none) → a ≡ address_in (option_of w)
address_given None m a P e h g = g a (rw e at h)
address_given (Some v) m a P e h g = rw e at h
