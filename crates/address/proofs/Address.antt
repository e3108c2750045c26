-- The value of a preferred address, part by part, and the parameter. Assumes nothing.
--     family_wrote                   an address and its port
--     cid_encoded, cid_fits, cid_kept    the ID behind its length
--     token_behind                   the token
--     address_none, address_whole, address_off    the parameter: without room, with it, and where
--       it is not due
--     address_due                    in a well-formed record
use Prim.Native.Nat.{ℕ, ◌+◌, ◌-◌, ◌/◌, ◌%◌, ◌≤◌, ◌<◌}
use mathlib.Core.List.{List, [], ◌∷◌, ◌++◌, append_assoc}
use mathlib.Core.Path.{◌≡◌, refl, ap, sym, ◌∙◌}
use mathlib.Core.Bool.{Bool, true, false, ◌&&◌, and-true}
use native.Mathlib.Omega.{arith}
use native.Mathlib.Nat.{div-one}
use lib.ListN.{length, take, drop, set, length-append}
use lib.Seq.{take_at, drop_at, drop-drop}
use Rattle.std.specs.Prelude.{Result as Answer, Ok, Err}
use Rattle.std.specs.Result.{IsOk}
use Rattle.refusal.specs.Outcome.{Outcome, accepted, refused, front}
use Rattle.refusal.specs.Number.{number_of}
use Rattle.refusal.specs.Answer.{outcome_of}
use Rattle.refusal.specs.declared.Refusal.{Refusal}
use Rattle.refusal.proofs.Laws.{all_at}
use Rattle.words.specs.Words.{bytes_of}
use Rattle.connection_id.specs.declared.ConnectionId.{ConnectionId}
use Rattle.connection_id.specs.ConnectionId.{cid_wire, formed_cid, write_cid}
use Rattle.connection_id.proofs.Laws.{cid_facts, cid_length_lem}
use Rattle.record.specs.declared.PreferredAddress.{PreferredAddress}
use Rattle.record.specs.Values.{Family, family_out}
use Rattle.record.specs.Record.{formed_address}
use Rattle.wire.specs.Wire.{put, due_value}
use Rattle.wire.specs.Stored.{Wrote}
use Rattle.wire.proofs.Stored.{lent, back, lent_room, stored_whole, wrote_few, wrote_then}
use Rattle.wire.proofs.Put.{put_wrote, put_nil, not_due, due_short, short_none, short_whole}
use Rattle.address.specs.Address.{address_bytes}

-- an address, and its port behind it
pub family_wrote : (n : ℕ) (f : Family) (l ys port : List ℕ) → length f.1 ≡ n → n + 2 ≤ length l → ys ≡ f.1 → port ≡ f.2 / 256 % 256 ∷ f.2 % 256 ∷ []
    → Wrote (n + 2) (family_out f) l (n + 2) (take n (ys ++ drop n l) ++ (port ++ drop (n + 2 - n) (drop n (ys ++ drop n l))))
unfolding family_out front
family_wrote n f l ys port e h g b =
    let k : port ≡ bytes_of 2 f.2 = rw div-one b in
    let z : n + 2 - n ≡ 2 = omega arith in
    let m : length (f.1 ++ bytes_of 2 f.2) ≡ n + 2 = rw (length-append f.1 (bytes_of 2 f.2)) (omega arith) in
    record {
      count = sym m;
      few = omega arith;
      bytes = rw (m, g, k, take_at f.1 (drop n l) n e, drop_at f.1 (drop n l) n e, z, drop-drop 2 n l) (sym (append_assoc f.1 (bytes_of 2 f.2) (drop (n + 2) l)));
    }

module _ (c : ConnectionId) (o : Outcome ℕ) (out m : List ℕ) (f : formed_cid c ≡ true) (h : 1 + c.len ≤ length out) (e : (o, m) ≡ write_cid c out) where
  long : length (cid_wire c) ≤ 1 + c.len
  long = let k = cid_facts c f in omega (arith, cid_length_lem c k, k.within)

  accept : ◌≡◌ {A = Outcome ℕ × List ℕ} (o, m) (accepted (length (cid_wire c)), front (cid_wire c) out)
  unfolding write_cid
  accept = e ∙ rw f (sym (stored_whole (1 + c.len) (length (cid_wire c)) (cid_wire c) out _ (omega (arith, long)) (record { count = refl; few = long; bytes = refl })))

  pub cid_encoded : (n : ℕ) → o ≡ accepted n → Wrote (1 + c.len) (cid_wire c) out n m
  cid_encoded n g =
      let a : o ≡ accepted (length (cid_wire c)) = ap (λ (p : Outcome ℕ × List ℕ). p.0) accept in
      let k : n ≡ length (cid_wire c) = cc in
      record { count = k; few = omega (arith, long); bytes = ap (λ (p : Outcome ℕ × List ℕ). p.1) accept }

-- so that it is not refused
pub cid_fits : (c : ConnectionId) (r : Answer ℕ Refusal) (out m : List ℕ) → formed_cid c ≡ true → 1 + c.len ≤ length out → (outcome_of r, m) ≡ write_cid c out → IsOk r
cid_fits c (Ok n) out m f h e = refl
cid_fits c (Err r) out m f h e =
    let a : ◌≡◌ {A = Outcome ℕ} (refused (number_of r)) (accepted (length (cid_wire c))) = ap (λ (p : Outcome ℕ × List ℕ). p.0) (accept c (refused (number_of r)) out m f h e) in
    cc

-- and is what its writing leaves
pub cid_kept : (c : ConnectionId) (r : Answer ℕ Refusal) (n : ℕ) (out m : List ℕ) → formed_cid c ≡ true → 1 + c.len ≤ length out → (outcome_of r, m) ≡ write_cid c out → r ≡ Ok n
    → Wrote (1 + c.len) (cid_wire c) out n m
cid_kept c r n out m f h e g = cid_encoded c (outcome_of r) out m f h e n (ap outcome_of g)

pub token_behind : (n k len : ℕ) (a t out m ys : List ℕ) → 17 + len ≤ length out → length t ≡ 16 → Wrote (1 + len) a out n m → (k, ys) ≡ put t (lent n m)
    → Wrote (17 + len) (a ++ t) out (n + k) (back n m ys)
token_behind n k len a t out m ys h e w q =
    let x = wrote_then (1 + len) 16 n k a t out m ys (omega arith) w (put_wrote 16 k t (lent n m) ys (omega arith) (lent_room (1 + len) 16 n a out m (omega arith) w) q) in
    wrote_few (1 + len + 16) (17 + len) (n + k) (a ++ t) out (back n m ys) (omega (arith, x.few)) x

module _ (a : PreferredAddress) (f : formed_cid a.connection_id ≡ true) (h₄ : length a.address_v4.ip ≡ 4) (h₆ : length a.address_v6.ip ≡ 16)
    (h : length a.stateless_reset_token.bytes ≡ 16) where
  pub address_length_lem : (length (address_bytes a) ≡ 41 + a.connection_id.len) × (a.connection_id.len ≤ 20)
  unfolding family_out
  address_length_lem =
      let k = cid_facts a.connection_id f in
      (simp length-append (omega (arith, cid_length_lem a.connection_id k)), k.within)

  module _ (p : a.present ≡ true) (out : List ℕ) where
    pub address_none : length out < 43 + a.connection_id.len → (0, out) ≡ put (due_value (a.present && formed_cid a.connection_id) 13 (address_bytes a)) out
    address_none l =
        let e = address_length_lem in
        let k : length (address_bytes a) < 64 = omega arith in
        rw (p, f, due_short 13 (address_bytes a) (omega arith) k) (short_none 13 (address_bytes a) out (omega arith) k (omega arith))

    pub address_whole : (n : ℕ) (ys : List ℕ) → 43 + a.connection_id.len ≤ length out → Wrote (41 + a.connection_id.len) (address_bytes a) (lent 2 out) n ys
        → (n + 2, set (set (back 2 out ys) 0 13) 1 n) ≡ put (due_value (a.present && formed_cid a.connection_id) 13 (address_bytes a)) out
    address_whole n ys l w =
        let e = address_length_lem in
        let k : length (address_bytes a) < 64 = omega arith in
        rw (p, f, due_short 13 (address_bytes a) (omega arith) k) (short_whole 13 (address_bytes a) out (omega arith) k n ys (omega arith) w.count w.bytes)

-- one that is absent, or whose ID is not well formed
pub address_off : (t b : Bool) (id : ℕ) (v out : List ℕ) → (t && b) ≡ false → (0, out) ≡ put (due_value (t && b) id v) out
address_off t b id v out e = rw (not_due id v (t && b) e) (put_nil out)

-- for a well-formed record it is due exactly if it is present
pub address_due : (a : PreferredAddress) (id n : ℕ) (out m : List ℕ) → formed_address a ≡ true
    → (n, m) ≡ put (due_value (a.present && formed_cid a.connection_id) id (address_bytes a)) out → (n, m) ≡ put (due_value a.present id (address_bytes a)) out
unfolding formed_address
address_due a id n out m f e = rw (all_at _ f 2, and-true a.present) at e
