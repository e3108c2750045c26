-- Laws of the parts that the record is built of. Assumes nothing.
use Prim.Native.Nat.{ℕ, ◌+◌, ◌-◌, ◌*◌, ◌≤◌}
use mathlib.Core.Path.{◌≡◌, refl, ap, sym, ◌∙◌}
use mathlib.Core.List.{List, [], ◌∷◌}
use mathlib.Core.Option.{some}
use mathlib.Core.Bool.{true}
use native.Mathlib.Omega.{arith}
use lib.ListN.{length, take, drop, length-take, length-drop}
use lib.Seq.{take_all, length-take-le}
use borrow.Author.Tests.{leb-true, eqb-true}
use Rattle.std.specs.Prelude.{Result as Answer, Ok, IsOk}
use Rattle.refusal.specs.declared.Refusal.{Refusal}
use Rattle.refusal.specs.Answer.{outcome_of}
use Rattle.refusal.proofs.Laws.{all_at}
use Rattle.std.specs.List.{slice_index}
use Rattle.words.specs.Words.{value_from}
use Rattle.connection_id.specs.ConnectionId.{cid_of, make_cid}
use Rattle.connection_id.specs.declared.ConnectionId.{ConnectionId}
use Rattle.connection_id.proofs.Answers.{made}
use Rattle.record.specs.Optional.{SocketAddrV4, SocketAddrV6}
use Rattle.catalogue.specs.Catalogue.{address, fits, id_length}
use Rattle.record.specs.Values.{family_in, of_address, to_v4, to_v6, address_in}

pub made_ok : (r : Answer ConnectionId Refusal) (v : List ℕ) → outcome_of r ≡ make_cid v → length v ≤ 20 → IsOk r
made_ok r v e h = rw (made r v e h) refl

pub cid_new : (r : Answer ConnectionId Refusal) (c : ConnectionId) (v : List ℕ) → outcome_of r ≡ make_cid v → length v ≤ 20 → r ≡ Ok c → c ≡ cid_of v
cid_new r c v e h q = let x : Ok c ≡ Ok (cid_of v) = sym q ∙ made r v e h in cc

-- a port, high byte first
pub port_is : (w : List ℕ) → length w ≡ 2 → slice_index w 0 * 256 + slice_index w 1 ≡ value_from 0 w
port_is [] h = absurd (omega arith)
port_is (a ∷ []) h = absurd (omega arith)
port_is (a ∷ b ∷ []) h = omega arith
port_is (a ∷ b ∷ c ∷ w) h = absurd (omega arith)

-- a value that fits an address
pub address_facts : (v : List ℕ) → fits address v ≡ true → (41 ≤ length v) × (id_length v ≤ 20) × (length v ≡ 41 + id_length v)
unfolding fits
address_facts v f = (leb-true _ _ (all_at _ f 0), leb-true _ _ (all_at _ f 1), eqb-true _ _ (all_at _ f 2))

pub id_len_lem : (v : List ℕ) → fits address v ≡ true → (address_in (some v)).connection_id.len ≡ id_length v
unfolding address_in cid_of
id_len_lem v f = let h = address_facts v f in length-take-le (id_length v) (drop 25 v) (rw length-drop (omega arith))

-- AN ADDRESS, of its parts
module _ (v : List ℕ) (f : fits address v ≡ true) where
  pub id_part : length (take (25 + id_length v - 25) (drop 25 v)) ≤ 20
  id_part = rw length-take (omega (arith, address_facts v f))

  pub token_part : length (take (length v - (25 + id_length v)) (drop (25 + id_length v) v)) ≡ 16
  token_part =
      let h = address_facts v f in
      let l : length v - (25 + id_length v) ≤ length (drop (25 + id_length v) v) = rw length-drop (omega arith) in
      let e : length v - (25 + id_length v) ≡ 16 = omega arith in
      length-take-le _ (drop (25 + id_length v) v) l ∙ e

  pub address_built : (v4 : SocketAddrV4) (v6 : SocketAddrV6) (c : ConnectionId) (t : List ℕ) → of_address v4 ≡ family_in 4 (take 6 v)
      → of_address v6 ≡ family_in 16 (take 18 (drop 6 v)) → c ≡ cid_of (take (25 + id_length v - 25) (drop 25 v))
      → t ≡ take (length v - (25 + id_length v)) (drop (25 + id_length v) v)
      → record { present = true; address_v4 = v4; address_v6 = v6; connection_id = c; stateless_reset_token = record { bytes = t } } ≡ address_in (some v)
  unfolding address_in
  address_built v4 v6 c t e4 e6 ec et =
      let n : 25 + id_length v - 25 ≡ id_length v = omega arith in
      let d : take (length v - (25 + id_length v)) (drop (25 + id_length v) v) ≡ drop (25 + id_length v) v = take_all (length v - (25 + id_length v)) (drop (25 + id_length v) v) (rw length-drop (omega arith)) in
      rw (ap to_v4 e4, ap to_v6 e6, ec, et, n, d)
