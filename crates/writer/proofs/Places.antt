-- What the code lays at each place is what is due there, for a well-formed record. Assumes nothing.
--     formed         what writing needs of a well-formed record
--     all_places     the parameters of all places
--     in_catalogue_order    one after another, they are the extension in catalogue order
use Prim.Native.Nat.{ℕ, zero, suc, ◌≤◌, ◌<◌}
use mathlib.Core.List.{List, [], ◌∷◌, ◌++◌}
use mathlib.Core.Option.{none, some}
use mathlib.Core.Path.{◌≡◌, refl, ap, ap₂, ◌∙◌}
use mathlib.Core.Bool.{Bool, true, false, not}
use native.Mathlib.Omega.{arith}
use lib.ListN.{length, get_or, take, length-take}
use lib.Dec.{eqb}
use borrow.Author.Tests.{eqb-true, leb-true, ltb-true, lt-ltb, ne_eqb}
use Rattle.refusal.specs.Outcome.{pick}
use Rattle.refusal.proofs.Laws.{all_at}
use Rattle.varint.specs.Number.{bound, number_bytes}
use Rattle.connection_id.specs.ConnectionId.{cid_bytes}
use Rattle.record.specs.declared.TransportParameters.{TransportParameters}
use Rattle.record.specs.Optional.{OptionalNumber}
use Rattle.std.specs.Prelude.{None, Some}
use Rattle.record.specs.declared.ReservedTransportParameter.{ReservedTransportParameter}
use Rattle.catalogue.specs.Catalogue.{Kind, number, flag, cid, token, address, versions, reserved, places, id_at, kind_at, defaults, widest, parameter, parameter_if}
use Rattle.catalogue.proofs.Places.{id_lt}
use Rattle.record.specs.Values.{number_out, optional_out, flag_out, cid_out, token_out, address_out, versions_out, other_values, values_of}
use Rattle.record.specs.Record.{is_present, least, formed_optional, formed_optional_cid, formed_token, formed_optional_token, formed_address, formed_reserved, formed_order, well_formed}
use Rattle.record.proofs.KindLaws.{IfSome, Sound}
use Rattle.record.proofs.Records.{Families, number_lt, sound}
use Rattle.wire.specs.Wire.{due_value, due_number, due_number_at}
use Rattle.wire.specs.Stored.{joined, each}
use Rattle.version_information.specs.VersionInformation.{formed_versions, versions_bytes}
use Rattle.wire.proofs.Stored.{length_each}
use Rattle.wire.proofs.Put.{is_due, number_is_due}
use Rattle.order.specs.Order.{catalogue_order}
use Rattle.writer.specs.Writing.{reserved_bytes, parameter_at, extension}
use Rattle.address.specs.Address.{address_bytes}
use Rattle.writer.specs.Laid.{laid, five, Room}
use Rattle.writer.proofs.Laid.{Laid, laid_then}

pub record Formed (r : TransportParameters) : Type 0 where
  pub numbers : length r.numbers ≡ 11
  pub reserved : formed_reserved r.grease_transport_parameter ≡ true
  pub token : length r.stateless_reset_token.value.bytes ≡ 16
  pub address : formed_address r.preferred_address ≡ true
  pub original : formed_optional_cid r.original_dst_cid ≡ true
  pub initial : formed_optional_cid r.initial_src_cid ≡ true
  pub retry : formed_optional_cid r.retry_src_cid ≡ true
  pub versions : formed_versions r.version_information ≡ true
  pub order : length r.write_order.places ≡ places

pub formed : (r : TransportParameters) → well_formed r ≡ true → Formed r
unfolding well_formed formed_order formed_optional_token formed_token
formed r w =
    record {
      numbers = eqb-true _ _ (all_at _ w 0);
      reserved = all_at _ w 2;
      token = eqb-true _ _ (all_at _ (all_at _ w 3) 0);
      address = all_at _ w 5;
      original = all_at _ w 6;
      initial = all_at _ w 7;
      retry = all_at _ w 8;
      versions = all_at _ w 10;
      order = eqb-true _ _ (all_at _ (all_at _ w 11) 0);
    }

-- a number, unless it is the default
pub number_out_lem : (id d x : ℕ) → id < bound → x < bound → due_number (not (eqb x d)) id x ≡ parameter_if id (number_out d x)
unfolding number_out
number_out_lem id d x h k = number_is_due id x (not (eqb x d)) h k ∙ go (eqb x d)
  where
    go : (b : Bool) → parameter_if id (pick (not b) (some (number_bytes x)) none) ≡ parameter_if id (pick b none (some (number_bytes x)))
    go true = refl
    go false = refl

-- or if present
optional_out_lem : (id : ℕ) (o : OptionalNumber) → id < bound → formed_optional o ≡ true → due_number (is_present o) id (least o) ≡ parameter_if id (optional_out o)
unfolding optional_out formed_optional
optional_out_lem id None h f = number_is_due id 0 false h (omega arith)
optional_out_lem id (Some x) h f = number_is_due id x true h (ltb-true _ _ f)

-- a value of a kind, which is short
pub widest_le : (k : Kind) → widest k ≤ 68
unfolding widest
widest_le number = omega arith
widest_le flag = omega arith
widest_le cid = omega arith
widest_le token = omega arith
widest_le address = omega arith
widest_le versions = omega arith
widest_le reserved = omega arith

value_out : (F : Type 0) (k : Kind) (id : ℕ) (b : Bool) (v : List ℕ) → id < bound → IfSome (Sound F k) (pick b (some v) none)
    → due_value b id v ≡ parameter_if id (pick b (some v) none)
unfolding due_value
value_out F k id true v h s = is_due id v true h (omega (arith, s.small, widest_le k))
value_out F k id false v h s = refl

reserved_out : (x : ReservedTransportParameter) → formed_reserved x ≡ true
    → due_value x.present x.id (take x.payload_len x.payload) ≡ reserved_bytes x
unfolding reserved_bytes formed_reserved
reserved_out x f = is_due x.id (take x.payload_len x.payload) x.present (ltb-true _ _ (all_at _ f 1)) (rw (length-take x.payload_len x.payload) (omega (arith, m))) ∙ go x.present
  where
    m : x.payload_len ≤ 16
    m = leb-true _ _ (all_at _ f 2)

    v : List ℕ
    v = take x.payload_len x.payload

    go : (b : Bool) → parameter_if x.id (pick b (some v) none) ≡ pick b (parameter x.id v) []
    go true = refl
    go false = refl

each_same : (f g : ℕ → List ℕ) (n : ℕ) → ((p : ℕ) → p < n → f p ≡ g p) → each f n ≡ each g n
unfolding each
each_same f g zero h = refl
each_same f g (suc n) h = ap₂ (λ (ss : List (List ℕ)) (s : List ℕ). ss ++ (s ∷ [])) (each_same f g n (λ p k. h p (omega arith))) (h n (omega arith))

module _ (r : TransportParameters) where
  -- what the code lays at places 11 to 15, 16 to 20, and 21
  abbrev pub from11 : List (List ℕ)
  from11 =
      due_value r.grease_transport_parameter.present r.grease_transport_parameter.id (take r.grease_transport_parameter.payload_len r.grease_transport_parameter.payload)
      ∷ due_value r.stateless_reset_token.present (id_at 12) r.stateless_reset_token.value.bytes
      ∷ due_value r.disable_active_migration (id_at 13) []
      ∷ due_number (is_present r.max_datagram_frame_size) (id_at 14) (least r.max_datagram_frame_size)
      ∷ due_value r.preferred_address.present (id_at 15) (address_bytes r.preferred_address) ∷ []

  abbrev pub from16 : List (List ℕ)
  from16 =
      due_value r.original_dst_cid.present (id_at 16) (cid_bytes r.original_dst_cid.value)
      ∷ due_value r.initial_src_cid.present (id_at 17) (cid_bytes r.initial_src_cid.value)
      ∷ due_value r.retry_src_cid.present (id_at 18) (cid_bytes r.retry_src_cid.value)
      ∷ due_value r.grease_quic_bit (id_at 19) []
      ∷ due_number (is_present r.min_ack_delay) (id_at 20) (least r.min_ack_delay) ∷ []

  abbrev pub from21 : List (List ℕ)
  from21 = due_value r.version_information.present (id_at 21) (versions_bytes r.version_information) ∷ []

  abbrev pub last : List (List ℕ)
  last = parameter_at r 21 ∷ []

  pub in_catalogue_order : joined (each (parameter_at r) places) ≡ extension r catalogue_order
  unfolding joined each extension catalogue_order
  in_catalogue_order = refl

  module _ (w : well_formed r ≡ true) where
    numbers_out : (p : ℕ) → p < 11 → due_number_at r.numbers p ≡ parameter_at r p
    unfolding due_number_at parameter_at values_of
    numbers_out p h =
        let n : eqb p 11 ≡ false = ne_eqb p 11 (omega arith) in
        rw (n, lt-ltb p 11 h) (number_out_lem (id_at p) (get_or defaults p 0) (get_or r.numbers p 0) (id_lt p (omega arith) n) (number_lt r w p h))

    -- a value of a place whose identifier is its own
    at_place : (p : ℕ) (b : Bool) (v : List ℕ) → p < places → eqb p 11 ≡ false → IfSome (Sound (Families r) (kind_at p)) (pick b (some v) none)
        → due_value b (id_at p) v ≡ parameter_if (id_at p) (pick b (some v) none)
    at_place p b v h n s = value_out (Families r) (kind_at p) (id_at p) b v (id_lt p h n) s

    five_11 : from11 ≡ five r 11
    unfolding five parameter_at values_of other_values token_out flag_out address_out well_formed
    five_11 =
        rw (
          reserved_out _ (all_at _ w 2),
          at_place 12 _ _ (omega arith) refl (sound r w 12),
          at_place 13 _ _ (omega arith) refl (sound r w 13),
          optional_out_lem (id_at 14) _ (id_lt 14 (omega arith) refl) (all_at _ w 4),
          at_place 15 _ _ (omega arith) refl (sound r w 15),
        )

    five_16 : from16 ≡ five r 16
    unfolding five parameter_at values_of other_values flag_out cid_out well_formed
    five_16 =
        rw (
          at_place 16 _ _ (omega arith) refl (sound r w 16),
          at_place 17 _ _ (omega arith) refl (sound r w 17),
          at_place 18 _ _ (omega arith) refl (sound r w 18),
          at_place 19 _ _ (omega arith) refl (sound r w 19),
          optional_out_lem (id_at 20) _ (id_lt 20 (omega arith) refl) (all_at _ w 9),
        )

    last_21 : from21 ≡ last
    unfolding parameter_at values_of other_values versions_out
    last_21 = rw (at_place 21 _ _ (omega arith) refl (sound r w 21))

    pub room_11 : (at : ℕ) (st out : List ℕ) → Room (five r 11) at st out → Room from11 at st out
    room_11 at st out x = rw five_11 x

    pub room_16 : (at : ℕ) (st out : List ℕ) → Room (five r 16) at st out → Room from16 at st out
    room_16 at st out x = rw five_16 x

    pub room_21 : (at : ℕ) (st out : List ℕ) → Room last at st out → Room from21 at st out
    room_21 at st out x = rw last_21 x

    pub laid_11 : (k at : ℕ) (out st : List ℕ) {x : Laid} → x ≡ laid from11 k at out st → x ≡ laid (five r 11) k at out st
    laid_11 k at out st e = rw (← five_11) e

    pub laid_16 : (k at : ℕ) (out st : List ℕ) {x : Laid} → x ≡ laid from16 k at out st → x ≡ laid (five r 16) k at out st
    laid_16 k at out st e = rw (← five_16) e

    pub laid_21 : (k at : ℕ) (out st : List ℕ) {x : Laid} → x ≡ laid from21 k at out st → x ≡ laid last k at out st
    laid_21 k at out st e = rw (← last_21) e

    all_places : each (due_number_at r.numbers) 11 ++ (five r 11 ++ (five r 16 ++ last)) ≡ each (parameter_at r) places
    unfolding each five
    all_places = ap (λ (ss : List (List ℕ)). ss ++ (five r 11 ++ (five r 16 ++ last))) (each_same (due_number_at r.numbers) (parameter_at r) 11 numbers_out)

    pub all_due : each (due_number_at r.numbers) 11 ++ (from11 ++ (from16 ++ from21)) ≡ each (parameter_at r) places
    all_due =
        ap₂ (λ (ss ts : List (List ℕ)). each (due_number_at r.numbers) 11 ++ (ss ++ ts)) five_11 (ap₂ (λ (ss ts : List (List ℕ)). ss ++ ts) five_16 last_21) ∙ all_places

    pub room_all : (at : ℕ) (st out : List ℕ) → Room (each (parameter_at r) places) at st out → Room (each (due_number_at r.numbers) 11 ++ (five r 11 ++ (five r 16 ++ last))) at st out
    room_all at st out x = rw all_places x

    -- all four parts, one after another
    pub whole_catalogue : (a b c n at : ℕ) (out st o₁ s₁ o₂ s₂ o₃ s₃ o₄ s₄ : List ℕ) → (a, o₁, s₁) ≡ laid (each (due_number_at r.numbers) 11) 1 at out st
        → (b, o₂, s₂) ≡ laid (five r 11) 12 a o₁ s₁ → (c, o₃, s₃) ≡ laid (five r 16) 17 b o₂ s₂ → (n, o₄, s₄) ≡ laid last 22 c o₃ s₃
        → (n, o₄, s₄) ≡ laid (each (parameter_at r) places) 1 at out st
    whole_catalogue a b c n at out st o₁ s₁ o₂ s₂ o₃ s₃ o₄ s₄ e₁ e₂ e₃ e₄ =
        e₄
        ∙ laid_then (five r 16) last 17 22 b c o₂ s₂ o₃ s₃ (unfold five in refl) e₃
        ∙ laid_then (five r 11) (five r 16 ++ last) 12 17 a b o₁ s₁ o₂ s₂ (unfold five in refl) e₂
        ∙ laid_then (each (due_number_at r.numbers) 11) (five r 11 ++ (five r 16 ++ last)) 1 12 at a out st o₁ s₁ (rw (length_each (due_number_at r.numbers) 11)) e₁
        ∙ rw all_places
