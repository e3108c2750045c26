-- What holds of a record that is built. Assumes nothing.
--     built_sound      it is well formed, has the order handed in, a permutation, and a reserved
--                      identifier
use Prim.Native.Nat.{ℕ, ◌-◌, ◌%◌, ◌^◌, ◌<◌, ◌≤◌, min}
use mathlib.Core.Path.{◌≡◌, refl}
use mathlib.Core.List.{List, ◌++◌}
use mathlib.Core.Bool.{Bool, true, false}
use native.Mathlib.Omega.{arith}
use native.Mathlib.Nat.{min-le_right}
use lib.ListN.{length, replicate, length-append, length-replicate}
use lib.Seq.{drop-append_seam}
use lib.Dec.{ltb, eqb}
use borrow.Author.Tests.{lt-ltb, le-leb, eq-eqb}
use Rattle.refusal.specs.Outcome.{Outcome, accepted, refused, pick, all}
use Rattle.refusal.proofs.Laws.{all_at, pick_cases}
use Rattle.varint.specs.Number.{bound}
use Rattle.connection_id.specs.declared.ConnectionId.{ConnectionId}
use Rattle.connection_id.specs.ConnectionId.{formed_cid}
use Rattle.words.proofs.Laws.{every_at, zeros_replicate}
use Rattle.version_information.specs.VersionInformation.{formed_versions}
use Rattle.record.specs.declared.TransportParameters.{TransportParameters}
use Rattle.record.specs.Optional.{OptionalNumber}
use Rattle.std.specs.Prelude.{None, Some}
use Rattle.record.specs.Optional.{OptionalConnectionId}
use Rattle.catalogue.specs.Catalogue.{defaults}
use Rattle.record.specs.Values.{no_values}
use Rattle.words.specs.Words.{every}
use Rattle.record.specs.Record.{least, formed_optional, formed_optional_cid, formed_optional_token, formed_address, formed_reserved, formed_order, well_formed, default_record}
use Rattle.record.proofs.Records as Places
use Rattle.order.specs.Order.{permutation}
use Rattle.building.specs.declared.Settings.{Settings}
use Rattle.building.specs.Building.{sent_settings, settings_fit, id_limit, cut_size, numbers_from, draw_fits, reserved_id, reserved_from, drawn_order, built_record, build}
use Rattle.building.specs.BuildingLaws.{Sound, BuildingLaws}
use Rattle.building.proofs.Answers.{draw_facts, order_length}

-- NUMBERS below 2 ^ 62
limit_below : (n : ℕ) → ltb (id_limit n) bound ≡ true
unfolding id_limit
limit_below n = pick_cases (λ x. ltb x bound ≡ true) (eqb n 0) 2 5 (λ e. refl) (λ e. refl)

numbers_below : (s : Settings) → settings_fit s ≡ true → every (λ x. ltb x bound) (numbers_from s (id_limit s.cid_len)) ≡ true
unfolding settings_fit sent_settings numbers_from defaults
numbers_below s h =
    let a = every_at (λ x. ltb x bound) (sent_settings s) h in
    let bidi : ltb s.max_concurrent_bidi_streams bound ≡ true = a 0 (omega arith) in
    let uni : ltb s.max_concurrent_uni_streams bound ≡ true = a 1 (omega arith) in
    let window : ltb s.receive_window bound ≡ true = a 2 (omega arith) in
    let stream : ltb s.stream_receive_window bound ≡ true = a 3 (omega arith) in
    let idle : ltb (least s.max_idle_timeout) bound ≡ true = a 4 (omega arith) in
    let size : ltb s.max_udp_payload_size bound ≡ true = a 5 (omega arith) in
    rw (idle, size, window, stream, bidi, uni, limit_below s.cid_len)

size_formed : (o : OptionalNumber) → formed_optional (cut_size o) ≡ true
unfolding formed_optional cut_size
size_formed None = refl
size_formed (Some x) = lt-ltb (min x 65535) bound (omega (arith, min-le_right x 65535))

delay_formed : formed_optional (Some 1000) ≡ true
unfolding formed_optional
delay_formed = refl

-- THE CONNECTION ID, present
with_cid : ConnectionId → OptionalConnectionId
with_cid cid = record { present = true; value = cid }

cid_formed : (cid : ConnectionId) → formed_cid cid ≡ true → formed_optional_cid (with_cid cid) ≡ true
unfolding formed_optional_cid with_cid all
cid_formed cid h = rw h

-- THE RESERVED PARAMETER
id_reserved : (d : ℕ) → reserved_id d % 31 ≡ 27
unfolding reserved_id
id_reserved d = omega arith

id_below : (d : ℕ) → d < bound - 27 → reserved_id d < bound
unfolding reserved_id
id_below d h = omega arith

reserved_formed : (d : ℕ) (payload : List ℕ) → d < bound - 27 → length payload ≤ 15 → formed_reserved (reserved_from d payload) ≡ true
unfolding formed_reserved reserved_from all
reserved_formed d payload h k =
    let n : length (payload ++ replicate (16 - length payload) 0) ≡ 16 = simp (length-append, length-replicate) (omega arith) in
    let m : length payload ≤ 16 = omega arith in
    rw (eq-eqb _ _ n, lt-ltb _ _ (id_below d h), le-leb _ _ m, drop-append_seam payload, zeros_replicate, eq-eqb _ _ (id_reserved d))

order_formed : (order : List ℕ) → length order ≡ 22 → formed_order (drawn_order order) ≡ true
unfolding formed_order drawn_order all
order_formed order h = rw h

-- THE RECORD
default_formed : well_formed default_record ≡ true
unfolding no_values
default_formed = Places.formed no_values (λ p. tt)

record Defaults (r : TransportParameters) : Type 0 where
  token : formed_optional_token r.stateless_reset_token ≡ true
  address : formed_address r.preferred_address ≡ true
  original : formed_optional_cid r.original_dst_cid ≡ true
  retry : formed_optional_cid r.retry_src_cid ≡ true
  versions : formed_versions r.version_information ≡ true

defaults_formed : (r : TransportParameters) → well_formed r ≡ true → Defaults r
unfolding well_formed
defaults_formed r h = let a = all_at _ h in record { token = a 3; address = a 5; original = a 6; retry = a 8; versions = a 10 }

-- the tests that a record passes
record Passed (s : Settings) (cid : ConnectionId) (draw : ℕ) (payload order : List ℕ) (r : TransportParameters) : Type 0 where
  fit : settings_fit s ≡ true
  formed : formed_cid cid ≡ true
  drawn : draw_fits draw payload ≡ true
  ordered : permutation order ≡ true
  is : built_record s cid (reserved_from draw payload) (drawn_order order) ≡ r

passed : (s : Settings) (cid : ConnectionId) (draw : ℕ) (payload order : List ℕ) (r : TransportParameters) → build s cid draw payload order ≡ accepted r
    → Passed s cid draw payload order r
unfolding build
passed s cid draw payload order r h = go (settings_fit s) (formed_cid cid) (draw_fits draw payload) (permutation order) refl refl refl refl h
  where
    go : (a b c d : Bool) → settings_fit s ≡ a → formed_cid cid ≡ b → draw_fits draw payload ≡ c → permutation order ≡ d
        → pick {A = Outcome TransportParameters} a (pick b (pick c (pick d (accepted (built_record s cid (reserved_from draw payload) (drawn_order order))) (refused 6)) (refused 9)) (refused 7)) (refused 4) ≡ accepted r
        → Passed s cid draw payload order r
    go true true true true e f g i h = record { fit = e; formed = f; drawn = g; ordered = i; is = cc }
    go true true true false e f g i h = cc
    go true true false d e f g i h = cc
    go true false c d e f g i h = cc
    go false b c d e f g i h = cc

record_formed : (s : Settings) (cid : ConnectionId) (draw : ℕ) (payload order : List ℕ) (r : TransportParameters) → Passed s cid draw payload order r
    → well_formed (built_record s cid (reserved_from draw payload) (drawn_order order)) ≡ true
unfolding built_record well_formed numbers_from with_cid all
record_formed s cid draw payload order r p =
    let d = draw_facts draw payload p.drawn in
    let k = defaults_formed default_record default_formed in
    rw (
      numbers_below s p.fit,
      reserved_formed draw payload d.0 d.1,
      k.token,
      size_formed s.datagram_receive_buffer_size,
      k.address,
      k.original,
      cid_formed cid p.formed,
      k.retry,
      delay_formed,
      k.versions,
      order_formed order (order_length order p.ordered),
    )

module _ (s : Settings) (cid : ConnectionId) (draw : ℕ) (payload order : List ℕ) (r : TransportParameters) (h : build s cid draw payload order ≡ accepted r) where
  pub built_sound : Sound order r
  unfolding built_record reserved_from
  built_sound =
      let p = passed s cid draw payload order r h in
      record {
        formed = rw (← p.is) (record_formed s cid draw payload order r p);
        order_kept = rw (← p.is);
        ordered = p.ordered;
        reserved = rw (← p.is) (id_reserved draw);
        below = rw (← p.is) (id_below draw (draw_facts draw payload p.drawn).0);
      }

pub building_laws : BuildingLaws
building_laws = record { built_sound = built_sound }
