-- How long an extension is. Assumes nothing.
--     length_extension    the same in every order: the sum over all places
--     longest             at most `max_extension` bytes
--     reached             by a record whose parameters are all as long as they can be
use Prim.Native.Nat.{ℕ, ◌-◌, ◌^◌, ◌≤◌, ◌<◌}
use mathlib.Core.Path.{◌≡◌, refl, ◌∙◌}
use mathlib.Core.List.{List, [], ◌∷◌}
use mathlib.Core.Option.{Option, none, some}
use mathlib.Core.Bool.{Bool, true, false}
use native.Mathlib.Omega.{arith}
use lib.ListN.{length, take, replicate, length-append, length-replicate, length-take}
use lib.Dec.{eqb}
use borrow.Author.Tests.{leb-true, ltb-true, eqb-true}
use Rattle.refusal.specs.Outcome.{pick, all}
use Rattle.refusal.proofs.Laws.{all_at}
use Rattle.varint.specs.Number.{bound, form, tag_of}
use Rattle.connection_id.specs.ConnectionId.{cid_of, formed_cid}
use Rattle.words.specs.Words.{numbers_bytes}
use Rattle.version_information.specs.VersionInformation.{formed_versions, versions_bytes}
use Rattle.record.specs.declared.TransportParameters.{TransportParameters}
use Rattle.record.specs.Optional.{OptionalConnectionId}
use Rattle.std.specs.Prelude.{Some}
use Rattle.record.specs.declared.ReservedTransportParameter.{ReservedTransportParameter}
use Rattle.catalogue.specs.Catalogue.{Kind, reserved, places, ids, id_at, kinds, kind_at, defaults, parameter, parameter_if, widest}
use Rattle.record.specs.Values.{number_out, optional_out, flag_out, cid_out, token_of, token_out, family_out, address_out, versions_out, no_order, other_values, values_of}
use Rattle.record.specs.Record.{formed_optional, formed_optional_cid, formed_token, formed_optional_token, formed_family, formed_address, formed_reserved, formed_order, well_formed}
use Rattle.catalogue.specs.Sum.{sum}
use Rattle.catalogue.proofs.Sums.{sum_le}
use Rattle.record.proofs.KindLaws.{IfSome, Sound, number_mono, parameter_mono}
use Rattle.record.proofs.Records.{Families, sound}
use Rattle.writer.specs.Writing.{reserved_bytes, parameter_at, concat_of, extension, max_extension}
use Rattle.order.specs.Order.{permutation, catalogue_order}
use Rattle.order.proofs.Orders.{weigh, weigh_all}

length_concat : (f : ℕ → List ℕ) (os : List ℕ) → length (concat_of f os) ≡ weigh (λ p. length (f p)) os
length_concat f [] = refl
length_concat f (p ∷ os) = simp length-append (omega (arith, length_concat f os))

-- the length is the same in every order
pub length_extension : (r : TransportParameters) (os : List ℕ) → permutation os ≡ true → length (extension r os) ≡ sum places (λ p. length (parameter_at r p))
unfolding extension permutation
length_extension r os h = length_concat (parameter_at r) os ∙ weigh_all (λ p. length (parameter_at r p)) os (all_at _ h 1) (eqb-true _ _ (all_at _ h 0))

-- how long each parameter can be
unfoldable width_at : ℕ → ℕ
width_at p = length (parameter (id_at p) (replicate (widest (kind_at p)) 0))

parameter_le : (x y : ℕ) (v : List ℕ) (k : Kind) → x ≤ y → length v ≤ widest k → length (parameter x v) ≤ length (parameter y (replicate (widest k) 0))
parameter_le x y v k h n =
    let z : List ℕ = replicate (widest k) 0 in
    let m : length v ≤ length z = rw (length-replicate {A = ℕ} (widest k) 0) n in
    let j : length (parameter x v) ≤ length (parameter y v) = unfold parameter in simp length-append (omega (arith, number_mono x y h)) in
    omega (arith, parameter_mono y v z m)

reserved_width : (x : ReservedTransportParameter) → formed_reserved x ≡ true → length (reserved_bytes x) ≤ width_at 11
unfolding reserved_bytes formed_reserved width_at kind_at kinds id_at ids
reserved_width x h = go x.present
  where
    m : x.payload_len ≤ 16
    m = leb-true _ _ (all_at _ h 2)

    n : x.id < 2 ^ 62
    n = ltb-true _ _ (all_at _ h 1)

    go : (b : Bool) → length (pick b (parameter x.id (take x.payload_len x.payload)) []) ≤ width_at 11
    go false = omega arith
    go true = parameter_le x.id (2 ^ 62) (take x.payload_len x.payload) reserved (omega (arith, n)) (rw (length-take x.payload_len x.payload) (unfold widest in omega (arith, m)))

parameter_width : (r : TransportParameters) → well_formed r ≡ true → (p : ℕ) → p < places → length (parameter_at r p) ≤ width_at p
unfolding parameter_at width_at
parameter_width r w p h = go (eqb p 11) refl
  where
    at : (o : Option (List ℕ)) → IfSome (Sound (Families r) (kind_at p)) o → length (parameter_if (id_at p) o) ≤ width_at p
    at none s = omega arith
    at (some v) s = parameter_le (id_at p) (id_at p) v (kind_at p) (omega arith) s.small

    go : (b : Bool) → eqb p 11 ≡ b → length (pick b (reserved_bytes r.grease_transport_parameter) (parameter_if (id_at p) (values_of r p))) ≤ width_at p
    go true k = rw (eqb-true p 11 k) (reserved_width r.grease_transport_parameter (unfold well_formed in all_at _ w 2))
    go false k = at (values_of r p) (sound r w p)

all_widths : sum places width_at ≡ max_extension
unfolding sum width_at id_at ids kind_at kinds widest parameter form tag_of
all_widths = refl

pub longest : (r : TransportParameters) (os : List ℕ) → well_formed r ≡ true → permutation os ≡ true → length (extension r os) ≤ max_extension
longest r os w h =
    rw (length_extension r os h) (omega (arith, all_widths, sum_le places (λ p. length (parameter_at r p)) width_at (parameter_width r w)))

-- numbers of 8 bytes, IDs, payload and versions in full
unfoldable pub longest_record : TransportParameters
longest_record =
    record {
      numbers = replicate 11 (bound - 1);
      disable_active_migration = true;
      max_datagram_frame_size = Some (bound - 1);
      initial_src_cid = longest_cid;
      grease_quic_bit = true;
      min_ack_delay = Some (bound - 1);
      original_dst_cid = longest_cid;
      retry_src_cid = longest_cid;
      stateless_reset_token = record { present = true; value = token_of (replicate 16 255) };
      preferred_address =
          record {
            present = true;
            address_v4 = record { present = true; ip = replicate 4 255; port = 65535 };
            address_v6 = record { present = true; ip = replicate 16 255; port = 65535 };
            connection_id = cid_of (replicate 20 255);
            stateless_reset_token = token_of (replicate 16 255);
          };
      version_information = record { present = true; available_len = 16; chosen = 2 ^ 32 - 1; available = replicate 16 (2 ^ 32 - 1) };
      grease_transport_parameter = record { present = true; id = bound - 8; payload = replicate 16 255; payload_len = 16 };
      write_order = no_order;
    }
  where
    longest_cid : OptionalConnectionId
    longest_cid = record { present = true; value = cid_of (replicate 20 255) }

pub reached : (well_formed longest_record ≡ true) × (length (extension longest_record catalogue_order) ≡ max_extension)
unfolding longest_record well_formed all formed_reserved formed_optional_token formed_token formed_optional formed_address formed_family formed_optional_cid formed_cid formed_order no_order formed_versions versions_bytes numbers_bytes cid_of extension catalogue_order parameter_at reserved_bytes values_of other_values number_out optional_out flag_out cid_out token_out address_out versions_out family_out defaults id_at ids parameter form tag_of
reached = (refl, refl)
