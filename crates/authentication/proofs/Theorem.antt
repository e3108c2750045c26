-- What the check of connection IDs says. What a record is accepted with, what is looked at, and
-- legal or not; then the theorem. Assumes nothing.
use Prim.Native.Nat.{ℕ}
use mathlib.Core.Path.{◌≡◌, refl, ap₂, sym, ◌∙◌}
use mathlib.Core.List.{List, [], ◌∷◌}
use mathlib.Core.Bool.{Bool, true, false, ◌&&◌}
use mathlib.Core.Logic.{◌⊎◌, inl, inr}
use Rattle.std.proofs.Math.Option.{none}
use Rattle.std.specs.Prelude.{None}
use Rattle.refusal.proofs.Laws.{all_at}
use Rattle.refusal.specs.Outcome.{Outcome, accepted, refused, all}
use Rattle.connection_id.specs.declared.ConnectionId.{ConnectionId}
use Rattle.connection_id.specs.ConnectionId.{cid_of, formed_cid, same_cid}
use Rattle.connection_id.proofs.Laws.{same_exactly, same_told}
use Rattle.version_information.specs.VersionInformation.{no_versions, formed_versions}
use Rattle.record.specs.declared.TransportParameters.{TransportParameters}
use Rattle.record.specs.Optional.{OptionalConnectionId}
use Rattle.record.specs.Values.{token_in, family_in, address_in, no_reserved, no_order}
use Rattle.record.specs.Record.{formed_optional, formed_optional_cid, formed_token, formed_optional_token, formed_family, formed_address, formed_reserved, formed_order, well_formed, family_rules}
use Rattle.rules.specs.declared.Side.{Side}
use Rattle.rules.specs.declared.Side.TheVariants.{Client, Server}
use Rattle.rules.specs.Rules.{number_rules, presence_rules, value_rules, legal, check_record, version_rules}
use Rattle.authentication.specs.declared.SeenConnectionIds.{SeenConnectionIds}
use Rattle.authentication.specs.Authentication.{formed_seen, has_needed, retry_as_seen, as_seen, authenticate_cids}
use Rattle.authentication.specs.OtherEnd.{Formed, Same, Carries, ForServer, ForClient, Both, OtherEnd}
use Rattle.authentication.proofs.Sides.{id_formed, for_server, from_server, for_client, from_client, ill_formed_lem, absent_lem, differs_lem, no_id, seen_formed, ids_formed_lem}

-- WHAT A RECORD IS ACCEPTED WITH
same_id : (c d : ConnectionId) → formed_cid c ≡ true → formed_cid d ≡ true → Same c d → c ≡ d
same_id c d f g e = (same_exactly c d).0 ((same_told c d f g).1 e)

-- the ID of a Retry that goes with what a record has
record Goes (o seen : OptionalConnectionId) : Type 0 where
  formed : formed_optional_cid seen ≡ true
  retry : seen.present ≡ true → Carries o seen.value
  no_retry : seen.present ≡ false → o.present ≡ false

one_retry : (o p q : OptionalConnectionId) → Goes o p → Goes o q → p ≡ q
one_retry o p q a b = go p.present q.present refl refl
  where
    go : (s t : Bool) → p.present ≡ s → q.present ≡ t → p ≡ q
    go true true h k =
        ap₂ (λ s c. record { present = s; value = c }) (h ∙ sym k)
        (same_id _ _ (id_formed p a.formed) (id_formed q b.formed) (sym (a.retry h).1 ∙ (b.retry k).1))
    go true false h k = let x : true ≡ false = sym (a.retry h).0 ∙ b.no_retry k in cc
    go false true h k = let x : true ≡ false = sym (b.retry k).0 ∙ a.no_retry h in cc
    go false false h k = ap₂ (λ s c. record { present = s; value = c }) (h ∙ sym k) (no_id p a.formed h ∙ sym (no_id q b.formed k))

three_ids_lem : (r : TransportParameters) (seen other : SeenConnectionIds) → ForClient r seen → ForClient r other → seen ≡ other
three_ids_lem r seen other s t =
    let f = seen_formed seen s.formed.1 in
    let g = seen_formed other t.formed.1 in
    let e = same_id _ _ f.initial g.initial (sym s.initial.1 ∙ t.initial.1) in
    let d = same_id _ _ f.original g.original (sym s.original.1 ∙ t.original.1) in
    let c =
    one_retry r.retry_src_cid seen.retry_src_cid other.retry_src_cid
    (record { formed = f.retry; retry = s.retry; no_retry = s.no_retry })
    (record { formed = g.retry; retry = t.retry; no_retry = t.no_retry }) in
    ap₂ (λ (x : ConnectionId × ConnectionId) z. record { initial_src_cid = x.0; original_dst_cid = x.1; retry_src_cid = z })
    (ap₂ (λ x y. (x, y)) e d) c

one_id_lem : (r : TransportParameters) (seen other : SeenConnectionIds) → ForServer r seen → ForServer r other
    → seen.initial_src_cid ≡ other.initial_src_cid
one_id_lem r seen other s t =
    same_id _ _ (seen_formed seen s.formed.1).initial (seen_formed other t.formed.1).initial (sym s.initial.1 ∙ t.initial.1)

-- WHAT IS LOOKED AT
server_looks_lem : (r q : TransportParameters) (seen other : SeenConnectionIds) → Formed r seen → Formed q other
    → r.initial_src_cid ≡ q.initial_src_cid → seen.initial_src_cid ≡ other.initial_src_cid
    → authenticate_cids Server r seen ≡ authenticate_cids Server q other
unfolding authenticate_cids has_needed as_seen
server_looks_lem r q seen other f g e d = rw (f.0, f.1, g.0, g.1, e, d)

client_looks_lem : (r q : TransportParameters) (seen : SeenConnectionIds) → Formed r seen → Formed q seen → r.initial_src_cid ≡ q.initial_src_cid
    → r.original_dst_cid ≡ q.original_dst_cid → r.retry_src_cid ≡ q.retry_src_cid
    → authenticate_cids Client r seen ≡ authenticate_cids Client q seen
unfolding authenticate_cids has_needed as_seen
client_looks_lem r q seen f g e d c = rw (f.0, f.1, g.0, e, d, c)

-- LEGAL OR NOT
some_id : OptionalConnectionId
some_id = record { present = true; value = cid_of [] }

none_id : OptionalConnectionId
none_id = record { present = false; value = cid_of [] }

-- a record with this max_udp_payload_size and these IDs
asked : ℕ → OptionalConnectionId → OptionalConnectionId → OptionalConnectionId → TransportParameters
asked size initial original retry =
    record {
      numbers = 0 ∷ size ∷ 0 ∷ 0 ∷ 0 ∷ 0 ∷ 0 ∷ 0 ∷ 3 ∷ 25 ∷ 2 ∷ [];
      disable_active_migration = false;
      max_datagram_frame_size = None;
      initial_src_cid = initial;
      grease_quic_bit = false;
      min_ack_delay = None;
      original_dst_cid = original;
      retry_src_cid = retry;
      stateless_reset_token = token_in none;
      preferred_address = address_in none;
      version_information = no_versions;
      grease_transport_parameter = no_reserved;
      write_order = no_order;
    }

-- one that is not legal, with the IDs of another; 1199 is under 1200
unlawful : TransportParameters → TransportParameters
unlawful r = asked 1199 r.initial_src_cid r.original_dst_cid r.retry_src_cid

record CidsFormed (r : TransportParameters) : Type 0 where
  original : formed_optional_cid r.original_dst_cid ≡ true
  initial : formed_optional_cid r.initial_src_cid ≡ true
  retry : formed_optional_cid r.retry_src_cid ≡ true

cids_formed : (r : TransportParameters) → well_formed r ≡ true → CidsFormed r
unfolding well_formed
cids_formed r h = let a = all_at _ h in record { original = a 6; initial = a 7; retry = a 8 }

unlawful_formed : (r : TransportParameters) → well_formed r ≡ true → well_formed (unlawful r) ≡ true
unfolding asked unlawful all cid_of formed_cid no_reserved no_order token_in address_in family_in formed_optional formed_token formed_optional_token formed_family formed_address formed_reserved formed_order formed_versions no_versions well_formed
unlawful_formed r h = let k = cids_formed r h in rw (k.original, k.initial, k.retry)

not_legal : (side : Side) (r : TransportParameters) → legal side (unlawful r) ≡ false
unfolding asked unlawful legal value_rules number_rules all
not_legal side r = go (well_formed (unlawful r)) (family_rules (unlawful r).preferred_address)
  where
    go : (a b : Bool) → (a && (b && (false && true))) ≡ false
    go true true = refl
    go true false = refl
    go false b = refl

illegal_lem : (side : Side) (r : TransportParameters) (seen : SeenConnectionIds) → Formed r seen
    → (q : TransportParameters) × ((check_record side q ≡ refused 2) × (authenticate_cids side q seen ≡ authenticate_cids side r seen))
unfolding check_record asked unlawful
illegal_lem side r seen f = (unlawful r, (rw (unlawful_formed r f.0, not_legal side r), looks side))
  where
    looks : (s : Side) → authenticate_cids s (unlawful r) seen ≡ authenticate_cids s r seen
    looks Server = server_looks_lem (unlawful r) r seen seen (unlawful_formed r f.0, f.1) f refl refl
    looks Client = client_looks_lem (unlawful r) r seen (unlawful_formed r f.0, f.1) f refl refl refl

-- a legal record to which this is answered
record Lawful (side : Side) (i : Outcome (Unit {0})) : Type 0 where
  r : TransportParameters
  seen : SeenConnectionIds
  formed : Formed r seen
  legal : check_record side r ≡ accepted tt
  answer : authenticate_cids side r seen ≡ i

seen_with : List ℕ → SeenConnectionIds
seen_with v = record { initial_src_cid = cid_of v; original_dst_cid = cid_of []; retry_src_cid = none_id }

lawful : (side : Side) (i : Outcome (Unit {0})) → (i ≡ accepted tt) ⊎ ((i ≡ refused 13) ⊎ (i ≡ refused 14)) → Lawful side i
unfolding some_id none_id asked seen_with all cid_of formed_cid same_cid no_reserved no_order token_in address_in family_in formed_optional formed_optional_cid formed_token formed_optional_token formed_family formed_address formed_reserved formed_order well_formed family_rules number_rules presence_rules value_rules legal check_record formed_seen has_needed retry_as_seen as_seen authenticate_cids formed_versions no_versions version_rules
lawful Client i (inl e) = record { r = asked 1200 some_id some_id none_id; seen = seen_with []; formed = (refl, refl); legal = refl; answer = sym e }
lawful Server i (inl e) = record { r = asked 1200 some_id none_id none_id; seen = seen_with []; formed = (refl, refl); legal = refl; answer = sym e }
lawful Client i (inr (inl e)) = record { r = asked 1200 none_id some_id none_id; seen = seen_with []; formed = (refl, refl); legal = refl; answer = sym e }
lawful Server i (inr (inl e)) = record { r = asked 1200 none_id none_id none_id; seen = seen_with []; formed = (refl, refl); legal = refl; answer = sym e }
lawful Client i (inr (inr e)) = record { r = asked 1200 some_id some_id none_id; seen = seen_with (1 ∷ []); formed = (refl, refl); legal = refl; answer = sym e }
lawful Server i (inr (inr e)) = record { r = asked 1200 some_id none_id none_id; seen = seen_with (1 ∷ []); formed = (refl, refl); legal = refl; answer = sym e }

independent_lem : (side : Side) (l i : Outcome (Unit {0})) → (l ≡ accepted tt) ⊎ (l ≡ refused 2)
    → (i ≡ accepted tt) ⊎ ((i ≡ refused 13) ⊎ (i ≡ refused 14)) → Both side l i
independent_lem side l i (inl e) d = let w = lawful side i d in (w.r, w.seen, (w.legal ∙ sym e, w.answer))
independent_lem side l i (inr e) d =
    let w = lawful side i d in
    let q = illegal_lem side w.r w.seen w.formed in
    (q.0, w.seen, (q.1.0 ∙ sym e, q.1.1 ∙ w.answer))

pub other_end : OtherEnd
other_end =
    record {
      server = λ r seen. (for_server r seen, from_server r seen);
      client = λ r seen. (for_client r seen, from_client r seen);
      ill_formed = ill_formed_lem;
      ids_formed = ids_formed_lem;
      absent = absent_lem;
      differs = differs_lem;
      three_ids = λ r seen other e d. three_ids_lem r seen other (for_client r seen e) (for_client r other d);
      one_id = λ r seen other e d. one_id_lem r seen other (for_server r seen e) (for_server r other d);
      server_looks = server_looks_lem;
      client_looks = client_looks_lem;
      independent = independent_lem;
      illegal = illegal_lem;
    }
