-- The connection ID check, side by side: what each test of the definition says, what is accepted,
-- and what is refused. Assumes nothing.
--     for_server, from_server    what a server accepts
--     for_client, from_client    what a client accepts
--     ill_formed_lem, absent_lem, differs_lem    what is 7, 13 and 14
--     ids_formed_lem             what the IDs handed in are
use Prim.Native.Nat.{ℕ}
use mathlib.Core.Path.{◌≡◌, refl, ap, sym, ◌∙◌}
use mathlib.Core.List.{[]}
use mathlib.Core.Bool.{Bool, true, false, ◌&&◌, ◌||◌, not}
use mathlib.Core.Logic.{◌↔◌, ◌⊎◌, inl, inr}
use native.Mathlib.Omega.{arith}
use lib.Dec.{eqb}
use borrow.Author.Tests.{eqb-true}
use Rattle.std.proofs.lemmas.Bool.{and_parts}
use Rattle.refusal.specs.Outcome.{Outcome, accepted, refused, pick, all}
use Rattle.refusal.proofs.Laws.{all_at}
use Rattle.connection_id.specs.declared.ConnectionId.{ConnectionId}
use Rattle.connection_id.specs.ConnectionId.{cid_of, cid_bytes, formed_cid, same_cid}
use Rattle.connection_id.proofs.Laws.{cid_facts, cid_length_lem, cid_of_lem, cid_read_lem, cid_none, same_told}
use Rattle.record.specs.declared.TransportParameters.{TransportParameters}
use Rattle.record.specs.Optional.{OptionalConnectionId}
use Rattle.record.specs.Record.{formed_optional_cid, well_formed}
use Rattle.rules.specs.declared.Side.{Side}
use Rattle.rules.specs.declared.Side.TheVariants.{Client, Server}
use Rattle.authentication.specs.declared.SeenConnectionIds.{SeenConnectionIds}
use Rattle.authentication.specs.Authentication.{formed_seen, has_needed, retry_as_seen, as_seen, authenticate_cids}
use Rattle.authentication.specs.OtherEnd.{Formed, IsId, IdsFormed, Same, ForServer, ForClient, Absent, Differs}

-- TESTS AND STATEMENTS
-- a test that holds exactly if a statement does fails exactly if it does not
fails : {A : Type 0} (b : Bool) → (b ≡ true) ↔ A → (b ≡ false) ↔ (A → ⊥)
fails true s = (λ e. cc, λ n. absurd (n (s.0 refl)))
fails false s = (λ e a. let x : false ≡ true = s.1 a in cc, λ n. refl)

-- and the other way round
holds : {A : Type 0} (b : Bool) → (b ≡ false) ↔ A → (b ≡ true) ↔ (A → ⊥)
holds true s = (λ e a. let x : true ≡ false = s.1 a in cc, λ n. refl)
holds false s = (λ e. cc, λ n. absurd (n (s.0 refl)))

-- of two tests together one fails
either : {A B : Type 0} (a b : Bool) → (a ≡ false) ↔ A → (b ≡ false) ↔ B → ((a && b) ≡ false) ↔ (A ⊎ B)
either true b s t = (λ e. inr (t.0 e), elim [ inl x ↦ (let y : true ≡ false = s.1 x in cc) | inr y ↦ t.1 y ])
either false b s t = (λ e. inl (s.0 refl), λ x. refl)

-- THE THREE STAGES of the definition
abbrev staged : Bool → Bool → Bool → Outcome (Unit {0})
staged t u v = pick t (pick u (pick v (accepted tt) (refused 14)) (refused 13)) (refused 7)

number : (n m : ℕ) → ◌≡◌ {A = Outcome (Unit {0})} (refused n) (refused m) → n ≡ m
number n m e = cc

passed : (t u v : Bool) → staged t u v ≡ accepted tt → (t ≡ true) × ((u ≡ true) × (v ≡ true))
passed true true true e = (refl, (refl, refl))
passed true true false e = cc
passed true false v e = cc
passed false u v e = cc

first : (t u v : Bool) → staged t u v ≡ refused 7 → t ≡ false
first true true true e = cc
first true true false e = absurd (omega (arith, number _ _ e))
first true false v e = absurd (omega (arith, number _ _ e))
first false u v e = refl

second : (t u v : Bool) → staged t u v ≡ refused 13 → (t ≡ true) × (u ≡ false)
second true true true e = cc
second true true false e = absurd (omega (arith, number _ _ e))
second true false v e = (refl, refl)
second false u v e = absurd (omega (arith, number _ _ e))

third : (t u v : Bool) → staged t u v ≡ refused 14 → (t ≡ true) × ((u ≡ true) × (v ≡ false))
third true true true e = cc
third true true false e = (refl, (refl, refl))
third true false v e = absurd (omega (arith, number _ _ e))
third false u v e = absurd (omega (arith, number _ _ e))

-- WHAT EACH TEST SAYS, of what is well formed
formed : (r : TransportParameters) (seen : SeenConnectionIds) → (well_formed r && formed_seen seen) ≡ true → Formed r seen
formed r seen h = and_parts _ _ h

-- the IDs of both are well formed
record Ids (r : TransportParameters) (seen : SeenConnectionIds) : Type 0 where
  initial : (same_cid r.initial_src_cid.value seen.initial_src_cid ≡ true) ↔ Same r.initial_src_cid.value seen.initial_src_cid
  original : (same_cid r.original_dst_cid.value seen.original_dst_cid ≡ true) ↔ Same r.original_dst_cid.value seen.original_dst_cid
  retry : (same_cid r.retry_src_cid.value seen.retry_src_cid.value ≡ true) ↔ Same r.retry_src_cid.value seen.retry_src_cid.value

pub id_formed : (o : OptionalConnectionId) → formed_optional_cid o ≡ true → formed_cid o.value ≡ true
unfolding formed_optional_cid
id_formed o h = all_at _ h 0

ids : (r : TransportParameters) (seen : SeenConnectionIds) → Formed r seen → Ids r seen
unfolding well_formed formed_seen
ids r seen f =
    let a = all_at _ f.0 in
    let b = all_at _ f.1 in
    record {
      initial = same_told _ _ (id_formed r.initial_src_cid (a 7)) (b 0);
      original = same_told _ _ (id_formed r.original_dst_cid (a 6)) (b 1);
      retry = same_told _ _ (id_formed r.retry_src_cid (a 8)) (id_formed seen.retry_src_cid (b 2));
    }

-- a needed ID is absent
needed_absent : (side : Side) (r : TransportParameters) (seen : SeenConnectionIds) → (has_needed side r seen ≡ false) ↔ Absent side r seen
unfolding has_needed all
needed_absent Server r seen = (λ e. e, λ e. e)
needed_absent Client r seen = go r.initial_src_cid.present r.original_dst_cid.present r.retry_src_cid.present seen.retry_src_cid.present
  where
    go : (i o p q : Bool) → ((i && (o && ((not q || p) && true))) ≡ false) ↔ ((i ≡ false) ⊎ ((o ≡ false) ⊎ ((q ≡ true) × (p ≡ false))))
    go i o p q =
        either i (o && ((not q || p) && true)) (λ e. e, λ e. e) (either o ((not q || p) && true) (λ e. e, λ e. e) (retry q p))
      where
        retry : (q p : Bool) → (((not q || p) && true) ≡ false) ↔ ((q ≡ true) × (p ≡ false))
        retry true true = (λ e. cc, λ x. x.1)
        retry true false = (λ e. (refl, refl), λ x. refl)
        retry false p = (λ e. cc, λ x. let y : false ≡ true = x.0 in cc)

-- an ID is not the one seen
retry_fails : {A : Type 0} (p s o : Bool) → (s ≡ true) ↔ A
    → ((pick p s (not o) && true) ≡ false) ↔ (((p ≡ true) × (A → ⊥)) ⊎ ((p ≡ false) × (o ≡ true)))
retry_fails true true o k = (λ e. cc, elim [ inl x ↦ absurd (x.1 (k.0 refl)) | inr x ↦ (let y : true ≡ false = x.0 in cc) ])
retry_fails true false o k = (λ e. inl (refl, λ a. let y : false ≡ true = k.1 a in cc), λ x. refl)
retry_fails false s true k = (λ e. inr (refl, refl), λ x. refl)
retry_fails false s false k = (λ e. cc, elim [ inl x ↦ (let y : false ≡ true = x.0 in cc) | inr x ↦ (let y : false ≡ true = x.1 in cc) ])

not_as_seen : (side : Side) (r : TransportParameters) (seen : SeenConnectionIds) → Ids r seen → (as_seen side r seen ≡ false) ↔ Differs side r seen
unfolding as_seen retry_as_seen all
not_as_seen Server r seen k = fails _ k.initial
not_as_seen Client r seen k =
    either _ _ (fails _ k.initial) (either _ _ (fails _ k.original)
    (retry_fails seen.retry_src_cid.present (same_cid r.retry_src_cid.value seen.retry_src_cid.value) r.retry_src_cid.present k.retry))

-- what a side accepts
pub for_server : (r : TransportParameters) (seen : SeenConnectionIds) → authenticate_cids Server r seen ≡ accepted tt → ForServer r seen
unfolding authenticate_cids has_needed as_seen
for_server r seen e =
    let a = passed _ _ _ e in
    let f = formed r seen a.0 in
    record { formed = f; initial = (a.1.0, (ids r seen f).initial.0 a.1.1) }

pub from_server : (r : TransportParameters) (seen : SeenConnectionIds) → ForServer r seen → authenticate_cids Server r seen ≡ accepted tt
unfolding authenticate_cids has_needed as_seen
from_server r seen s = rw (s.formed.0, s.formed.1, s.initial.0, (ids r seen s.formed).initial.1 s.initial.1)

pub for_client : (r : TransportParameters) (seen : SeenConnectionIds) → authenticate_cids Client r seen ≡ accepted tt → ForClient r seen
unfolding authenticate_cids has_needed as_seen retry_as_seen
for_client r seen e =
    let a = passed _ _ _ e in
    let f = formed r seen a.0 in
    let k = ids r seen f in
    let n = all_at _ a.1.0 in
    let m = all_at _ a.1.1 in
    record {
      formed = f;
      initial = (n 0, k.initial.0 (m 0));
      original = (n 1, k.original.0 (m 1));
      retry = λ h. (needed _ _ h (n 2), k.retry.0 (picks _ _ _ h (m 2)));
      no_retry = λ h. absent _ _ _ h (m 2);
    }
  where
    needed : (p o : Bool) → p ≡ true → (not p || o) ≡ true → o ≡ true
    needed true o h e = e
    needed false o h e = cc

    picks : (p s o : Bool) → p ≡ true → pick p s (not o) ≡ true → s ≡ true
    picks true s o h e = e
    picks false s o h e = cc

    absent : (p s o : Bool) → p ≡ false → pick p s (not o) ≡ true → o ≡ false
    absent true s o h e = cc
    absent false s true h e = cc
    absent false s false h e = refl

pub from_client : (r : TransportParameters) (seen : SeenConnectionIds) → ForClient r seen → authenticate_cids Client r seen ≡ accepted tt
unfolding authenticate_cids has_needed as_seen retry_as_seen all
from_client r seen s =
    let k = ids r seen s.formed in
    rw (s.formed.0, s.formed.1, s.initial.0, s.original.0, k.initial.1 s.initial.1, k.original.1 s.original.1)
    (go seen.retry_src_cid.present r.retry_src_cid.present (same_cid r.retry_src_cid.value seen.retry_src_cid.value)
    (λ h. (s.retry h).0) (λ h. k.retry.1 (s.retry h).1) s.no_retry)
  where
    go : (p o t : Bool) → (p ≡ true → o ≡ true) → (p ≡ true → t ≡ true) → (p ≡ false → o ≡ false)
        → pick {A = Outcome (Unit {0})} ((not p || o) && true) (pick (pick p t (not o) && true) (accepted tt) (refused 14)) (refused 13) ≡ accepted tt
    go true o t a b c = rw (a refl, b refl)
    go false o t a b c = rw (c refl)

-- WHAT A SIDE REFUSES
pub ill_formed_lem : (side : Side) (r : TransportParameters) (seen : SeenConnectionIds)
    → (authenticate_cids side r seen ≡ refused 7) ↔ (Formed r seen → ⊥)
unfolding authenticate_cids
ill_formed_lem side r seen =
    let s = fails (well_formed r && formed_seen seen) (formed r seen, λ f. rw (f.0, f.1)) in
    (λ e. s.0 (first _ _ _ e), λ n. rw (s.1 n))

pub absent_lem : (side : Side) (r : TransportParameters) (seen : SeenConnectionIds)
    → (authenticate_cids side r seen ≡ refused 13) ↔ (Formed r seen × Absent side r seen)
unfolding authenticate_cids
absent_lem side r seen = (
  λ e. let a = second _ _ _ e in (formed r seen a.0, (needed_absent side r seen).0 a.1),
  λ s. rw (s.0.0, s.0.1, (needed_absent side r seen).1 s.1),
)

pub differs_lem : (side : Side) (r : TransportParameters) (seen : SeenConnectionIds)
    → (authenticate_cids side r seen ≡ refused 14) ↔ (Formed r seen × ((Absent side r seen → ⊥) × Differs side r seen))
unfolding authenticate_cids
differs_lem side r seen = (
  λ e.
      let a = third _ _ _ e in
      let f = formed r seen a.0 in
      (f, ((holds _ (needed_absent side r seen)).0 a.1.0, (not_as_seen side r seen (ids r seen f)).0 a.1.1)),
  λ s. rw (s.0.0, s.0.1, (holds _ (needed_absent side r seen)).1 s.1.0, (not_as_seen side r seen (ids r seen s.0)).1 s.1.1),
)

-- WHAT IS HANDED IN
is_id : (c : ConnectionId) → formed_cid c ≡ true → IsId c
is_id c h =
    let k = cid_facts c h in
    let e = cid_length_lem c k in
    (cid_bytes c, (omega (arith, e, k.within), sym (cid_of_lem c h)))

from_id : (c : ConnectionId) → IsId c → formed_cid c ≡ true
from_id c i = ap formed_cid i.1.1 ∙ cid_read_lem i.0 i.1.0

-- what is absent is the empty ID
pub no_id : (o : OptionalConnectionId) → formed_optional_cid o ≡ true → o.present ≡ false → o.value ≡ cid_of []
unfolding formed_optional_cid
no_id o h e =
    let a = all_at _ h in
    let n : (o.present || eqb o.value.len 0) ≡ true = a 1 in
    sym (cid_none o.value (a 0) (eqb-true _ _ (rw e at n)))

optional_formed : (o : OptionalConnectionId) → IsId o.value → (o.present ≡ false → o.value ≡ cid_of []) → formed_optional_cid o ≡ true
unfolding formed_optional_cid all cid_of
optional_formed o i f = rw (from_id o.value i) (go o.present o.value f)
  where
    go : (p : Bool) (c : ConnectionId) → (p ≡ false → c ≡ cid_of []) → ((p || eqb c.len 0) && true) ≡ true
    go true c f = refl
    go false c f = rw (f refl)

pub record SeenFormed (seen : SeenConnectionIds) : Type 0 where
  pub initial : formed_cid seen.initial_src_cid ≡ true
  pub original : formed_cid seen.original_dst_cid ≡ true
  pub retry : formed_optional_cid seen.retry_src_cid ≡ true

pub seen_formed : (seen : SeenConnectionIds) → formed_seen seen ≡ true → SeenFormed seen
unfolding formed_seen
seen_formed seen h = let a = all_at _ h in record { initial = a 0; original = a 1; retry = a 2 }

pub ids_formed_lem : (seen : SeenConnectionIds) → (formed_seen seen ≡ true) ↔ IdsFormed seen
unfolding formed_seen all
ids_formed_lem seen = (
  λ h.
      let a = seen_formed seen h in
      record {
        initial = is_id _ a.initial;
        original = is_id _ a.original;
        retry = is_id _ (id_formed _ a.retry);
        no_retry = no_id _ a.retry;
      },
  λ s. rw (from_id _ s.initial, from_id _ s.original, optional_formed _ s.retry s.no_retry),
)
