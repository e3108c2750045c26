-- What holds of resumption. Assumes nothing.
--     resumes_itself     a well-formed record resumes from itself
--     resumes_through    what resumes from a record that resumes from another resumes from that one
--     absent_as_zero     on either side an absent datagram size and one of 0 are the same
use Prim.Native.Nat.{ℕ}
use mathlib.Core.Path.{◌≡◌, refl, ap}
use mathlib.Core.List.{List}
use mathlib.Core.Bool.{Bool, true, false, ◌&&◌, ◌||◌, not, not-or_self}
use native.Mathlib.Omega.{arith}
use native.Mathlib.Nat.{le_refl}
use lib.ListN.{get_or}
use lib.Dec.{leb}
use borrow.Author.Tests.{le-leb, leb-true}
use Rattle.std.proofs.lemmas.Bool.Decides.{nat_tests}
use Rattle.refusal.specs.Outcome.{Outcome, accepted, refused, pick, all}
use Rattle.refusal.proofs.Laws.{all_at}
use Rattle.record.specs.declared.TransportParameters.{TransportParameters}
use Rattle.words.proofs.Laws.{every_at, every_of}
use Rattle.record.specs.Optional.{OptionalNumber}
use Rattle.std.specs.Prelude.{None, Some}
use Rattle.record.specs.Record.{formed_optional, well_formed, bare}
use Rattle.resumption.specs.Resumption.{remembered, limits_kept, size_rank, nothing_reduced, resume}
use Rattle.resumption.specs.AbsentAsZero.{sized, AbsentAsZero}

-- orders of numbers, as tests
leb_trans : (a b c : ℕ) → leb a b ≡ true → leb b c ≡ true → leb a c ≡ true
leb_trans a b c h k = grind (arith, nat_tests)

not_or_trans : (a b c : Bool) → (not a || b) ≡ true → (not b || c) ≡ true → (not a || c) ≡ true
not_or_trans a b c h k = grind (arith, nat_tests)

-- nothing is reduced
limits_itself : (a : List ℕ) → limits_kept a a ≡ true
unfolding limits_kept
limits_itself a = every_of (λ p. leb (get_or a p 0) (get_or a p 0)) remembered (λ p k. le-leb _ _ (le_refl _))

limits_through : (a b c : List ℕ) → limits_kept b a ≡ true → limits_kept c b ≡ true → limits_kept c a ≡ true
unfolding limits_kept
limits_through a b c s t =
    every_of (λ p. leb (get_or a p 0) (get_or c p 0)) remembered (λ p k.
    leb_trans _ _ _ (every_at (λ p. leb (get_or a p 0) (get_or b p 0)) remembered s p k) (every_at (λ p. leb (get_or b p 0) (get_or c p 0)) remembered t p k))

kept_itself : (r : TransportParameters) → nothing_reduced r r ≡ true
unfolding nothing_reduced all
kept_itself r = rw (limits_itself r.numbers, le-leb _ _ (le_refl (size_rank r.max_datagram_frame_size)), not-or_self r.grease_quic_bit)

record Kept (new cached : TransportParameters) : Type 0 where
  limits : limits_kept new.numbers cached.numbers ≡ true
  size : leb (size_rank cached.max_datagram_frame_size) (size_rank new.max_datagram_frame_size) ≡ true
  grease : (not cached.grease_quic_bit || new.grease_quic_bit) ≡ true

kept_facts : (new cached : TransportParameters) → nothing_reduced new cached ≡ true → Kept new cached
unfolding nothing_reduced
kept_facts new cached h = let a = all_at _ h in record { limits = a 0; size = a 1; grease = a 2 }

kept_through : (a b c : TransportParameters) → Kept b a → Kept c b → nothing_reduced c a ≡ true
unfolding nothing_reduced all
kept_through a b c x y =
    rw (
      limits_through a.numbers b.numbers c.numbers x.limits y.limits,
      leb_trans _ _ _ x.size y.size,
      not_or_trans a.grease_quic_bit _ _ x.grease y.grease,
    )

-- what it takes to resume
record Resumes (new cached : TransportParameters) : Type 0 where
  formed : well_formed new ≡ true
  formed_before : well_formed cached ≡ true
  kept : nothing_reduced new cached ≡ true

resumes : (new cached : TransportParameters) → Resumes new cached → resume new cached ≡ accepted tt
unfolding resume
resumes new cached h = rw (h.formed, h.formed_before, h.kept)

resumed : (new cached : TransportParameters) → resume new cached ≡ accepted tt → Resumes new cached
unfolding resume
resumed new cached h = go (well_formed new) (well_formed cached) (nothing_reduced new cached) refl refl refl h
  where
    go : (s t u : Bool) → well_formed new ≡ s → well_formed cached ≡ t → nothing_reduced new cached ≡ u
        → pick {A = Outcome (Unit {0})} (s && t) (pick u (accepted tt) (refused 8)) (refused 7) ≡ accepted tt → Resumes new cached
    go true true true p q r h = record { formed = p; formed_before = q; kept = r }
    go true true false p q r h = cc
    go true false u p q r h = cc
    go false t u p q r h = cc

pub resumes_itself : (r : TransportParameters) → well_formed r ≡ true → resume r r ≡ accepted tt
resumes_itself r h = resumes r r (record { formed = h; formed_before = h; kept = kept_itself r })

pub resumes_through : (a b c : TransportParameters) → resume b a ≡ accepted tt → resume c b ≡ accepted tt → resume c a ≡ accepted tt
resumes_through a b c h k =
    let x = resumed b a h in
    let y = resumed c b k in
    resumes c a (record { formed = y.formed; formed_before = x.formed_before; kept = kept_through a b c (kept_facts b a x.kept) (kept_facts c b y.kept) })

-- what resumption looks at computes to the same for both
pub absent_as_zero : AbsentAsZero
unfolding sized bare well_formed formed_optional size_rank nothing_reduced resume
absent_as_zero =
    record {
      as_new = λ new cached. refl;
      as_cached = λ new cached. refl;
      only_from_zero = λ new cached x h.
          let r = resumed (sized None new) (sized (Some x) cached) h in
          let k = kept_facts (sized None new) (sized (Some x) cached) r.kept in
          omega (arith, leb-true x 0 k.size);
      apart = λ r s e.
          let size : ◌≡◌ {A = OptionalNumber} None (Some 0) = ap (λ (q : TransportParameters). q.max_datagram_frame_size) e in
          cc;
    }
