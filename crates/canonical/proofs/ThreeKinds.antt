-- The three kinds of malformed, proved. Assumes nothing.
use Prim.Native.Nat.{ℕ, ◌<◌}
use mathlib.Core.Path.{◌≡◌, refl, ap, sym, ◌∙◌}
use mathlib.Core.List.{List, ◌∷◌, [], ◌++◌, append_assoc, append-nil}
use mathlib.Core.Logic.{◌↔◌, ◌⊎◌, inl, inr, ⊎_elim}
use mathlib.Core.Bool.{true}
use native.Mathlib.Omega.{arith}
use lib.ListN.{length}
use lib.Dec.{eqb, leb}
use Rattle.refusal.specs.Outcome.{Result, accepted, refused, pick, and_then, store}
use Rattle.refusal.proofs.Laws.{pick_cases}
use Rattle.refusal.proofs.Store.{Answered, not_refused, refused_same}
use Rattle.record.specs.declared.TransportParameters.{TransportParameters}
use Rattle.catalogue.specs.Catalogue.{places, place_of, id_at}
use Rattle.catalogue.proofs.Places.{id_of_place}
use Rattle.record.specs.Values.{Values, no_values, is_some}
use Rattle.record.specs.Record.{well_formed, bare}
use Rattle.rules.specs.declared.Side.{Side}
use Rattle.front.specs.declared.Fault.{Fault}
use Rattle.front.specs.declared.Fault.TheVariants.{Cut, SecondCopy, Misfit, Illegal}
use Rattle.front.specs.Answer.{numbered}
use Rattle.front.specs.Parameter.{read_parameter}
use Rattle.front.specs.Whole.{Composed}
use Rattle.order.specs.Order.{permutation}
use Rattle.front.proofs.Front.{only_cut}
use Rattle.reader.specs.Reading.{parse, judge, read}
use Rattle.reader.proofs.Run.{step_misfit}
use Rattle.reader.proofs.Faults.{number, refuses, faulty, declines, stops, stops_at, cut_there, found_there, fault_stays, front_cut, uncut}
use Rattle.front.proofs.Split.{cut_out_lem}
use Rattle.reader.proofs.Laws.{composed, alone}
use Rattle.reader.proofs.Copies.{met_by, copied}
use Rattle.writer.specs.Writing.{order_of, write}
use Rattle.tidy.specs.Tidying.{tidy_from, tidy}
use Rattle.canonical.specs.ThreeKinds.{formerly, former_read, former_tidy, is_kind, former, CutAt, CopyAt, MisfitAt, ThreeKinds}

-- FAULTS, each told by its number
abbrev fault_of : ℕ → Fault
fault_of n = pick (eqb n 10) Cut (pick (eqb n 12) SecondCopy (pick (eqb n 11) Misfit Illegal))

told : (x : Fault) → fault_of (number x) ≡ x
told Cut = refl
told SecondCopy = refl
told Misfit = refl
told Illegal = refl

same_fault : (x y : Fault) → number x ≡ number y → x ≡ y
same_fault x y i = sym (told x) ∙ ap fault_of i ∙ told y

-- READING, by the fault found
as_before : {A : Type 0} (o : Result Fault A) → former (numbered o) ≡ formerly o
as_before (accepted a) = refl
as_before (refused Cut) = refl
as_before (refused SecondCopy) = refl
as_before (refused Misfit) = refl
as_before (refused Illegal) = refl

not_one : {A : Type 0} (o : Result Fault A) → numbered o ≡ refused 1 → ⊥
not_one (accepted a) e = cc
not_one (refused Cut) e = cc
not_one (refused SecondCopy) e = cc
not_one (refused Misfit) e = cc
not_one (refused Illegal) e = cc

kind : {A : Type 0} (o : Result Fault A) → ((n : ℕ) × ((numbered o ≡ refused n) × (is_kind n ≡ true))) ↔ (formerly o ≡ refused 1)
kind (accepted a) = (λ k. let e = k.1.0 in cc, λ e. cc)
kind (refused Cut) = (λ k. refl, λ e. (10, (refl, refl)))
kind (refused SecondCopy) = (λ k. refl, λ e. (12, (refl, refl)))
kind (refused Misfit) = (λ k. refl, λ e. (11, (refl, refl)))
kind (refused Illegal) =
    (λ k. let e = k.1.0 in let i : ◌≡◌ {A = ℕ} k.0 2 = cc in let t : is_kind 2 ≡ true = ap is_kind (sym i) ∙ k.1.1 in cc, λ e. cc)

-- TIDYING: writing gives none of these numbers
abbrev Kept : Answered → Type 0
Kept a = (former a.0, a.1) ≡ a

abbrev NotOne : Answered → Type 0
NotOne a = (o : List ℕ) → a ≡ (refused 1, o) → ⊥

written : (P : Answered → Type 0) (r : TransportParameters) (out : List ℕ) → ((n : ℕ) (o : List ℕ) → P (accepted n, o)) → P (refused 5, out) → P (refused 6, out)
    → P (refused 7, out) → P (write r out)
unfolding write store
written P r out a p5 p6 p7 =
    pick_cases P (well_formed r) _ _
    (λ w. pick_cases P (permutation (order_of r.write_order)) _ _ (λ q. pick_cases P (leb _ (length out)) _ _ (λ l. a _ _) (λ l. p5)) (λ q. p6))
    (λ w. p7)

tidied_before : (o : Result Fault TransportParameters) (out : List ℕ)
    → (former (tidy_from (numbered o) out).0, (tidy_from (numbered o) out).1) ≡ tidy_from (formerly o) out
tidied_before (accepted r) out = written Kept (bare r) out (λ n o. refl) refl refl refl
tidied_before (refused Cut) out = refl
tidied_before (refused SecondCopy) out = refl
tidied_before (refused Misfit) out = refl
tidied_before (refused Illegal) out = refl

tidied_not_one : (o : Result Fault TransportParameters) (out : List ℕ) → NotOne (tidy_from (numbered o) out)
tidied_not_one (accepted r) out =
    written NotOne (bare r) out (λ n o o' e. not_refused 1 n o o' e) (other 5 (λ i. omega arith)) (other 6 (λ i. omega arith)) (other 7 (λ i. omega arith))
  where
    other : (n : ℕ) → (n ≡ 1 → ⊥) → NotOne (refused n, out)
    other n d o e = d (refused_same n 1 out o e)
tidied_not_one (refused x) out = λ o e. not_one {A = ℕ} (refused x) (ap (λ (a : Answered). a.0) e)

-- WHERE EACH IS GIVEN
-- a fault by its number
by_number : {P : Type 0} (s : Side) (e : List ℕ) (x : Fault) → (number x ≡ 2 → ⊥) → read s e ≡ refused (number x) → (parse no_values e ≡ refused x → P) → P
by_number s e x n k h = refuses s e (number x) k (λ i. absurd (n i)) λ y p i. h (p ∙ ap refused (same_fault y x i))

cut : (s : Side) (e : List ℕ) → (read s e ≡ refused 10) ↔ CutAt e
cut s e = (there, back)
  where
    there : read s e ≡ refused 10 → CutAt e
    there k =
        by_number s e Cut (λ i. omega arith) k λ p.
        stops no_values e Cut p
        (λ before b bs l a r z. record { b = b; bs = bs; l = l; reached = record { before = before; are = a; received = r }; none = λ i y. cc (z, y) })
        λ before rest l i a r z d. declines l i.0 i.1 Cut d (λ h m q. cc) (λ q. cc) (λ h m y f q. cc)

    back : CutAt e → read s e ≡ refused 10
    back c = go (read_parameter (c.b ∷ c.bs)) refl
      where
        go : (o : Result Fault (ℕ × List ℕ × List ℕ)) → read_parameter (c.b ∷ c.bs) ≡ o → read s e ≡ refused 10
        go (accepted i) z = absurd (c.none i z)
        go (refused x) z =
            let q : Cut ≡ x = only_cut (c.b ∷ c.bs) x z in
            faulty s e Cut (rw (← c.reached.are) (cut_there no_values c.l c.reached.before c.b c.bs c.reached.received (rw (← q) at z)))

-- the parameter there is a second copy of one that was received
copy_at : (e before rest : List ℕ) (l : Values) (i : ℕ × List ℕ × List ℕ) → before ++ rest ≡ e → parse no_values before ≡ accepted l → read_parameter rest ≡ accepted i
    → place_of i.0 < places → is_some (l (place_of i.0)) ≡ true → CopyAt e
unfolding no_values
copy_at e before rest l i a r z h m =
    let d = met_by no_values l before (place_of i.0) r refl m in
    let c = cut_out_lem rest i z in
    let same : id_at (place_of i.0) ≡ d.first.id = rw d.at at (id_of_place d.first.id (rw d.at h)) in
    record {
      a = d.a;
      w = d.w;
      b = d.b;
      u = c.w;
      more = i.2;
      copy =
          record {
            before = d.before;
            first = d.first;
            between = d.between;
            second = record { id = i.0; v = i.1; is = alone rest i z };
            same = sym (id_of_place i.0 h) ∙ same;
            known = rw d.at h;
          };
      l = l;
      reached = record { before = before; are = ap (λ x. before ++ x) c.are ∙ a; received = r };
      these = sym d.are;
    }

second_copy : (s : Side) (e : List ℕ) → (read s e ≡ refused 12) ↔ CopyAt e
second_copy s e = (there, back)
  where
    there : read s e ≡ refused 12 → CopyAt e
    there k =
        by_number s e SecondCopy (λ i. omega arith) k λ p.
        stops_at no_values e SecondCopy (λ i. cc) p λ before rest l i a r z d.
        declines l i.0 i.1 SecondCopy d (λ h m q. copy_at e before rest l i a r z h m) (λ q. cc) (λ h m y f q. cc)

    back : CopyAt e → read s e ≡ refused 12
    back c =
        let r : parse no_values (c.a ++ (c.w ++ c.b)) ≡ accepted c.l = rw c.these at c.reached.received in
        let are : c.a ++ (c.w ++ (c.b ++ (c.u ++ c.more))) ≡ e = ap (λ x. c.a ++ x) (sym (append_assoc c.w c.b (c.u ++ c.more))) ∙ sym (append_assoc c.a (c.w ++ c.b) (c.u ++ c.more)) ∙ rw c.these at c.reached.are in
        faulty s e SecondCopy (rw (← are, copied c.a c.w c.b c.u c.more c.copy, r))

misfit : (s : Side) (e : List ℕ) → (read s e ≡ refused 11) ↔ MisfitAt e
misfit s e = (there, back)
  where
    there : read s e ≡ refused 11 → MisfitAt e
    there k =
        by_number s e Misfit (λ i. omega arith) k λ p.
        stops_at no_values e Misfit (λ i. cc) p λ before rest l i a r z d.
        declines l i.0 i.1 Misfit d (λ h m q. cc) (λ q. cc)
        λ h m y f q.
        record {
          rest = rest;
          l = l;
          id = i.0;
          v = i.1;
          behind = i.2;
          reached = record { before = before; are = a; received = r };
          next = z;
          known = h;
          first = m;
          legal = y;
          misfit = f;
        }

    back : MisfitAt e → read s e ≡ refused 11
    back c =
        let d = step_misfit c.l c.id c.v c.known c.first c.legal c.misfit in
        faulty s e Misfit (rw (← c.reached.are, ← append-nil c.rest) (found_there no_values c.l c.reached.before c.rest [] (c.id, c.v, c.behind) Misfit c.reached.received c.next d))

-- A WRONG SENDER, A CUT MESSAGE
wrong_stays : (s : Side) (e more : List ℕ) (n : ℕ) → (n ≡ 11) ⊎ (n ≡ 12) → read s e ≡ refused n → read s (e ++ more) ≡ refused n
wrong_stays s e more n h k =
    let d : (n ≡ 2 → ⊥) × (n ≡ 10 → ⊥) = ⊎_elim (λ i. (λ j. omega arith, λ j. omega arith)) (λ i. (λ j. omega arith, λ j. omega arith)) h in
    refuses s e n k (λ i. absurd (d.0 i)) λ x p q.
    faulty s (e ++ more) x (fault_stays no_values e more x (λ i. d.1 (sym q ∙ ap number (sym i))) p) ∙ ap refused q

cut_within : (s : Side) (e more : List ℕ) (r : TransportParameters) → read s (e ++ more) ≡ accepted r → (Composed e → ⊥) → read s e ≡ refused 10
cut_within s e more r k n = go (parse no_values e) refl
  where
    go : (o : Result Fault Values) → parse no_values e ≡ o → read s e ≡ refused 10
    go (accepted l) p = absurd (n (composed no_values l e p))
    go (refused x) p = faulty s e x p ∙ ap (λ y. refused (number y)) (sym (front_cut s e more r k x p))

cut_anywhere : (s : Side) (e more : List ℕ) (r : TransportParameters) (n : ℕ) → read s (e ++ more) ≡ accepted r → read s e ≡ refused n → (n ≡ 10) ⊎ (n ≡ 2)
cut_anywhere s e more r n k q = refuses s e n q (λ i. inr i) λ x p i. inl (sym i ∙ ap number (sym (front_cut s e more r k x p)))

whole_uncut : (s : Side) (e : List ℕ) → Composed e → read s e ≡ refused 10 → ⊥
whole_uncut s e c k = by_number s e Cut (λ i. omega arith) k (uncut e c no_values)

pub three_kinds : ThreeKinds
unfolding read former_read tidy former_tidy
three_kinds =
    record {
      reads = λ s e. as_before (and_then (parse no_values e) (judge s));
      tidies = λ s e out. tidied_before (and_then (parse no_values e) (judge s)) out;
      exactly = λ s e. kind (and_then (parse no_values e) (judge s));
      not_one = λ s e. not_one (and_then (parse no_values e) (judge s));
      tidied_not_one = λ s e out. tidied_not_one (and_then (parse no_values e) (judge s)) out;
      cut = cut;
      second_copy = second_copy;
      misfit = misfit;
      wrong_stays = wrong_stays;
      cut_within = cut_within;
      cut_anywhere = cut_anywhere;
      whole_uncut = whole_uncut;
    }
