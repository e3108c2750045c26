-- The canonical form, proved. Assumes nothing.
use Prim.Native.Nat.{ℕ, ◌≤◌}
use mathlib.Core.Path.{◌≡◌, refl, ap, sym, ◌∙◌, subst}
use mathlib.Core.List.{List}
use mathlib.Core.Bool.{true}
use mathlib.Core.Logic.{◌↔◌}
use native.Mathlib.Omega.{arith}
use lib.ListN.{length, take}
use Rattle.refusal.specs.Outcome.{Outcome, accepted, refused, front}
use Rattle.refusal.proofs.Laws.{all_at}
use Rattle.refusal.proofs.Store.{stored_front, store_fits, Stored, stored}
use Rattle.record.specs.declared.TransportParameters.{TransportParameters}
use Rattle.rules.specs.declared.Side.{Side}
use Rattle.record.specs.Values.{Bytes}
use Rattle.record.specs.Record.{well_formed, bare}
use Rattle.rules.specs.Rules.{legal}
use Rattle.reader.specs.Reading.{read}
use Rattle.reader.proofs.Laws.{accepted_legal, same_record, whole, once, unknown_skipped}
use Rattle.writer.specs.Writing.{extension, order_of, write}
use Rattle.order.specs.Order.{permutation, catalogue_order}
use Rattle.tidy.specs.Tidying.{tidy_from, tidy}
use Rattle.tidy.proofs.Laws.{tidy_formed, tidied}
use Rattle.canonical.specs.CanonicalForm.{Accepts, CanonicalForm}
use Rattle.canonical.proofs.Written.{read_back, catalogue_back, shortest}

-- what tidying stored, of a record that was read
pub tidy_stored : (s : Side) (e out o : List ℕ) (n : ℕ) (r : TransportParameters) → Bytes e → read s e ≡ accepted r → tidy s e out ≡ (accepted n, o)
    → Stored (extension r catalogue_order) n o
tidy_stored s e out o n r hb k t = stored (extension r catalogue_order) out o n (sym (tidied s e out r hb k) ∙ t)

-- THE PARTS
reads_back :
    (s : Side) (r : TransportParameters) (out : List ℕ) → legal s r ≡ true → permutation (order_of r.write_order) ≡ true
    → length (extension r (order_of r.write_order)) ≤ length out → Accepts (write r out) (λ n out'. read s (take n out') ≡ accepted (bare r))
unfolding write legal
reads_back s r out h p l =
    let os = order_of r.write_order in
    let w : well_formed r ≡ true = all_at _ h 0 in
    let k : write r out ≡ (accepted (length (extension r os)), front (extension r os) out) = rw (w, p) (store_fits (extension r os) out l) in
    subst (λ a. Accepts a (λ n out'. read s (take n out') ≡ accepted (bare r))) (sym k)
    (ap (read s) (stored_front (extension r os) out) ∙ read_back s r os h p)

can_be_tidied :
    (s : Side) (e out : List ℕ) (r : TransportParameters) → Bytes e → read s e ≡ accepted r → length e ≤ length out
    → Accepts (tidy s e out) (λ n o. read s (take n o) ≡ accepted r)
can_be_tidied s e out r hb k l =
    let x = extension r catalogue_order in
    let h : length x ≤ length out = omega (arith, shortest s e r hb k) in
    let t : tidy s e out ≡ (accepted (length x), front x out) = tidied s e out r hb k ∙ store_fits x out h in
    subst (λ a. Accepts a (λ n o. read s (take n o) ≡ accepted r)) (sym t) (ap (read s) (stored_front x out) ∙ catalogue_back s e r hb k)

same_bytes_lem :
    (s s' : Side) (e e' out out' o o' : List ℕ) (n n' : ℕ) (r r' : TransportParameters) → Bytes e → Bytes e'
    → read s e ≡ accepted r → read s' e' ≡ accepted r' → tidy s e out ≡ (accepted n, o) → tidy s' e' out' ≡ (accepted n', o')
    → (take n o ≡ take n' o') ↔ (r ≡ r')
same_bytes_lem s s' e e' out out' o o' n n' r r' hb hb' k k' t t' =
    let a = tidy_stored s e out o n r hb k t in
    let a' = tidy_stored s' e' out' o' n' r' hb' k' t' in (
      λ q.
          let x : extension r catalogue_order ≡ extension r' catalogue_order = sym a.are ∙ q ∙ a'.are in
          same_record s s' (extension r catalogue_order) r r' (catalogue_back s e r hb k) (ap (read s') x ∙ catalogue_back s' e' r' hb' k'),
      λ q. a.are ∙ ap (λ x. extension x catalogue_order) q ∙ sym a'.are,
    )

tidy_again :
    (s : Side) (e out o : List ℕ) (n : ℕ) → Bytes e → tidy s e out ≡ (accepted n, o) → (out' : List ℕ) → n ≤ length out'
    → tidy s (take n o) out' ≡ (accepted n, front (take n o) out')
unfolding tidy
tidy_again s e out o n hb t out' h = go (read s e) refl t
  where
    again : (r : TransportParameters) → read s e ≡ accepted r → Stored (extension r catalogue_order) n o → tidy s (take n o) out' ≡ (accepted n, front (take n o) out')
    again r k a =
        let l = accepted_legal s e r hb k in
        let w : well_formed r ≡ true = unfold legal in all_at _ l.0 0 in
        let b : read s (take n o) ≡ accepted r = ap (read s) a.are ∙ catalogue_back s e r hb k in
        let f : length (extension r catalogue_order) ≤ length out' = omega (arith, a.count) in
        tidy_formed s (take n o) out' r b w l.1 ∙ store_fits (extension r catalogue_order) out' f ∙ rw (a.count, a.are)

    go : (x : Outcome TransportParameters) → read s e ≡ x → tidy_from x out ≡ (accepted n, o) → tidy s (take n o) out' ≡ (accepted n, front (take n o) out')
    go (accepted r) k t = again r k (tidy_stored s e out o n r hb k (ap (λ x. tidy_from x out) k ∙ t))
    go (refused m) k t =
        let p : ◌≡◌ {A = Outcome ℕ} (refused m) (accepted n) = ap (λ (a : Outcome ℕ × List ℕ). a.0) t in
        cc

no_shorter :
    (s s' : Side) (e e' out o : List ℕ) (n : ℕ) (r : TransportParameters) → Bytes e → Bytes e' → tidy s e out ≡ (accepted n, o)
    → read s e ≡ accepted r → read s' e' ≡ accepted r → n ≤ length e'
no_shorter s s' e e' out o n r hb hb' t k k' = omega (arith, (tidy_stored s e out o n r hb k t).count, shortest s' e' r hb' k')

pub canonical_form : CanonicalForm
canonical_form =
    record {
      reads_back = reads_back;
      whole = whole;
      once = once;
      unknown_skipped = unknown_skipped;
      tidies = can_be_tidied;
      canonical = same_bytes_lem;
      stable = tidy_again;
      shortest = no_shorter;
    }
