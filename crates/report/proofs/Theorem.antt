-- The counts of a report account for every byte, proved. Assumes nothing.
use Prim.Native.Nat.{ℕ}
use mathlib.Core.Path.{◌≡◌, refl, ap, sym, ◌∙◌}
use mathlib.Core.List.{List, Permᴰ}
use mathlib.Core.Logic.{◌↔◌, ∥∥₁_elim}
use mathlib.Core.Option.{none, some}
use mathlib.Core.Bool.{Bool, true, false}
use native.Mathlib.Nat.{ℕ_set}
use native.Mathlib.Omega.{arith}
use lib.ListN.{length}
use lib.Dec.{ltb, leb}
use borrow.Author.Tests.{ltb-true}
use Rattle.refusal.specs.Outcome.{Outcome, accepted, refused, pick, front, store}
use Rattle.refusal.proofs.Laws.{inverted, declined}
use Rattle.varint.specs.Number.{read_number}
use Rattle.catalogue.specs.Catalogue.{places, place_of, id_at, kind_at, parameter_if}
use Rattle.catalogue.proofs.Places.{id_of_place}
use Rattle.record.specs.declared.TransportParameters.{TransportParameters}
use Rattle.record.specs.Values.{Bytes, no_values, value}
use Rattle.rules.specs.declared.Side.{Side}
use Rattle.front.specs.Whole.{Whole, parameters, Rearranged}
use Rattle.front.proofs.Parts.{parameters_concat}
use Rattle.front.proofs.Rearranged.{still_whole}
use Rattle.order.specs.Order.{catalogue_order}
use Rattle.tally.specs.declared.Counts.{Counts}
use Rattle.tally.specs.Tally.{restates, skipped, restated, kept, fate_of, shortest, count_as, count_of, counts, sum_of}
use Rattle.reader.specs.Reading.{parse, read}
use Rattle.reader.proofs.Grow.{grown}
use Rattle.reader.proofs.Laws.{accepts}
use Rattle.reader.proofs.Rearranged.{rearranged}
use Rattle.writer.specs.Writing.{extension}
use Rattle.tidy.proofs.Laws.{tidied}
use Rattle.report.specs.Report.{report}
use Rattle.report.specs.Accounts.{Accounts}
use Rattle.report.proofs.Gains.{gain, read_gains}
use Rattle.report.proofs.Again.{again, size_of_again, size_again}
use Rattle.report.proofs.Counted.{these, counted_whole, complete, places_named}

-- what a report that is accepted says
record Read (s : Side) (e : List ℕ) (c : Counts) : Type 0 where
  r : TransportParameters
  is : read s e ≡ accepted r
  are : counts (parameters e) ≡ c

as_read : (s : Side) (e : List ℕ) (c : Counts) → report s e ≡ accepted c → Read s e c
unfolding report
as_read s e c k = inverted (read s e) _ c k λ r re rf. record { r = r; is = re; are = cc }

read_report : (s : Side) (e : List ℕ) (r : TransportParameters) → read s e ≡ accepted r → report s e ≡ accepted (counts (parameters e))
unfolding report
read_report s e r k = rw k

refused_alike : (s : Side) (e : List ℕ) (n : ℕ) → (report s e ≡ refused n) ↔ (read s e ≡ refused n)
unfolding report
refused_alike s e n = (λ k. declined (read s e) _ n k (λ r. r) (λ r re rf. cc), λ k. rw k)

-- THE TIDIED LENGTH
tidied_gain : (w : List ℕ) (h : Whole w) → (count_of w).tidied ≡ gain size_of_again h.id h.v
unfolding count_of fate_of gain size_of_again again
tidied_gain w h = rw h.is (go (ltb (place_of h.id) places) (restates (place_of h.id) (value (read_number h.v))) refl)
  where
    go : (b c : Bool) → ltb (place_of h.id) places ≡ b
        → (count_as (pick b (pick c restated kept) skipped) h.id h.v w).tidied
        ≡ pick b (length (parameter_if (id_at (place_of h.id)) (pick c none (some (shortest (kind_at (place_of h.id)) h.v))))) 0
    go false c e = refl
    go true true e = refl
    go true false e = rw (id_of_place h.id (ltb-true _ _ e))

none_again : (p : ℕ) → size_of_again p none ≡ 0
unfolding size_of_again again
none_again p = refl

tidied_length : (s : Side) (e : List ℕ) (r : TransportParameters) → Bytes e → read s e ≡ accepted r → (counts (parameters e)).tidied ≡ length (extension r catalogue_order)
unfolding counts
tidied_length s e r hb k =
    let a = accepts s e r k in
    let w = counted_whole s e r k in
    let g = read_gains size_of_again none_again (λ w. (count_of w).tidied) tidied_gain (parameters e) w.0 a.values (ap (parse no_values) w.1 ∙ a.was) in
    rw (← a.is) (g ∙ sym (size_again a.values (grown a.values e hb a.was).0))

-- what storing answers
stored : (bs out : List ℕ) → (store bs out).0 ≡ pick (leb (length bs) (length out)) (accepted (length bs)) (refused 5)
unfolding store
stored bs out = go (leb (length bs) (length out))
  where
    go : (t : Bool) → (pick {A = Outcome ℕ × List ℕ} t (accepted (length bs), front bs out) (refused 5, out)).0 ≡ pick t (accepted (length bs)) (refused 5)
    go true = refl
    go false = refl

-- IN ANY ORDER
sum_moved : (f : List ℕ → ℕ) {ws us : List (List ℕ)} → Permᴰ ws us → sum_of f us ≡ sum_of f ws
sum_moved f Permᴰ.nil = refl
sum_moved f (Permᴰ.cons p d) = let ih = sum_moved f d in rw p (omega arith)
sum_moved f (Permᴰ.swap p q) = rw (p, q) (omega arith)
sum_moved f (Permᴰ.trans d t) = sum_moved f t ∙ sum_moved f d

same_sum : (e e' : List ℕ) → Rearranged e e' → (f : List ℕ → ℕ) → sum_of f (parameters e') ≡ sum_of f (parameters e)
same_sum e e' i f =
    ∥∥₁_elim i.moved (ℕ_set _ _) λ d.
    ap (λ x. sum_of f (parameters x)) (sym i.is')
    ∙ ap (sum_of f) (parameters_concat i.ws' (still_whole d i.composed.each))
    ∙ sum_moved f d
    ∙ sym (ap (sum_of f) (these e i.composed))

same_counts : (e e' : List ℕ) → Rearranged e e' → counts (parameters e') ≡ counts (parameters e)
unfolding counts
same_counts e e' i =
    let same = same_sum e e' i in
    rw (
      same (λ w. (count_of w).tidied),
      same (λ w. (count_of w).skipped),
      same (λ w. (count_of w).restated),
      same (λ w. (count_of w).saved),
      same (λ w. (count_of w).named),
    )

pub accounts : Accounts
accounts =
    record {
      refused_alike = refused_alike;
      whole = λ s e c k. let x = as_read s e c k in counted_whole s e x.r x.is;
      complete = λ s e c hb k. let x = as_read s e c k in rw (← x.are) (complete s e x.r hb x.is);
      tidied = λ s e out c hb k.
          let x = as_read s e c k in
          let n : c.tidied ≡ length (extension x.r catalogue_order) = ap (λ (c : Counts). c.tidied) (sym x.are) ∙ tidied_length s e x.r hb x.is in
          rw n (ap (λ (a : Outcome ℕ × List ℕ). a.0) (tidied s e out x.r hb x.is) ∙ stored (extension x.r catalogue_order) out);
      named_places = λ s e l c k p. let x = as_read s e c k in rw (← x.are) (places_named s e x.r l x.is p);
      any_side = λ s s' e c c' k k'. sym (as_read s e c k).are ∙ (as_read s' e c' k').are;
      any_order = λ s e e' c i k.
          let x = as_read s e c k in
          read_report s e' x.r (rearranged s e e' x.r i x.is) ∙ ap accepted (same_counts e e' i ∙ x.are);
    }
