-- The length of a record is what writing it stores, in every order; proved. Assumes nothing.
use Prim.Native.Nat.{ℕ, ◌≤◌, ◌<◌}
use mathlib.Core.Path.{◌≡◌, refl, ap, sym, ◌∙◌}
use mathlib.Core.List.{List, [], ◌∷◌, ◌++◌}
use mathlib.Core.Logic.{◌↔◌}
use mathlib.Core.Bool.{Bool, true, false}
use native.Mathlib.Omega.{arith}
use lib.ListN.{length}
use borrow.Author.Tests.{eqb-true, eq-eqb}
use Rattle.refusal.specs.Outcome.{Outcome, accepted, refused, pick, all, front, store}
use Rattle.refusal.proofs.Laws.{all_at, picked}
use Rattle.refusal.proofs.Store.{Answered, not_refused, refused_same, store_fits, store_short, store_five, stored}
use Rattle.catalogue.specs.Catalogue.{places}
use Rattle.catalogue.specs.Sum.{sum}
use Rattle.record.specs.declared.TransportParameters.{TransportParameters}
use Rattle.record.specs.Fields.{order_from}
use Rattle.record.specs.Record.{formed_order, well_formed}
use Rattle.order.specs.Order.{permutation, catalogue_order}
use Rattle.order.proofs.Orders.{in_catalogue}
use Rattle.record.specs.Values.{other_values, values_of}
use Rattle.writer.specs.Writing.{parameter_at, extension, max_extension, order_of, write, length_of}
use Rattle.writer.proofs.Extension.{length_extension, longest, longest_record, reached}
use Rattle.length.specs.Measure.{drawn, Measure}

-- tests of which the last is another
all_last : (l : List Bool) (x y : Bool) → all (l ++ (x ∷ [])) ≡ true → y ≡ true → all (l ++ (y ∷ [])) ≡ true
unfolding all
all_last [] x y h k = rw k
all_last (true ∷ l) x y h k = all_last l x y h k
all_last (false ∷ l) x y h k = cc

-- a record that was measured
module _ (r : TransportParameters) (n : ℕ) (h : length_of r ≡ accepted n) where
  is : (well_formed r ≡ true) × (sum places (λ p. length (parameter_at r p)) ≡ n)
  unfolding length_of
  is = picked (well_formed r) (sum places (λ p. length (parameter_at r p))) n 7 h (λ w e. (w, e))

  -- its parameters in an order
  as_long : (os : List ℕ) → permutation os ≡ true → length (extension r os) ≡ n
  as_long os p = length_extension r os p ∙ is.1

  -- in the order that it holds
  held : permutation (order_of r.write_order) ≡ true → (out : List ℕ) → write r out ≡ store (extension r (order_of r.write_order)) out
  unfolding write
  held p out = rw (is.0, p)

  -- with another order
  module _ (os : List ℕ) (l : length os ≡ places) where
    ordered : formed_order (order_from true os) ≡ true
    unfolding formed_order all
    ordered = rw (eq-eqb (length os) places l)

    still_formed : well_formed (drawn r os) ≡ true
    unfolding well_formed drawn
    still_formed = all_last (_ ∷ _ ∷ _ ∷ _ ∷ _ ∷ _ ∷ _ ∷ _ ∷ _ ∷ _ ∷ _ ∷ []) _ _ is.0 ordered

    same_length : length_of (drawn r os) ≡ accepted n
    unfolding length_of drawn parameter_at values_of other_values
    same_length = rw still_formed (ap accepted is.1)

  -- which is drawn
  module _ (os : List ℕ) (p : permutation os ≡ true) where
    as_many : length os ≡ places
    unfolding permutation
    as_many = eqb-true _ _ (all_at _ p 0)

    same : extension (drawn r os) os ≡ extension r os
    unfolding extension drawn parameter_at values_of other_values
    same = refl

    later : (out : List ℕ) → write (drawn r os) out ≡ store (extension r os) out
    unfolding write order_of drawn
    later out = rw (still_formed os as_many, p) (ap (λ x. store x out) same)

  at_most : n ≤ max_extension
  at_most = omega (arith, as_long catalogue_order in_catalogue, longest r catalogue_order is.0 in_catalogue)

-- what writing counted
was_counted : (r : TransportParameters) (out out' : List ℕ) (n : ℕ) → write r out ≡ (accepted n, out') → length_of r ≡ accepted n
unfolding write length_of
was_counted r out out' n e = go (well_formed r) (permutation os) refl e
  where
    os : List ℕ
    os = order_of r.write_order

    go : (a b : Bool) → permutation os ≡ b → pick {A = Answered} a (pick b (store (extension r os) out) (refused 6, out)) (refused 7, out) ≡ (accepted n, out')
        → pick {A = Outcome ℕ} a (accepted (sum places (λ p. length (parameter_at r p)))) (refused 7) ≡ accepted n
    go true true p e = ap accepted (sym (length_extension r os p) ∙ (stored (extension r os) out out' n e).count)
    go true false p e = not_refused _ _ _ _ (sym e)
    go false b p e = not_refused _ _ _ _ (sym e)

ill_formed : (r : TransportParameters) (out : List ℕ) → (length_of r ≡ refused 7) ↔ (write r out ≡ (refused 7, out))
unfolding write length_of
ill_formed r out = (λ e. there (well_formed r) e, λ e. back (well_formed r) (permutation os) e)
  where
    os : List ℕ
    os = order_of r.write_order

    there : (a : Bool) → pick {A = Outcome ℕ} a (accepted (sum places (λ p. length (parameter_at r p)))) (refused 7) ≡ refused 7
        → pick {A = Answered} a (pick (permutation os) (store (extension r os) out) (refused 6, out)) (refused 7, out) ≡ (refused 7, out)
    there true e = cc
    there false e = refl

    back : (a b : Bool) → pick {A = Answered} a (pick b (store (extension r os) out) (refused 6, out)) (refused 7, out) ≡ (refused 7, out)
        → pick {A = Outcome ℕ} a (accepted (sum places (λ p. length (parameter_at r p)))) (refused 7) ≡ refused 7
    back true true e = absurd (omega (arith, store_five (extension r os) out out 7 e))
    back true false e = absurd (omega (arith, refused_same 6 7 _ _ e))
    back false b e = refl

-- storing what is n bytes long
fits : (bs out : List ℕ) (n : ℕ) (w : Answered) → length bs ≡ n → w ≡ store bs out → n ≤ length out → w ≡ (accepted n, front bs out)
fits bs out n w e s h = s ∙ rw e at (store_fits bs out (omega arith))

too_short : (bs out : List ℕ) (n : ℕ) (w : Answered) → length bs ≡ n → w ≡ store bs out → (w ≡ (refused 5, out)) ↔ (length out < n)
too_short bs out n w e s = rw (s, ← e) (store_short bs out)

-- some record is as long as the longest extension
longest_length : length_of longest_record ≡ accepted max_extension
unfolding length_of
longest_length = rw (reached.0, ← length_extension longest_record catalogue_order in_catalogue) (ap accepted reached.1)

pub measure : Measure
measure =
    record {
      stored = λ r os out n h p. fits (extension r os) out n _ (as_long r n h os p) (later r n h os p out);
      too_short = λ r os out n h p. too_short (extension r os) out n _ (as_long r n h os p) (later r n h os p out);
      stored_held = λ r out n h p. fits _ out n _ (as_long r n h (order_of r.write_order) p) (held r n h p out);
      too_short_held = λ r out n h p. too_short _ out n _ (as_long r n h (order_of r.write_order) p) (held r n h p out);
      counted = was_counted;
      ill_formed = ill_formed;
      any_order = λ r os n h l. same_length r n h os l;
      at_most = at_most;
      longest = (longest_record, longest_length);
    }
