-- What the code answers at each `return`, as the definitions have it. Assumes nothing.
use Prim.Native.Nat.{ℕ, ◌+◌, ◌≤◌}
use mathlib.Core.List.{List}
use mathlib.Core.Path.{◌≡◌, ap, sym, ◌∙◌}
use mathlib.Core.Bool.{Bool, true, false, false≢true}
use native.Mathlib.Omega.{arith}
use lib.ListN.{length, take, replicate}
use Rattle.refusal.specs.Outcome.{Outcome, accepted, refused, pick, store}
use Rattle.catalogue.specs.Catalogue.{places}
use Rattle.record.specs.declared.TransportParameters.{TransportParameters}
use Rattle.record.specs.declared.WriteOrder.{WriteOrder}
use Rattle.record.specs.Record.{well_formed}
use Rattle.order.specs.Order.{permutation, catalogue_order}
use Rattle.order.proofs.Orders.{in_catalogue}
use Rattle.wire.specs.Wire.{put}
use Rattle.wire.specs.Stored.{Wrote, each}
use Rattle.wire.proofs.Stored.{wrote_length, whole_part, stored_whole}
use Rattle.wire.proofs.Put.{put_wrote}
use Rattle.writer.specs.Writing.{parameter_at, concat_of, max_extension, extension, order_of, write}
use Rattle.writer.specs.Laid.{laid, part_at, InOrder, bytes_in, Ready}
use Rattle.writer.proofs.Extension.{length_extension, longest}
use Rattle.writer.proofs.Laid.{Whole, whole_laid}
use Rattle.writer.proofs.Places.{in_catalogue_order}
use Rattle.writer.proofs.Ordered.{ordered, in_order}

-- what was laid in catalogue order is what is due, in any order
module _ (r : TransportParameters) (w : well_formed r ≡ true) (n : ℕ) (out m st : List ℕ) (h : max_extension ≤ length out)
    (p : permutation (order_of r.write_order) ≡ true) (e : (n, m, st) ≡ laid (each (parameter_at r) places) 1 0 out (replicate (places + 1) 0)) where
  abbrev o : WriteOrder
  o = r.write_order

  kept : Whole (each (parameter_at r) places) out (replicate (places + 1) 0) n m st
  kept = whole_laid (each (parameter_at r) places) n out (replicate (places + 1) 0) m st (rw (in_catalogue_order r) (longest r catalogue_order w in_catalogue)) h e

  count : n ≡ length (extension r catalogue_order)
  count = kept.wrote.count ∙ ap length (in_catalogue_order r)

  any_order : n ≡ length (extension r (order_of o))
  any_order = count ∙ length_extension r catalogue_order in_catalogue ∙ sym (length_extension r (order_of o) p)

  by_cases : (P : Bool → List ℕ → Type 0) → (permutation o.places ≡ true → P true o.places) → P false catalogue_order → P o.present (order_of o)
  unfolding order_of
  by_cases P f g = go o.present p
    where
      go : (b : Bool) → permutation (pick b o.places catalogue_order) ≡ true → P b (pick b o.places catalogue_order)
      go true q = f q
      go false q = g

  pub due : max_extension + 16 ≤ length out → bytes_in n o.present o.places st m ≡ extension r (order_of o)
  unfolding bytes_in
  due b =
      by_cases (λ b os. bytes_in n b o.places st m ≡ extension r os) (λ q. ordered r o.places n out m st q b kept)
      (whole_part max_extension n _ out m kept.wrote ∙ in_catalogue_order r)

  pub ready : max_extension + 16 ≤ length out → Ready n o.present o.places st m
  ready b =
      record {
        count = any_order ∙ ap length (sym (due b));
        within = omega (arith, kept.wrote.few, wrote_length max_extension n _ out m h kept.wrote);
        in_order = by_cases (λ b os. b ≡ true → InOrder o.places st m) (λ q _. in_order r o.places n out m st q b kept) (λ z. absurd (false≢true z));
      }

-- storing it
module _ (n : ℕ) (order starts parts out : List ℕ) where
  pub laid_count : (present : Bool) → present ≡ true → Ready n present order starts parts → n ≡ length (concat_of (part_at starts parts) order)
  unfolding bytes_in
  laid_count present e d = rw e at d.count

  pub laid_ordered : (present : Bool) (p k : ℕ) (m : List ℕ) → present ≡ true → Ready n present order starts parts → n ≤ length out
      → Wrote p (concat_of (part_at starts parts) order) out k m → ◌≡◌ {A = Outcome ℕ × List ℕ} (accepted k, m) (store (bytes_in n present order starts parts) out)
  unfolding bytes_in
  laid_ordered present p k m e d l x = rw e (stored_whole p k _ out m (omega (arith, rw e at d.count)) x)

  -- a copy of the first n bytes is all of them
  copied : (present : Bool) (k : ℕ) (m : List ℕ) → present ≡ false → Ready n present order starts parts → n ≤ length out
      → (k, m) ≡ put (take n parts) out → Wrote (length out) (take n parts) out k m × (n ≡ length (take n parts))
  unfolding bytes_in
  copied present k m e d l x =
      let c : n ≡ length (take n parts) = rw e at d.count in (
        put_wrote (length out) k (take n parts) out m (omega arith) (omega arith) x,
        c,
      )

  pub copied_count : (present : Bool) (k : ℕ) (m : List ℕ) → present ≡ false → Ready n present order starts parts → n ≤ length out
      → (k, m) ≡ put (take n parts) out → k ≡ n
  copied_count present k m e d l x = let w = copied present k m e d l x in omega (arith, w.0.count, w.1)

  pub laid_plain : (present : Bool) (j k : ℕ) (m : List ℕ) → j ≡ n → present ≡ false → Ready n present order starts parts → n ≤ length out
      → (k, m) ≡ put (take n parts) out → ◌≡◌ {A = Outcome ℕ × List ℕ} (accepted j, m) (store (bytes_in n present order starts parts) out)
  unfolding bytes_in
  laid_plain present j k m i e d l x =
      let w = copied present k m e d l x in
      let c : j ≡ k = omega (arith, w.0.count, w.1) in
      rw (e, c) (stored_whole (length out) k _ out m (omega (arith, w.1)) w.0)

-- writing
module _ (r : TransportParameters) (out : List ℕ) where
  pub write_ill : well_formed r ≡ false → ◌≡◌ {A = Outcome ℕ × List ℕ} (refused 7, out) (write r out)
  unfolding write
  write_ill h = rw h

  pub write_invalid : well_formed r ≡ true → permutation (order_of r.write_order) ≡ false → ◌≡◌ {A = Outcome ℕ × List ℕ} (refused 6, out) (write r out)
  unfolding write
  write_invalid h q = rw (h, q)

  pub write_stored : well_formed r ≡ true → permutation (order_of r.write_order) ≡ true → store (extension r (order_of r.write_order)) out ≡ write r out
  unfolding write
  write_stored h q = rw (h, q)
