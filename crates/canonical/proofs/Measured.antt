-- The length of a record that was read. Assumes nothing.
--     tidied_length    tidying stores so many bytes
--     least_length     and no extension with the record is shorter
use Prim.Native.Nat.{ℕ, ◌≤◌}
use mathlib.Core.Path.{◌≡◌, ap, sym, ◌∙◌}
use mathlib.Core.List.{List}
use mathlib.Core.Bool.{true}
use native.Mathlib.Omega.{arith}
use lib.ListN.{length}
use Rattle.refusal.specs.Outcome.{accepted}
use Rattle.refusal.proofs.Laws.{all_at}
use Rattle.record.specs.declared.TransportParameters.{TransportParameters}
use Rattle.record.specs.Record.{well_formed}
use Rattle.rules.specs.declared.Side.{Side}
use Rattle.rules.specs.Rules.{legal}
use Rattle.record.specs.Values.{Bytes}
use Rattle.reader.specs.Reading.{read}
use Rattle.reader.proofs.Laws.{accepted_legal}
use Rattle.order.specs.Order.{catalogue_order}
use Rattle.order.proofs.Orders.{in_catalogue}
use Rattle.writer.specs.Writing.{extension, length_of}
use Rattle.writer.proofs.Extension.{length_extension}
use Rattle.tidy.specs.Tidying.{tidy}
use Rattle.canonical.proofs.Written.{shortest}
use Rattle.canonical.proofs.Theorem.{tidy_stored}

module _ (s : Side) (e : List ℕ) (r : TransportParameters) (hb : Bytes e) (k : read s e ≡ accepted r) where
  as_written : length_of r ≡ accepted (length (extension r catalogue_order))
  unfolding length_of
  as_written =
      let w : well_formed r ≡ true = unfold legal in all_at _ (accepted_legal s e r hb k).0 0 in
      rw w (ap accepted (sym (length_extension r catalogue_order in_catalogue)))

  pub tidied_length : (out o : List ℕ) (n : ℕ) → tidy s e out ≡ (accepted n, o) → length_of r ≡ accepted n
  tidied_length out o n t = as_written ∙ ap accepted (tidy_stored s e out o n r hb k t).count

  pub least_length : (n : ℕ) → length_of r ≡ accepted n → n ≤ length e
  least_length n h = let c : accepted n ≡ accepted (length (extension r catalogue_order)) = sym h ∙ as_written in let d : n ≡ length (extension r catalogue_order) = cc in omega (arith, shortest s e r hb k)
