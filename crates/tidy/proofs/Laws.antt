-- Laws of tidying. Assumes nothing.
--     tidy_formed     tidying stores the parameters of the record that was read, in catalogue
--                     order, if the record is well formed
--     tidied          as each is that was read
use Prim.Native.Nat.{ℕ}
use mathlib.Core.Path.{◌≡◌, refl, ap, ◌∙◌}
use mathlib.Core.List.{List}
use mathlib.Core.Bool.{true}
use Rattle.refusal.specs.Outcome.{accepted, store}
use Rattle.refusal.proofs.Laws.{all_at}
use Rattle.record.specs.declared.TransportParameters.{TransportParameters}
use Rattle.rules.specs.declared.Side.{Side}
use Rattle.record.specs.Values.{Bytes, no_order}
use Rattle.record.specs.Record.{well_formed, bare}
use Rattle.rules.specs.Rules.{legal}
use Rattle.reader.specs.Reading.{read}
use Rattle.reader.proofs.Laws.{accepted_legal}
use Rattle.writer.specs.Writing.{extension, order_of, write}
use Rattle.order.specs.Order.{catalogue_order}
use Rattle.order.proofs.Orders.{in_catalogue}
use Rattle.tidy.specs.Tidying.{tidy_from, tidy}

written_bare : (r : TransportParameters) (out : List ℕ) → well_formed (bare r) ≡ true → write (bare r) out ≡ store (extension (bare r) catalogue_order) out
unfolding write
written_bare r out h = rw (h, o, in_catalogue)
  where
    o : order_of (bare r).write_order ≡ catalogue_order
    o = unfold order_of bare no_order in refl

pub tidy_formed : (s : Side) (bs out : List ℕ) (r : TransportParameters) → read s bs ≡ accepted r → well_formed r ≡ true → bare r ≡ r
    → tidy s bs out ≡ store (extension r catalogue_order) out
unfolding tidy
tidy_formed s bs out r e w b =
    ap (λ o. tidy_from o out) e ∙ written_bare r out (ap well_formed b ∙ w) ∙ ap (λ (x : TransportParameters). store (extension x catalogue_order) out) b

pub tidied : (s : Side) (bs out : List ℕ) (r : TransportParameters) → Bytes bs → read s bs ≡ accepted r → tidy s bs out ≡ store (extension r catalogue_order) out
unfolding legal
tidied s bs out r hb e = let k = accepted_legal s bs r hb e in tidy_formed s bs out r e (all_at _ k.0 0) k.1
