-- `writer::Draft::number` meets its contract. Assumes nothing.
use borrow.Author.Rules.{rules}
use Prim.Native.Nat.{ℕ}
use native.Mathlib.Omega.{arith}
use mathlib.Core.Bool.{Bool}
use mathlib.Core.List.{List}
use mathlib.Core.Path.{◌≡◌}
use lib.ListN.{length}
use Rattle.catalogue.specs.Catalogue.{ids, id_at}
use Rattle.record.specs.Record.{is_present}
use Rattle.laying.specs.Laying.{laid_number}
use Rattle.writer.proofs.Parts.{number_due, added_fits, added}
use Rattle.writer.proofs.Draft.number.Goals as goal

pub overflow_add-end : goal.overflow_add-end
overflow_add-end c =
    let long : length c.args.self.now.parts ≡ 417 = search rules in
    added_fits c.requires 417 long _ _ _ (number_due c.requires 417 long _ _ _ _ _ c.lay_number.ensures) (omega arith)

-- what is due where another is, is laid as that
as_due : (d d' : Bool) (id y n : ℕ) (ys s : List ℕ) → d ≡ d' → (n, ys) ≡ laid_number d id y s → (n, ys) ≡ laid_number d' id y s
as_due d d' id y n ys s e h = rw e at h

pub returns : goal.returns
unfolding id_at ids
returns c =
    let long : length c.args.self.now.parts ≡ 417 = search rules in
    let laid = as_due _ (is_present c.args.o) _ _ _ _ _ (search rules) (rw c.unwrap_or.ensures at c.lay_number.ensures) in
    added c.requires 417 long _ _ _ (number_due c.requires 417 long _ _ _ _ _ laid) _
