-- `writer::Draft::field` meets its contract. Assumes nothing.
use borrow.Author.Rules.{rules}
use native.Mathlib.Omega.{arith}
use mathlib.Core.Path.{◌≡◌}
use lib.ListN.{length}
use Rattle.writer.proofs.Parts.{field_due, added_fits, added}
use Rattle.writer.proofs.Draft.field.Goals as goal

pub overflow_add-end : goal.overflow_add-end
overflow_add-end c =
    let long : length c.args.self.now.parts ≡ 417 = search rules in
    added_fits c.requires.1 417 long _ _ _ (field_due c.requires.1 417 long _ _ _ _ _ _ c.requires.0 c.lay_field.ensures) (omega arith)

pub returns : goal.returns
returns c =
    let long : length c.args.self.now.parts ≡ 417 = search rules in
    added c.requires.1 417 long _ _ _ (field_due c.requires.1 417 long _ _ _ _ _ _ c.requires.0 c.lay_field.ensures) _
