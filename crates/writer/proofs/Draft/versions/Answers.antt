-- `writer::Draft::versions` meets its contract. Assumes nothing.
use borrow.Author.Rules.{rules}
use native.Mathlib.Omega.{arith}
use mathlib.Core.Path.{◌≡◌}
use lib.ListN.{length}
use Rattle.writer.proofs.Parts.{added_fits, added}
use Rattle.writer.proofs.Draft.versions.Goals as goal

pub overflow_add-end : goal.overflow_add-end
overflow_add-end c =
    let long : length c.args.self.now.parts ≡ 417 = search rules in
    added_fits c.requires.1 417 long _ _ _ c.put_versions.ensures (omega arith)

pub returns : goal.returns
returns c =
    let long : length c.args.self.now.parts ≡ 417 = search rules in
    added c.requires.1 417 long _ _ _ c.put_versions.ensures _
