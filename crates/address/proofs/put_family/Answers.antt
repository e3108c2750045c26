-- `address::put_family` meets its contract. Assumes nothing.
use mathlib.Core.Path.{◌≡◌, ◌∙◌}
use lib.ListN.{length}
use borrow.Author.Rules.{rules}
use Rattle.record.specs.Values.{of_address}
use Rattle.address.proofs.Address.{family_wrote}
use Rattle.address.proofs.put_family.Goals as goal

pub returns : goal.returns
returns g c =
    let long : length c.args.a.now.ip ≡ g.row.N = search rules in
    family_wrote g.row.N (of_address c.args.a.now) c.args.out.now _ _ long c.requires c.copy_from_slice.ensures.after (c.copy_from_slice-2.ensures.after ∙ c.to_be_bytes.ensures)
