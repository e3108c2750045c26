-- `laying::put_wide` meets its contract. Assumes nothing.
use Rattle.laying.proofs.Wide.{wide_stored, wide_room}
use mathlib.Core.Path.{refl, ◌∙◌}
use Rattle.laying.proofs.put_wide.Goals as goal

pub returns : goal.returns
returns c =
    let o = c.args.out.now in
    let w = wide_stored c.args.x _ _ _ o c.tag_of-tag.ensures refl (c.copy_from_slice.ensures.after ∙ c.wide_form.ensures) in
    record { count = w.0; stored = w.1; room = wide_room c.args.x _ o _ c.requires.1 w.0 w.1 }
