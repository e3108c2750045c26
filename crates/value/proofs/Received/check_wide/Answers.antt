-- `value::Received::check_wide` meets its contract: the kind tells the bounds of the length.
-- Assumes nothing.
use mathlib.Core.Path.{refl, ap, ◌∙◌}
use mir.Val.{bool_byte}
use Rattle.value.proofs.Checks.{wide}
use Rattle.value.proofs.Received.check_wide.Goals as goal

pub returns : goal.returns
returns c =
    let a = c.args.self in
    let w = c.decode_wide-x in
    let i = c.from-is_number.ensures ∙ ap bool_byte c.is_marked.ensures in
    let j = c.from-is_cid.ensures ∙ ap bool_byte c.is_marked-2.ensures in
    wide a.start a.len w.result a.rest.now c.requires.0 c.requires.1 w.ensures.0 a.place _ _ _ _ _ _ _ _ c.requires.2 i j c.from-is_token.ensures refl c.fits_if.ensures (λ e. (rw e refl, rw e refl, rw e refl)) (λ e. (rw e refl, rw e refl, rw e refl))
