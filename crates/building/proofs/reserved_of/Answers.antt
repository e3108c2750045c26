-- `building::reserved_of` meets its contract. Assumes nothing.
use borrow.Author.Rules.{rules}
use Prim.Native.Nat.{ℕ, ◌-◌}
use mathlib.Core.Path.{◌≡◌, sym, ◌∙◌}
use mathlib.Core.Bool.{true}
use lib.ListN.{length, drop, replicate}
use Rattle.std.proofs.lemmas.List.{drop-replicate}
use Rattle.building.specs.Building.{draw_fits, reserved_from}
use Rattle.building.proofs.Answers.{draw_facts}
use Rattle.building.proofs.reserved_of.Goals as goal

pub slice_bounds-copy_from_slice-end : goal.slice_bounds-copy_from_slice-end
slice_bounds-copy_from_slice-end c = let k = draw_facts _ _ (sym c.draw_fits.ensures ∙ c.if-not-draw_fits.false) in search rules

pub copy_from_slice-requires : goal.copy_from_slice-requires
copy_from_slice-requires c = let k = draw_facts _ _ (sym c.draw_fits.ensures ∙ c.if-not-draw_fits.false) in search rules

pub returns : goal.returns
unfolding reserved_from
returns c =
    let a = c.args in
    let d : draw_fits a.draw a.payload.now ≡ true = sym c.draw_fits.ensures ∙ c.if-not-draw_fits.false in
    let z : drop {A = ℕ} (length a.payload.now) (replicate 16 0) ≡ replicate {A = ℕ} (16 - length a.payload.now) 0 = drop-replicate (length a.payload.now) 16 0 in
    rw (d, c.reserved_id.ensures, c.copy_from_slice.ensures.after, z)
