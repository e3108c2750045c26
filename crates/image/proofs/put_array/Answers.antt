-- `image::put_array` meets its contract. Assumes nothing.
use Prim.Native.Nat.{◌+◌, ◌-◌}
use native.Mathlib.Omega.{arith}
use borrow.Author.Rules.{rules}
use mathlib.Core.Path.{◌≡◌, refl, sym, ◌∙◌}
use mathlib.Core.List.{append_assoc}
use lib.ListN.{length, take, drop}
use Rattle.std.proofs.lemmas.Slice.{put_mid-paste}
use Rattle.std.proofs.lemmas.List.Edits.{paste_all, sets-eq}
use Rattle.image.proofs.put_array.Goals as goal

pub returns : goal.returns
returns g c =
    let a = c.args in
    let bs = a.bytes in
    let s = a.out.now in
    let long : length bs ≡ g.row.N = search rules in
    put_mid-paste a.at (a.at + g.row.N - a.at) s c.copy_from_slice.new.self bs (length bs) c.copy_from_slice.ensures.after (omega arith) refl
    ∙ (paste_all s a.at bs (length bs) refl ∙ (sym (append_assoc (take a.at s) bs (drop (a.at + length bs) s)) ∙ sym (sets-eq bs s a.at (omega arith))))
