-- `version_information::put_version` meets its contract. Assumes nothing.
use Prim.Native.Nat.{ℕ, ◌+◌, ◌-◌}
use borrow.Author.Rules.{rules}
use native.Mathlib.Omega.{arith}
use mathlib.Core.Path.{◌≡◌, refl, sym, ◌∙◌}
use mathlib.Core.List.{List, append_assoc}
use lib.ListN.{take, drop}
use Rattle.std.proofs.lemmas.Slice.{put_mid-paste}
use Rattle.std.proofs.lemmas.List.Edits.{paste_all, sets-eq}
use Rattle.words.specs.Words.{bytes_of}
use Rattle.version_information.proofs.put_version.Goals as goal

pub returns : goal.returns
returns c =
    let a = c.args in
    let bs : List ℕ = bytes_of 4 a.version in
    let e : c.to_be_bytes.result ≡ bs = search rules in
    let s = a.out.now in
    put_mid-paste a.at (a.at + 4 - a.at) s c.copy_from_slice.new.self bs 4 (c.copy_from_slice.ensures.after ∙ e) (omega arith) refl
    ∙ (paste_all s a.at bs 4 refl ∙ (sym (append_assoc (take a.at s) bs (drop (a.at + 4) s)) ∙ sym (sets-eq bs s a.at (omega (arith, c.told-out, c.requires)))))
