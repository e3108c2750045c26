-- `image::put_family` meets its contract. Assumes nothing.
use Prim.Native.Nat.{◌+◌}
use native.Mathlib.Omega.{arith}
use borrow.Author.Rules.{rules}
use mathlib.Core.Path.{◌≡◌, refl, ap, ◌∙◌}
use lib.Seq.{sets}
use Rattle.words.specs.Words.{bytes_of}
use Rattle.record.specs.Values.{of_address}
use Rattle.image.specs.Image.{family_parts}
use Rattle.image.proofs.Stores.{put, behind, done, laid, flag_stored}
use Rattle.image.proofs.put_family.Goals as goal

pub returns-clause-stored : goal.returns-clause-stored
returns-clause-stored g c =
    let a = c.args.a.now in
    let at = c.args.at in
    let port : c.to_be_bytes.result ≡ bytes_of 2 a.port = search rules in
    laid c.args.out.now at (family_parts (of_address a))
    (behind {k = at + 1 + g.row.N} c.put_behind.ensures.stored (flag_stored a.present c.from.ensures) refl (omega arith)
    (put (c.put_array.ensures ∙ ap (sets c.put_behind.new.out (at + 1 + g.row.N)) port) refl done))
