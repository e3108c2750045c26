-- `words::word_at` meets its contract: the bytes make the word. Assumes nothing.
use Prim.Native.Nat.{◌+◌}
use mathlib.Core.Path.{◌≡◌, ◌∙◌}
use native.Mathlib.Omega.{arith}
use lib.ListN.{length, take, drop, length-drop}
use borrow.Author.Tests.{le-leb}
use lib.Seq.{length-take-le}
use Rattle.words.proofs.Laws.{le_word, bytes_part}
use Rattle.words.proofs.word_at.Goals as goal

pub returns : goal.returns
returns c =
    let a = c.args in
    let s = a.s.now in
    let b : c.bytes_at.result ≡ take 8 (drop a.at s) = c.bytes_at.ensures ∙ rw (le-leb (a.at + 8) (length s) c.requires) in
    let e = rw b at c.from_le_bytes.ensures in
    le_word (take 8 (drop a.at s)) _ (length-take-le 8 (drop a.at s) (omega (arith, length-drop a.at s))) (bytes_part 8 a.at s (λ i. (c.type_inv.s i).fits)) e
