-- `version_information::available_of` meets its contract. Assumes nothing.
use Prim.Native.Nat.{◌*◌}
use mathlib.Core.Path.{ap, sym, ◌∙◌}
use native.Mathlib.Omega.{arith}
use lib.ListN.{drop, take}
use lib.Seq.{ext_get_or, drop-drop}
use Rattle.words.specs.Words.{value_from, numbers_of}
use Rattle.words.proofs.Numbers.{numbers_long, numbers_at}
use Rattle.version_information.proofs.available_of.Goals as goal

pub returns : goal.returns
returns c =
    let l = c.loop-i in
    let s = c.args.bytes.now in
    ext_get_or 0 l.x-items (numbers_of 4 16 (drop 4 s)) (omega (arith, c.loop-i-test.array_long, numbers_long 4 16 (drop 4 s))) λ k h.
    l.invariant k (omega arith)
    ∙ ap (λ t. value_from 0 (take 4 t)) (ap (λ n. drop n s) (omega arith) ∙ sym (drop-drop (k * 4) 4 s))
    ∙ sym (numbers_at 4 16 k (drop 4 s) (omega arith))
