-- `imaged::numbers_at` meets its contract. Assumes nothing.
use mathlib.Core.Path.{ap, sym, ◌∙◌}
use native.Mathlib.Omega.{arith}
use lib.Seq.{ext_get_or}
use Rattle.words.specs.Words.{numbers_of}
use Rattle.words.proofs.Numbers.{numbers_long, numbers_at}
use Rattle.image.specs.Image.{number_at}
use Rattle.imaged.proofs.numbers_at.Goals as goal

pub returns : goal.returns
returns c =
    let l = c.loop-i in
    let s = c.args.s.now in
    ext_get_or 0 l.x-items (numbers_of 8 11 s) (omega (arith, c.loop-i-test.array_long, numbers_long 8 11 s)) λ k h.
    l.invariant k (omega arith)
    ∙ ap (λ n. number_at n 8 s) (omega arith)
    ∙ sym (numbers_at 8 11 k s (omega arith))
