-- `image::put_numbers` meets its contract. The invariant: the first `i` numbers are stored. Assumes
-- nothing.
use mathlib.Core.Path.{◌≡◌}
use lib.ListN.{take}
use lib.Seq.{sets}
use Rattle.image.specs.Image.{numbers_image}
use Rattle.image.proofs.put_numbers.Given as goal

abbrev pub invariant-loop-i : goal.invariant-loop-i
invariant-loop-i l = l.out ≡ sets l.initial.out 0 (numbers_image (take l.i l.numbers))
