-- How the code goes about it: nothing to believe, since the contract of `reader::read` is an
-- equation with `read` (reader/specs/Reading.antt). What a test decides of a value.
use Rattle.std.specs.Prelude.{Bool}
use Rattle.refusal.specs.Outcome.{Result, accepted, refused, pick}
use Rattle.front.specs.declared.Fault.{Fault}
use Rattle.front.specs.declared.Fault.TheVariants.{Misfit}
use Rattle.value.specs.declared.Held.{Held}

abbrev pub judged : Bool → Held → Result Fault Held
judged t a = pick t (accepted a) (refused Misfit)
