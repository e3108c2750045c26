-- The code's answers in the definitions' terms, and the number that a fault is refused with.
use Rattle.std.specs.Prelude.{Result as Answer, Ok, Err}
use Rattle.refusal.specs.Outcome.{Result, accepted, refused, Outcome}
use Rattle.refusal.specs.Number.{number_of}
use Rattle.refusal.specs.declared.Refusal.{Refusal}
use Rattle.refusal.specs.declared.Refusal.TheVariants as refusal
use Rattle.front.specs.declared.Fault.{Fault}
use Rattle.front.specs.declared.Fault.TheVariants.{Cut, SecondCopy, Misfit, Illegal}

abbrev pub refused_with : Fault → Refusal
refused_with Cut = refusal.Cut
refused_with SecondCopy = refusal.SecondCopy
refused_with Misfit = refusal.Misfit
refused_with Illegal = refusal.IllegalValue

abbrev pub numbered : {A : Type 0} → Result Fault A → Outcome A
numbered (accepted a) = accepted a
numbered (refused f) = refused (number_of (refused_with f))

abbrev pub fault_outcome : {A : Type 0} → Answer A Fault → Result Fault A
fault_outcome (Ok a) = accepted a
fault_outcome (Err f) = refused f
