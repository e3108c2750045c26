-- The code's answers in the definitions' terms, for every operation.
use Rattle.std.specs.Prelude.{Result as Answer, Ok, Err}
use Rattle.refusal.specs.Outcome.{Outcome, accepted, refused}
use Rattle.refusal.specs.Number.{number_of}
use Rattle.refusal.specs.declared.Refusal.{Refusal}

abbrev pub outcome_of : {A : Type 0} → Answer A Refusal → Outcome A
outcome_of (Ok a) = accepted a
outcome_of (Err r) = refused (number_of r)

-- the value that an outcome comes with: a refusal's is the one given
abbrev pub value_or : {A : Type 0} → A → Outcome A → A
value_or d (accepted a) = a
value_or d (refused e) = d
