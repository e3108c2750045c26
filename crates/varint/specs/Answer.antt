-- What converting a number gives, the code's answer in the definitions' terms: the number, or the
-- number of the refusal.
use Rattle.std.specs.Prelude.{ℕ, Result as Answer, Ok, Err}
use Rattle.refusal.specs.Outcome.{Outcome, accepted, refused}
use Rattle.refusal.specs.Number.{number_of}
use Rattle.refusal.specs.declared.Refusal.{Refusal}
use Rattle.varint.specs.declared.VarInt.{VarInt}

abbrev pub convert_outcome : Answer VarInt Refusal → Outcome ℕ
convert_outcome (Ok x) = accepted x.0
convert_outcome (Err r) = refused (number_of r)
