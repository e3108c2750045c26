-- How the code goes about it: nothing to believe, since the contract of `reader::read` is an
-- equation with `read` (reader/specs/Reading.antt). Its answers in the definitions' terms.
use Rattle.std.specs.Prelude.{ℕ, List, Option as Maybe, None, Some, Result as Answer, Ok, Err}
use Rattle.std.proofs.Math.Option.{Option, none, some}
use Rattle.refusal.specs.Outcome.{Result, accepted, refused}
use Rattle.front.specs.declared.Fault.{Fault}
use Rattle.index.specs.declared.Entries.{Entries}
use Rattle.index.specs.Index.{Found}

-- the marks, with what stands in the arrays
abbrev pub found_of : Entries → Found
found_of e = (e.marks, e.kept, e.lens)

abbrev pub scan_outcome : {A : Type 0} → Answer A Fault → Entries → Result Fault Found
scan_outcome (Ok a) e = accepted (found_of e)
scan_outcome (Err f) e = refused f

-- what is found, of what an answer gives
abbrev pub index_outcome : {K : Type 0} → (K → Found) → Answer K Fault → Result Fault Found
index_outcome found (Ok k) = accepted (found k)
index_outcome found (Err f) = refused f

-- a value that may be missing
abbrev pub option_of : Maybe (List ℕ) → Option (List ℕ)
option_of None = none
option_of (Some v) = some v
