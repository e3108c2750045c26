-- Tidying an extension, as a definition: read for a side, then write in catalogue order without a
-- reserved parameter. Refused as reading is, then with 5.
use Rattle.std.specs.Prelude.{ℕ, List}
use Rattle.refusal.specs.Outcome.{Outcome, accepted, refused}
use Rattle.record.specs.declared.TransportParameters.{TransportParameters}
use Rattle.rules.specs.declared.Side.{Side}
use Rattle.record.specs.Record.{bare}
use Rattle.reader.specs.Reading.{read}
use Rattle.writer.specs.Writing.{write}

-- what follows an outcome of reading
abbrev pub tidy_from : Outcome TransportParameters → List ℕ → Outcome ℕ × List ℕ
tidy_from (accepted r) out = write (bare r) out
tidy_from (refused e) out = (refused e, out)

unfoldable pub tidy : Side → List ℕ → List ℕ → Outcome ℕ × List ℕ
tidy s bs out = tidy_from (read s bs) out
