-- Where the bytes of an extension go, as a definition: reading's number if a side refuses it; else
-- the counts, which are sums over its parameters, of what each of them alone adds.
use Rattle.std.specs.Prelude.{ℕ, List}
use Rattle.refusal.specs.Outcome.{Outcome, accepted, and_then}
use Rattle.rules.specs.declared.Side.{Side}
use Rattle.front.specs.Whole.{parameters}
use Rattle.tally.specs.declared.Counts.{Counts}
use Rattle.tally.specs.Tally.{counts}
use Rattle.reader.specs.Reading.{read}

unfoldable pub report : Side → List ℕ → Outcome Counts
report s bs = and_then (read s bs) λ r. accepted (counts (parameters bs))
