-- Reading an extension (RFC 9000 sections 7.4 and 18), as a definition: the values received at each
-- place, one parameter after another; then the value rules; then the record.
use Rattle.std.specs.Prelude.{ℕ, zero, suc, List, [], ◌∷◌, length, ltb}
use Rattle.std.proofs.Math.Option.{some}
use Rattle.refusal.specs.Outcome.{Result, accepted, refused, Outcome, pick, and_then}
use Rattle.catalogue.specs.Catalogue.{places, kind_at, place_of, fits, illegal}
use Rattle.record.specs.declared.TransportParameters.{TransportParameters}
use Rattle.record.specs.Values.{Values, no_values, is_some, upd, record_of}
use Rattle.rules.specs.declared.Side.{Side}
use Rattle.rules.specs.Rules.{value_rules}
use Rattle.front.specs.declared.Fault.{Fault}
use Rattle.front.specs.declared.Fault.TheVariants.{Cut, SecondCopy, Misfit, Illegal}
use Rattle.front.specs.Parameter.{read_parameter}
use Rattle.front.specs.Answer.{numbered}

-- a value for a known place: a second copy (section 7.4), then a value that is illegal, then one
-- that does not fit
unfoldable pub receive : Values → ℕ → List ℕ → Result Fault Values
receive l p v =
    pick (is_some (l p))
    (refused SecondCopy)
    (pick (illegal (kind_at p) v) (refused Illegal) (pick (fits (kind_at p) v) (accepted (upd l p (some v))) (refused Misfit)))

-- an unknown parameter is skipped
unfoldable pub step : Values → ℕ → List ℕ → Result Fault Values
step l id v = pick (ltb (place_of id) places) (receive l (place_of id) v) (accepted l)

-- parameters up to the end of the bytes, of which there are at most f
abbrev pub parse_in : ℕ → Values → List ℕ → Result Fault Values
parse_in zero l [] = accepted l
parse_in zero l (b ∷ bs) = refused Cut
parse_in (suc f) l [] = accepted l
parse_in (suc f) l (b ∷ bs) = and_then (read_parameter (b ∷ bs)) λ i. and_then (step l i.0 i.1) λ m. parse_in f m i.2

-- each parameter has a byte at least
unfoldable pub parse : Values → List ℕ → Result Fault Values
parse l bs = parse_in (length bs) l bs

-- the record of the values, if the value rules hold
unfoldable pub judge : Side → Values → Result Fault TransportParameters
judge s l = pick (value_rules s (record_of l)) (accepted (record_of l)) (refused Illegal)

unfoldable pub read : Side → List ℕ → Outcome TransportParameters
read s bs = numbered (and_then (parse no_values bs) (judge s))
