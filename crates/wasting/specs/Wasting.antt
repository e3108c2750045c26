-- What a parameter wastes, and why; and the parameters of an extension that waste something.
use Rattle.std.specs.Prelude.{ℕ, ◌+◌, List, Bool, length, map, filter, ltb, codes}
use Rattle.refusal.specs.Outcome.{Result, accepted, refused, pick}
use Rattle.front.specs.declared.Fault.{Fault}
use Rattle.front.specs.Parameter.{read_parameter}
use Rattle.tally.specs.declared.Counts.{Counts}
use Rattle.tally.specs.Tally.{count_of}
use Rattle.wasting.specs.declared.Reason.{Reason}
use Rattle.wasting.specs.declared.Reason.TheVariants.{Unknown, Default, Form}
use Rattle.wasting.specs.declared.Wasted.{Wasted}
use Rattle.wasting.specs.declared.Waster.{Waster}

-- what a parameter adds to the three counts that tidying drops, together; and in which it is
-- counted
abbrev pub bytes_wasted : Counts → ℕ
bytes_wasted c = c.skipped + c.restated + c.saved

abbrev pub reason_of : Counts → Reason
reason_of c = pick (ltb 0 c.skipped) Unknown (pick (ltb 0 c.restated) Default Form)

abbrev pub waste_of : Counts → Wasted
waste_of c = record { bytes = bytes_wasted c; reason = reason_of c }

-- what is printed of a reason
abbrev pub reason_text : Reason → List ℕ
reason_text Unknown = codes "unknown, skipped"
reason_text Default = codes "restates the default"
reason_text Form = codes "longer forms than needed"

-- THE PARAMETERS THAT WASTE SOMETHING, in the order they stand
abbrev pub id_in : Result Fault (ℕ × List ℕ × List ℕ) → ℕ
id_in (accepted i) = i.0
id_in (refused f) = 0

abbrev pub waster_of : List ℕ → Waster
waster_of w =
    record { id = id_in (read_parameter w); len = length w; wasted = waste_of (count_of w) }

abbrev pub wastes : Waster → Bool
wastes x = ltb 0 x.wasted.bytes

abbrev pub wasters_of : List (List ℕ) → List Waster
wasters_of ws = filter wastes (map waster_of ws)

abbrev pub wastes_more : Waster → Waster → Bool
wastes_more x y = ltb y.wasted.bytes x.wasted.bytes
