-- The parameter at the front of some bytes (RFC 9000 section 18): identifier, length, and a value
-- of that length. Whatever can't be read whole is a cut.
use Rattle.std.specs.Prelude.{ℕ, ◌+◌, ◌-◌, List, length, take, drop, leb}
use Rattle.refusal.specs.Outcome.{Result, accepted, refused, Outcome, pick, and_then}
use Rattle.varint.specs.Number.{read_number}
use Rattle.varint.specs.declared.Decoded.{Decoded}
use Rattle.front.specs.declared.Fault.{Fault}
use Rattle.front.specs.declared.Parameter.{Parameter}
use Rattle.front.specs.declared.Fault.TheVariants.{Cut}

-- a number that cannot be read cuts the parameter off
abbrev pub or_cut : {A : Type 0} → Outcome A → Result Fault A
or_cut (accepted a) = accepted a
or_cut (refused e) = refused Cut

-- how many bytes the number at the front has, and how many its shortest form would have saved
abbrev pub count : Outcome Decoded → ℕ
count (accepted a) = a.count
count (refused e) = 0

abbrev pub saved : Outcome Decoded → ℕ
saved (accepted a) = a.saved
saved (refused e) = 0

-- how many bytes the shortest forms of identifier and length would have saved
unfoldable pub saved_head : List ℕ → ℕ
saved_head bs = saved (read_number bs) + saved (read_number (drop (count (read_number bs)) bs))

-- its identifier, its value and what is behind it
unfoldable pub read_parameter : List ℕ → Result Fault (ℕ × List ℕ × List ℕ)
read_parameter bs =
    and_then (or_cut (read_number bs)) λ i.
    and_then (or_cut (read_number (drop i.count bs))) λ l.
    pick (leb l.value (length (drop l.count (drop i.count bs))))
    (accepted (i.value, take l.value (drop l.count (drop i.count bs)), drop l.value (drop l.count (drop i.count bs))))
    (refused Cut)

-- the same of the bytes from a position on: its identifier, where its value starts and ends, and
-- what shorter forms of identifier and length would have saved
unfoldable pub located : List ℕ → ℕ → Result Fault Parameter
located s at =
    and_then (or_cut (read_number (drop at s))) λ i.
    and_then (or_cut (read_number (drop (at + i.count) s))) λ l.
    pick (leb l.value (length s - (at + i.count + l.count)))
    (accepted (record { id = i.value; start = at + i.count + l.count; end = at + i.count + l.count + l.value; saved = i.saved + l.saved }))
    (refused Cut)
