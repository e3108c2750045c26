-- Where the bytes of an extension go. Each of its whole parameters is skipped, restates a default,
-- or is sent again in its shortest form; what it adds to each count is settled by its own bytes,
-- and a count is the sum over them.
use Rattle.std.specs.Prelude.{ℕ, ◌+◌, List, [], ◌∷◌, Bool, ◌&&◌, length, get_or, ltb, eqb}
use Rattle.refusal.specs.Outcome.{Result, accepted, refused, pick}
use Rattle.varint.specs.Number.{read_number, number_bytes}
use Rattle.catalogue.specs.Catalogue.{Kind, number, flag, cid, token, address, versions, reserved, places, place_of, kind_at, defaults, parameter}
use Rattle.record.specs.Values.{value}
use Rattle.front.specs.declared.Fault.{Fault}
use Rattle.front.specs.Parameter.{saved, saved_head, read_parameter}
use Rattle.tally.specs.declared.Counts.{Counts}
use Rattle.tally.specs.declared.Sums.{Sums}

-- whether a number is the default of its place: places 0 to 10 have one
unfoldable pub restates : ℕ → ℕ → Bool
restates p x = ltb p (length defaults) && eqb x (get_or defaults p 0)

-- WHAT BECOMES OF A PARAMETER
pub data Fate : Type 0 where
  skipped restated kept : Fate

-- of an identifier and a value: an unknown one is skipped
unfoldable pub fate_of : ℕ → List ℕ → Fate
fate_of id v = pick (ltb (place_of id) places) (pick (restates (place_of id) (value (read_number v))) restated kept) skipped

-- the shortest value of a kind that says the same, and how many bytes it saves
unfoldable pub shortest : Kind → List ℕ → List ℕ
shortest number v = number_bytes (value (read_number v))
shortest flag v = v
shortest cid v = v
shortest token v = v
shortest address v = v
shortest versions v = v
shortest reserved v = v

unfoldable pub saved_value : Kind → List ℕ → ℕ
saved_value number v = saved (read_number v)
saved_value flag v = 0
saved_value cid v = 0
saved_value token v = 0
saved_value address v = 0
saved_value versions v = 0
saved_value reserved v = 0

-- what it adds to the counts: its identifier, its value, and its own bytes
abbrev pub count_as : Fate → ℕ → List ℕ → List ℕ → Counts
count_as skipped id v w = record { tidied = 0; skipped = length w; restated = 0; saved = 0; named = 0 }
count_as restated id v w = record { tidied = 0; skipped = 0; restated = length w; saved = 0; named = 1 }
count_as kept id v w =
    record {
      tidied = length (parameter id (shortest (kind_at (place_of id)) v));
      skipped = 0;
      restated = 0;
      saved = saved_head w + saved_value (kind_at (place_of id)) v;
      named = 1;
    }

abbrev pub none : Counts
none = record { tidied = 0; skipped = 0; restated = 0; saved = 0; named = 0 }

abbrev pub count_in : Result Fault (ℕ × List ℕ × List ℕ) → List ℕ → Counts
count_in (accepted i) w = count_as (fate_of i.0 i.1) i.0 i.1 w
count_in (refused f) w = none

unfoldable pub count_of : List ℕ → Counts
count_of w = count_in (read_parameter w) w

-- ALL OF THEM
abbrev pub sum_of : (List ℕ → ℕ) → List (List ℕ) → ℕ
sum_of f [] = 0
sum_of f (w ∷ ws) = f w + sum_of f ws

unfoldable pub counts : List (List ℕ) → Counts
counts ws =
    record {
      tidied = sum_of (λ w. (count_of w).tidied) ws;
      skipped = sum_of (λ w. (count_of w).skipped) ws;
      restated = sum_of (λ w. (count_of w).restated) ws;
      saved = sum_of (λ w. (count_of w).saved) ws;
      named = sum_of (λ w. (count_of w).named) ws;
    }

-- the three that a scan adds up
abbrev pub dropped : Counts → Sums
dropped c = record { skipped = c.skipped; restated = c.restated; saved = c.saved }
