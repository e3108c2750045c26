-- How the code goes about it: nothing to believe, since the contract of `writer::write` is an
-- equation with `write` (writer/specs/Writing.antt). Parameters laid at the front of a buffer, with
-- bytes behind them that do not count.
use Rattle.std.specs.Prelude.{ℕ, ◌+◌, ◌-◌, List, [], ◌++◌, Bool, ◌&&◌, length, take, drop, replicate, ltb, leb}
use Rattle.refusal.specs.Outcome.{pick, front}
use Rattle.varint.specs.Number.{bound, number_bytes}
use Rattle.wire.specs.Wire.{due_value, due_number}

-- how many bytes count, and the buffer afterwards, where there is room for so many; else nothing
unfoldable pub lay : ℕ → List ℕ → List ℕ → List ℕ → ℕ × List ℕ
lay room bs more out = pick (leb room (length out)) (length bs, front (bs ++ more) out) (0, out)

-- zeros behind a number that is due, up to eight bytes
unfoldable pub number_rest : Bool → ℕ → ℕ → List ℕ
number_rest due id x = pick (due && (ltb x bound && ltb id bound)) (replicate (8 - length (number_bytes x)) 0) []

-- a number, if it is due, with zeros behind it
unfoldable pub laid_number : Bool → ℕ → ℕ → List ℕ → ℕ × List ℕ
laid_number due id x out = lay 17 (due_number due id x) (number_rest due id x) out

-- the first n bytes of a field of 8 to 63 bytes as a value, if it is due, with the rest of the
-- field behind it; of no other field, and of no more bytes than it has, nothing
unfoldable pub laid_field : Bool → ℕ → ℕ → List ℕ → List ℕ → ℕ × List ℕ
laid_field due id n v out =
    pick (leb 8 (length v) && (ltb (length v) 64 && leb n (length v)))
    (lay (length v + 9) (due_value due id (take n v)) (pick (due && ltb id bound) (drop n v) []) out)
    (0, out)
