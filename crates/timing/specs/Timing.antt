-- What the functions of the benchmark answer and leave in the buffer, by the definitions of the
-- operations.
use Rattle.std.specs.Prelude.{ℕ, zero, suc, ◌+◌, ◌-◌, ◌^◌, List, length, take, drop, ltb}
use Rattle.refusal.specs.Outcome.{Outcome, accepted, refused, pick}
use Rattle.record.specs.declared.TransportParameters.{TransportParameters}
use Rattle.rules.specs.declared.Side.TheVariants.{Client}
use Rattle.reader.specs.Reading.{read}
use Rattle.writer.specs.Writing.{write}

-- 0, or the number of the refusal
abbrev pub code : {A : Type 0} → Outcome A → ℕ
code (accepted a) = 0
code (refused e) = e

-- a count, or what refuses
abbrev pub code_of : Outcome ℕ → ℕ
code_of (accepted n) = n
code_of (refused e) = 2 ^ 32 + e

-- the answer and the buffer
abbrev pub counted : Outcome ℕ × List ℕ → ℕ × List ℕ
counted w = (code_of w.0, w.1)

abbrev pub repeat : {A : Type 0} → ℕ → (A → A) → A → A
repeat zero f a = a
repeat (suc n) f a = f (repeat n f a)

-- what the last of some calls gives, 0 if there is none
unfoldable pub last_of : ℕ → ℕ → ℕ
last_of zero x = 0
last_of (suc n) x = x

-- the next n bytes from a position on, from the front again where so many are not left: the
-- position behind them, and what reading them gives
unfoldable pub read_next : ℕ → List ℕ → ℕ × ℕ → ℕ × ℕ
read_next n s w =
    (pick (ltb (length s - w.0) n) 0 w.0 + n, code (read Client (take n (drop (pick (ltb (length s - w.0) n) 0 w.0) s))))

unfoldable pub reads_of : ℕ → ℕ → List ℕ → ℕ
reads_of times n s = pick (ltb (length s) n) 0 (repeat times (read_next n s) (0, 0)).1

-- writing a record after a call that left an answer and the buffer
unfoldable pub again : TransportParameters → ℕ × List ℕ → ℕ × List ℕ
again r w = counted (write r w.1)

-- what is no image is not written
abbrev pub written_from : Outcome TransportParameters → ℕ → List ℕ → ℕ × List ℕ
written_from (accepted r) times out = repeat times (again r) (0, out)
written_from (refused e) times out = (2 ^ 32 + e, out)
