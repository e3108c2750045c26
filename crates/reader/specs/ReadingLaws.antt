-- Laws of reading an extension: one parameter after another, what an accepted one is, second
-- copies, and the record of what the index keeps.
use Rattle.std.specs.Prelude.{ℕ, ◌≡◌, List, [], ◌++◌, true}
use Rattle.refusal.specs.Outcome.{accepted, refused, and_then}
use Rattle.refusal.specs.Number.{number_of}
use Rattle.record.specs.declared.TransportParameters.{TransportParameters}
use Rattle.record.specs.Values.{Bytes, Values}
use Rattle.record.specs.Record.{bare}
use Rattle.rules.specs.declared.Side.{Side}
use Rattle.rules.specs.Rules.{legal}
use Rattle.front.specs.declared.Fault.{Fault}
use Rattle.front.specs.Answer.{refused_with}
use Rattle.front.specs.Parameter.{read_parameter}
use Rattle.front.specs.Whole.{Repeated}
use Rattle.index.specs.Index.{Found, indexed}
use Rattle.reader.specs.Reading.{step, parse, read}
use Rattle.reader.specs.Kept.{record_kept}

pub record ReadingLaws : Type 0 where
  -- nothing is left to receive at the end, and a whole parameter is received before what follows
  pub parse_nil : (l : Values) → parse l [] ≡ accepted l
  pub parse_whole :
      (l : Values) (w rest : List ℕ) (id : ℕ) (v : List ℕ)
      → read_parameter w ≡ accepted (id, v, [])
      → parse l (w ++ rest) ≡ and_then (step l id v) (λ m. parse m rest)
  -- what a side accepts is legal for it, and has neither order nor reserved parameter;
  pub accepted_legal :
      (s : Side) (e : List ℕ) (r : TransportParameters) → Bytes e → read s e ≡ accepted r
      → (legal s r ≡ true) × (bare r ≡ r)
  -- where both sides accept it, the record is the same
  pub same_record :
      (s s' : Side) (e : List ℕ) (r r' : TransportParameters) → read s e ≡ accepted r
      → read s' e ≡ accepted r' → r ≡ r'
  -- behind what a side accepts, a second copy of one of its parameters is 12, whatever its value
  -- and whatever follows;
  pub copy_refused :
      (a w b u more : List ℕ) (s : Side) (r : TransportParameters) → Repeated a w b u
      → read s (a ++ (w ++ b)) ≡ accepted r
      → read s (a ++ (w ++ (b ++ (u ++ more)))) ≡ refused 12
  -- and no side accepts an extension that has one
  pub never_twice :
      (a w b u more : List ℕ) (s : Side) (r : TransportParameters) → Repeated a w b u
      → read s (a ++ (w ++ (b ++ (u ++ more)))) ≡ accepted r → ⊥
  -- reading is the record of what the index keeps, or the number of the fault that it finds
  pub read_indexed :
      (s : Side) (e : List ℕ) (f : Found) → indexed s e ≡ accepted f
      → read s e ≡ accepted (record_kept e f)
  pub read_fault :
      (s : Side) (e : List ℕ) (x : Fault) → indexed s e ≡ refused x
      → read s e ≡ refused (number_of (refused_with x))
