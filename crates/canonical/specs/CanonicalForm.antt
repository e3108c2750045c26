-- The canonical form of an extension, in which reading, writing and tidying meet:
--   - what is written of a record that is legal for a side, in the order and with the reserved
--     parameter given, that side reads back;
--   - what a side accepts is made of whole parameters, in one way; and whole parameters that are
--     unknown, put in anywhere, change nothing;
--   - what a side accepts can be tidied, to bytes with the same record;
--   - two extensions are tidied to the same bytes exactly if they have the same record;
--   - tidied bytes are tidied to themselves;
--   - and no extension with the same record is shorter.
-- `write` and `tidy` give an answer and the buffer afterwards: the first n bytes of it are what was
-- stored.
use Rattle.std.specs.Prelude.{ℕ, ◌≤◌, ◌≡◌, List, ◌↔◌, true, length, take}
use Rattle.refusal.specs.Outcome.{Outcome, accepted, refused, front}
use Rattle.record.specs.declared.TransportParameters.{TransportParameters}
use Rattle.rules.specs.declared.Side.{Side}
use Rattle.record.specs.Values.{Bytes}
use Rattle.rules.specs.Rules.{legal}
use Rattle.record.specs.Record.{bare}
use Rattle.reader.specs.Reading.{read}
use Rattle.front.specs.Whole.{concat, Wholes, Composed, Stuffed}
use Rattle.order.specs.Order.{permutation}
use Rattle.writer.specs.Writing.{order_of, extension, write}
use Rattle.tidy.specs.Tidying.{tidy}

-- the answer is a count n, and P holds of it and of the buffer
abbrev pub AcceptsBy : Outcome ℕ → List ℕ → (ℕ → List ℕ → Type 0) → Type 0
AcceptsBy (accepted n) out P = P n out
AcceptsBy (refused e) out P = ⊥

abbrev pub Accepts : Outcome ℕ × List ℕ → (ℕ → List ℕ → Type 0) → Type 0
Accepts a P = AcceptsBy a.0 a.1 P

pub record CanonicalForm : Type 0 where
  -- a legal record, in any order or none, and room enough: writing accepts, and the bytes read as
  -- the record. `bare` leaves out its order and reserved parameter, which are outside record
  -- equality
  pub reads_back :
      (s : Side) (r : TransportParameters) (out : List ℕ) → legal s r ≡ true
      → permutation (order_of r.write_order) ≡ true
      → length (extension r (order_of r.write_order)) ≤ length out
      → Accepts (write r out) (λ n out'. read s (take n out') ≡ accepted (bare r))
  -- the whole parameters of an extension that a side accepts, and no others
  pub whole :
      (s : Side) (e : List ℕ) (r : TransportParameters) → read s e ≡ accepted r → Composed e
  pub once :
      (ws ws' : List (List ℕ)) → Wholes ws → Wholes ws' → concat ws ≡ concat ws' → ws ≡ ws'
  -- bytes e, and the same with unknown whole parameters put in: the outcome is the same, be it a
  -- record or a refusal
  pub unknown_skipped : (s : Side) (e e' : List ℕ) → Stuffed e e' → read s e' ≡ read s e
  -- what a side accepts is tidied if the buffer is as long as the extension, and the tidied bytes
  -- read as the same record
  pub tidies :
      (s : Side) (e out : List ℕ) (r : TransportParameters) → Bytes e → read s e ≡ accepted r
      → length e ≤ length out
      → Accepts (tidy s e out) (λ n o. read s (take n o) ≡ accepted r)
  -- each extension for a side of its own
  pub canonical :
      (s s' : Side) (e e' out out' o o' : List ℕ) (n n' : ℕ) (r r' : TransportParameters)
      → Bytes e → Bytes e' → read s e ≡ accepted r → read s' e' ≡ accepted r'
      → tidy s e out ≡ (accepted n, o) → tidy s' e' out' ≡ (accepted n', o')
      → (take n o ≡ take n' o') ↔ (r ≡ r')
  -- for the side that they were tidied for, and with room for them
  pub stable :
      (s : Side) (e out o : List ℕ) (n : ℕ) → Bytes e → tidy s e out ≡ (accepted n, o)
      → (out' : List ℕ) → n ≤ length out'
      → tidy s (take n o) out' ≡ (accepted n, front (take n o) out')
  -- whichever side accepts the other extension
  pub shortest :
      (s s' : Side) (e e' out o : List ℕ) (n : ℕ) (r : TransportParameters) → Bytes e → Bytes e'
      → tidy s e out ≡ (accepted n, o) → read s e ≡ accepted r → read s' e' ≡ accepted r
      → n ≤ length e'
