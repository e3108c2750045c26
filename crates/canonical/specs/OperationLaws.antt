-- Laws of several operations: writing a record that was built; the length of a record that was
-- read; and values at distinct places, read in any order.
use Rattle.std.specs.Prelude.{ℕ, ◌≤◌, ◌<◌, ◌≡◌, List, ◌++◌, true, length}
use Rattle.std.proofs.Math.Option.{none}
use Rattle.refusal.specs.Outcome.{accepted, refused, store}
use Rattle.catalogue.specs.Catalogue.{places}
use Rattle.connection_id.specs.declared.ConnectionId.{ConnectionId}
use Rattle.record.specs.declared.TransportParameters.{TransportParameters}
use Rattle.record.specs.Values.{Bytes, Values, no_values, upd}
use Rattle.rules.specs.declared.Side.{Side}
use Rattle.reader.specs.Reading.{parse, read}
use Rattle.order.specs.Order.{distinct}
use Rattle.writer.specs.Writing.{concat_of, extension, length_of, write}
use Rattle.tidy.specs.Tidying.{tidy}
use Rattle.building.specs.declared.Settings.{Settings}
use Rattle.building.specs.Building.{build}

-- the bytes f p, for each place p, are read as the value that t has there
abbrev pub Adds : Values → (ℕ → List ℕ) → Type 0
Adds t f =
    (p : ℕ) → p < places → (l : Values) (cs : List ℕ) → l p ≡ none
    → parse l (f p ++ cs) ≡ parse (upd l p (t p)) cs

pub record OperationLaws : Type 0 where
  -- a record that was built is written in the order handed in, or the buffer is too short;
  pub built_written :
      (s : Settings) (cid : ConnectionId) (draw : ℕ) (payload order out : List ℕ)
      (r : TransportParameters) → build s cid draw payload order ≡ accepted r
      → write r out ≡ store (extension r order) out
  -- so writing it is refused by no other number than 5
  pub built_accepted :
      (s : Settings) (cid : ConnectionId) (draw : ℕ) (payload order out : List ℕ)
      (r : TransportParameters) (n : ℕ) → build s cid draw payload order ≡ accepted r
      → (write r out).0 ≡ refused n → n ≡ 5
  -- tidying stores as many bytes as the record that is read is long,
  pub tidied_length :
      (s : Side) (e out o : List ℕ) (r : TransportParameters) (n : ℕ) → Bytes e
      → read s e ≡ accepted r → tidy s e out ≡ (accepted n, o) → length_of r ≡ accepted n
  -- and no extension with that record is shorter
  pub least_length :
      (s : Side) (e : List ℕ) (r : TransportParameters) (n : ℕ) → Bytes e
      → read s e ≡ accepted r → length_of r ≡ accepted n → n ≤ length e
  -- the values of all places, in whatever order their bytes stand, are all received
  pub every_order :
      (t : Values) (f : ℕ → List ℕ) (os : List ℕ) → Adds t f
      → ((q : ℕ) → places ≤ q → t q ≡ none) → distinct os ≡ true → length os ≡ places
      → parse no_values (concat_of f os) ≡ accepted t
