-- Any order from the sender, since encoders shuffle (RFC 9000 section 7.4 fixes none). What a side
-- accepts it accepts in every order of its whole parameters, unknown ones among them, with the same
-- record. That it is made of whole parameters, in one way, is `whole` and `once` of
-- `CanonicalForm`.
use Rattle.std.specs.Prelude.{ℕ, ◌≡◌, List, [], ◌∷◌, ◌++◌, length, replicate}
use Rattle.refusal.specs.Outcome.{accepted, refused}
use Rattle.record.specs.declared.TransportParameters.{TransportParameters}
use Rattle.rules.specs.declared.Side.{Side}
use Rattle.reader.specs.Reading.{read}
use Rattle.front.specs.Whole.{Rearranged}
use Rattle.tidy.specs.Tidying.{tidy}

-- a preferred address with neither family, and max_idle_timeout with a byte left over
unfoldable pub no_family : List ℕ
no_family = 0x0d ∷ 0x2a ∷ (replicate 24 0x00 ++ (0x01 ∷ 0xaa ∷ replicate 16 0xbb))

unfoldable pub left_over : List ℕ
left_over = 0x01 ∷ 0x02 ∷ 0x05 ∷ 0x00 ∷ []

pub record Rearrangement : Type 0 where
  -- e' has the whole parameters of e in another order: the side that accepts e accepts e', with the
  -- same record
  pub same_record :
      (s : Side) (e e' : List ℕ) (r : TransportParameters) → Rearranged e e'
      → read s e ≡ accepted r → read s e' ≡ accepted r
  -- so tidying them for that side gives the same answer and stores the same bytes
  pub tidies_alike :
      (s : Side) (e e' out : List ℕ) (r : TransportParameters) → Rearranged e e'
      → read s e ≡ accepted r → tidy s e' out ≡ tidy s e out
  -- and they have the same length
  pub same_length : (e e' : List ℕ) → Rearranged e e' → length e' ≡ length e
  -- whole parameters that a side refuses it refuses in every order,
  pub still_refused :
      (s : Side) (e e' : List ℕ) (n : ℕ) → Rearranged e e' → read s e ≡ refused n
      → (n' : ℕ) × (read s e' ≡ refused n')
  -- but not always by the same number: of two faults the first from the front counts
  pub two_faults : Rearranged (no_family ++ left_over) (left_over ++ no_family)
  pub first_fault :
      (s : Side) → (read s (no_family ++ left_over) ≡ refused 2)
      × (read s (left_over ++ no_family) ≡ refused 11)
