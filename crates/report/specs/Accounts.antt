-- The counts of a report account for every byte of the extension.
use Rattle.std.specs.Prelude.{ℕ, ◌+◌, ◌≡◌, List, ◌↔◌, length, leb}
use Rattle.refusal.specs.Outcome.{accepted, refused, pick}
use Rattle.catalogue.specs.Catalogue.{places}
use Rattle.catalogue.specs.Sum.{sum}
use Rattle.rules.specs.declared.Side.{Side}
use Rattle.record.specs.Values.{Bytes, Values, no_values, is_some}
use Rattle.front.specs.Whole.{concat, Wholes, parameters, Rearranged}
use Rattle.reader.specs.Reading.{parse, read}
use Rattle.tidy.specs.Tidying.{tidy}
use Rattle.tally.specs.declared.Counts.{Counts}
use Rattle.report.specs.Report.{report}

-- the places that have a value
unfoldable pub named : Values → ℕ
named l = sum places (λ p. pick (is_some (l p)) 1 0)

pub record Accounts : Type 0 where
  -- a side that refuses the extension refuses the report, with the same number, and the other way
  -- round
  pub refused_alike :
      (s : Side) (e : List ℕ) (n : ℕ) → (report s e ≡ refused n) ↔ (read s e ≡ refused n)
  -- what is counted are whole parameters, and all of the extension
  pub whole :
      (s : Side) (e : List ℕ) (c : Counts) → report s e ≡ accepted c
      → Wholes (parameters e) × (concat (parameters e) ≡ e)
  -- together the four make its length exactly
  pub complete :
      (s : Side) (e : List ℕ) (c : Counts) → Bytes e → report s e ≡ accepted c
      → c.tidied + c.skipped + c.restated + c.saved ≡ length e
  -- the first is what tidying stores: so many bytes, or 5 if there is less room
  pub tidied :
      (s : Side) (e out : List ℕ) (c : Counts) → Bytes e → report s e ≡ accepted c
      → (tidy s e out).0 ≡ pick (leb c.tidied (length out)) (accepted c.tidied) (refused 5)
  -- the fifth is how many places have a value: no known parameter stands twice
  pub named_places :
      (s : Side) (e : List ℕ) (l : Values) (c : Counts) → report s e ≡ accepted c
      → parse no_values e ≡ accepted l → c.named ≡ named l
  -- the counts depend neither on the side nor on the order
  pub any_side :
      (s s' : Side) (e : List ℕ) (c c' : Counts) → report s e ≡ accepted c
      → report s' e ≡ accepted c' → c ≡ c'
  pub any_order :
      (s : Side) (e e' : List ℕ) (c : Counts) → Rearranged e e' → report s e ≡ accepted c
      → report s e' ≡ accepted c
