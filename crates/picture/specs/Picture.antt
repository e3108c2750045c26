-- What the picture of a report shows of a part: its share of the whole, and its bar.
use Rattle.std.specs.Prelude.{ℕ, ◌+◌, ◌*◌, ◌/◌, List, [], ◌∷◌, min, max}
use Rattle.tally.specs.declared.Counts.{Counts}
use Rattle.picture.specs.declared.Part.{Part}

-- the share of a part, of n for the whole: rounded, and no more than n; 0 of nothing
abbrev pub share_of : ℕ → ℕ → ℕ → ℕ
share_of n part whole = (n * min part whole + whole / 2) / whole

-- a part that has a byte has a column
abbrev pub columns_of : ℕ → ℕ → ℕ
columns_of part whole = max (min part 1) (share_of 40 part whole)

abbrev pub part_of : ℕ → ℕ → Part
part_of whole part = record {
  bytes = part;
  percent = share_of 100 part whole;
  columns = columns_of part whole;
}

-- what is tidied, skipped, restated and saved of an extension that is so long
abbrev pub parts_of : ℕ → Counts → List Part
parts_of whole c =
    part_of whole c.tidied ∷ part_of whole c.skipped ∷ part_of whole c.restated
    ∷ part_of whole c.saved ∷ []
