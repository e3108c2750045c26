-- Version information (RFC 9368 section 3): a chosen version and at most 16 available ones; their
-- bytes, four to a version, high byte first.
use Rattle.std.specs.Prelude.{ℕ, ◌-◌, ◌/◌, ◌^◌, Bool, true, false, ◌&&◌, ◌||◌, List, [], ◌∷◌, ◌++◌, length, take, drop, replicate, ltb, leb, eqb}
use Rattle.refusal.specs.Outcome.{Outcome, accepted, refused, pick, all}
use Rattle.words.specs.Words.{every, zeros, value_from, numbers_bytes, numbers_of}
use Rattle.catalogue.specs.Catalogue.{versions, fits}
use Rattle.version_information.specs.declared.VersionInformation.{VersionInformation}

-- what is absent is all zero
unfoldable pub no_versions : VersionInformation
no_versions = record { present = false; available_len = 0; chosen = 0; available = replicate 16 0 }

-- the versions that are available
abbrev pub available_in : VersionInformation → List ℕ
available_in i = take i.available_len i.available

-- well formed: what the types say; at most 16 versions are available, and zeros stand behind them;
-- all zero where it is absent
unfoldable pub formed_versions : VersionInformation → Bool
formed_versions i =
    all (
    eqb (length i.available) 16
    ∷ every (λ x. ltb x (2 ^ 32)) (i.chosen ∷ i.available)
    ∷ leb i.available_len 16
    ∷ zeros (drop i.available_len i.available)
    ∷ (i.present || (eqb i.chosen 0 && eqb i.available_len 0))
    ∷ []
    )

-- of a chosen version and available ones handed in: 7 for more than 16
unfoldable pub make_versions : ℕ → List ℕ → Outcome VersionInformation
make_versions c vs =
    pick (leb (length vs) 16)
    (accepted (record { present = true; available_len = length vs; chosen = c; available = vs ++ replicate (16 - length vs) 0 }))
    (refused 7)

-- ON THE WIRE: the chosen version, then the available ones
unfoldable pub versions_bytes : VersionInformation → List ℕ
versions_bytes i = numbers_bytes 4 (i.chosen ∷ available_in i)

-- with all sixteen places of available ones
unfoldable pub all_bytes : VersionInformation → List ℕ
all_bytes i = numbers_bytes 4 (i.chosen ∷ i.available)

-- of these bytes, and what does not stand in them
unfoldable pub versions_with : Bool → ℕ → List ℕ → VersionInformation
versions_with p n v = record { present = p; available_len = n; chosen = value_from 0 (take 4 v); available = numbers_of 4 16 (drop 4 v) }

-- of a value
abbrev pub versions_of : List ℕ → VersionInformation
versions_of v = versions_with true (length v / 4 - 1) v

-- 11 for one of another length
unfoldable pub read_versions : List ℕ → Outcome VersionInformation
read_versions v = pick (fits versions v) (accepted (versions_of v)) (refused 11)
