-- Laws of version information on the wire.
use Rattle.std.specs.Prelude.{ℕ, ◌+◌, ◌*◌, ◌<◌, ◌≡◌, List, true, length, get_or}
use Rattle.catalogue.specs.Catalogue.{versions, fits}
use Rattle.version_information.specs.declared.VersionInformation.{VersionInformation}
use Rattle.version_information.specs.VersionInformation.{formed_versions, versions_bytes, versions_of}

pub record VersionLaws : Type 0 where
  -- well-formed version information that is present is read back from its bytes,
  pub bytes_back :
      (i : VersionInformation) → formed_versions i ≡ true → i.present ≡ true
      → versions_of (versions_bytes i) ≡ i
  -- of which there are 4, and 4 for each available version
  pub versions_long :
      (i : VersionInformation) → formed_versions i ≡ true
      → length (versions_bytes i) ≡ 4 + 4 * i.available_len
  -- what is read of a value has the bytes of the value, and is well formed
  pub versions_same :
      (v : List ℕ) → fits versions v ≡ true → ((i : ℕ) → get_or v i 0 < 256)
      → versions_bytes (versions_of v) ≡ v
  pub read_formed :
      (v : List ℕ) → fits versions v ≡ true → ((i : ℕ) → get_or v i 0 < 256)
      → formed_versions (versions_of v) ≡ true
