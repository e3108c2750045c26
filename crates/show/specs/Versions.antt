-- The names that versions of QUIC have, and their words.
use Rattle.std.specs.Prelude.{ℕ, ◌%◌, Bool, List, eqb, codes, Option, Some, None}
use Rattle.refusal.specs.Outcome.{pick}
use Rattle.words.specs.Words.{every, bytes_of}
use Rattle.show.specs.declared.versions.VersionName.{VersionName}
use Rattle.show.specs.declared.versions.VersionName.TheVariants.{V1, V2, Reserved}

-- RESERVED to exercise the negotiation of versions are those of the form 0x?a?a?a?a (RFC 9000
-- section 15)
abbrev pub ends_in_a : ℕ → Bool
ends_in_a b = eqb (b % 16) 10

abbrev pub is_reserved : ℕ → Bool
is_reserved v = every ends_in_a (bytes_of 4 v)

-- version 1 (RFC 9000), version 2 (RFC 9369), and the reserved ones; others have none
unfoldable pub version_name : ℕ → Option VersionName
version_name v =
    pick (eqb v 1) (Some V1)
    (pick (eqb v 0x6b3343cf) (Some V2) (pick (is_reserved v) (Some Reserved) None))

abbrev pub name_text : VersionName → List ℕ
name_text V1 = codes "v1"
name_text V2 = codes "v2"
name_text Reserved = codes "reserved"
