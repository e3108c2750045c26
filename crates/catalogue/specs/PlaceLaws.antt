-- Laws of places and identifiers.
use Rattle.std.specs.Prelude.{ℕ, ◌%◌, ◌≤◌, ◌<◌, ◌≡◌}
use Rattle.catalogue.specs.Catalogue.{places, id_at, place_of}

pub record PlaceLaws : Type 0 where
  -- each place but the reserved parameter's is that of its identifier,
  pub place_of_id : (p : ℕ) → p < places → (p ≡ 11 → ⊥) → place_of (id_at p) ≡ p
  -- and a known identifier is that of its place
  pub id_of_place : (id : ℕ) → place_of id < places → id_at (place_of id) ≡ id
  -- a reserved identifier (RFC 9000 section 18.1) is unknown
  pub reserved_unknown : (id : ℕ) → id % 31 ≡ 27 → places ≤ place_of id
