-- How the code goes about it: nothing to believe, since the contract of `writer::write` is an
-- equation with `write` (writer/specs/Writing.antt). What writers leave, of a parameter and of
-- several, one after another.
use Rattle.std.specs.Prelude.{ℕ, zero, suc, ◌≤◌, List, [], ◌∷◌, ◌++◌, ◌≡◌, length}
use Rattle.refusal.specs.Outcome.{front}

-- bytes, most of them at most, stand at the front of a buffer, and n is how many
pub record Wrote (most : ℕ) (bs out : List ℕ) (n : ℕ) (out' : List ℕ) : Type 0 where
  pub count : n ≡ length bs
  pub few : n ≤ most
  pub bytes : out' ≡ front bs out

-- parameters, one after another
unfoldable pub joined : List (List ℕ) → List ℕ
joined [] = []
joined (s ∷ ss) = s ++ joined ss

-- f of the places below n
unfoldable pub each : (ℕ → List ℕ) → ℕ → List (List ℕ)
each f zero = []
each f (suc n) = each f n ++ (f n ∷ [])
