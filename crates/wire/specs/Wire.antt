-- How the code goes about it: nothing to believe, since the contract of `writer::write` is an
-- equation with `write` (writer/specs/Writing.antt). Parameters stored at the front of a buffer:
-- all of a parameter, or nothing of it.
use Rattle.std.specs.Prelude.{ℕ, ◌≤◌, ◌≡◌, List, [], ◌++◌, Bool, ◌&&◌, not, length, take, get_or, ltb, leb, eqb}
use Rattle.refusal.specs.Outcome.{pick, front}
use Rattle.varint.specs.Number.{bound, number_bytes}
use Rattle.catalogue.specs.Catalogue.{defaults, id_at, parameter}

-- how many bytes are stored at the front of a buffer, and the buffer afterwards: none where there
-- is no room for all
unfoldable pub put : List ℕ → List ℕ → ℕ × List ℕ
put bs out = pick (leb (length bs) (length out)) (length bs, front bs out) (0, out)

-- identifier and length, if the wire form carries both
unfoldable pub head_of : ℕ → ℕ → List ℕ
head_of id n = pick (ltb id bound && ltb n bound) (number_bytes id ++ number_bytes n) []

-- they are the first n bytes of a buffer
pub record Headed (id len n : ℕ) (out' : List ℕ) : Type 0 where
  pub some : 1 ≤ n
  pub count : n ≡ length (head_of id len)
  pub bytes : take n out' ≡ head_of id len

-- a parameter, if it is due and the wire form carries its identifier and length
unfoldable pub due_value : Bool → ℕ → List ℕ → List ℕ
due_value due id v = pick (due && (ltb id bound && ltb (length v) bound)) (parameter id v) []

-- the same for a number, in its shortest form, if it has one
unfoldable pub due_number : Bool → ℕ → ℕ → List ℕ
due_number due id x = due_value (due && ltb x bound) id (number_bytes x)

-- what is due at places 0 to 10: a number that is not the default
unfoldable pub due_number_at : List ℕ → ℕ → List ℕ
due_number_at ns p = due_number (not (eqb (get_or ns p 0) (get_or defaults p 0))) (id_at p) (get_or ns p 0)
