-- How the code goes about it: nothing to believe, since the contract of `tidy::tidy` is an equation
-- with `tidy` (tidy/specs/Tidying.antt). What tidying writes, as it is found: from the numbers, and
-- from where the values stand in the extension.
use Rattle.std.specs.Prelude.{ℕ, ◌+◌, ◌-◌, List, ◌++◌, Bool, get_or, take, drop}
use Rattle.marks.specs.Mark.{marked}
use Rattle.catalogue.specs.Catalogue.{Kind, number, flag, cid, token, address, versions, reserved, places, id_at, kind_at}
use Rattle.index.specs.Index.{Found}
use Rattle.wire.specs.Wire.{due_value, due_number, due_number_at}
use Rattle.wire.specs.Stored.{each}

-- where a value that is no number stands
unfoldable pub span_at : List ℕ → Found → ℕ → List ℕ
span_at s f p = take (get_or f.2 p 0) (drop (get_or f.1 p 0) s)

-- what is due at a place, from what was found there: a number, or the value where it stands
unfoldable pub piece_of : Kind → Bool → ℕ → ℕ → List ℕ → List ℕ
piece_of number due id x v = due_number due id x
piece_of flag due id x v = due_value due id v
piece_of cid due id x v = due_value due id v
piece_of token due id x v = due_value due id v
piece_of address due id x v = due_value due id v
piece_of versions due id x v = due_value due id v
piece_of reserved due id x v = due_value due id v

unfoldable pub piece_for : ℕ → List ℕ → Found → ℕ → List ℕ
piece_for id s f p = piece_of (kind_at p) (marked f.0 p) id (get_or f.1 p 0) (span_at s f p)

-- from place 12 on, and all of them
unfoldable pub others : List ℕ → Found → List (List ℕ)
others s f = each (λ i. piece_for (id_at (12 + i)) s f (12 + i)) (places - 12)

unfoldable pub pieces : List ℕ → Found → List (List ℕ)
pieces s f = each (due_number_at f.1) 11 ++ others s f
