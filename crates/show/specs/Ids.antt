-- What is printed of a connection ID.
use Rattle.std.specs.Prelude.{ℕ, zero, suc, List, [], ◌∷◌, take, codes}
use Rattle.text.specs.Shown.{hex_digits}

-- an ID behind its length: its bytes in hexadecimal, as far as they are there, or (empty)
abbrev pub cid_text : List ℕ → List ℕ
cid_text [] = codes "(empty)"
cid_text (zero ∷ bytes) = codes "(empty)"
cid_text (suc n ∷ bytes) = hex_digits (take (suc n) bytes)
