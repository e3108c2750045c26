-- What is printed of bytes and of a count of them, in ASCII.
use Rattle.std.specs.Prelude.{ℕ, ◌/◌, ◌%◌, List, [], ◌∷◌, ◌++◌, flat_map, codes, decimal, eqb}
use Rattle.std.specs.Char.{digit_char}
use Rattle.refusal.specs.Outcome.{pick}

-- a count of bytes
abbrev pub count_text : ℕ → List ℕ
count_text n = pick (eqb n 1) (codes "1 byte") (decimal n ++ codes " bytes")

-- a byte in hexadecimal, the high digit first; and bytes
abbrev pub hex_pair : ℕ → List ℕ
hex_pair b = digit_char (b / 16) ∷ digit_char (b % 16) ∷ []

abbrev pub hex_digits : List ℕ → List ℕ
hex_digits bytes = flat_map hex_pair bytes
