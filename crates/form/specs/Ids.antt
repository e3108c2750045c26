-- The connection ID that a word says, by its image: its bytes in hexadecimal, or (empty).
use Rattle.std.specs.Prelude.{ℕ, List, [], ◌∷◌, Result, Ok, Err, replicate, set, leb}
use Rattle.refusal.specs.Outcome.{pick}
use Rattle.words.specs.Words.{same_bytes}
use Rattle.text.specs.declared.HexError.{HexError}
use Rattle.text.specs.declared.HexError.TheVariants.{Strange, Odd, Long}
use Rattle.text.specs.Text.{hex_stored}
use Rattle.form.specs.declared.Complaint.{Complaint}
use Rattle.form.specs.declared.Complaint.TheVariants.{Digits}

-- the word (empty)
abbrev pub empty_word : List ℕ
empty_word = 40 ∷ 101 ∷ 109 ∷ 112 ∷ 116 ∷ 121 ∷ 41 ∷ []

-- how many bytes a word has; of too many the count is 255, which no connection ID has
abbrev pub count_of : Result ℕ HexError → Result ℕ Complaint
count_of (Ok n) = Ok (pick (leb n 255) n 255)
count_of (Err Long) = Ok 255
count_of (Err Odd) = Err Digits
count_of (Err (Strange i)) = Err Digits

-- the bytes behind their count
abbrev pub counted : Result ℕ Complaint → List ℕ → Result (List ℕ) Complaint
counted (Ok n) bytes = Ok (set bytes 0 n)
counted (Err e) bytes = Err e

abbrev pub of_hex : Result ℕ HexError × List ℕ → Result (List ℕ) Complaint
of_hex h = counted (count_of h.0) h.1

unfoldable pub cid_said : List ℕ → Result (List ℕ) Complaint
cid_said digits =
    pick (same_bytes digits empty_word) (Ok (replicate 21 0))
    (of_hex (hex_stored digits 1 20 (replicate 21 0)))
