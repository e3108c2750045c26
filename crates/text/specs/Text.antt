-- What text holds: words, decimal and hexadecimal numbers; and what storing them leaves in a
-- buffer. Characters are bytes, and `sets` stores bytes from a place on, as far as there is room.
use Rattle.std.specs.Prelude.{ℕ, zero, suc, ◌≡◌, ◌<◌, ◌+◌, ◌-◌, ◌*◌, ◌/◌, ◌%◌, ◌^◌, min, Bool, true, false, ◌&&◌, ◌||◌, not, List, [], ◌∷◌, length, get_or, take, drop, set, eqb, leb, ltb, Option, Some, None, Result, Ok, Err}
use Rattle.std.proofs.lemmas.List.Edits.{sets}
use Rattle.std.specs.Int.Bits.{bit_or}
use Rattle.refusal.specs.Outcome.{pick}
use Rattle.words.specs.Words.{every, bytes_of}
use Rattle.text.specs.declared.Character.{Character}
use Rattle.text.specs.declared.Character.TheVariants.{Digit, Gap, Other}
use Rattle.text.specs.declared.HexError.{HexError}
use Rattle.text.specs.declared.HexError.TheVariants.{Strange, Odd, Long}

-- a byte stored at a place, if there is that place; and whether there is
abbrev pub stored : ℕ → ℕ → List ℕ → Bool × List ℕ
stored p b out = (ltb p (length out), set out p b)

-- CHARACTERS
-- what parts words: the end of a line alone, or any space and sep
unfoldable pub is_gap : ℕ → ℕ → Bool
is_gap sep b =
    pick (eqb sep 10) (eqb b sep)
    (eqb b 32 || (eqb b 9 || (eqb b 10 || (eqb b 13 || eqb b sep))))

abbrev pub in_range : ℕ → ℕ → ℕ → Bool
in_range low high b = leb low b && leb b high

-- the digit 0 to 15 that a character is, of 0 to 9, a to f and A to F; 16 for a gap or a colon, 17
-- for any other
unfoldable pub digit_of : ℕ → ℕ
digit_of b =
    pick (in_range 48 57 b) (b - 48)
    (pick (in_range 97 102 b) (b - 97 + 10)
    (pick (in_range 65 70 b) (b - 65 + 10)
    (pick (is_gap 58 b) 16 17)))

-- the same, as the code names it
abbrev pub IsCharacter : ℕ → Character → Type 0
IsCharacter b (Digit d) = (d ≡ digit_of b) × (d < 16)
IsCharacter b Gap = digit_of b ≡ 16
IsCharacter b Other = digit_of b ≡ 17

-- WORDS
-- how many characters stand before the first that passes a test
abbrev pub before : (ℕ → Bool) → List ℕ → ℕ
before f [] = 0
before f (c ∷ cs) = pick (f c) 0 (suc (before f cs))

-- the characters from the first word on; and those behind it
abbrev pub from_word : ℕ → List ℕ → List ℕ
from_word sep cs = drop (before (λ c. not (is_gap sep c)) cs) cs

abbrev pub past_word : ℕ → List ℕ → List ℕ
past_word sep cs = drop (before (is_gap sep) (from_word sep cs)) (from_word sep cs)

-- word k, counted from 0: what stands up to the next gap; nothing if there are fewer
abbrev pub word_at : ℕ → ℕ → List ℕ → List ℕ
word_at sep zero cs = take (before (is_gap sep) (from_word sep cs)) (from_word sep cs)
word_at sep (suc k) cs = word_at sep k (past_word sep cs)

-- the words, at most n of them; and all, each of a character or more
abbrev pub words_up_to : ℕ → ℕ → List ℕ → List (List ℕ)
words_up_to sep zero cs = []
words_up_to sep (suc n) cs =
    pick (eqb (length (word_at sep 0 cs)) 0) []
    (word_at sep 0 cs ∷ words_up_to sep n (past_word sep cs))

unfoldable pub words_in : ℕ → List ℕ → List (List ℕ)
words_in sep cs = words_up_to sep (length cs) cs

-- DECIMAL NUMBERS
-- the number that decimal digits make after the number v
abbrev pub decimal_from : ℕ → List ℕ → ℕ
decimal_from v [] = v
decimal_from v (b ∷ bs) = decimal_from (10 * v + (b - 48)) bs

-- a number as it is kept: the largest there is, if it has 2^60 or more before its last digit
unfoldable pub kept : ℕ → ℕ
kept v = pick (ltb (v / 10) (2 ^ 60)) v (2 ^ 64 - 1)

-- what decimal text is: a number, if it has digits and nothing else
unfoldable pub decimal : List ℕ → Option ℕ
decimal text =
    pick (ltb 0 (length text) && every (in_range 48 57) text)
    (Some (kept (decimal_from 0 text))) None

-- the number of a text, if it is one of at most `most`, stored in n bytes, high byte first; and
-- whether it is
abbrev pub number_stored : ℕ → ℕ → ℕ → List ℕ → Option ℕ → Bool × List ℕ
number_stored most at n out (Some x) =
    pick (leb x most) (true, sets out at (bytes_of n x)) (false, out)
number_stored most at n out None = (false, out)

-- a number below 256 before others; nothing if it is none
abbrev pub listed : Option ℕ → List ℕ → List ℕ
listed (Some x) l = pick (leb x 255) (x ∷ l) []
listed None l = []

-- the numbers below 256 that the words are, m of them from word k on, up to the first that is none
abbrev pub byte_words : ℕ → List ℕ → ℕ → ℕ → List ℕ
byte_words sep text zero k = []
byte_words sep text (suc m) k =
    listed (decimal (word_at sep k text)) (byte_words sep text m (suc k))

-- the words from word `from` up to word `to`, which is none of them, stored as bytes; and whether
-- each is one and there is no word `to`
unfoldable pub list_stored : List ℕ → ℕ → ℕ → ℕ → ℕ → List ℕ → Bool × List ℕ
list_stored text from to sep at out = (
  eqb (length (byte_words sep text (to - from) from)) (to - from)
      && eqb (length (word_at sep to text)) 0,
  sets out at (byte_words sep text (to - from) from),
)

-- HEXADECIMAL NUMBERS
-- the characters before the first strange one
abbrev pub known : List ℕ → List ℕ
known [] = []
known (c ∷ cs) = pick (eqb (digit_of c) 17) [] (c ∷ known cs)

-- the digits among characters
abbrev pub digits_in : List ℕ → List ℕ
digits_in [] = []
digits_in (c ∷ cs) = pick (ltb (digit_of c) 16) (digit_of c ∷ digits_in cs) (digits_in cs)

-- two digits to a byte, the high one first; a last one alone is a high one
abbrev pub packed : List ℕ → List ℕ
packed [] = []
packed (h ∷ []) = h * 16 ∷ []
packed (h ∷ l ∷ ds) = (h * 16 + l) ∷ packed ds

-- how many of `room` bytes a buffer has from a place on
abbrev pub fitting : ℕ → ℕ → List ℕ → ℕ
fitting at room out = min room (length out - at)

-- what hexadecimal text is where there is room for some bytes. Of a strange character and a digit
-- too many, the first counts
unfoldable pub hex_text : List ℕ → ℕ → Result ℕ HexError
hex_text text room =
    pick (ltb (2 * room) (length (digits_in (known text)))) (Err Long)
    (pick (ltb (length (known text)) (length text)) (Err (Strange (length (known text))))
    (pick (eqb (length (digits_in (known text)) % 2) 1) (Err Odd)
    (Ok (length (digits_in (known text)) / 2))))

-- what text is, and the buffer with the bytes that it holds, as far as there is room. The digits
-- before a strange character are stored too
unfoldable pub hex_stored : List ℕ → ℕ → ℕ → List ℕ → Result ℕ HexError × List ℕ
hex_stored text at room out = (
  hex_text text (fitting at room out),
  sets out at (take (fitting at room out) (packed (digits_in (known text)))),
)

-- the number that hexadecimal digits make after the number v
abbrev pub hex_from : ℕ → List ℕ → ℕ
hex_from v [] = v
hex_from v (b ∷ bs) = hex_from (16 * v + digit_of b) bs

abbrev pub is_digit : ℕ → Bool
is_digit b = ltb (digit_of b) 16

-- the number of a text, if it is one to eight digits and nothing else
unfoldable pub hex_number : List ℕ → Option ℕ
hex_number text =
    pick (ltb 0 (length text) && (leb (length text) 8 && every is_digit text))
    (Some (hex_from 0 text)) None

-- whether text is 16 bytes
abbrev pub are_sixteen : Result ℕ HexError → Bool
are_sixteen (Ok n) = eqb n 16
are_sixteen (Err e) = false

-- the same, with that for the answer
abbrev pub sixteen_stored : Result ℕ HexError × List ℕ → Bool × List ℕ
sixteen_stored h = (are_sixteen h.0, h.1)

-- the digit behind n others, stored if its byte is one of `room` bytes and there is that byte; and
-- whether it is
unfoldable pub digit_stored : ℕ → ℕ → ℕ → ℕ → List ℕ → Bool × List ℕ
digit_stored at room n d out =
    pick (ltb (n / 2) room)
    (stored (at + n / 2)
    (pick (eqb (n % 2) 0) (d * 16 % 256) (bit_or (get_or out (at + n / 2) 0) d)) out)
    (false, out)
