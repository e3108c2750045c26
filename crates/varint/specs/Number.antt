-- Variable-length integers (RFC 9000 section 16), over lists of bytes as numbers.
use Rattle.std.specs.Prelude.{ℕ, ◌+◌, ◌-◌, ◌*◌, ◌/◌, ◌%◌, ◌^◌, List, [], ◌∷◌, length, take, ltb, leb}
use Rattle.refusal.specs.Outcome.{Outcome, accepted, refused, pick, store}
use Rattle.words.specs.Words.{value_from, bytes_of}
use Rattle.varint.specs.declared.Decoded.{Decoded}

-- numbers that the wire form carries are below this
abbrev pub bound : ℕ
bound = 2 ^ 62

-- v on the bits that tag k leaves, in network byte order
unfoldable pub form : ℕ → ℕ → List ℕ
form k v = (k * 64 + v / 256 ^ (2 ^ k - 1)) ∷ bytes_of (2 ^ k - 1) v

-- the least tag whose form has room for v: 6, 14, 30 or 62 bits
unfoldable pub tag_of : ℕ → ℕ
tag_of v = pick (ltb v (2 ^ 6)) 0 (pick (ltb v (2 ^ 14)) 1 (pick (ltb v (2 ^ 30)) 2 3))

-- the shortest form
abbrev pub number_bytes : ℕ → List ℕ
number_bytes v = form (tag_of v) v

-- what reading gives: the number, its byte count, and how many bytes its shortest form would have
-- saved
abbrev pub with_saved : ℕ → ℕ → Decoded
with_saved v n = record { value = v; count = n; saved = n - length (number_bytes v) }

-- the two most significant bits of the first byte are the base-2 logarithm of the length in bytes;
-- the number is on the remaining bits, in network byte order. 3 if no byte is there, or fewer than
-- the first calls for
unfoldable pub read_number : List ℕ → Outcome Decoded
read_number [] = refused 3
read_number (b ∷ bs) =
    pick (leb (2 ^ (b / 64)) (length (b ∷ bs)))
    (accepted (with_saved (value_from (b % 64) (take (2 ^ (b / 64) - 1) bs)) (2 ^ (b / 64))))
    (refused 3)

-- how the code goes about it where eight bytes are left: the same, which no number outruns; zeros
-- of fewer
abbrev pub read_wide : List ℕ → Outcome Decoded
read_wide s = pick (leb 8 (length s)) (read_number s) (accepted (record { value = 0; count = 0; saved = 0 }))

-- what writing v to a buffer answers, and the buffer afterwards: 4, then 5
unfoldable pub write_number : ℕ → List ℕ → Outcome ℕ × List ℕ
write_number v out = pick (ltb v bound) (store (number_bytes v) out) (refused 4, out)

-- a number that the wire form carries: 4 for any other
unfoldable pub convert_number : ℕ → Outcome ℕ
convert_number v = pick (ltb v bound) (accepted v) (refused 4)

-- the length of its shortest form: 4 for a number that has none
unfoldable pub size_number : ℕ → Outcome ℕ
size_number v = pick (ltb v bound) (accepted (length (number_bytes v))) (refused 4)
