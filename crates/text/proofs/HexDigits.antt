-- What `{:02x}` prints of one byte more. Assumes nothing.
use Prim.Native.Nat.{ℕ, ◌+◌, ◌<◌, ◌-◌, ◌^◌, ◌/◌, ◌%◌}
use mathlib.Core.Path.{◌≡◌, refl, sym, ap, ◌∙◌}
use mathlib.Core.Bool.{Bool, true, false}
use mathlib.Core.List.{List, [], ◌++◌}
use lib.ListN.{length, take, get_or}
use Rattle.std.specs.List.{flat_map}
use Rattle.std.specs.Prelude.{nat_lt, cond, if◌then◌else◌}
use Rattle.std.specs.Char.{digit_char}
use Rattle.std.specs.Fmt.{padded_integral, format_spec, digits, digit_glyph}
use Rattle.std.proofs.lemmas.Fmt.{hex_byte}
use Rattle.std.proofs.lemmas.List.{take_more, flat_map_more}
use Rattle.text.specs.Shown.{hex_pair}

pub glyph_of : (b : Bool) (d : ℕ) → (if b then 48 + d else 87 + d) ≡ cond b (48 + d) (87 + d)
glyph_of true d = refl
glyph_of false d = refl

pub glyph : (d : ℕ) → digit_glyph false d ≡ digit_char d
glyph d = glyph_of (nat_lt d 10) d

pub hex_more : (s : List ℕ) (i : ℕ) → i < length s → get_or s i 0 < 256
    → flat_map hex_pair (take i s) ++ padded_integral (format_spec 32 0 4 2 (2 ^ 64 - 1)) false [] (digits 16 false (get_or s i 0)) ≡ flat_map hex_pair (take (i + 1) s)
hex_more s i l small =
    rw (hex_byte false (get_or s i 0) small, glyph (get_or s i 0 / 16), glyph (get_or s i 0 % 16))
    (flat_map_more hex_pair [] (take i s) (get_or s i 0) ∙ ap (flat_map hex_pair) (sym (take_more s i 0 l)))
