-- Laws of hexadecimal numbers. Assumes nothing.
--     digit_kept, digit_lost    a digit that was stored, and one that was not
--     put_more          the buffer with one more digit
--     Met               what is so behind the first i characters, n of them digits; and what
--                       follows from it:
--       past_gap, past_digit    one character later
--       is_strange, is_long, is_odd, is_bytes    what the whole text is
use Prim.Native.Nat.{ℕ, suc, ◌+◌, ◌*◌, ◌/◌, ◌%◌, ◌≤◌, ◌<◌}
use mathlib.Core.Path.{◌≡◌, refl, sym, ap, ◌∙◌}
use mathlib.Core.List.{List, [], ◌∷◌, ◌++◌, append-nil}
use mathlib.Core.Bool.{Bool, true, false}
use native.Mathlib.Omega.{arith}
use lib.ListN.{length, get_or, take, drop, set, length-set, length-append, drop_of_length-le}
use lib.Seq.{append_snoc, sets, length-sets, set_out, set-set, get_or-set_same, take_all, take_at, length-take-le}
use lib.Bits.{bit_or, or_shifted}
use lib.Dec.{eqb, ltb}
use borrow.Author.Tests.{lt-ltb, le-ltb, ltb-true, ltb-false, eq-eqb, ne_eqb}
use Rattle.refusal.specs.Outcome.{pick}
use Rattle.std.specs.Prelude.{Ok, Err}
use Rattle.text.specs.declared.HexError.TheVariants.{Strange, Odd, Long}
use Rattle.text.specs.Text.{stored, digit_of, known, digits_in, packed, fitting, hex_text, hex_stored, digit_stored}
use Rattle.text.proofs.Decimals.{more, rest}

digits_append : (a b : List ℕ) → digits_in (a ++ b) ≡ digits_in a ++ digits_in b
digits_append [] b = refl
digits_append (c ∷ a) b = go (ltb (digit_of c) 16) (digits_append a b)
  where
    go : (t : Bool) → digits_in (a ++ b) ≡ digits_in a ++ digits_in b → pick t (digit_of c ∷ digits_in (a ++ b)) (digits_in (a ++ b)) ≡ pick t (digit_of c ∷ digits_in a) (digits_in a) ++ digits_in b
    go true e = ap (λ l. digit_of c ∷ l) e
    go false e = e

-- PACKED DIGITS
packed_length : (ds : List ℕ) → length (packed ds) ≡ (length ds + 1) / 2
packed_length [] = refl
packed_length (a ∷ []) = refl
packed_length (a ∷ b ∷ ds) = omega (arith, packed_length ds)

packed_even : (ds xs : List ℕ) → length ds % 2 ≡ 0 → packed (ds ++ xs) ≡ packed ds ++ packed xs
packed_even [] xs e = refl
packed_even (a ∷ []) xs e = absurd (omega arith)
packed_even (a ∷ b ∷ ds) xs e = ap (λ l. (a * 16 + b) ∷ l) (packed_even ds xs (omega arith))

pub put_more : (ds out : List ℕ) (at d : ℕ) → d < 16 → at + length ds / 2 < length out
    → set (sets out at (packed ds)) (at + length ds / 2) (pick (eqb (length ds % 2) 0) (d * 16 % 256) (bit_or (get_or (sets out at (packed ds)) (at + length ds / 2) 0) d))
    ≡ sets out at (packed (ds ++ (d ∷ [])))
put_more [] out at d h k =
    let z : at + 0 ≡ at = omega arith in
    let m : d * 16 % 256 ≡ d * 16 = omega arith in
    rw (z, m)
put_more (a ∷ []) out at d h k =
    let z : at + 0 ≡ at = omega arith in
    rw (z, get_or-set_same out at (a * 16) 0 (omega arith), or_shifted a 4 d h, set-set out at (a * 16) (a * 16 + d))
put_more (a ∷ b ∷ ds) out at d h k =
    let e : suc (suc (length ds)) / 2 ≡ suc (length ds / 2) = omega arith in
    let f : suc (suc (length ds)) % 2 ≡ length ds % 2 = omega arith in
    let g : at + suc (length ds / 2) ≡ suc at + length ds / 2 = omega arith in
    rw (e, f, g) (put_more ds (set out at (a * 16 + b)) (suc at) d h (rw (length-set out at (a * 16 + b)) (omega arith)))

-- ONE CHARACTER
module _ (s : List ℕ) (i : ℕ) (h : i < length s) where
  known_strange : digit_of (get_or s i 0) ≡ 17 → known s ≡ take i s ++ known (drop i s) → known s ≡ take i s
  known_strange d k = k ∙ rw (rest s i h, eq-eqb (digit_of (get_or s i 0)) 17 d) (append-nil (take i s))

  known_more : (digit_of (get_or s i 0) ≡ 17 → ⊥) → known s ≡ take i s ++ known (drop i s) → known s ≡ take (i + 1) s ++ known (drop (i + 1) s)
  known_more d k =
      k ∙ rw (rest s i h, ne_eqb (digit_of (get_or s i 0)) 17 d, more s i h) (sym (append_snoc (take i s) (get_or s i 0) (known (drop (i + 1) s))))

  digits_gap : digit_of (get_or s i 0) ≡ 16 → digits_in (take (i + 1) s) ≡ digits_in (take i s)
  digits_gap d =
      rw (more s i h, digits_append (take i s) (get_or s i 0 ∷ []), le-ltb (digit_of (get_or s i 0)) 16 (omega arith)) (append-nil (digits_in (take i s)))

  digits_more : digit_of (get_or s i 0) < 16 → digits_in (take (i + 1) s) ≡ digits_in (take i s) ++ (digit_of (get_or s i 0) ∷ [])
  digits_more d = rw (more s i h, digits_append (take i s) (get_or s i 0 ∷ []), lt-ltb (digit_of (get_or s i 0)) 16 d)

-- STORING A DIGIT
module _ (at room n d : ℕ) (out l : List ℕ) (r : Bool) (x : (r, l) ≡ digit_stored at room n d out) where
  abbrev byte : ℕ
  byte = pick (eqb (n % 2) 0) (d * 16 % 256) (bit_or (get_or out (at + n / 2) 0) d)

  pub digit_kept : r ≡ true → (n / 2 < room) × (at + n / 2 < length out) × (l ≡ set out (at + n / 2) byte)
  unfolding digit_stored
  digit_kept t = go (ltb (n / 2) room) refl x
    where
      go : (b : Bool) → ltb (n / 2) room ≡ b → (r, l) ≡ pick b (stored (at + n / 2) byte out) (false, out)
          → (n / 2 < room) × (at + n / 2 < length out) × (l ≡ set out (at + n / 2) byte)
      go true e y = (ltb-true (n / 2) room e, ltb-true (at + n / 2) (length out) (sym (ap (λ p. p.0) y) ∙ t), ap (λ p. p.1) y)
      go false e y = let f = ap (λ p. p.0) y in cc

  pub digit_lost : r ≡ false → (fitting at room out ≤ n / 2) × (l ≡ out)
  unfolding digit_stored
  digit_lost t = go (ltb (n / 2) room) refl x
    where
      go : (b : Bool) → ltb (n / 2) room ≡ b → (r, l) ≡ pick b (stored (at + n / 2) byte out) (false, out) → (fitting at room out ≤ n / 2) × (l ≡ out)
      go true e y =
          let k : length out ≤ at + n / 2 = ltb-false (at + n / 2) (length out) (sym (ap (λ p. p.0) y) ∙ t) in
          (omega arith, ap (λ p. p.1) y ∙ set_out out (at + n / 2) byte k)
      go false e y = (omega (arith, ltb-false (n / 2) room e), ap (λ p. p.1) y)

-- BEHIND SOME CHARACTERS
pub record Met (s first : List ℕ) (at room i n : ℕ) (out : List ℕ) : Type 0 where
  pub plain : known s ≡ take i s ++ known (drop i s)
  pub count : n ≡ length (digits_in (take i s))
  pub within : n ≤ 2 * fitting at room first
  pub stores : out ≡ sets first at (packed (digits_in (take i s)))

module _ (s first : List ℕ) (at room i n : ℕ) (out : List ℕ) (m : Met s first at room i n out) where
  pub met_length : length out ≡ length first
  met_length = ap length m.stores ∙ length-sets first at (packed (digits_in (take i s)))

  pub past_gap : i < length s → digit_of (get_or s i 0) ≡ 16 → Met s first at room (i + 1) n out
  past_gap h d =
      record {
        plain = known_more s i h (λ e. omega arith) m.plain;
        count = rw (digits_gap s i h d) m.count;
        within = m.within;
        stores = rw (digits_gap s i h d) m.stores;
      }

  pub past_digit : i < length s → digit_of (get_or s i 0) < 16 → (r : Bool) (l : List ℕ) → (r, l) ≡ digit_stored at room n (digit_of (get_or s i 0)) out → r ≡ true
      → Met s first at room (i + 1) (n + 1) l
  past_digit h d r l x t =
      let k = digit_kept at room n (digit_of (get_or s i 0)) out l r x t in
      let e = met_length in
      record {
        plain = known_more s i h (λ e. omega arith) m.plain;
        count = rw (digits_more s i h d, length-append (digits_in (take i s)) (digit_of (get_or s i 0) ∷ []), ← m.count);
        within = omega arith;
        stores = k.2 ∙ rw (digits_more s i h d, m.stores, m.count) (put_more (digits_in (take i s)) first at (digit_of (get_or s i 0)) d (omega (arith, m.count)));
      }

  -- all digits fit
  fits : length (packed (digits_in (take i s))) ≤ fitting at room first
  fits = omega (arith, packed_length (digits_in (take i s)), m.count, m.within)

  pub is_strange : i < length s → digit_of (get_or s i 0) ≡ 17 → (Err (Strange i), out) ≡ hex_stored s at room first
  unfolding hex_stored hex_text
  is_strange h d =
      rw (
        known_strange s i h d m.plain,
        ← m.count,
        le-ltb (2 * fitting at room first) n m.within,
        length-take-le i s (omega arith),
        lt-ltb i (length s) h,
        take_all (fitting at room first) (packed (digits_in (take i s))) fits,
        ← m.stores,
      )

  module _ (h : length s ≤ i) where
    whole : known s ≡ take i s
    whole = m.plain ∙ rw (drop_of_length-le s h) (append-nil (take i s))

    ended : (pick (eqb (n % 2) 1) (Err Odd) (Ok (n / 2)), out) ≡ hex_stored s at room first
    unfolding hex_stored hex_text
    ended =
        rw (
          whole,
          ← m.count,
          le-ltb (2 * fitting at room first) n m.within,
          ap length (take_all i s h),
          le-ltb (length s) (length s) (omega arith),
          take_all (fitting at room first) (packed (digits_in (take i s))) fits,
          ← m.stores,
        )

    pub is_odd : n % 2 ≡ 1 → (Err Odd, out) ≡ hex_stored s at room first
    is_odd d = rw (eq-eqb (n % 2) 1 d) at ended

    pub is_bytes : (n % 2 ≡ 1 → ⊥) → (Ok (n / 2), out) ≡ hex_stored s at room first
    is_bytes d = rw (ne_eqb (n % 2) 1 d) at ended

  module _ (h : i < length s) (d : digit_of (get_or s i 0) < 16) (f : fitting at room first ≤ n / 2) where
    -- all digits of the text
    all : digits_in (known s) ≡ digits_in (take i s) ++ (digit_of (get_or s i 0) ∷ digits_in (known (drop (i + 1) s)))
    all =
        ap digits_in (known_more s i h (λ e. omega arith) m.plain)
        ∙ digits_append (take (i + 1) s) (known (drop (i + 1) s))
        ∙ rw (digits_more s i h d) (append_snoc (digits_in (take i s)) (digit_of (get_or s i 0)) (digits_in (known (drop (i + 1) s))))

    many : 2 * fitting at room first < length (digits_in (known s))
    many = rw (all, length-append (digits_in (take i s)) (digit_of (get_or s i 0) ∷ digits_in (known (drop (i + 1) s))), ← m.count) (omega (arith, m.within))

    long : (Err Long, out) ≡ hex_stored s at room first
    unfolding hex_stored hex_text
    long =
        rw (
          lt-ltb (2 * fitting at room first) (length (digits_in (known s))) many,
          all,
          packed_even (digits_in (take i s)) (digit_of (get_or s i 0) ∷ digits_in (known (drop (i + 1) s))) (omega (arith, m.count, m.within)),
          take_at (packed (digits_in (take i s))) (packed (digit_of (get_or s i 0) ∷ digits_in (known (drop (i + 1) s)))) (fitting at room first)
              (omega (arith, packed_length (digits_in (take i s)), m.count, m.within)),
          ← m.stores,
        )

  pub is_long : i < length s → digit_of (get_or s i 0) < 16 → (r : Bool) (l : List ℕ) → (r, l) ≡ digit_stored at room n (digit_of (get_or s i 0)) out → r ≡ false
      → (Err Long, l) ≡ hex_stored s at room first
  is_long h d r l x t =
      let k = digit_lost at room n (digit_of (get_or s i 0)) out l r x t in
      rw k.1 (long h d (rw met_length at k.0))
