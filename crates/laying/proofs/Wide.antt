-- Numbers stored without a branch on their width: a form and zeros behind it. Assumes nothing.
--     tag_sum        the tag, as a sum of three tests
--     wide_bytes     the eight bytes of a form shifted to the high end
--     headed         identifier, length and value, stored one over the end of the other
--     lay_none, lay_whole, lay_nil    without room, with it, and of no bytes
--     lay_clear      on a buffer of zeros it is storing exactly
use Prim.Native.Nat.{ℕ, zero, suc, ◌+◌, ◌-◌, ◌*◌, ◌/◌, ◌%◌, ◌^◌, ◌≤◌, ◌<◌}
use mathlib.Core.List.{List, [], ◌∷◌, ◌++◌, append_assoc}
use mathlib.Core.Path.{◌≡◌, refl, ap, ap₂, sym, ◌∙◌}
use mathlib.Core.Bool.{Bool, true, false, ◌&&◌, and-false}
use mir.Val.{bool_byte}
use native.Mathlib.Omega.{arith}
use native.Mathlib.Nat.{div-one}
use lib.ListN.{length, take, drop, set, replicate, length-append, length-drop, length-replicate, take-append-drop}
use lib.Seq.{sets-eq, take_at, drop_at, drop-drop, take-take, take-append-le, drop-append-add, length-take-le}
use lib.Bits.{bit_or}
use lib.Dec.{ltb, leb, eqb}
use borrow.Author.Tests.{le-leb, lt-leb, leb-true, ltb-true, lt-ltb, le-ltb}
use Rattle.std.proofs.lemmas.List.{take_rest}
use Rattle.refusal.specs.Outcome.{pick, front}
use Rattle.std.proofs.lemmas.Bool.{and_parts}
use Rattle.std.proofs.lemmas.Bool.Decides.{nat_tests}
use Rattle.varint.specs.Number.{bound, form, tag_of, number_bytes}
use Rattle.varint.proofs.Bytes.{four, tag_le, length_form}
use Rattle.catalogue.specs.Catalogue.{parameter}
use Rattle.words.specs.Words.{zeros, bytes_of}
use Rattle.words.proofs.Laws.{or_beside, zeros_are, zeros_replicate, zeros_append}
use Rattle.wire.specs.Wire.{put, due_value, due_number}
use Rattle.laying.specs.Laying.{lay, number_rest, laid_number, laid_field}
use Rattle.wire.proofs.Stored.{lent, back, whole, length_front, front_nil, front_two}
use Rattle.wire.proofs.Put.{put_whole, number_size_lem, number_low, is_due, one_byte, due_short, short_form}

pub tag_sum : (x : ℕ) → bool_byte (leb 64 x) + bool_byte (leb 16384 x) + bool_byte (leb 1073741824 x) ≡ tag_of x
unfolding tag_of
tag_sum x = grind (arith, nat_tests)

eight : {a b d e f g h i a' b' d' e' f' g' h' i' : ℕ} → a ≡ a' → b ≡ b' → d ≡ d' → e ≡ e' → f ≡ f' → g ≡ g' → h ≡ h' → i ≡ i'
    → ◌≡◌ {A = List ℕ} (a ∷ b ∷ d ∷ e ∷ f ∷ g ∷ h ∷ i ∷ []) (a' ∷ b' ∷ d' ∷ e' ∷ f' ∷ g' ∷ h' ∷ i' ∷ [])
eight p q r s t u v w = ap₂ ◌∷◌ p (ap₂ ◌∷◌ q (ap₂ ◌∷◌ r (ap₂ ◌∷◌ s (ap₂ ◌∷◌ t (ap₂ ◌∷◌ u (ap₂ ◌∷◌ v (ap₂ ◌∷◌ w refl)))))))

-- the number whose high bytes are the form of tag k
abbrev pub shifted : ℕ → ℕ → ℕ
shifted k x = (bit_or (k * 2 ^ (8 * 2 ^ k - 2) % 2 ^ 64) x) * 2 ^ (64 - 8 * 2 ^ k) % 2 ^ 64

pub wide_bytes : (k x : ℕ) → k ≤ 3 → x < 64 * 256 ^ (2 ^ k - 1) → bytes_of 8 (shifted k x) ≡ form k x ++ replicate (8 - 2 ^ k) 0
unfolding form
wide_bytes k x h = four k (λ k. x < 64 * 256 ^ (2 ^ k - 1) → bytes_of 8 (shifted k x) ≡ form k x ++ replicate (8 - 2 ^ k) 0) h none one two three
  where
    none : x < 64 → bytes_of 8 (shifted 0 x) ≡ form 0 x ++ replicate 7 0
    none l = rw (or_beside 6 0 x (omega arith) l) (eight (omega arith) (omega arith) (omega arith) (omega arith) (omega arith) (omega arith) (omega arith) (omega arith))

    one : x < 64 * 256 → bytes_of 8 (shifted 1 x) ≡ form 1 x ++ replicate 6 0
    one l = rw (or_beside 14 1 x (omega arith) (omega arith)) (eight (omega arith) (omega arith) (omega arith) (omega arith) (omega arith) (omega arith) (omega arith) (omega arith))

    two : x < 64 * 256 ^ 3 → bytes_of 8 (shifted 2 x) ≡ form 2 x ++ replicate 4 0
    two l = rw (or_beside 30 2 x (omega arith) (omega arith)) (eight (omega arith) (omega arith) (omega arith) (omega arith) (omega arith) (omega arith) (omega arith) (omega arith))

    three : x < 64 * 256 ^ 7 → bytes_of 8 (shifted 3 x) ≡ form 3 x ++ replicate 0 0
    three l = rw (or_beside 62 3 x (omega arith) (omega arith)) (eight (omega arith) (omega arith) (omega arith) (omega arith) (omega arith) (omega arith) (omega arith) (omega arith))

-- the eight bytes of a number
pub eight_bytes : (y : ℕ) → y / 72057594037927936 % 256 ∷ y / 281474976710656 % 256 ∷ y / 1099511627776 % 256 ∷ y / 4294967296 % 256 ∷ y / 16777216 % 256 ∷ y / 65536 % 256 ∷ y / 256 % 256 ∷ y % 256 ∷ [] ≡ bytes_of 8 y
eight_bytes y = rw div-one

-- LAYING
module _ (room : ℕ) (bs more out : List ℕ) where
  pub lay_none : length out < room → (0, out) ≡ lay room bs more out
  unfolding lay
  lay_none h = rw (lt-leb _ _ h)

  pub lay_whole : (n : ℕ) (m : List ℕ) → room ≤ length out → n ≡ length bs → m ≡ front (bs ++ more) out → (n, m) ≡ lay room bs more out
  unfolding lay
  lay_whole n m h e f = rw (le-leb _ _ h) (ap₂ (λ (k : ℕ) (l : List ℕ). (k, l)) e f)

pub lay_nil : (room : ℕ) (out : List ℕ) → (0, out) ≡ lay room [] [] out
unfolding lay
lay_nil room out = go (leb room (length out))
  where
    go : (t : Bool) → ◌≡◌ {A = ℕ × List ℕ} (0, out) (pick t (0, front [] out) (0, out))
    go true = ap (λ (l : List ℕ). (0, l)) (sym (front_nil out))
    go false = refl

pub zeros_dropped : (n : ℕ) (l : List ℕ) → zeros l ≡ true → zeros (drop n l) ≡ true
zeros_dropped zero l h = h
zeros_dropped (suc n) [] h = refl
zeros_dropped (suc n) (b ∷ l) h = zeros_dropped n l (and_parts (eqb b 0) (zeros l) h).1

same_zeros : (a b : List ℕ) → zeros a ≡ true → zeros b ≡ true → length a ≡ length b → a ≡ b
same_zeros a b h k e = zeros_are a h ∙ ap (λ (n : ℕ). replicate n 0) e ∙ sym (zeros_are b k)

-- on a buffer of zeros, zeros behind change nothing
pub lay_clear : (room : ℕ) (bs more out : List ℕ) → room ≤ length out → zeros out ≡ true → zeros more ≡ true → length bs + length more ≤ room → lay room bs more out ≡ put bs out
unfolding lay front
lay_clear room bs more out r h k l =
    let s : more ++ drop (length (bs ++ more)) out ≡ drop (length bs) out =
    same_zeros _ _ (zeros_append more _ ∙ rw (k, zeros_dropped (length (bs ++ more)) out h)) (zeros_dropped (length bs) out h)
    (rw (length-append more (drop (length (bs ++ more)) out), length-drop, length-drop, length-append bs more) (omega arith)) in
    rw (le-leb _ _ r)
    (put_whole (length bs) bs out ((bs ++ more) ++ drop (length (bs ++ more)) out) (omega arith) refl
    (append_assoc bs more (drop (length (bs ++ more)) out) ∙ ap (λ (t : List ℕ). bs ++ t) s))

-- identifier, length and value: the zeros behind the identifier are written over
pub headed : (ds vs out m ys : List ℕ) (a t : ℕ) → a ≡ length ds → a ≤ 8 → 8 ≤ length vs → a + 1 + length vs ≤ length out → m ≡ front (ds ++ replicate (8 - a) 0) out
    → ys ≡ front vs (lent (a + 1) m) → set (back (a + 1) m ys) a t ≡ front (ds ++ (t ∷ vs)) out
unfolding front
headed ds vs out m ys a t e h k r f g =
    let w : List ℕ = ds ++ replicate (8 - a) 0 in
    let lw : length w ≡ 8 = rw (length-append ds (replicate (8 - a) 0), length-replicate) (omega arith) in
    let lm : length m ≡ length out = ap length f ∙ length_front w out (omega arith) in
    let lt : length (take (a + 1) m) ≡ a + 1 = length-take-le (a + 1) m (omega arith) in
    let l : List ℕ = take (a + 1) m ++ ys in
    let ll : a + 1 ≤ length l = rw (length-append (take (a + 1) m) ys) (omega arith) in
    let ta : take a l ≡ ds = take-append-le a (take (a + 1) m) ys (omega arith) ∙ take-take a (a + 1) m (omega arith)
    ∙ ap (take a) (f ∙ append_assoc ds (replicate (8 - a) 0) (drop (length w) out)) ∙ take_at ds _ a (sym e) in
    let da : drop (a + 1) l ≡ ys = drop_at (take (a + 1) m) ys (a + 1) lt in
    let dm : drop (a + 1 + length vs) m ≡ drop (a + 1 + length vs) out =
    let i : a + 1 + length vs ≡ length w + (a + 1 + length vs - 8) = omega arith in
    rw i (ap (drop (length w + (a + 1 + length vs - 8))) f ∙ drop-append-add w (drop (length w) out) (a + 1 + length vs - 8) ∙ drop-drop (a + 1 + length vs - 8) (length w) out) in
    let y : ys ≡ vs ++ drop (a + 1 + length vs) out = g ∙ rw (take_rest m (a + 1), drop-drop (length vs) (a + 1) m, dm) in
    let n : length (ds ++ (t ∷ vs)) ≡ a + 1 + length vs = rw (length-append ds (t ∷ vs)) (omega arith) in
    rw (whole (a + 1) m ys)
    (sets-eq (t ∷ []) l a ll ∙ rw (ta, da, y, n, append_assoc, append_assoc))

-- WHAT THE FUNCTIONS NEED
-- the bits of a form, as a number of 32 bits
pub record Bits (k : ℕ) : Type 0 where
  pub is : 8 * 2 ^ k % 2 ^ 32 ≡ 8 * 2 ^ k
  pub few : 8 ≤ 8 * 2 ^ k
  pub most : 8 * 2 ^ k ≤ 64

pub bits : (k : ℕ) → k ≤ 3 → Bits k
bits k h = four k Bits h (record { is = refl; few = omega arith; most = omega arith }) (record { is = refl; few = omega arith; most = omega arith })
    (record { is = refl; few = omega arith; most = omega arith }) (record { is = refl; few = omega arith; most = omega arith })

pub wide_stored : (x k r : ℕ) (s out : List ℕ) → k ≡ tag_of x → r ≡ 1 * 2 ^ k % 2 ^ 64 → s ≡ form k x ++ replicate (8 - 2 ^ k) 0
    → (r ≡ length (number_bytes x)) × (s ++ drop 8 out ≡ front (number_bytes x ++ replicate (8 - r) 0) out)
unfolding front
wide_stored x k r s out e f g =
    let w : 1 * 2 ^ k % 2 ^ 64 ≡ 2 ^ k = four k (λ k. 1 * 2 ^ k % 2 ^ 64 ≡ 2 ^ k) (rw e (tag_le x)) refl refl refl refl in
    let l : r ≡ 2 ^ k = f ∙ w in
    let n : r ≡ length (number_bytes x) = l ∙ ap (λ (i : ℕ). 2 ^ i) e ∙ sym (length_form (tag_of x) x (tag_le x)) in
    let q : s ≡ number_bytes x ++ replicate (8 - r) 0 = g ∙ rw (l, e) in
    let z : length (number_bytes x ++ replicate (8 - r) 0) ≡ 8 = rw (length-append (number_bytes x) (replicate (8 - r) 0), length-replicate) (omega (arith, number_size_lem x)) in
    (n, rw (z, ← q))

-- a number that is not due, or that the wire form does not carry
module _ (id x : ℕ) (out : List ℕ) where
  idle : (due a b d : Bool) → (due && (a && b)) ≡ false → pick ((due && a) && (b && d)) (parameter id (number_bytes x)) [] ≡ []
  idle due a b d h = let z : ((due && a) && (b && d)) ≡ false = grind (arith, nat_tests) in rw z

  pub number_idle : (due : Bool) → (due && (ltb x bound && ltb id bound)) ≡ false → (0, out) ≡ laid_number due id x out
  unfolding laid_number number_rest due_number due_value
  number_idle due h = rw (h, idle due (ltb x bound) (ltb id bound) (ltb (length (number_bytes x)) bound) h) (lay_nil 17 out)

  pub number_off : (due : Bool) → due ≡ false → (0, out) ≡ laid_number due id x out
  number_off due e = number_idle due (rw e)

  pub id_beyond : bound ≤ id → (0, out) ≡ laid_number true id x out
  id_beyond h = number_idle true (rw (le-ltb _ _ h) (and-false (ltb x bound)))

  pub number_beyond : bound ≤ x → (0, out) ≡ laid_number true id x out
  number_beyond h = number_idle true (rw (le-ltb _ _ h))

  pub number_short : length out < 17 → (0, out) ≡ laid_number true id x out
  unfolding laid_number
  number_short h = lay_none 17 (due_number true id x) (number_rest true id x) out h

  -- behind an identifier of one byte
  pub number_shortly : id < 64 → x < bound → 17 ≤ length out → (n : ℕ) (ys : List ℕ) → n ≡ length (number_bytes x)
      → ys ≡ front (number_bytes x ++ replicate (8 - n) 0) (lent 2 out) → (n + 2, set (set (back 2 out ys) 0 id) 1 n) ≡ laid_number true id x out
  unfolding laid_number number_rest
  number_shortly h k l n ys g q =
      let s = number_size_lem x in
      let b : due_number true id x ≡ id ∷ n ∷ number_bytes x = number_low id x k ∙ due_short id (number_bytes x) h (omega arith) ∙ rw (short_form id (number_bytes x) h (omega arith), g) in
      let i : id < bound = omega arith in
      rw (lt-ltb _ _ k, lt-ltb _ _ i)
      (lay_whole 17 (due_number true id x) (replicate (8 - length (number_bytes x)) 0) out (n + 2) (set (set (back 2 out ys) 0 id) 1 n) l
      (rw b (omega arith))
      (front_two id n (number_bytes x ++ replicate (8 - n) 0) out ys (omega arith) q ∙ rw (b, ← g)))

  -- stored widely
  pub number_widely : id < bound → x < bound → 17 ≤ length out → (a n : ℕ) (m ys : List ℕ) → a ≡ length (number_bytes id) → m ≡ front (number_bytes id ++ replicate (8 - a) 0) out
      → n ≡ length (number_bytes x) → ys ≡ front (number_bytes x ++ replicate (8 - n) 0) (lent (a + 1) m) → (a + 1 + n, set (back (a + 1) m ys) a n) ≡ laid_number true id x out
  unfolding laid_number number_rest
  number_widely h k l a n m ys e f g q =
      let s = number_size_lem x in
      let i = number_size_lem id in
      let vs : List ℕ = number_bytes x ++ replicate (8 - n) 0 in
      let lv : length vs ≡ 8 = rw (length-append (number_bytes x) (replicate (8 - n) 0), length-replicate) (omega arith) in
      let b : due_number true id x ≡ number_bytes id ++ (n ∷ number_bytes x) =
      number_low id x k ∙ is_due id (number_bytes x) true h (omega arith) ∙ (unfold parameter in rw (one_byte (length (number_bytes x)) (omega arith), g)) in
      let z : m ≡ front (number_bytes id ++ replicate (8 - a) 0) out = f in
      rw (lt-ltb _ _ k, lt-ltb _ _ h)
      (lay_whole 17 (due_number true id x) (replicate (8 - length (number_bytes x)) 0) out (a + 1 + n) (set (back (a + 1) m ys) a n) l
      (rw (b, length-append (number_bytes id) (n ∷ number_bytes x)) (omega arith))
      (headed (number_bytes id) vs out m ys a n e (omega arith) (omega arith) (omega arith) f q
      ∙ rw (b, append_assoc, ← g)))

-- what is left behind an identifier stored widely
pub wide_room : (x a : ℕ) (out m : List ℕ) → 8 ≤ length out → a ≡ length (number_bytes x) → m ≡ front (number_bytes x ++ replicate (8 - a) 0) out
    → (a ≤ 8) × (length m ≡ length out)
wide_room x a out m h e f =
    let s = number_size_lem x in
    let l : length (number_bytes x ++ replicate (8 - a) 0) ≡ 8 = rw (length-append (number_bytes x) (replicate (8 - a) 0), length-replicate) (omega arith) in
    (omega arith, ap length f ∙ length_front _ out (omega arith))

-- the first n bytes of a field as a value
abbrev pub is_field : ℕ → List ℕ → Bool
is_field n v = leb 8 (length v) && (ltb (length v) 64 && leb n (length v))

pub record Field (n : ℕ) (v : List ℕ) : Type 0 where
  pub least : 8 ≤ length v
  pub most : length v < 64
  pub within : n ≤ length v
  pub part : length (take n v) ≡ n

pub field : (n : ℕ) (v : List ℕ) → is_field n v ≡ true → Field n v
field n v h =
    let p = and_parts (leb 8 (length v)) _ h in
    let q = and_parts (ltb (length v) 64) _ p.1 in
    let w = leb-true n (length v) q.1 in
    record { least = leb-true 8 (length v) p.0; most = ltb-true (length v) 64 q.0; within = w; part = length-take-le n v w }

module _ (id n : ℕ) (v out : List ℕ) where
  pub field_off : (due : Bool) → due ≡ false → (0, out) ≡ laid_field due id n v out
  unfolding laid_field due_value
  field_off due e = rw e (go (is_field n v))
    where
      go : (t : Bool) → (0, out) ≡ pick t (lay (length v + 9) [] [] out) (0, out)
      go true = lay_nil (length v + 9) out
      go false = refl

  pub no_field : (due : Bool) → is_field n v ≡ false → (0, out) ≡ laid_field due id n v out
  unfolding laid_field
  no_field due h = rw h

  pub field_beyond : bound ≤ id → (0, out) ≡ laid_field true id n v out
  unfolding laid_field due_value
  field_beyond h = rw (le-ltb _ _ h) (go (is_field n v))
    where
      go : (t : Bool) → (0, out) ≡ pick t (lay (length v + 9) [] [] out) (0, out)
      go true = lay_nil (length v + 9) out
      go false = refl

  module _ (f : is_field n v ≡ true) (h : id < bound) where
    pub field_short : length out < length v + 9 → (0, out) ≡ laid_field true id n v out
    unfolding laid_field
    field_short l = rw f (lay_none (length v + 9) (due_value true id (take n v)) _ out l)

    pub field_widely : length v + 9 ≤ length out → (a : ℕ) (m ys : List ℕ) → a ≡ length (number_bytes id) → m ≡ front (number_bytes id ++ replicate (8 - a) 0) out
        → ys ≡ front v (lent (a + 1) m) → (a + 1 + n, set (back (a + 1) m ys) a n) ≡ laid_field true id n v out
    unfolding laid_field
    field_widely l a m ys e g q =
        let i = number_size_lem id in
        let d = field n v f in
        let p = d.part in
        let b : due_value true id (take n v) ≡ number_bytes id ++ (n ∷ take n v) =
        is_due id (take n v) true h (omega (arith, d.most, d.within)) ∙ (unfold parameter in rw (p, one_byte n (omega (arith, d.most, d.within)))) in
        rw (f, lt-ltb _ _ h)
        (lay_whole (length v + 9) (due_value true id (take n v)) (drop n v) out (a + 1 + n) (set (back (a + 1) m ys) a n) l
        (rw (b, length-append (number_bytes id) (n ∷ take n v), p) (omega arith))
        (headed (number_bytes id) v out m ys a n e (omega arith) d.least (omega arith) g q
        ∙ rw (b, append_assoc, take-append-drop n v)))

-- ON A BUFFER OF ZEROS
none_zero : (t : Bool) (l : List ℕ) → zeros l ≡ true → zeros (pick t l []) ≡ true
none_zero true l h = h
none_zero false l h = refl

-- how long a parameter can be that is due
due_few : (due : Bool) (id : ℕ) (v : List ℕ) → length v < 64 → length (due_value due id v) ≤ length (number_bytes id) + 1 + length v
unfolding due_value parameter
due_few due id v h = go (due && (ltb id bound && ltb (length v) bound))
  where
    go : (t : Bool) → length (pick t (number_bytes id ++ (number_bytes (length v) ++ v)) []) ≤ length (number_bytes id) + 1 + length v
    go true = rw (one_byte (length v) h, length-append (number_bytes id) (length v ∷ v)) (omega arith)
    go false = omega arith

pub number_clear : (due : Bool) (id x : ℕ) (out : List ℕ) → 17 ≤ length out → zeros out ≡ true → laid_number due id x out ≡ put (due_number due id x) out
unfolding laid_number number_rest due_number due_value parameter
number_clear due id x out r z = go due (ltb x bound) (ltb id bound) refl
  where
    nine : ℕ
    nine = 8 - length (number_bytes x)

    go : (d a b : Bool) → ltb id bound ≡ b
        → lay 17 (pick ((d && a) && (b && ltb (length (number_bytes x)) bound)) (number_bytes id ++ (number_bytes (length (number_bytes x)) ++ number_bytes x)) []) (pick (d && (a && b)) (replicate nine 0) []) out
        ≡ put (pick ((d && a) && (b && ltb (length (number_bytes x)) bound)) (number_bytes id ++ (number_bytes (length (number_bytes x)) ++ number_bytes x)) []) out
    go true true true e =
        let s = number_size_lem x in
        let i = number_size_lem id in
        let o = one_byte (length (number_bytes x)) (omega arith) in
        lay_clear 17 _ _ out r z (zeros_replicate nine) (rw (lt-ltb (length (number_bytes x)) bound (omega arith), o, length-append (number_bytes id) (length (number_bytes x) ∷ number_bytes x), length-replicate) (omega arith))
    go true true false e = lay_clear 17 [] [] out r z refl (omega arith)
    go true false b e = lay_clear 17 [] [] out r z refl (omega arith)
    go false a b e = lay_clear 17 [] [] out r z refl (omega arith)

pub field_clear : (due : Bool) (id n : ℕ) (v out : List ℕ) → is_field n v ≡ true → length v + 9 ≤ length out → zeros out ≡ true → zeros (drop n v) ≡ true
    → laid_field due id n v out ≡ put (due_value due id (take n v)) out
unfolding laid_field
field_clear due id n v out f r z k =
    let d = field n v f in
    let p = d.part in
    let i = number_size_lem id in
    let l = length-drop n v in
    rw f
    (lay_clear (length v + 9) (due_value due id (take n v)) _ out r z (none_zero (due && ltb id bound) (drop n v) k)
    (omega (arith, due_few due id (take n v) (omega (arith, d.most, d.within)), d.within, pick_few (due && ltb id bound) (drop n v))))
  where
    pick_few : (t : Bool) (l : List ℕ) → length (pick t l []) ≤ length l
    pick_few true l = omega arith
    pick_few false l = omega arith
