-- What writers leave, one after another. Assumes nothing.
--     front_paste, copied    bytes stored one at a time
--     front_then      bytes stored behind others, in the part lent for them
--     front_two       bytes stored behind two that are stored afterwards
--     wrote_then      one writer after another
--     wrote_three     and a third
--     lent_room       the room that is left
--     joined_append   parameters one after another, part by part
--     stored_short, stored_whole    what storing answers
use Prim.Native.Nat.{ℕ, zero, suc, ◌+◌, ◌-◌, ◌≤◌, ◌<◌}
use mathlib.Core.List.{List, [], ◌∷◌, ◌++◌, append_assoc, append-nil}
use mathlib.Core.Path.{◌≡◌, refl, ap, ap₂, sym, ◌∙◌}
use native.Mathlib.Omega.{arith}
use native.Mathlib.Nat.{zero-add}
use native.Mathlib.Numerals.{add-one}
use lib.ListN.{length, get_or, take, drop, set, length-append, length-drop, take-append-drop, drop_of_length-le}
use lib.Seq.{take-length, take-append_seam, drop-append_seam, drop-drop, paste}
use borrow.Author.Tests.{le-leb, lt-leb}
use Rattle.std.proofs.lemmas.List.{take_rest}
use Rattle.std.proofs.lemmas.List.Edits.{paste_more}
use Rattle.refusal.specs.Outcome.{Outcome, accepted, refused, front, store}
use Rattle.wire.specs.Stored.{Wrote, joined, each}

pub front_nil : (l : List ℕ) → front [] l ≡ l
unfolding front
front_nil l = refl

pub front_paste : (s l : List ℕ) (i : ℕ) → i ≡ length s → paste l 0 s i ≡ front s l
unfolding front
front_paste s l i e = simp (e, take-length, zero-add)

-- a byte at a time
pub copied : (out bs m : List ℕ) (i : ℕ) → i < length out → i < length bs → m ≡ paste out 0 bs i → set m i (get_or bs i 0) ≡ paste out 0 bs (i + 1)
copied out bs m i h k e = rw e (ap (λ (j : ℕ). set (paste out 0 bs i) j (get_or bs i 0)) (sym (zero-add i)) ∙ paste_more out 0 bs i 0 (omega arith) k)

pub length_front : (s l : List ℕ) → length s ≤ length l → length (front s l) ≡ length l
unfolding front
length_front s l h = simp (length-append, length-drop) (omega arith)

-- what is lent from a place on, and the whole when it is back
abbrev pub lent : ℕ → List ℕ → List ℕ
lent at l = take (length l - at) (drop at l)

abbrev pub back : ℕ → List ℕ → List ℕ → List ℕ
back at l ys = take at l ++ (ys ++ drop (length l - at) (drop at l))

pub length_lent : (at : ℕ) (l : List ℕ) → length (lent at l) ≡ length l - at
length_lent at l = rw (take_rest l at) (length-drop at l)

pub whole : (at : ℕ) (l ys : List ℕ) → back at l ys ≡ take at l ++ ys
whole at l ys =
    let z : drop (length l - at) (drop at l) ≡ [] = drop_of_length-le (drop at l) {i = length l - at} (omega (arith, length-drop at l)) in
    rw (z, append-nil)

pub back_same : (at : ℕ) (l : List ℕ) → back at l (lent at l) ≡ l
back_same at l = rw (whole at l (lent at l), take_rest l at) (take-append-drop at l)

-- b behind a, in the part lent for it
pub front_then : (a b l m ys : List ℕ) (at : ℕ) → at ≡ length a → length a + length b ≤ length l → m ≡ front a l → ys ≡ front b (lent at m)
    → back at m ys ≡ front (a ++ b) l
unfolding front
front_then a b l m ys at e h f g =
    let k : length m ≡ length l = ap length f ∙ length_front a l (omega arith) in
    let d : drop at m ≡ drop (length a) l = simp (e, f, drop-append_seam) in
    let t : take at m ≡ a = simp (e, f, take-append_seam) in
    let z : drop (length m - at) (drop at m) ≡ [] = drop_of_length-le (drop at m) {i = length m - at} (omega (arith, length-drop at m)) in
    let y : ys ≡ b ++ drop (length a + length b) l = g ∙ simp (take_rest m at ∙ d, drop-drop) in
    simp (t, z, y, append-nil, append_assoc, length-append)

pub wrote_as : (p n : ℕ) (a b l m : List ℕ) → a ≡ b → Wrote p a l n m → Wrote p b l n m
wrote_as p n a b l m e w = record { count = w.count ∙ ap length e; few = w.few; bytes = w.bytes ∙ ap (λ (s : List ℕ). front s l) e }

-- one writer after another, and a third
pub wrote_then : (p q n k : ℕ) (a b l m ys : List ℕ) → p + q ≤ length l → Wrote p a l n m → Wrote q b (lent n m) k ys
    → Wrote (p + q) (a ++ b) l (n + k) (back n m ys)
wrote_then p q n k a b l m ys h x y =
    let c = x.count in
    let d = y.count in
    record {
      count = rw (length-append a b) (omega arith);
      few = omega (arith, x.few, y.few);
      bytes = front_then a b l m ys n c (omega (arith, x.few, y.few)) x.bytes y.bytes;
    }

pub wrote_three : (p q r n k j : ℕ) (a b d l m ys zs : List ℕ) → p + q + r ≤ length l → Wrote p a l n m → Wrote q b (lent n m) k ys
    → Wrote r d (lent (n + k) (back n m ys)) j zs → Wrote (p + q + r) (a ++ (b ++ d)) l (n + k + j) (back (n + k) (back n m ys) zs)
wrote_three p q r n k j a b d l m ys zs h x y z =
    wrote_as (p + q + r) (n + k + j) (a ++ b ++ d) (a ++ (b ++ d)) l _ (append_assoc a b d)
    (wrote_then (p + q) r (n + k) j (a ++ b) d l (back n m ys) zs h (wrote_then p q n k a b l m ys (omega arith) x y) z)

pub wrote_length : (p n : ℕ) (a l m : List ℕ) → p ≤ length l → Wrote p a l n m → length m ≡ length l
wrote_length p n a l m h w = let c = w.count in ap length w.bytes ∙ length_front a l (omega (arith, w.few))

-- room for others behind
pub behind : (n at : ℕ) (l : List ℕ) → at + n ≤ length l → n ≤ length (lent at l)
behind n at l h = rw (take_rest l at, length-drop at l) (omega arith)

pub lent_room : (p q n : ℕ) (a l m : List ℕ) → p + q ≤ length l → Wrote p a l n m → q ≤ length (lent n m)
lent_room p q n a l m h w =
    let e = wrote_length p n a l m (omega arith) w in
    behind q n m (omega (arith, w.few))

pub wrote_few : (p q n : ℕ) (a l m : List ℕ) → n ≤ q → Wrote p a l n m → Wrote q a l n m
wrote_few p q n a l m h w = record { count = w.count; few = h; bytes = w.bytes }

-- two bytes in front of bytes stored behind them
pub front_two : (a b : ℕ) (s l ys : List ℕ) → 2 ≤ length l → ys ≡ front s (lent 2 l) → set (set (back 2 l ys) 0 a) 1 b ≡ front (a ∷ b ∷ s) l
unfolding front
front_two a b s [] ys h e = absurd (omega arith)
front_two a b s (x ∷ []) ys h e = absurd (omega arith)
front_two a b s (x ∷ y ∷ l) ys h e =
    let n : suc (suc (length l)) - 2 ≡ length l = omega arith in
    let t : take (length l) l ≡ l = take-length l in
    let z : drop (length l) l ≡ [] = drop_of_length-le l {i = length l} (omega arith) in
    ap (λ (m : List ℕ). a ∷ b ∷ m) (rw (n, z, append-nil) (rw (n, t) at e))

-- parameters, part by part
pub joined_append : (ss ts : List (List ℕ)) → joined (ss ++ ts) ≡ joined ss ++ joined ts
unfolding joined
joined_append [] ts = refl
joined_append (s ∷ ss) ts = ap (λ (l : List ℕ). s ++ l) (joined_append ss ts) ∙ sym (append_assoc s (joined ss) (joined ts))

pub length_each : (f : ℕ → List ℕ) (n : ℕ) → length (each f n) ≡ n
unfolding each
length_each f zero = refl
length_each f (suc n) = rw (length-append (each f n) (f n ∷ []), length_each f n) (add-one n)

-- storing
pub stored_short : (bs out : List ℕ) → length out < length bs → ◌≡◌ {A = Outcome ℕ × List ℕ} (refused 5, out) (store bs out)
unfolding store
stored_short bs out h = rw (lt-leb _ _ h)

pub stored_whole : (p n : ℕ) (bs out m : List ℕ) → length bs ≤ length out → Wrote p bs out n m → ◌≡◌ {A = Outcome ℕ × List ℕ} (accepted n, m) (store bs out)
unfolding store
stored_whole p n bs out m h w = rw (le-leb _ _ h) (ap₂ (λ (k : ℕ) (l : List ℕ). (accepted k, l)) w.count w.bytes)

-- from a buffer that it was written to first
pub whole_part : (p n : ℕ) (bs out m : List ℕ) → Wrote p bs out n m → take n m ≡ bs
unfolding front
whole_part p n bs out m w = rw (w.count, w.bytes) (take-append_seam bs (drop (length bs) out))
