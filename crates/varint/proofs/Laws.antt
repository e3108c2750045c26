-- Laws of the definitions of `specs/Number.antt`. Assumes nothing.
--     read_number_bytes     what was written is read back, whatever follows it
--     number_append         more bytes change nothing
--     read_take             nor do fewer, as long as the number is there
--     read_bounds           what is read is below 2 ^ 62, lies within the bytes, and is no shorter
--                           than the shortest form
--     read_saved, read_count   what its shortest form would have saved
--     write_refused, write_sized     what a number's size says of writing it
use Prim.Native.Nat.{ℕ, zero, suc, ◌+◌, ◌-◌, ◌*◌, ◌/◌, ◌%◌, ◌^◌, ◌≤◌, ◌<◌}
use mathlib.Core.Path.{◌≡◌, refl, ap, sym, ◌∙◌, subst}
use mathlib.Core.List.{List, [], ◌∷◌, ◌++◌}
use mathlib.Core.Bool.{Bool, true, false}
use native.Mathlib.Nat.{div-add-mod', one-le-pow}
use native.Mathlib.Omega.{arith}
use lib.ListN.{length, get_or, take, length-append, length-take}
use lib.Seq.{take_at, take-take, take-append-le, length-take-le}
use lib.Pow.{pow_mono, pow_pos}
use lib.Arith.{digits_div, digits_mod}
use lib.Dec.{leb, ltb}
use borrow.Author.Tests.{le-leb, lt-leb, leb-true, leb-false, ltb-true}
use Rattle.varint.specs.Number.{bound, tag_of, form, number_bytes, with_saved, read_number, write_number, size_number}
use Rattle.varint.specs.declared.Decoded.{Decoded}
use Rattle.words.specs.Words.{value_from, bytes_of}
use Rattle.refusal.specs.Outcome.{Outcome, accepted, refused, pick, store}
use Rattle.refusal.proofs.Laws.{picked}
use Rattle.varint.proofs.Bytes.{four, width_range, length_form, tag_le, tag_room, tag_least}
use Rattle.words.proofs.Laws.{bytes_take}
use Rattle.std.proofs.lemmas.Nat.{div_below}
use Rattle.words.proofs.Big.{length_bytes_of, value_bytes_of, value_lt}

-- at every width that has room, longer than needed or not
pub read_form : (k v : ℕ) (rest : List ℕ) → k ≤ 3 → v < 64 * 256 ^ (2 ^ k - 1) → read_number (form k v ++ rest) ≡ accepted (with_saved v (2 ^ k))
unfolding read_number form
read_form k v rest hk hv =
    let w = width_range k hk in
    let x = div_below v (256 ^ (2 ^ k - 1)) 64 (one-le-pow _ 256 (omega arith)) hv in
    let l : 2 ^ k ≤ suc (length (bytes_of (2 ^ k - 1) v ++ rest)) = simp (length-append, length_bytes_of) (omega arith) in
    rw (
      digits_div k x,
      digits_mod k x,
      le-leb (2 ^ k) _ l,
      take_at (bytes_of (2 ^ k - 1) v) rest _ (length_bytes_of _ v),
      value_bytes_of,
      div-add-mod',
    )

pub read_number_bytes : (v : ℕ) (rest : List ℕ) → v < 2 ^ 62 → read_number (number_bytes v ++ rest) ≡ accepted (with_saved v (length (number_bytes v)))
read_number_bytes v rest h = read_form (tag_of v) v rest (tag_le v) (tag_room v h) ∙ ap (λ n. accepted (with_saved v n)) (sym (length_form (tag_of v) v (tag_le v)))

-- what is read has a byte at least, lies within the bytes, whatever they are, and saves no more
-- than it has
pub read_within : (bs : List ℕ) (a : Decoded) → read_number bs ≡ accepted a → (1 ≤ a.count) × (a.count ≤ length bs) × (a.saved ≤ a.count)
unfolding read_number
read_within [] a e = cc
read_within (b ∷ bs) a e =
    picked _ _ a 3 e λ t q.
    let l : 2 ^ (b / 64) ≤ suc (length bs) = leb-true _ _ t in
    let j : 2 ^ (b / 64) ≡ a.count = ap (λ r. r.count) q in
    let k : a.saved ≤ a.count = subst (λ r. r.saved ≤ r.count) q (omega arith) in
    (omega (arith, pow_pos (b / 64)), omega arith, k)

-- it is settled by the number and its byte count
pub read_saved : (bs : List ℕ) (a : Decoded) → read_number bs ≡ accepted a → a ≡ with_saved a.value a.count
unfolding read_number
read_saved [] a e = cc
read_saved (b ∷ bs) a e = picked _ _ a 3 e λ t q. subst (λ r. r ≡ with_saved r.value r.count) q refl

pub number_append : (bs cs : List ℕ) (a : Decoded) → read_number bs ≡ accepted a → read_number (bs ++ cs) ≡ accepted a
unfolding read_number
number_append [] cs a e = cc
number_append (b ∷ bs) cs a e =
    picked _ _ a 3 e λ t q.
    let h : 2 ^ (b / 64) ≤ suc (length bs) = leb-true _ _ t in
    let h' : 2 ^ (b / 64) ≤ suc (length (bs ++ cs)) = simp length-append (omega arith) in
    let k : 2 ^ (b / 64) - 1 ≤ length bs = omega arith in
    rw (le-leb _ _ h', take-append-le _ bs cs k) (ap accepted q)

-- of the first m bytes as of all, unless they are too few
pub read_take : (m : ℕ) (s : List ℕ) (a : Decoded) → read_number s ≡ accepted a → read_number (take m s) ≡ pick (leb a.count m) (accepted a) (refused 3)
unfolding read_number
read_take zero s a e = rw (lt-leb a.count 0 (read_within s a e).0)
read_take (suc m) [] a e = cc
read_take (suc m) (b ∷ bs) a e =
    picked _ _ a 3 e λ t q.
    let h : 2 ^ (b / 64) ≤ suc (length bs) = leb-true _ _ t in
    let j : 2 ^ (b / 64) ≡ a.count = ap (λ r. r.count) q in
    go (2 ^ (b / 64)) j h q
  where
    go : (w : ℕ) → w ≡ a.count → w ≤ suc (length bs) → with_saved (value_from (b % 64) (take (w - 1) bs)) w ≡ a
        → pick {A = Outcome Decoded} (leb w (suc (length (take m bs)))) (accepted (with_saved (value_from (b % 64) (take (w - 1) (take m bs))) w)) (refused 3)
        ≡ pick (leb a.count (suc m)) (accepted a) (refused 3)
    go w j h q = on (leb a.count (suc m)) refl
      where
        on : (t : Bool) → leb a.count (suc m) ≡ t
            → pick {A = Outcome Decoded} (leb w (suc (length (take m bs)))) (accepted (with_saved (value_from (b % 64) (take (w - 1) (take m bs))) w)) (refused 3)
            ≡ pick t (accepted a) (refused 3)
        on true e =
            let i : w ≤ suc (length (take m bs)) = omega (arith, length-take m bs, leb-true a.count (suc m) e) in
            let k : w - 1 ≤ m = omega (arith, leb-true a.count (suc m) e) in
            rw (le-leb _ _ i, take-take _ m bs k) (ap accepted q)
        on false e =
            let i : suc (length (take m bs)) < w = omega (arith, length-take m bs, leb-false a.count (suc m) e) in
            rw (lt-leb _ _ i)

-- of a tag k, with w what is read behind it and m bytes in all
bounds : (k w m : ℕ) (a : Decoded) → k ≤ 3 → 2 ^ k ≤ m → w < 64 * 256 ^ (2 ^ k - 1) → with_saved w (2 ^ k) ≡ a
    → (a.value < 2 ^ 62) × (a.count ≤ m) × (length (number_bytes a.value) ≤ a.count)
bounds k w m a hk l hw q =
    let i : w ≡ a.value = ap (λ r. r.value) q in
    let j : 2 ^ k ≡ a.count = ap (λ r. r.count) q in
    let hv : a.value < 64 * 256 ^ (2 ^ k - 1) = rw i at hw in (
      four k (λ k. a.value < 64 * 256 ^ (2 ^ k - 1) → a.value < 2 ^ 62) hk (omega arith) (omega arith) (omega arith) (omega arith) hv,
      omega arith,
      rw (length_form _ a.value (tag_le a.value), ← j) (pow_mono (tag_least a.value k hk hv)),
    )

pub read_bounds : (bs : List ℕ) (a : Decoded) → ((i : ℕ) → get_or bs i 0 < 256) → read_number bs ≡ accepted a
    → (a.value < 2 ^ 62) × (a.count ≤ length bs) × (length (number_bytes a.value) ≤ a.count)
unfolding read_number
read_bounds [] a hs e = cc
read_bounds (b ∷ bs) a hs e =
    picked _ _ a 3 e λ p q.
    let hk : b / 64 ≤ 3 = omega (arith, hs 0) in
    let l : 2 ^ (b / 64) ≤ suc (length bs) = leb-true _ _ p in
    let w = width_range (b / 64) hk in
    let m = 2 ^ (b / 64) - 1 in
    let t : length (take m bs) ≡ m = length-take-le m bs (omega arith) in
    bounds (b / 64) _ (suc (length bs)) a hk l (rw t at (value_lt (take m bs) (b % 64) 64 (bytes_take m bs (λ i. hs (suc i))) (omega arith))) q

-- its byte count is the length of its shortest form and what this would have saved
pub read_count : (bs : List ℕ) (a : Decoded) → ((i : ℕ) → get_or bs i 0 < 256) → read_number bs ≡ accepted a → a.count ≡ length (number_bytes a.value) + a.saved
read_count bs a hs e =
    let s : a.saved ≡ a.count - length (number_bytes a.value) = ap (λ r. r.saved) (read_saved bs a e) in
    omega (arith, (read_bounds bs a hs e).2)

-- what a number's size says of writing it
pub write_refused : (v : ℕ) (out : List ℕ) (e : ℕ) → refused e ≡ size_number v → (refused e, out) ≡ write_number v out
unfolding size_number write_number
write_refused v out e = go (ltb v bound) refl
  where
    go : (t : Bool) → ltb v bound ≡ t → refused e ≡ pick {A = Outcome ℕ} t (accepted (length (number_bytes v))) (refused 4)
        → ◌≡◌ {A = Outcome ℕ × List ℕ} (refused e, out) (pick t (store (number_bytes v) out) (refused 4, out))
    go true h q = cc
    go false h q = ap (λ (o : Outcome ℕ). (o, out)) q

pub write_sized : (v n : ℕ) → accepted n ≡ size_number v → (v < 2 ^ 62) × (n ≡ length (number_bytes v))
unfolding size_number
write_sized v n q = picked (ltb v bound) (length (number_bytes v)) n 4 (sym q) (λ t e. (ltb-true v bound t, sym e))
