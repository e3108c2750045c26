-- The parameter at a position: what the code's tests mean for it, and that it is the parameter at
-- the front of the bytes from there on. Assumes nothing.
--     located_front    located and read_parameter agree
--     within           its value lies within the bytes, behind the position
use Prim.Native.Nat.{ℕ, ◌+◌, ◌-◌, ◌/◌, ◌%◌, ◌≤◌, ◌<◌}
use mathlib.Core.Path.{◌≡◌, refl, ap, sym, ◌∙◌, subst}
use mathlib.Core.List.{List}
use mathlib.Core.Bool.{Bool, true, false}
use native.Mathlib.Omega.{arith}
use native.Mathlib.Nat.{add-zero}
use lib.ListN.{length, get_or, take, drop, length-drop, drop_of_length-le}
use lib.Seq.{drop-drop, get_or-drop}
use Rattle.std.proofs.lemmas.List.{take_rest}
use lib.Bits.{bit_or, or_add_and, and_le_l, and_le_r}
use lib.Dec.{leb}
use borrow.Author.Tests.{le-leb, lt-leb, leb-true}
use Rattle.refusal.specs.Outcome.{Result, accepted, refused, Outcome, pick, and_then}
use Rattle.refusal.proofs.Laws.{inverted, picked}
use Rattle.varint.specs.Number.{with_saved, read_number}
use Rattle.varint.specs.declared.Decoded.{Decoded}
use Rattle.varint.proofs.Bytes.{read_whole, one_saved}
use Rattle.varint.proofs.Laws.{read_within}
use Rattle.front.specs.declared.Fault.{Fault}
use Rattle.front.specs.declared.Parameter.{Parameter}
use Rattle.front.specs.declared.Fault.TheVariants.{Cut}
use Rattle.front.specs.Parameter.{or_cut, read_parameter, located}
use Rattle.front.proofs.Front.{not_cut}

-- a part that is lent to its end
abbrev pub lent : List ℕ → ℕ → List ℕ
lent s at = take (length s - at) (drop at s)

pub none_there : (s : List ℕ) (at : ℕ) → length s < at → refused Cut ≡ located s at
unfolding located read_number
none_there s at h = let k : length s ≤ at = omega arith in rw (drop_of_length-le s k)

pub first_cut : (s : List ℕ) (at e : ℕ) → read_number (lent s at) ≡ refused e → refused Cut ≡ located s at
unfolding located
first_cut s at e k = let j : read_number (drop at s) ≡ refused e = rw (take_rest s at) at k in rw j

module _ (s : List ℕ) (at : ℕ) (i : Decoded) (first : read_number (lent s at) ≡ accepted i) where
  is_first : read_number (drop at s) ≡ accepted i
  is_first = rw (take_rest s at) at first

  pub first_within : at ≤ length s → (1 ≤ i.count) × (at + i.count ≤ length s) × (i.saved ≤ i.count)
  first_within h =
      let w = read_within (drop at s) i is_first in
      let l : i.count ≤ length s - at = rw length-drop at w.1 in
      (w.0, omega arith, w.2)

  pub second_cut : (e : ℕ) → read_number (lent s (at + i.count)) ≡ refused e → refused Cut ≡ located s at
  unfolding located
  second_cut e k = let j : read_number (drop (at + i.count) s) ≡ refused e = rw (take_rest s (at + i.count)) at k in rw (is_first, j)

  module _ (l : Decoded) (second : read_number (lent s (at + i.count)) ≡ accepted l) where
    is_second : read_number (drop (at + i.count) s) ≡ accepted l
    is_second = rw (take_rest s (at + i.count)) at second

    pub second_within : at + i.count ≤ length s → (1 ≤ l.count) × (at + i.count + l.count ≤ length s) × (l.saved ≤ l.count)
    second_within h =
        let w = read_within (drop (at + i.count) s) l is_second in
        let m : l.count ≤ length s - (at + i.count) = rw length-drop at w.1 in
        (w.0, omega arith, w.2)

    pub whole : l.value ≤ length s - (at + i.count + l.count)
        → accepted (record { id = i.value; start = at + i.count + l.count; end = at + i.count + l.count + l.value; saved = i.saved + l.saved }) ≡ located s at
    unfolding located
    whole h = rw (is_first, is_second, le-leb _ _ h)

    pub beyond : length s - (at + i.count + l.count) < l.value → refused Cut ≡ located s at
    unfolding located
    beyond h = rw (is_first, is_second, lt-leb _ _ h)

-- a number of one byte
abbrev short : ℕ → Decoded
short x = record { value = x; count = 1; saved = 0 }

one_byte : (s : List ℕ) (at : ℕ) → at < length s → get_or s at 0 < 64 → read_number (lent s at) ≡ accepted (short (get_or s at 0))
one_byte s at h k =
    let f : get_or (drop at s) 0 0 ≡ get_or s at 0 = get_or-drop at s 0 0 ∙ rw (add-zero at) in
    let l : 0 < length (drop at s) = rw length-drop (omega arith) in
    let t : 0 ≡ get_or (drop at s) 0 0 / 64 = omega arith in
    let v : get_or (drop at s) 0 0 % 64 ≡ get_or s at 0 = omega arith in
    rw (take_rest s at) (read_whole (drop at s) 0 l t l 0 refl ∙ ap (λ (x : ℕ). accepted (with_saved x 1)) v ∙ ap accepted (one_saved (get_or s at 0) k))

-- an identifier and a length of one byte each
module _ (s : List ℕ) (at id len : ℕ) (room : 2 ≤ length s - at) (hi : id ≡ get_or s at 0) (hl : len ≡ get_or s (at + 1) 0) (h : bit_or (get_or s at 0) (get_or s (at + 1) 0) < 64) where
  first : read_number (lent s at) ≡ accepted (short id)
  first = rw hi (one_byte s at (omega arith) (omega (arith, or_add_and (get_or s at 0) (get_or s (at + 1) 0), and_le_r (get_or s at 0) (get_or s (at + 1) 0))))

  second : read_number (lent s (at + 1)) ≡ accepted (short len)
  second = rw hl (one_byte s (at + 1) (omega arith) (omega (arith, or_add_and (get_or s at 0) (get_or s (at + 1) 0), and_le_l (get_or s at 0) (get_or s (at + 1) 0))))

  two : at + 1 + 1 ≡ at + 2
  two = omega arith

  pub short_whole : at + 2 + len ≤ length s → accepted (record { id = id; start = at + 2; end = at + 2 + len; saved = 0 }) ≡ located s at
  short_whole k = rw two at (whole s at (short id) first (short len) second (omega arith))

  pub short_beyond : length s < at + 2 + len → refused Cut ≡ located s at
  short_beyond k = beyond s at (short id) first (short len) second (omega arith)

-- WHAT IS LOCATED
-- the value and what is behind it, of positions
abbrev pub cut_out : List ℕ → Result Fault Parameter → Result Fault (ℕ × List ℕ × List ℕ)
cut_out s (accepted p) = accepted (p.id, take (p.end - p.start) (drop p.start s), drop p.end s)
cut_out s (refused f) = refused f

pub located_front : (s : List ℕ) (at : ℕ) → read_parameter (drop at s) ≡ cut_out s (located s at)
unfolding read_parameter located
located_front s at = go (read_number (drop at s))
  where
    two : (i l : Decoded) (b : Bool)
        → pick {A = Result Fault (ℕ × List ℕ × List ℕ)} b (accepted (i.value, take l.value (drop (at + i.count + l.count) s), drop (at + i.count + l.count + l.value) s)) (refused Cut)
        ≡ cut_out s (pick b (accepted (record { id = i.value; start = at + i.count + l.count; end = at + i.count + l.count + l.value; saved = i.saved + l.saved })) (refused Cut))
    two i l true = let e : at + i.count + l.count + l.value - (at + i.count + l.count) ≡ l.value = omega arith in rw e
    two i l false = refl

    one : (i : Decoded) (o : Outcome Decoded)
        → and_then (or_cut o) (λ l. pick (leb l.value (length (drop l.count (drop i.count (drop at s))))) (accepted (i.value, take l.value (drop l.count (drop i.count (drop at s))), drop l.value (drop l.count (drop i.count (drop at s))))) (refused Cut))
        ≡ cut_out s (and_then (or_cut o) (λ l. pick (leb l.value (length s - (at + i.count + l.count))) (accepted (record { id = i.value; start = at + i.count + l.count; end = at + i.count + l.count + l.value; saved = i.saved + l.saved })) (refused Cut)))
    one i (accepted l) =
        rw (drop-drop i.count at s, drop-drop l.count (at + i.count) s, length-drop (at + i.count + l.count) s, drop-drop l.value (at + i.count + l.count) s)
        (two i l (leb l.value (length s - (at + i.count + l.count))))
    one i (refused e) = refl

    go : (o : Outcome Decoded)
        → and_then (or_cut o) (λ i. and_then (or_cut (read_number (drop i.count (drop at s)))) λ l. pick (leb l.value (length (drop l.count (drop i.count (drop at s))))) (accepted (i.value, take l.value (drop l.count (drop i.count (drop at s))), drop l.value (drop l.count (drop i.count (drop at s))))) (refused Cut))
        ≡ cut_out s (and_then (or_cut o) (λ i. and_then (or_cut (read_number (drop (at + i.count) s))) λ l. pick (leb l.value (length s - (at + i.count + l.count))) (accepted (record { id = i.value; start = at + i.count + l.count; end = at + i.count + l.count + l.value; saved = i.saved + l.saved })) (refused Cut)))
    go (accepted i) = rw (← drop-drop i.count at s) (one i (read_number (drop i.count (drop at s))))
    go (refused e) = refl

-- its value lies within the bytes, behind the position, and behind as many bytes as shorter forms
-- would have saved
pub record Within (s : List ℕ) (at : ℕ) (p : Parameter) : Type 0 where
  pub behind : at < p.start
  pub start : p.start ≤ p.end
  pub end : p.end ≤ length s
  pub saved : at + p.saved ≤ p.start

pub within : (s : List ℕ) (at : ℕ) (p : Parameter) → at ≤ length s → accepted p ≡ located s at → Within s at p
unfolding located
within s at p h q =
    inverted (or_cut (read_number (drop at s))) _ p (sym q) λ i ic ie.
    inverted (or_cut (read_number (drop (at + i.count) s))) _ p ie λ l lc lf.
    picked _ _ p Cut lf λ t e.
    let w = read_within (drop at s) i (not_cut _ i ic) in
    let w2 = read_within (drop (at + i.count) s) l (not_cut _ l lc) in
    let n : i.count ≤ length s - at = rw length-drop at w.1 in
    let m : l.count ≤ length s - (at + i.count) = rw length-drop at w2.1 in
    let k : l.value ≤ length s - (at + i.count + l.count) = leb-true _ _ t in
    subst (Within s at) e
    (record { behind = omega (arith, w.0); start = omega arith; end = omega arith; saved = omega (arith, w.2, w2.2) })
