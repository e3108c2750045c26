-- The parameter at the front, cut out of the bytes that it stands in. Assumes nothing.
--     cut_out_lem   it is a whole parameter by itself, with the bytes behind it left
--     same_front    two whole parameters at the front of the same bytes are the same
use Prim.Native.Nat.{ℕ, suc, ◌-◌, ◌/◌, ◌%◌, ◌^◌, ◌≤◌}
use mathlib.Core.Path.{◌≡◌, ap, sym, ◌∙◌}
use mathlib.Core.List.{List, [], ◌∷◌, ◌++◌, append_assoc, append-nil, append_cancel_right}
use native.Mathlib.Omega.{arith}
use lib.ListN.{length, take, drop, length-append, take-append-drop}
use lib.Seq.{take_at, length-take-le}
use lib.Pow.{pow_pos}
use lib.Dec.{leb}
use borrow.Author.Tests.{le-leb, leb-true}
use Rattle.refusal.specs.Outcome.{Outcome, accepted, refused, pick}
use Rattle.refusal.proofs.Laws.{picked}
use Rattle.varint.specs.Number.{with_saved, read_number}
use Rattle.varint.specs.declared.Decoded.{Decoded}
use Rattle.words.specs.Words.{value_from}
use Rattle.varint.proofs.Laws.{read_within}
use Rattle.front.specs.Parameter.{read_parameter}
use Rattle.front.specs.Whole.{Whole}
use Rattle.front.proofs.Front.{at_front, parts, front_append, shorter}

-- a number cut out, with other bytes behind it
tail_cut : (w m x v : ℕ) (bs cs : List ℕ) → w ≡ suc m → m ≤ length bs → value_from x (take (w - 1) bs) ≡ v
    → pick {A = Outcome Decoded} (leb w (suc (length (take m bs ++ cs)))) (accepted (with_saved (value_from x (take (w - 1) (take m bs ++ cs))) w)) (refused 3) ≡ accepted (with_saved v (suc m))
tail_cut w m x v bs cs k l i =
    let n : length (take m bs) ≡ m = length-take-le m bs l in
    let h : suc m ≤ suc (length (take m bs ++ cs)) = simp length-append (omega arith) in
    let d : w - 1 ≡ m = omega arith in
    let i' : value_from x (take m bs) ≡ v = rw d at i in
    rw (d, k, le-leb (suc m) (suc (length (take m bs ++ cs))) h, take_at (take m bs) cs m n, i')

cut_as : (bs cs : List ℕ) (a : Decoded) → read_number bs ≡ accepted a → read_number (take a.count bs ++ cs) ≡ accepted (with_saved a.value a.count)
unfolding read_number
cut_as [] cs a e = cc
cut_as (b ∷ bs) cs a e =
    picked _ _ a 3 e λ t q.
    let j : 2 ^ (b / 64) ≡ a.count = ap (λ r. r.count) q in
    let i : value_from (b % 64) (take (2 ^ (b / 64) - 1) bs) ≡ a.value = ap (λ r. r.value) q in
    let h : 2 ^ (b / 64) ≤ suc (length bs) = leb-true _ _ t in
    let p = pow_pos (b / 64) in
    let k : a.count ≡ suc (a.count - 1) = omega arith in
    rw k (tail_cut (2 ^ (b / 64)) (a.count - 1) (b % 64) a.value bs cs (j ∙ k) (omega arith) i)

-- the parameter at the front, cut out
pub record CutOut (bs rest : List ℕ) : Type 0 where
  pub w : List ℕ
  pub are : w ++ rest ≡ bs
  pub whole : Whole w

parted : (bs : List ℕ) (i l : Decoded) → read_number bs ≡ accepted i → read_number (drop i.count bs) ≡ accepted l → l.value ≤ length (drop l.count (drop i.count bs))
    → CutOut bs (drop l.value (drop l.count (drop i.count bs)))
parted bs i l x y h =
    let behind = drop i.count bs in
    let rest = drop l.count behind in
    let p : length (take i.count bs) ≡ i.count = length-take-le i.count bs (read_within bs i x).1 in
    let q : length (take l.count behind) ≡ l.count = length-take-le l.count behind (read_within behind l y).1 in
    let r : length (take l.value rest) ≡ l.value = length-take-le l.value rest h in
    record {
      w = take i.count bs ++ (take l.count behind ++ (take l.value rest ++ []));
      are = simp (append_assoc, append-nil) (rw (take-append-drop l.value rest, take-append-drop l.count behind, take-append-drop i.count bs));
      whole =
          record {
            id = i.value;
            v = take l.value rest;
            is = parts (take i.count bs) (take l.count behind) (take l.value rest) [] i.value (rw p (cut_as bs _ i x)) (rw (q, r) (cut_as behind _ l y));
          };
    }

pub cut_out_lem : (bs : List ℕ) (i : ℕ × List ℕ × List ℕ) → read_parameter bs ≡ accepted i → CutOut bs i.2
cut_out_lem bs i e = let f = at_front bs i e in rw f.behind (parted bs f.i f.l f.first f.second f.room)

pub same_front : {P : Type 0} (w u a b : List ℕ) → Whole w → Whole u → w ++ a ≡ u ++ b → (w ≡ u → a ≡ b → P) → P
same_front w u a b h g e k =
    let x : read_parameter (u ++ b) ≡ accepted (h.id, h.v, a) = rw e at (front_append w a (h.id, h.v, []) h.is) in
    let y : read_parameter (u ++ b) ≡ accepted (g.id, g.v, b) = front_append u b (g.id, g.v, []) g.is in
    let t : ◌≡◌ {A = ℕ × List ℕ × List ℕ} (h.id, h.v, a) (g.id, g.v, b) = cc in
    let q : a ≡ b = ap (λ (j : ℕ × List ℕ × List ℕ). j.2) t in
    k (append_cancel_right w u b (ap (λ (z : List ℕ). w ++ z) (sym q) ∙ e)) q

pub not_empty : Whole [] → ⊥
not_empty h = let s = shorter [] (h.id, h.v, []) h.is in omega arith
