-- Laws of the parameter at the front of some bytes: no other file knows the wire form of its head.
-- Assumes nothing.
--     not_cut           a number that was not cut off was read
--     only_cut          what is not whole is a cut
--     front_append      bytes behind change nothing
--     parts             two numbers and a value are a parameter
--     front_parameter   a parameter that was written is read, with any bytes behind it
--     shorter           fewer bytes are behind it
use Prim.Native.Nat.{ℕ, ◌^◌, ◌≤◌, ◌<◌}
use mathlib.Core.Path.{◌≡◌, ap, sym, ◌∙◌}
use mathlib.Core.List.{List, ◌++◌, append_assoc}
use mathlib.Core.Bool.{Bool, true, false}
use native.Mathlib.Omega.{arith}
use lib.ListN.{length, take, drop, length-append, length-drop}
use lib.Seq.{take-append-le, drop-append-le, take-append_seam, drop-append_seam}
use lib.Dec.{leb}
use borrow.Author.Tests.{le-leb, leb-true}
use Rattle.refusal.specs.Outcome.{Result, Outcome, accepted, refused, pick}
use Rattle.refusal.proofs.Laws.{inverted, declined, picked}
use Rattle.varint.specs.Number.{number_bytes, with_saved, read_number}
use Rattle.varint.specs.declared.Decoded.{Decoded}
use Rattle.varint.proofs.Laws.{read_number_bytes, read_within, number_append}
use Rattle.catalogue.specs.Catalogue.{parameter}
use Rattle.front.specs.declared.Fault.{Fault}
use Rattle.front.specs.declared.Fault.TheVariants.{Cut}
use Rattle.front.specs.Parameter.{or_cut, read_parameter}

-- what stands at the front: two numbers, an identifier and a length, and a value of so many bytes
pub record Front (bs : List ℕ) (id : ℕ) (v rest : List ℕ) : Type 0 where
  pub i : Decoded
  pub l : Decoded
  pub is : i.value ≡ id
  pub first : read_number bs ≡ accepted i
  pub second : read_number (drop i.count bs) ≡ accepted l
  pub room : l.value ≤ length (drop l.count (drop i.count bs))
  pub val : v ≡ take l.value (drop l.count (drop i.count bs))
  pub behind : rest ≡ drop l.value (drop l.count (drop i.count bs))

pub not_cut : {A : Type 0} (o : Outcome A) (a : A) → or_cut o ≡ accepted a → o ≡ accepted a
not_cut (accepted b) a e = cc
not_cut (refused n) a e = cc

pub only_cut : (bs : List ℕ) (x : Fault) → read_parameter bs ≡ refused x → Cut ≡ x
unfolding read_parameter
only_cut bs x e =
    declined (or_cut (read_number bs)) _ x e (λ r. cut (read_number bs) r) λ i ie ef.
    declined (or_cut (read_number (drop i.count bs))) _ x ef (λ r. cut (read_number (drop i.count bs)) r) λ l le lf.
    go (leb l.value (length (drop l.count (drop i.count bs)))) _ lf
  where
    cut : {A : Type 0} (o : Outcome A) → or_cut o ≡ refused x → Cut ≡ x
    cut (accepted a) r = cc
    cut (refused n) r = cc

    go : {A : Type 0} (t : Bool) (a : A) → pick {A = Result Fault A} t (accepted a) (refused Cut) ≡ refused x → Cut ≡ x
    go true a r = cc
    go false a r = cc

pub at_front : (bs : List ℕ) (i : ℕ × List ℕ × List ℕ) → read_parameter bs ≡ accepted i → Front bs i.0 i.1 i.2
unfolding read_parameter
at_front bs i e =
    inverted (or_cut (read_number bs)) _ i e λ x xc xf.
    inverted (or_cut (read_number (drop x.count bs))) _ i xf λ y yc yf.
    picked _ _ i Cut yf λ t q.
    record {
      i = x;
      l = y;
      is = ap (λ (j : ℕ × List ℕ × List ℕ). j.0) q;
      first = not_cut (read_number bs) x xc;
      second = not_cut (read_number (drop x.count bs)) y yc;
      room = leb-true _ _ t;
      val = sym (ap (λ (j : ℕ × List ℕ × List ℕ). j.1) q);
      behind = sym (ap (λ (j : ℕ × List ℕ × List ℕ). j.2) q);
    }

pub unfront : (bs : List ℕ) (i l : Decoded) → read_number bs ≡ accepted i → read_number (drop i.count bs) ≡ accepted l → l.value ≤ length (drop l.count (drop i.count bs))
    → read_parameter bs ≡ accepted (i.value, take l.value (drop l.count (drop i.count bs)), drop l.value (drop l.count (drop i.count bs)))
unfolding read_parameter
unfront bs i l e f h = rw (e, f, le-leb _ _ h)

front_appended : (bs cs : List ℕ) (id : ℕ) (v rest : List ℕ) → Front bs id v rest → read_parameter (bs ++ cs) ≡ accepted (id, v, rest ++ cs)
front_appended bs cs id v rest f =
    let d : drop f.i.count (bs ++ cs) ≡ drop f.i.count bs ++ cs = drop-append-le f.i.count bs cs (read_within bs f.i f.first).1 in
    let d2 : drop f.l.count (drop f.i.count (bs ++ cs)) ≡ drop f.l.count (drop f.i.count bs) ++ cs
    = rw d (drop-append-le f.l.count (drop f.i.count bs) cs (read_within (drop f.i.count bs) f.l f.second).1) in
    unfront (bs ++ cs) f.i f.l (number_append bs cs f.i f.first) (rw d (number_append (drop f.i.count bs) cs f.l f.second))
    (rw d2 (simp length-append (omega (arith, f.room))))
    ∙ rw (d2, take-append-le _ _ cs f.room, drop-append-le _ _ cs f.room, f.is, f.val, f.behind)

pub front_append : (bs cs : List ℕ) (i : ℕ × List ℕ × List ℕ) → read_parameter bs ≡ accepted i → read_parameter (bs ++ cs) ≡ accepted (i.0, i.1, i.2 ++ cs)
front_append bs cs i e = front_appended bs cs i.0 i.1 i.2 (at_front bs i e)

pub parts : (a b v cs : List ℕ) (id : ℕ) → read_number (a ++ (b ++ (v ++ cs))) ≡ accepted (with_saved id (length a)) → read_number (b ++ (v ++ cs)) ≡ accepted (with_saved (length v) (length b))
    → read_parameter (a ++ (b ++ (v ++ cs))) ≡ accepted (id, v, cs)
unfolding read_parameter
parts a b v cs id e f =
    let h : length v ≤ length (v ++ cs) = simp length-append (omega arith) in
    rw (e, drop-append_seam a, f, drop-append_seam b, le-leb _ _ h, take-append_seam v, drop-append_seam v)

pub front_parameter : (id : ℕ) (v cs : List ℕ) → id < 2 ^ 62 → length v < 2 ^ 62 → read_parameter (parameter id v ++ cs) ≡ accepted (id, v, cs)
unfolding parameter
front_parameter id v cs h k =
    let a : (number_bytes id ++ (number_bytes (length v) ++ v)) ++ cs ≡ number_bytes id ++ (number_bytes (length v) ++ (v ++ cs)) = simp append_assoc in
    rw a (parts (number_bytes id) (number_bytes (length v)) v cs id (read_number_bytes id _ h) (read_number_bytes (length v) _ k))

pub shorter : (bs : List ℕ) (i : ℕ × List ℕ × List ℕ) → read_parameter bs ≡ accepted i → length i.2 < length bs
shorter bs i e = go i.0 i.1 i.2 (at_front bs i e)
  where
    go : (id : ℕ) (v rest : List ℕ) → Front bs id v rest → length rest < length bs
    go id v rest f = rw f.behind (simp length-drop (omega (arith, read_within bs f.i f.first)))
