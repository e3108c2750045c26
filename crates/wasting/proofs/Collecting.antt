-- The parameters that waste something, as far as they are collected. Assumes nothing.
--     start, done, cut         at the front none; at the end, or at what cannot be read, all
--     found, wastes_none        over a parameter that wastes something, or nothing
use Prim.Native.Nat.{ℕ, zero, suc, ◌-◌, ◌≤◌, ◌<◌}
use mathlib.Core.Path.{◌≡◌, refl, ap, sym, ◌∙◌}
use mathlib.Core.List.{List, [], ◌∷◌, ◌++◌, append-nil, append_assoc}
use native.Mathlib.Omega.{arith}
use lib.ListN.{length, take, drop, drop_of_length-le}
use borrow.Author.Tests.{lt-ltb, le-ltb}
use Rattle.refusal.specs.Outcome.{accepted, refused}
use Rattle.front.specs.declared.Fault.{Fault}
use Rattle.front.specs.declared.Parameter.{Parameter}
use Rattle.front.specs.Parameter.{read_parameter, located}
use Rattle.front.specs.Whole.{parameters, parameters_in}
use Rattle.front.proofs.Parts.{parameters_none}
use Rattle.front.proofs.Position.{cut_out, located_front}
use Rattle.tally.specs.Tally.{count_of}
use Rattle.tally.proofs.Turn.{own, turn}
use Rattle.wasting.specs.declared.Waster.{Waster}
use Rattle.wasting.specs.Wasting.{waste_of, waster_of, wasters_of}

-- those found so far, and those from a position on, are all
pub record Found (s : List ℕ) (at : ℕ) (xs : List Waster) : Type 0 where
  pub is : xs ++ wasters_of (parameters (drop at s)) ≡ wasters_of (parameters s)

pub start : (s : List ℕ) → Found s 0 []
start s = record { is = refl }

pub done : (s : List ℕ) (at : ℕ) (xs : List Waster) → length s ≤ at → Found s at xs → xs ≡ wasters_of (parameters s)
done s at xs h f =
    let e : parameters (drop at s) ≡ [] = rw (drop_of_length-le s h) parameters_none in
    sym (append-nil xs) ∙ rw e at f.is

-- nothing is read of what is cut off
unread : (bs : List ℕ) (f : Fault) → read_parameter bs ≡ refused f → parameters bs ≡ []
unfolding parameters
unread bs f e = go (length bs)
  where
    go : (n : ℕ) → parameters_in n bs ≡ []
    go zero = refl
    go (suc n) = rw e refl

pub cut : (s : List ℕ) (at : ℕ) (xs : List Waster) (f : Fault) → refused f ≡ located s at → Found s at xs → xs ≡ wasters_of (parameters s)
cut s at xs f q h =
    let r : read_parameter (drop at s) ≡ refused f = located_front s at ∙ ap (cut_out s) (sym q) in
    let e : parameters (drop at s) ≡ [] = unread (drop at s) f r in
    sym (append-nil xs) ∙ rw e at h.is

module _ (s : List ℕ) (at : ℕ) (p : Parameter) (h : at < length s) (q : accepted p ≡ located s at) (xs : List Waster) (f : Found s at xs) where
  abbrev w : List ℕ
  w = take (p.end - at) (drop at s)

  le : at ≤ length s
  le = omega arith

  next : parameters (drop at s) ≡ w ∷ parameters (drop p.end s)
  next = turn s at p le q

  turned : xs ++ wasters_of (w ∷ parameters (drop p.end s)) ≡ wasters_of (parameters s)
  turned = rw next at f.is

  pub wastes_none : (waste_of (count_of w)).bytes ≤ 0 → Found s p.end xs
  wastes_none z = record { is = rw (le-ltb 0 _ z) at turned }

  pub found : (x : Waster) → x ≡ record { id = p.id; len = length w; wasted = waste_of (count_of w) } → 0 < (waste_of (count_of w)).bytes → Found s p.end (xs ++ x ∷ [])
  found x e z =
      let o = own s at p le q in
      let i : waster_of w ≡ x = rw (o.is) (sym e) in
      let t : xs ++ x ∷ wasters_of (parameters (drop p.end s)) ≡ wasters_of (parameters s) = rw (lt-ltb 0 _ z, i) at turned in
      record { is = append_assoc xs (x ∷ []) (wasters_of (parameters (drop p.end s))) ∙ t }
