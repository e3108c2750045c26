-- Laws of storing bytes at the front of a buffer. Assumes nothing.
--     not_refused     no answer is both accepted and refused
--     refused_same    nor refused by two numbers
--     stored_front    the bytes stand at the front
--     store_fits      they are stored where there is room
--     store_short     and refused by 5 exactly where there is not
--     store_five      by no other number
--     stored          what an accepted call stored
use Prim.Native.Nat.{ℕ, ◌≤◌, ◌<◌}
use mathlib.Core.Path.{◌≡◌, refl, ap, sym}
use mathlib.Core.List.{List}
use mathlib.Core.Bool.{Bool, true, false}
use mathlib.Core.Logic.{◌↔◌}
use native.Mathlib.Omega.{arith}
use lib.ListN.{length, take}
use lib.Seq.{take-append_seam}
use lib.Dec.{leb}
use borrow.Author.Tests.{le-leb, lt-leb, leb-false}
use Rattle.refusal.specs.Outcome.{Outcome, accepted, refused, pick, front, store}

-- an answer and a buffer
abbrev pub Answered : Type 0
Answered = Outcome ℕ × List ℕ

pub not_refused : {P : Type 0} (m n : ℕ) (o o' : List ℕ) → ◌≡◌ {A = Answered} (accepted n, o) (refused m, o') → P
not_refused m n o o' e =
    let p : ◌≡◌ {A = Outcome ℕ} (accepted n) (refused m) = ap (λ (a : Answered). a.0) e in cc

pub refused_same : (m n : ℕ) (o o' : List ℕ) → ◌≡◌ {A = Answered} (refused m, o) (refused n, o') → m ≡ n
refused_same m n o o' e = let p : ◌≡◌ {A = Outcome ℕ} (refused m) (refused n) = ap (λ (a : Answered). a.0) e in cc

pub stored_front : (bs out : List ℕ) → take (length bs) (front bs out) ≡ bs
unfolding front
stored_front bs out = take-append_seam bs _

pub store_fits : (bs out : List ℕ) → length bs ≤ length out → store bs out ≡ (accepted (length bs), front bs out)
unfolding store
store_fits bs out h = rw (le-leb _ _ h)

pub store_short : (bs out : List ℕ) → (store bs out ≡ (refused 5, out)) ↔ (length out < length bs)
unfolding store
store_short bs out = (λ e. go (leb (length bs) (length out)) refl e, λ h. rw (lt-leb _ _ h))
  where
    go : (t : Bool) → leb (length bs) (length out) ≡ t → pick {A = Answered} t (accepted (length bs), front bs out) (refused 5, out) ≡ (refused 5, out) → length out < length bs
    go true h e = not_refused 5 _ _ _ e
    go false h e = leb-false _ _ h

pub store_five : (bs out o : List ℕ) (n : ℕ) → store bs out ≡ (refused n, o) → n ≡ 5
unfolding store
store_five bs out o n e = go (leb (length bs) (length out)) e
  where
    go : (t : Bool) → pick {A = Answered} t (accepted (length bs), front bs out) (refused 5, out) ≡ (refused n, o) → n ≡ 5
    go true e = not_refused n _ _ _ e
    go false e = omega (arith, refused_same 5 n _ _ e)

pub record Stored (bs : List ℕ) (n : ℕ) (o : List ℕ) : Type 0 where
  pub count : length bs ≡ n
  pub are : take n o ≡ bs

pub stored : (bs out o : List ℕ) (n : ℕ) → store bs out ≡ (accepted n, o) → Stored bs n o
unfolding store
stored bs out o n e = go (leb (length bs) (length out)) e
  where
    go : (t : Bool) → pick {A = Answered} t (accepted (length bs), front bs out) (refused 5, out) ≡ (accepted n, o) → Stored bs n o
    go true e =
        let p : ◌≡◌ {A = Outcome ℕ} (accepted (length bs)) (accepted n) = ap (λ (a : Answered). a.0) e in
        let q : front bs out ≡ o = ap (λ (a : Answered). a.1) e in
        let c : length bs ≡ n = cc in
        record { count = c; are = rw (← q, ← c) (stored_front bs out) }
    go false e = not_refused 5 _ _ _ (sym e)
