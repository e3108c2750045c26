-- Laws of the words of specs/Outcome.antt. Assumes nothing.
--     inverted       a whole that was accepted had its first part accepted
--     declined       one that was refused had its first part refused, or its second
--     picked         an outcome that was accepted was the one picked
--     pick_cases     a fact of both branches is one of what is picked
--     all_at         each of the tests holds where all do
--     raised         what a `?` passes on is the error
use Prim.Native.Nat.{ℕ, zero, suc}
use mathlib.Core.Path.{◌≡◌, refl, ap}
use mathlib.Core.List.{List, [], ◌∷◌}
use mathlib.Core.Bool.{Bool, true, false}
use lib.ListN.{get_or}
use Rattle.std.specs.Prelude.{Result as Answer, Ok, Err}
use Rattle.std.specs.Result.{IsErrAnd}
use Rattle.std.proofs.lemmas.Bool.{and_parts}
use Rattle.refusal.specs.Outcome.{Result, accepted, refused, pick, and_then, all}

pub inverted : {E A B P : Type 0} (o : Result E A) (f : A → Result E B) (b : B) → and_then o f ≡ accepted b
    → ((a : A) → o ≡ accepted a → f a ≡ accepted b → P) → P
inverted (accepted a) f b e k = k a refl e
inverted (refused n) f b e k = cc

pub declined : {E A B P : Type 0} (o : Result E A) (f : A → Result E B) (n : E) → and_then o f ≡ refused n
    → (o ≡ refused n → P) → ((a : A) → o ≡ accepted a → f a ≡ refused n → P) → P
declined (accepted a) f n e h k = k a refl e
declined (refused m) f n e h k = let i : m ≡ n = cc in h (ap refused i)

pub picked : {E A P : Type 0} (t : Bool) (a b : A) (n : E) → pick {A = Result E A} t (accepted a) (refused n) ≡ accepted b
    → (t ≡ true → a ≡ b → P) → P
picked true a b n e k = k refl (cc)
picked false a b n e k = cc

pub pick_cases : {A : Type 0} (P : A → Type 0) (t : Bool) (a b : A) → (t ≡ true → P a) → (t ≡ false → P b) → P (pick t a b)
pick_cases P true a b f g = f refl
pick_cases P false a b f g = g refl

pub all_at : (l : List Bool) → all l ≡ true → (i : ℕ) → get_or l i true ≡ true
unfolding all
all_at [] e i = refl
all_at (b ∷ l) e zero = (and_parts b (all l) e).0
all_at (b ∷ l) e (suc i) = all_at l (and_parts b (all l) e).1 i

pub raised : {A E : Type 0} (r : Answer A E) (e : E) → IsErrAnd r (λ d. d ≡ e) → r ≡ Err e
raised (Err d) e h = ap Err h
raised (Ok a) e h = absurd h
