-- What an operation gives: a result, or a refusal by its number. And the few words that the
-- definitions are written with.
use Rattle.std.specs.Prelude.{ℕ, Bool, true, false, ◌&&◌, List, [], ◌∷◌, ◌++◌, length, drop, leb}

pub data Result (E A : Type 0) : Type 0 where
  accepted : A → Result E A
  refused : E → Result E A

abbrev pub Outcome : Type 0 → Type 0
Outcome A = Result ℕ A

-- if the test holds, the first, else the second
abbrev pub pick : {A : Type 0} → Bool → A → A → A
pick true a b = a
pick false a b = b

-- one operation after another: the first refusal is the refusal of both
abbrev pub and_then : {E A B : Type 0} → Result E A → (A → Result E B) → Result E B
and_then (accepted a) f = f a
and_then (refused e) f = refused e

-- every test holds
unfoldable pub all : List Bool → Bool
all [] = true
all (b ∷ bs) = b && all bs

-- a buffer with bytes stored at its front: the rest stays
unfoldable pub front : List ℕ → List ℕ → List ℕ
front bs out = bs ++ drop (length bs) out

-- what storing the bytes due answers, and the buffer afterwards: 5 exactly if the buffer is
-- shorter, and then it stays
unfoldable pub store : List ℕ → List ℕ → Outcome ℕ × List ℕ
store bs out = pick (leb (length bs) (length out)) (accepted (length bs), front bs out) (refused 5, out)
