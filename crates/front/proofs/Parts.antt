-- The parameters that bytes are made of. Assumes nothing.
--     parameters_front    those with one at the front
--     parameters_concat   those of whole parameters, one after another, are these
use Prim.Native.Nat.{ℕ, zero, suc, ◌-◌, ◌≤◌}
use mathlib.Core.Path.{◌≡◌, refl, ap, ◌∙◌}
use mathlib.Core.List.{List, [], ◌∷◌, ◌++◌}
use native.Mathlib.Omega.{arith}
use lib.ListN.{length, take, length-append}
use lib.Seq.{take_at}
use Rattle.refusal.specs.Outcome.{Result, accepted, refused}
use Rattle.front.specs.declared.Fault.{Fault}
use Rattle.front.specs.Parameter.{read_parameter}
use Rattle.front.specs.Whole.{Whole, Wholes, concat, and_rest, parameters_in, parameters}
use Rattle.front.proofs.Front.{front_append, shorter}

-- more than enough is enough
fuel : (n m : ℕ) (bs : List ℕ) → length bs ≤ n → length bs ≤ m → parameters_in n bs ≡ parameters_in m bs
fuel zero zero bs p q = refl
fuel zero (suc m) bs p q = none_left (read_parameter bs) refl
  where
    none_left : (o : Result Fault (ℕ × List ℕ × List ℕ)) → read_parameter bs ≡ o → [] ≡ and_rest bs (parameters_in m) o
    none_left (accepted i) e = absurd (omega (arith, shorter bs i e))
    none_left (refused f) e = refl
fuel (suc n) zero bs p q = none_left (read_parameter bs) refl
  where
    none_left : (o : Result Fault (ℕ × List ℕ × List ℕ)) → read_parameter bs ≡ o → and_rest bs (parameters_in n) o ≡ []
    none_left (accepted i) e = absurd (omega (arith, shorter bs i e))
    none_left (refused f) e = refl
fuel (suc n) (suc m) bs p q = go (read_parameter bs) refl (fuel n m)
  where
    go : (o : Result Fault (ℕ × List ℕ × List ℕ)) → read_parameter bs ≡ o → ((cs : List ℕ) → length cs ≤ n → length cs ≤ m → parameters_in n cs ≡ parameters_in m cs)
        → and_rest bs (parameters_in n) o ≡ and_rest bs (parameters_in m) o
    go (refused f) e k = refl
    go (accepted i) e k = let s = shorter bs i e in ap (λ ws. take (length bs - length i.2) bs ∷ ws) (k i.2 (omega arith) (omega arith))

pub parameters_front : (bs : List ℕ) (i : ℕ × List ℕ × List ℕ) → read_parameter bs ≡ accepted i → parameters bs ≡ take (length bs - length i.2) bs ∷ parameters i.2
unfolding parameters
parameters_front bs i e =
    let s = shorter bs i e in
    let n : length bs ≡ suc (length bs - 1) = omega arith in
    fuel (length bs) (suc (length bs - 1)) bs (omega arith) (omega arith)
    ∙ rw e (ap (λ ws. take (length bs - length i.2) bs ∷ ws) (fuel (length bs - 1) (length i.2) i.2 (omega arith) (omega arith)))

pub parameters_none : parameters [] ≡ []
unfolding parameters
parameters_none = refl

parameters_whole : (w cs : List ℕ) → Whole w → parameters (w ++ cs) ≡ w ∷ parameters cs
parameters_whole w cs h =
    let n : length w ≡ length (w ++ cs) - length cs = simp length-append (omega arith) in
    parameters_front (w ++ cs) (h.id, h.v, cs) (front_append w cs (h.id, h.v, []) h.is)
    ∙ ap (λ x. x ∷ parameters cs) (take_at w cs (length (w ++ cs) - length cs) n)

pub parameters_concat : (ws : List (List ℕ)) → Wholes ws → parameters (concat ws) ≡ ws
parameters_concat [] h = parameters_none
parameters_concat (w ∷ ws) h = parameters_whole w (concat ws) h.0 ∙ ap (λ us. w ∷ us) (parameters_concat ws h.1)
