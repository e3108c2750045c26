-- Extensions put together from whole parameters.
use Rattle.std.specs.Prelude.{ℕ, zero, suc, ◌-◌, ◌≤◌, ◌<◌, ◌≡◌, length, take}
use mathlib.Core.List.{List, [], ◌∷◌, ◌++◌, Perm}
use Rattle.refusal.specs.Outcome.{Result, accepted, refused}
use Rattle.catalogue.specs.Catalogue.{places, place_of}
use Rattle.front.specs.declared.Fault.{Fault}
use Rattle.front.specs.Parameter.{read_parameter}

-- bytes that are one parameter, with nothing behind it
pub record Whole (w : List ℕ) : Type 0 where
  pub id : ℕ
  pub v : List ℕ
  pub is : read_parameter w ≡ accepted (id, v, [])

abbrev pub concat : List (List ℕ) → List ℕ
concat [] = []
concat (w ∷ ws) = w ++ concat ws

-- whole parameters, and the same with unknown ones put in anywhere
pub data Inserted : List (List ℕ) → List (List ℕ) → Type 0 where
  done : Inserted [] []
  same : {w : List ℕ} {ws ws' : List (List ℕ)} → Whole w → Inserted ws ws' → Inserted (w ∷ ws) (w ∷ ws')
  unknown : {w : List ℕ} {ws ws' : List (List ℕ)} (h : Whole w) → places ≤ place_of h.id → Inserted ws ws' → Inserted ws (w ∷ ws')

-- every one of them is whole
abbrev pub Wholes : List (List ℕ) → Type 0
Wholes [] = Unit {0}
Wholes (w ∷ ws) = Whole w × Wholes ws

-- the parameters that bytes are made of, from the front up to what cannot be read; each has a byte
-- at least
abbrev pub and_rest : List ℕ → (List ℕ → List (List ℕ)) → Result Fault (ℕ × List ℕ × List ℕ) → List (List ℕ)
and_rest bs rest (accepted i) = take (length bs - length i.2) bs ∷ rest i.2
and_rest bs rest (refused f) = []

abbrev pub parameters_in : ℕ → List ℕ → List (List ℕ)
parameters_in zero bs = []
parameters_in (suc n) bs = and_rest bs (parameters_in n) (read_parameter bs)

unfoldable pub parameters : List ℕ → List (List ℕ)
parameters bs = parameters_in (length bs) bs

-- bytes that are whole parameters, one after another
pub record Composed (e : List ℕ) : Type 0 where
  pub ws : List (List ℕ)
  pub is : concat ws ≡ e
  pub each : Wholes ws

-- bytes, and the same with unknown whole parameters put in anywhere: before, between or behind
-- those of e
pub record Stuffed (e e' : List ℕ) : Type 0 where
  pub ws : List (List ℕ)
  pub ws' : List (List ℕ)
  pub is : concat ws ≡ e
  pub is' : concat ws' ≡ e'
  pub put : Inserted ws ws'

-- bytes that are whole parameters, and the same ones in another order. `Perm` is the kit's
-- rearrangement of a list: the rest rearranged behind the same first one, the first two exchanged,
-- or one rearrangement after another; so the same elements, each as often
pub record Rearranged (e e' : List ℕ) : Type 0 where
  pub composed : Composed e
  pub ws' : List (List ℕ)
  pub is' : concat ws' ≡ e'
  pub moved : Perm composed.ws ws'

-- whole parameters a, then w, then b; and a second copy u of w, which is a known one. Its value may
-- be any
pub record Repeated (a w b u : List ℕ) : Type 0 where
  pub before : Composed a
  pub first : Whole w
  pub between : Composed b
  pub second : Whole u
  pub same : second.id ≡ first.id
  pub known : place_of first.id < places
