-- Laws of the parameter at the front of some bytes (RFC 9000 section 18).
use Rattle.std.specs.Prelude.{ℕ, ◌-◌, ◌^◌, ◌<◌, ◌≡◌, List, ◌++◌, length, take, drop}
use Rattle.refusal.specs.Outcome.{accepted, refused}
use Rattle.catalogue.specs.Catalogue.{parameter}
use Rattle.front.specs.declared.Fault.{Fault}
use Rattle.front.specs.declared.Parameter.{Parameter}
use Rattle.front.specs.Parameter.{read_parameter, located}
use Rattle.front.specs.Whole.{Whole, Wholes, concat, parameters}

pub record ParameterLaws : Type 0 where
  -- a parameter that was written is read back, whatever bytes follow it
  pub front_parameter :
      (id : ℕ) (v rest : List ℕ) → id < 2 ^ 62 → length v < 2 ^ 62
      → read_parameter (parameter id v ++ rest) ≡ accepted (id, v, rest)
  -- what is read stands in front of what is behind it, and is a whole parameter by itself
  pub cut_out :
      (bs : List ℕ) (i : ℕ × List ℕ × List ℕ) → read_parameter bs ≡ accepted i
      → (w : List ℕ) × ((w ++ i.2 ≡ bs) × Whole w)
  -- the parameter at a position is that at the front of the bytes from there on,
  pub located_front :
      (s : List ℕ) (at : ℕ) (p : Parameter) → located s at ≡ accepted p
      → read_parameter (drop at s)
      ≡ accepted (p.id, take (p.end - p.start) (drop p.start s), drop p.end s)
  -- with the same fault if it has one
  pub located_fault :
      (s : List ℕ) (at : ℕ) (f : Fault) → located s at ≡ refused f
      → read_parameter (drop at s) ≡ refused f
  -- the parameters of whole ones, one after another, are these
  pub parameters_concat : (ws : List (List ℕ)) → Wholes ws → parameters (concat ws) ≡ ws
