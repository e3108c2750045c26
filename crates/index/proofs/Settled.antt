-- What the scan and the value rules settle. Assumes nothing.
use Prim.Native.Nat.{ℕ}
use mathlib.Core.Path.{◌≡◌}
use mathlib.Core.List.{List}
use mathlib.Core.Bool.{true, false}
use Rattle.refusal.specs.Outcome.{accepted, refused}
use Rattle.rules.specs.declared.Side.{Side}
use Rattle.front.specs.declared.Fault.{Fault}
use Rattle.front.specs.declared.Fault.TheVariants.{Illegal}
use Rattle.front.specs.Whole.{parameters}
use Rattle.tally.specs.Tally.{counts, dropped}
use Rattle.index.specs.Index.{Found, nothing, index_from, kept_rules, indexed, counted}

module _ (side : Side) (s : List ℕ) where
  pub stopped : (x : Fault) → refused x ≡ index_from s 0 nothing → refused x ≡ indexed side s
  unfolding indexed
  stopped x e = rw (← e)

  pub not_counted : (x : Fault) → refused x ≡ indexed side s → refused x ≡ counted side s
  unfolding counted
  not_counted x e = rw (← e)

  module _ (f : Found) (e : accepted f ≡ index_from s 0 nothing) where
    pub illegal : kept_rules side s f ≡ false → refused Illegal ≡ indexed side s
    unfolding indexed
    illegal q = rw (← e, q)

    pub allowed : kept_rules side s f ≡ true → accepted f ≡ indexed side s
    unfolding indexed
    allowed q = rw (← e, q)

    pub counted_lem : kept_rules side s f ≡ true → accepted (f.0, dropped (counts (parameters s))) ≡ counted side s
    unfolding counted
    counted_lem q = rw (← allowed q)
