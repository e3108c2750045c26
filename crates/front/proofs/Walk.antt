-- What a step of the parameters says of what it read. Assumes nothing.
use Prim.Native.Nat.{ℕ, ◌≤◌, ◌<◌}
use mathlib.Core.Path.{◌≡◌}
use mathlib.Core.List.{List}
use lib.ListN.{length}
use Rattle.std.specs.Prelude.{Some, Ok, Err, Result as Answer}
use Rattle.refusal.specs.Outcome.{accepted, refused}
use Rattle.front.specs.declared.Fault.{Fault}
use Rattle.front.specs.declared.Parameter.{Parameter}
use Rattle.front.specs.declared.Parameters.{Parameters}
use Rattle.front.specs.Parameter.{located}
use Rattle.front.specs.Walk.{Steps}

module _ {c : ℕ} (i j : Parameters c) (a : ℕ) (s : List ℕ) (is : i.src.now ≡ s) where
  -- a parameter: it stands at the position, and the position behind it is the next
  pub whole_step : (p : Parameter) (r : Answer Parameter Fault) → r ≡ Ok p → Steps i (Some (a, r)) j
      → (i.at < length s) × (accepted p ≡ located s i.at) × (j.src.now ≡ s) × (j.at ≡ p.end) × (p.start ≤ p.end) × (p.end ≤ length s) × (a ≡ i.at)
  whole_step p r e w =
      let k : Steps i (Some (a, Ok p)) j = rw e at w in
      rw (← is) (k.1.0, k.1.2, k.0, k.1.3.0, k.1.3.2, k.1.3.3, k.1.1)

  -- what cannot be read
  pub cut_step : (f : Fault) (r : Answer Parameter Fault) → r ≡ Err f → Steps i (Some (a, r)) j → (i.at < length s) × (refused f ≡ located s i.at)
  cut_step f r e w =
      let k : Steps i (Some (a, Err f)) j = rw e at w in
      rw (← is) (k.1.0, k.1.2)
