-- `tidy::put_numbers` meets its contract. The invariant: the places before this one are laid.
-- Assumes nothing.
use Prim.Native.Nat.{◌≤◌}
use mathlib.Core.List.{[]}
use mathlib.Core.Path.{◌≡◌}
use lib.ListN.{length}
use Rattle.wire.specs.Wire.{due_number_at}
use Rattle.wire.specs.Stored.{each}
use Rattle.writer.specs.Laid.{laid}
use Rattle.tidy.proofs.put_numbers.Given as goal

abbrev pub invariant-loop-place : goal.invariant-loop-place
invariant-loop-place l = (l.at ≤ length l.out) × ((l.at, l.out, []) ≡ laid (each (due_number_at l.entries.kept) l.place) 1 0 l.initial.out [])
