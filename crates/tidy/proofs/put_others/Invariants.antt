-- `tidy::put_others` meets its contract. The invariant: the places before this one are laid.
-- Assumes nothing.
use Prim.Native.Nat.{◌≤◌, ◌-◌, ◌+◌}
use mathlib.Core.List.{[]}
use mathlib.Core.Path.{◌≡◌}
use lib.ListN.{length}
use Rattle.catalogue.specs.Catalogue.{id_at}
use Rattle.index.specs.Answer.{found_of}
use Rattle.wire.specs.Stored.{each}
use Rattle.writer.specs.Laid.{laid}
use Rattle.tidy.specs.Pieces.{piece_for}
use Rattle.tidy.proofs.put_others.Given as goal

abbrev pub invariant-loop-place : goal.invariant-loop-place
invariant-loop-place l =
    (l.at ≤ length l.out)
    × ((l.at, l.out, []) ≡ laid (each (λ j. piece_for (id_at (12 + j)) l.kept.src.now (found_of l.kept.entries) (12 + j)) (l.place - 12)) 12 l.start l.initial.out [])
