-- `writer::Draft::put_ordered` meets its contract. The invariant: the parameters at the first
-- places of the order stand at the front. Assumes nothing.
use mathlib.Core.Path.{◌≡◌}
use lib.ListN.{length, take}
use Rattle.writer.specs.Writing.{concat_of}
use Rattle.writer.specs.Laid.{part_at, Front}
use Rattle.writer.proofs.Draft.put_ordered.Given as goal

abbrev pub invariant-loop-place : goal.invariant-loop-place
invariant-loop-place l =
    (l.at ≡ length (concat_of (part_at l.self.starts l.self.parts) (take l.place-index l.order))) × Front l.at l.n (concat_of (part_at l.self.starts l.self.parts) (take l.place-index l.order)) l.initial.out l.out
