-- `index::Kept::value` meets its contract: the tests that led to each `return` pick the case.
-- Assumes nothing.
use Prim.Native.Nat.{◌+◌, ◌≤◌}
use lib.ListN.{length, get_or}
use mathlib.Core.Path.{sym, ◌∙◌}
use native.Mathlib.Omega.{arith}
use Rattle.value.proofs.Checks.{not_number_at}
use Rattle.index.specs.Answer.{found_of}
use Rattle.index.proofs.Parts.{none_outside, none_number}
use Rattle.index.proofs.Kept.value.Goals.{After-from}
use Rattle.index.proofs.Kept.value.Goals as goal

-- the value stands within the extension
ends : (c : After-from) → get_or c.args.self.now.entries.kept c.args.place 0 + c.from.result ≤ length c.args.self.now.src.now
ends c = rw c.from.ensures (c.args.self.now.sound.within c.args.place (not_number_at c.args.place (sym c.is_marked.ensures ∙ c.if-is_marked.false)))

pub returns-then-place-ge-PLACES : goal.returns-then-place-ge-PLACES
returns-then-place-ge-PLACES c = none_outside _ _ _ c.if-place-ge-PLACES.true

pub returns-then-is_marked : goal.returns-then-is_marked
returns-then-is_marked c = none_number c.args.self.now.src.now (found_of c.args.self.now.entries) c.args.place (sym c.is_marked.ensures ∙ c.if-is_marked.true)

pub overflow_add-end : goal.overflow_add-end
overflow_add-end c = omega (arith, ends c)

pub slice_bounds-result-end : goal.slice_bounds-result-end
slice_bounds-result-end c = omega (arith, ends (goal.at.slice_bounds-result-end c).After-from)
