-- `wire::put_head` meets its contract. Assumes nothing.
use native.Mathlib.Omega.{arith}
use Rattle.refusal.proofs.Laws.{raised}
use Rattle.wire.proofs.Put.{head_first, head_room, head_second, head_count, head_whole}
use Rattle.wire.proofs.put_head.Goals as goal

pub returns-in_err-a : goal.returns-in_err-a
returns-in_err-a c = rw (raised _ _ c.from_residual.ensures.1) record { stored = tt; refused = head_first _ _ c.args.out.now c.requires _ _ c.in_err-a.ensures }

pub slice_bounds-encode-count : goal.slice_bounds-encode-count
slice_bounds-encode-count c = omega (arith, head_room _ 0 _ c.requires _ _ c.in_ok-a.ensures)

pub slice_bounds-encode-start : goal.slice_bounds-encode-start
slice_bounds-encode-start c = omega (arith, head_room _ 0 _ c.requires _ _ c.in_ok-a.ensures)

pub returns-in_err-b : goal.returns-in_err-b
returns-in_err-b c =
    rw (raised _ _ c.from_residual-in_err-b.ensures.1)
    record { stored = tt; refused = head_second _ _ c.args.out.now c.requires _ _ c.in_ok-a.ensures _ _ c.in_err-b.ensures }

pub overflow_add-result : goal.overflow_add-result
overflow_add-result c = omega (arith, head_count _ _ _ c.requires _ _ c.in_ok-a.ensures _ _ c.in_ok-b.ensures)

pub returns : goal.returns
returns c = record { stored = head_whole _ _ c.args.out.now c.requires _ _ c.in_ok-a.ensures _ _ c.in_ok-b.ensures; refused = tt }
