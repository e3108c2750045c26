-- `wire::put_number` meets its contract. Assumes nothing.
use native.Mathlib.Omega.{arith}
use lib.ListN.{replicate}
use Rattle.wire.proofs.Put.{put_nil, too_high, kept_low, kept_part, kept_within, number_high, number_low}
use Rattle.wire.proofs.put_number.Goals as goal

pub returns-in_default : goal.returns-in_default
returns-in_default c = rw (c.if-not-due.false, number_high c.args.id c.args.x (too_high _ _ (replicate 8 0) _ (omega arith) c.in_default.ensures)) (put_nil _)

pub slice_bounds-value-end : goal.slice_bounds-value-end
slice_bounds-value-end c = (kept_within c.args.x _ (replicate 8 0) _ c.in-Ok.ensures).0

pub returns : goal.returns
returns c =
    let w = c.in-Ok.ensures in
    rw (c.if-not-due.false, number_low c.args.id c.args.x (kept_low _ _ (replicate 8 0) _ w), ← kept_part _ _ (replicate 8 0) _ w) c.put_due.ensures
