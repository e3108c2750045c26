-- `report::report` meets its contract. Assumes nothing.
use native.Mathlib.Omega.{arith}
use Rattle.refusal.proofs.Laws.{raised}
use mathlib.Core.Path.{refl}
use Rattle.record.specs.Values.{Bytes}
use Rattle.report.proofs.Counted.{refused_report, taken, is_report}
use Rattle.report.proofs.report.Goals as goal

pub returns-in_err-marks : goal.returns-in_err-marks
returns-in_err-marks c = rw (raised _ _ c.from_residual.ensures.1) (refused_report c.args.side c.args.src.now _ c.in_err-marks.ensures)

pub overflow_sub-result : goal.overflow_sub-result
overflow_sub-result c = let t = taken c.args.side c.args.src.now (λ i. (c.type_inv.src i).fits) _ _ c.in_ok-marks.ensures in omega (arith, t)

pub overflow_sub-result-2 : goal.overflow_sub-result-2
overflow_sub-result-2 c = let t = taken c.args.side c.args.src.now (λ i. (c.type_inv.src i).fits) _ _ c.in_ok-marks.ensures in omega (arith, t)

pub overflow_sub-result-3 : goal.overflow_sub-result-3
overflow_sub-result-3 c = let t = taken c.args.side c.args.src.now (λ i. (c.type_inv.src i).fits) _ _ c.in_ok-marks.ensures in omega (arith, t)

pub returns : goal.returns
returns c =
    let s = c.args.side in
    let e = c.args.src.now in
    let hb : Bytes e = λ i. (c.type_inv.src i).fits in
    let t = taken s e hb _ _ c.in_ok-marks.ensures in
    is_report s e hb _ _ c.in_ok-marks.ensures _ _ _ _ _ (omega (arith, t)) (omega arith) (omega arith) (omega arith) (omega arith)
