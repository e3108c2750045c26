-- `parse_hex_number` meets its contract. Assumes nothing.
use Rattle.std.proofs.Common.{sym, ◌∙◌}
use native.Mathlib.Omega.{arith}
use borrow.Author.Tests.{eqb-true, eqb-false}
use Rattle.text.proofs.HexNumbers.{empty, long, no_digit, strange, room, read_more, whole}
use Rattle.text.proofs.parse_hex_number.Goals as goal
use Rattle.text.proofs.parse_hex_number.Goals.{then-is_empty-via-then-is_empty, then-is_empty-via-else-is_empty+then-digits-gt8}

pub returns-then-is_empty : goal.returns-then-is_empty
returns-then-is_empty c = elim c.then-is_empty.branch [
  | then-is_empty-via-then-is_empty w ↦ empty _ (eqb-true _ 0 (sym c.is_empty.ensures ∙ w.if-is_empty.true))
  | then-is_empty-via-else-is_empty+then-digits-gt8 w ↦ long _ w.if-digits-gt8.true
]

pub overflow_mul-value : goal.overflow_mul-value
overflow_mul-value c =
    let l = c.loop-b in
    let r = room _ l.b-index (omega arith) l.value l.invariant (omega arith) 0 (omega arith) in
    omega (arith, r)

pub overflow_add-value : goal.overflow_add-value
overflow_add-value c =
    let l = c.loop-b in
    let d = c.in-Digit.ensures in
    let r = room _ l.b-index (omega arith) l.value l.invariant (omega arith) c.from.result (omega (arith, c.from.ensures, d.1)) in
    omega (arith, r)

pub returns-in-Gap : goal.returns-in-Gap
returns-in-Gap c = strange _ c.loop-b.b-index (omega arith) (no_digit _ c.character_of.result c.character_of.ensures c.in-Gap.is)

pub loop-b-preserved : goal.loop-b-preserved
loop-b-preserved c =
    let l = c.loop-b in
    let d = c.in-Digit.ensures in
    read_more _ l.b-index (omega arith) l.value l.invariant c.from.result (c.from.ensures ∙ d.0) (omega (arith, c.from.ensures, d.1))

pub returns : goal.returns
returns c =
    let l = c.loop-b in
    whole _ l.b-index l.value (omega (arith, eqb-false _ 0 (sym c.is_empty.ensures ∙ c.if-is_empty.false))) (omega arith) (omega arith) l.invariant
