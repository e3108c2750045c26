-- `parse_hex` meets its contract. Assumes nothing.
use Prim.Native.Nat.{◌+◌}
use native.Mathlib.Omega.{arith}
use Rattle.text.proofs.Hexes.{Met, past_gap, past_digit, is_strange, is_long, is_odd, is_bytes}
use Rattle.text.proofs.parse_hex.Goals as goal
use Rattle.text.proofs.parse_hex.Goals.{in-Digit+else-not-put_digit, in-Gap}

pub returns-in-Other : goal.returns-in-Other
returns-in-Other c =
    let l = c.loop-i in
    is_strange _ _ _ _ l.i l.digits l.out l.invariant.1 (omega arith) c.in-Other.ensures

pub returns-then-not-put_digit : goal.returns-then-not-put_digit
returns-then-not-put_digit c =
    let p = c.put_digit in
    let q = c.in-Digit in
    let l = c.loop-i in
    is_long _ _ _ _ l.i l.digits l.out l.invariant.1 (omega arith) (omega arith) p.result p.new.out (rw q.ensures.0 at p.ensures) c.if-not-put_digit.true

pub loop-i-preserved : goal.loop-i-preserved
loop-i-preserved c =
    let l = c.loop-i in
    let a = c.args in
    elim c.match-character_of.branch [
      | in-Digit+else-not-put_digit w ↦
          let q = w.in-Digit.ensures in
          let p = w.put_digit in
          let m = past_digit _ _ _ _ l.i l.digits l.out l.invariant.1 (omega arith) (omega arith) p.result p.new.out (rw q.0 at p.ensures) w.if-not-put_digit.false in
          let n : Met a.text.now a.out.now a.at a.room (l.i + 1) c.match-character_of.digits c.match-character_of.out = rw (w.digits-is, w.out-is) m in
          (omega arith, n)
      | in-Gap w ↦
          let m = past_gap _ _ _ _ l.i l.digits l.out l.invariant.1 (omega arith) w.in-Gap.ensures in
          let n : Met a.text.now a.out.now a.at a.room (l.i + 1) c.match-character_of.digits c.match-character_of.out = rw (w.digits-is, w.out-is) m in
          (omega arith, n)
    ]

pub returns-then-digits-eq1 : goal.returns-then-digits-eq1
returns-then-digits-eq1 c =
    let l = c.loop-i in
    is_odd _ _ _ _ l.i l.digits l.out l.invariant.1 (omega arith) c.if-digits-eq1.true

pub returns : goal.returns
returns c =
    let l = c.loop-i in
    is_bytes _ _ _ _ l.i l.digits l.out l.invariant.1 (omega arith) c.if-digits-eq1.false
