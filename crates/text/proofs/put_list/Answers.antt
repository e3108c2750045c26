-- `put_list` meets its contract. Assumes nothing.
use Rattle.std.proofs.Common.{◌≡◌, ◌∙◌, sym, ap, refl, arith, ℕ, ◌+◌, ◌<◌, ◌≤◌, min, [], Bool, true, false, Some, None, Result, Ok, Err}
use Rattle.std.specs.Prelude.{is_some}
use Rattle.std.specs.Bool.{then_some}
use Rattle.std.specs.Result.{OkIff, result_ok}
use borrow.Author.Tests.{lt-leb}
use Rattle.text.specs.Text.{decimal}
use Rattle.text.proofs.Decimals.{stored_out, empty}
use Rattle.text.proofs.Lists.{listed_more, cut, ended}
use Rattle.text.proofs.Splits.{behind_none, behind_more, behind_word, behind_end, behind_last}
use Rattle.text.proofs.put_list.Goals as goal

-- a number that is no byte, and one that is
over : {E : Type 0} (r : Result ℕ E) (x : ℕ) → OkIff r (x < 256) x → None ≡ result_ok r → 255 < x
over (Ok y) x o e = cc
over (Err d) x o e = omega (arith, o)

within : {E : Type 0} (r : Result ℕ E) (x y : ℕ) → OkIff r (x < 256) x → Some y ≡ result_ok r → (x ≤ 255) × (y ≡ x)
within (Ok z) x y o e = let f : y ≡ z = cc in (omega arith, f ∙ o.1)
within (Err d) x y o e = cc

some_then : (b : Bool) → is_some (then_some b (tt {0})) ≡ b
some_then true = refl
some_then false = refl

pub loop-i-init : goal.loop-i-init
loop-i-init c = rw (c.words_of-words.ensures.0, c.words_of-words.ensures.1) (behind_none c.args.sep c.args.text.now)

pub loop-i-preserved : goal.loop-i-preserved
loop-i-preserved c = behind_more c.args.sep c.args.text.now c.loop-i._i c.next.result _ _ c.loop-i.invariant c.next.ensures.steps

pub returns-in_err-next : goal.returns-in_err-next
returns-in_err-next c =
    let l = c.loop-k in
    let m : min l.k c.args.to ≡ l.k = omega arith in
    let w = behind_end c.args.sep c.args.text.now l.k _ (rw m at l.invariant.0) c.in_err-next.ensures.steps.0 in
    rw c.from_residual.ensures (cut _ _ _ _ _ _ l.k l.out l.invariant.1 (omega arith) (omega arith) (rw (w, ← empty [] refl)))

pub returns-in_err-x : goal.returns-in_err-x
returns-in_err-x c =
    let l = c.loop-k in
    let m : min l.k c.args.to ≡ l.k = omega arith in
    let w = behind_word c.args.sep c.args.text.now l.k _ _ _ (rw m at l.invariant.0) c.in_ok-next.ensures.steps in
    rw c.from_residual-in_err-x.ensures (cut _ _ _ _ _ _ l.k l.out l.invariant.1 (omega arith) (omega arith) (rw (← w, ← c.parse_decimal.ensures, c.in_err-x.was)))

pub returns-in_err-ok : goal.returns-in_err-ok
returns-in_err-ok c =
    let l = c.loop-k in
    let m : min l.k c.args.to ≡ l.k = omega arith in
    let w = behind_word c.args.sep c.args.text.now l.k _ _ _ (rw m at l.invariant.0) c.in_ok-next.ensures.steps in
    let h = over c.try_from.result c.in_ok-x.x c.try_from.ensures c.in_err-ok.ensures.value in
    rw c.from_residual-in_err-ok.ensures (cut _ _ _ _ _ _ l.k l.out l.invariant.1 (omega arith) (omega arith) (rw (← w, ← c.in_ok-x.ensures, lt-leb _ 255 h)))

pub loop-k-preserved : goal.loop-k-preserved
loop-k-preserved c =
    let l = c.loop-k in
    let m : min l.k c.args.to ≡ l.k = omega arith in
    let n : min (l.k + 1) c.args.to ≡ l.k + 1 = omega arith in
    let b = rw m at l.invariant.0 in
    let w = behind_word c.args.sep c.args.text.now l.k _ _ _ b c.in_ok-next.ensures.steps in
    let h = within c.try_from.result c.in_ok-x.x c.in_ok-ok.field-0 c.try_from.ensures c.in_ok-ok.ensures.value in
    let e = stored_out _ _ l.out _ _ c.set.ensures in
    let d : decimal _ ≡ Some c.in_ok-x.x = ap decimal (sym w) ∙ sym c.in_ok-x.ensures in (
      rw n (behind_more c.args.sep c.args.text.now l.k (Some c.in_ok-next.field-0) _ _ b c.in_ok-next.ensures.steps),
      rw (e.0, h.1) (listed_more _ _ _ _ _ _ l.k l.out l.invariant.1 (omega arith) (omega arith) c.in_ok-x.x d h.0),
    )

pub returns : goal.returns
returns c =
    let l = c.loop-k in
    let m : min l.k c.args.to ≡ c.args.to = omega arith in
    let e = behind_last c.args.sep c.args.text.now _ c.args.to c.next-2.result _ _ c.is_none.result c.is_none.ensures (rw m at l.invariant.0) c.next-2.ensures.steps in
    rw (c.then_some.ensures, some_then) (ended _ _ _ _ _ _ l.k l.out l.invariant.1 (omega arith) c.is_none.result e (omega arith))
