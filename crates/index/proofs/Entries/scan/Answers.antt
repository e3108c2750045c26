-- `index::Entries::scan` meets its contract. The invariant: from here on, with what is kept so far,
-- the outcome is that of the whole input; the sums so far and those of what is left are the
-- whole's. Assumes nothing.
use Prim.Native.Nat.{◌≤◌, ◌<◌}
use mathlib.Core.Path.{◌≡◌, refl, ap, sym, ◌∙◌}
use native.Mathlib.Omega.{arith}
use borrow.Author.Tests.{lt-ltb}
use lib.ListN.{length}
use Rattle.refusal.specs.Outcome.{accepted}
use Rattle.refusal.proofs.Laws.{raised}
use Rattle.marks.specs.Mark.{marked, mark}
use Rattle.catalogue.specs.Catalogue.{places, place_of}
use Rattle.front.specs.Parameter.{located}
use Rattle.front.proofs.Walk.{whole_step, cut_step}
use Rattle.value.specs.Value.{receive_value}
use Rattle.index.specs.Answer.{found_of}
use Rattle.index.specs.Index.{between, keep, index_from}
use Rattle.index.proofs.Turn.{value_lent, known, stop, cut_off, passed, faulty, taken}
use Rattle.index.proofs.Sound.{between_length}
use mathlib.Core.Bool.{true, false}
use Rattle.tally.specs.Tally.{restates}
use Rattle.tally.proofs.Along.{start, skip, restate, keep as keep_sums, kept_within, done}
use Rattle.index.proofs.Entries.scan.Goals.{In_ok-id, In_ok-x}
use Rattle.index.proofs.Entries.scan.Given.{Over}
use Rattle.index.proofs.Entries.scan.Goals as goal

pub loop-at-init : goal.loop-at-init
loop-at-init g c = rw c.into_iter-at-iterator.ensures.into_iter_gives (refl, refl, start c.args.src.now)

pub returns-in_err-id : goal.returns-in_err-id
returns-in_err-id g c =
    let l = c.loop-at in
    let k = cut_step l.at-iterator c.next.new.self _ _ l.invariant.0 _ _ c.in_err-id.was c.in-Some.ensures.steps in
    rw (raised _ _ c.from_residual.ensures.1) (record { found = sym (cut_off c.args.src.now (found_of l.self) l.at-iterator.at _ k.0 k.1) ∙ l.invariant.1; sums = tt })

-- the parameter that was read, and where it stands
step : (g : Over) (c : In_ok-id g) →
    let s = c.args.src.now in
    let at = c.loop-at.at-iterator.at in
    let p = c.in_ok-id.field-0 in
    let j = c.next.new.self in
    (at < length s) × (accepted p ≡ located s at) × (j.src.now ≡ s) × (j.at ≡ p.end) × (p.start ≤ p.end) × (p.end ≤ length s) × (c.in-Some.at ≡ at)
step g c = whole_step c.loop-at.at-iterator c.next.new.self _ _ c.loop-at.invariant.0 c.in_ok-id.field-0 _ c.in_ok-id.was c.in-Some.ensures.steps

pub slice_bounds-received-count : goal.slice_bounds-received-count
slice_bounds-received-count g c = let k = step g (goal.at.slice_bounds-received-count g c).In_ok-id in omega (arith, k.4, k.5)

pub slice_bounds-received-start : goal.slice_bounds-received-start
slice_bounds-received-start g c = let k = step g (goal.at.slice_bounds-received-start g c).In_ok-id in omega (arith, k.4, k.5)

pub returns-in_err-x : goal.returns-in_err-x
returns-in_err-x g c =
    let s = c.args.src.now in
    let l = c.loop-at in
    let p = c.place_of-place in
    let k = step g (goal.at.returns-in_err-x g c).In_ok-id in
    let r = value_lent s p.result _ _ _ _ _ (c.in_err-x.ensures) c.is_met-met.ensures in
    rw (raised _ _ c.from_residual-in_err-x.ensures.1)
    (record { found = sym (faulty s (found_of l.self) l.at-iterator.at _ k.0 k.1 p.result p.ensures (known p.result _ p.ensures c.if-place-ne-PLACES.true) _ r) ∙ l.invariant.1; sums = tt })

-- what was received
received_at : (g : Over) (c : In_ok-x g) → accepted c.in_ok-x.x ≡ receive_value (marked c.loop-at.self.marks c.place_of-place.result) c.place_of-place.result c.in_ok-id.field-0.start (between c.args.src.now c.in_ok-id.field-0.start c.in_ok-id.field-0.end)
received_at g c = value_lent c.args.src.now c.place_of-place.result _ _ _ _ _ (c.in_ok-x.ensures) c.is_met-met.ensures

received : (g : Over) (c : In_ok-x g) → accepted c.in_ok-x.x ≡ receive_value (marked c.loop-at.self.marks c.place_of-place.result) (place_of c.in_ok-id.field-0.id) c.in_ok-id.field-0.start (between c.args.src.now c.in_ok-id.field-0.start c.in_ok-id.field-0.end)
received g c =
    received_at g c
    ∙ ap (λ p. receive_value (marked c.loop-at.self.marks c.place_of-place.result) p c.in_ok-id.field-0.start (between c.args.src.now c.in_ok-id.field-0.start c.in_ok-id.field-0.end)) c.place_of-place.ensures

known_here : (g : Over) (c : In_ok-x g) → place_of c.in_ok-id.field-0.id < places
known_here g c = let p = c.place_of-place in rw (← p.ensures) (known p.result _ p.ensures c.if-place-ne-PLACES.true)

-- what is kept, and what the iterator is at
gone : (g : Over) (c : In_ok-x g) → c.loop-at.at-iterator.at < length c.args.src.now → accepted c.in_ok-id.field-0 ≡ located c.args.src.now c.loop-at.at-iterator.at →
    let p = c.in_ok-id.field-0 in
    let s = c.args.src.now in
    index_from s p.end (keep (found_of c.loop-at.self) c.place_of-place.result c.in_ok-x.x.kept (length (between s p.start p.end))) ≡ index_from s 0 (found_of c.args.self.now)
gone g c h q =
    let p = c.place_of-place in
    sym (taken c.args.src.now (found_of c.loop-at.self) c.loop-at.at-iterator.at _ h q p.result p.ensures (known p.result _ p.ensures c.if-place-ne-PLACES.true) c.in_ok-x.x (received_at g c)) ∙ c.loop-at.invariant.1

marked_more : (g : Over) (c : In_ok-x g) → c.with_mark-marks.result ≡ mark c.loop-at.self.marks c.place_of-place.result
marked_more g c = let p = c.place_of-place in c.with_mark-marks.ensures ∙ rw (lt-ltb p.result 32 (omega (arith, known p.result _ p.ensures c.if-place-ne-PLACES.true)))

pub loop-at-preserved-then-restates : goal.loop-at-preserved-then-restates
unfolding keep
loop-at-preserved-then-restates g c =
    let i = (goal.at.loop-at-preserved-then-restates g c).In_ok-x in
    let l = c.loop-at in
    let k = step g (goal.at.loop-at-preserved-then-restates g c).In_ok-id in
    let e : restates (place_of c.in_ok-id.field-0.id) c.in_ok-x.x.kept ≡ true = rw (← c.place_of-place.ensures) (sym c.restates.ensures ∙ c.if-restates.true) in (
      k.2,
      rw (k.3, marked_more g i, ← between_length c.args.src.now _ _ k.4 k.5) (gone g i k.0 k.1),
      rw k.3
          (restate c.args.src.now l.at-iterator.at _ k.0 k.1 l.sums l.invariant.2 _ c.in_ok-x.x (known_here g i) (received g i) e _ (omega (arith, k.6)) (omega (arith, k.6)) (omega (arith, k.6))),
    )

pub loop-at-preserved-else-restates : goal.loop-at-preserved-else-restates
unfolding keep
loop-at-preserved-else-restates g c =
    let i = (goal.at.loop-at-preserved-else-restates g c).In_ok-x in
    let l = c.loop-at in
    let k = step g (goal.at.loop-at-preserved-else-restates g c).In_ok-id in
    let e : restates (place_of c.in_ok-id.field-0.id) c.in_ok-x.x.kept ≡ false = rw (← c.place_of-place.ensures) (sym c.restates.ensures ∙ c.if-restates.false) in (
      k.2,
      rw (k.3, marked_more g i, ← between_length c.args.src.now _ _ k.4 k.5) (gone g i k.0 k.1),
      rw k.3
          (keep_sums c.args.src.now l.at-iterator.at _ k.0 k.1 l.sums l.invariant.2 _ c.in_ok-x.x (known_here g i) (received g i) e _ (omega (arith, k.6)) (omega (arith, k.6)) (omega (arith, k.6))),
    )

-- it saves no more than it has
pub overflow_add-sums-else-restates : goal.overflow_add-sums-else-restates
overflow_add-sums-else-restates g c =
    let i = (goal.at.overflow_add-sums-else-restates g c).In_ok-x in
    let k = step g (goal.at.overflow_add-sums-else-restates g c).In_ok-id in
    let w = kept_within c.args.src.now c.loop-at.at-iterator.at _ k.0 k.1 c.loop-at.sums c.loop-at.invariant.2 _ c.in_ok-x.x (known_here g i) (received g i) in
    omega (arith, w, k.5)

pub overflow_add-sums-else-restates-2 : goal.overflow_add-sums-else-restates-2
overflow_add-sums-else-restates-2 g c =
    let i = (goal.at.overflow_add-sums-else-restates-2 g c).In_ok-x in
    let k = step g (goal.at.overflow_add-sums-else-restates-2 g c).In_ok-id in
    let w = kept_within c.args.src.now c.loop-at.at-iterator.at _ k.0 k.1 c.loop-at.sums c.loop-at.invariant.2 _ c.in_ok-x.x (known_here g i) (received g i) in
    omega (arith, w, k.5)

pub loop-at-preserved : goal.loop-at-preserved
loop-at-preserved g c =
    let l = c.loop-at in
    let k = step g (goal.at.loop-at-preserved g c).In_ok-id in
    let n : places ≤ place_of c.in_ok-id.field-0.id = rw (← c.place_of-place.ensures) (omega (arith, c.if-place-ne-PLACES.false)) in (
      k.2,
      rw k.3 (sym (passed c.args.src.now (found_of l.self) l.at-iterator.at _ k.0 k.1 n) ∙ l.invariant.1),
      rw k.3
          (skip c.args.src.now l.at-iterator.at _ k.0 k.1 l.sums l.invariant.2 n _ (omega (arith, k.6)) (omega (arith, k.6)) (omega (arith, k.6))),
    )

pub returns : goal.returns
returns g c =
    let l = c.loop-at in
    let h = rw l.invariant.0 at c.in-None.ensures.steps.1.0 in
    record {
      found = sym (stop c.args.src.now (found_of l.self) l.at-iterator.at h) ∙ l.invariant.1;
      sums = done c.args.src.now l.at-iterator.at l.sums h l.invariant.2;
    }
