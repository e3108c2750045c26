-- What a scan of an extension adds up, as far as it has come. Assumes nothing.
--     start, done             at the front nothing, and at the end all
--     skip, restate, keep     over a parameter that is unknown, that restates a default, or that is
--                             sent again, whatever sums have become what they must
use Prim.Native.Nat.{ℕ, ◌+◌, ◌-◌, ◌≤◌, ◌<◌}
use mathlib.Core.Path.{◌≡◌, refl, ap, sym, ◌∙◌, subst}
use mathlib.Core.List.{List, []}
use mathlib.Core.Bool.{Bool, true, false, ◌&&◌}
use native.Mathlib.Omega.{arith}
use lib.ListN.{length, take, drop, get_or, drop_of_length-le, length-drop}
use lib.Seq.{length-take-le}
use lib.Dec.{ltb, eqb}
use borrow.Author.Tests.{lt-ltb, le-ltb, ltb-true}
use Rattle.refusal.specs.Outcome.{Outcome, accepted, refused, pick}
use Rattle.varint.specs.Number.{read_number}
use Rattle.varint.specs.declared.Decoded.{Decoded}
use Rattle.varint.proofs.Laws.{read_within}
use Rattle.catalogue.specs.Catalogue.{Kind, number, flag, cid, token, address, versions, reserved, places, place_of, kind_at, defaults}
use Rattle.catalogue.proofs.Places.{number_kind}
use Rattle.record.specs.Values.{value}
use Rattle.front.specs.declared.Parameter.{Parameter}
use Rattle.front.specs.Parameter.{saved, located}
use Rattle.front.specs.Whole.{parameters}
use Rattle.front.proofs.Parts.{parameters_none}
use Rattle.front.proofs.Position.{within}
use Rattle.value.specs.declared.Held.{Held}
use Rattle.value.specs.Value.{holds, held_of, receive_value}
use Rattle.value.proofs.Checks.{taken, kept_number}
use Rattle.tally.specs.declared.Counts.{Counts}
use Rattle.tally.specs.declared.Sums.{Sums}
use Rattle.tally.specs.Tally.{restates, skipped, restated, kept, fate_of, saved_value, count_as, count_of, counts, dropped}
use Rattle.tally.proofs.Turn.{Own, own, turn}

-- so far t, and what is from a position on, make all; and they are no more than the bytes that they
-- are counted in
pub record Along (s : List ℕ) (at : ℕ) (t : Sums) : Type 0 where
  pub skipped : t.skipped + (counts (parameters (drop at s))).skipped ≡ (counts (parameters s)).skipped
  pub restated : t.restated + (counts (parameters (drop at s))).restated ≡ (counts (parameters s)).restated
  pub saved : t.saved + (counts (parameters (drop at s))).saved ≡ (counts (parameters s)).saved
  pub within : t.skipped + t.restated + t.saved ≤ at

pub start : (s : List ℕ) → Along s 0 (record { skipped = 0; restated = 0; saved = 0 })
start s = record { skipped = omega arith; restated = omega arith; saved = omega arith; within = omega arith }

same_sums : (a b : Sums) → a.skipped ≡ b.skipped → a.restated ≡ b.restated → a.saved ≡ b.saved → a ≡ b
same_sums a b p q r = rw (p, q, r) refl

pub done : (s : List ℕ) (at : ℕ) (t : Sums) → length s ≤ at → Along s at t → t ≡ dropped (counts (parameters s))
unfolding counts
done s at t h a =
    let e : parameters (drop at s) ≡ [] = rw (drop_of_length-le s h) parameters_none in
    same_sums t (dropped (counts (parameters s))) (omega (arith, rw e at a.skipped)) (omega (arith, rw e at a.restated)) (omega (arith, rw e at a.saved))

-- WHAT WAS KEPT OF A VALUE
saved_number : (o : Outcome Decoded) → (holds o).saved ≡ saved o
saved_number (accepted a) = refl
saved_number (refused e) = refl

saved_held : (k : Kind) (a : ℕ) (v : List ℕ) (x : Held) → x ≡ held_of k a v → x.saved ≡ saved_value k v
unfolding held_of saved_value
saved_held number a v x e = ap (λ (h : Held). h.saved) e ∙ saved_number (read_number v)
saved_held flag a v x e = ap (λ (h : Held). h.saved) e
saved_held cid a v x e = ap (λ (h : Held). h.saved) e
saved_held token a v x e = ap (λ (h : Held). h.saved) e
saved_held address a v x e = ap (λ (h : Held). h.saved) e
saved_held versions a v x e = ap (λ (h : Held). h.saved) e
saved_held reserved a v x e = ap (λ (h : Held). h.saved) e

-- is the default as what the definition looks at is: no other kind has one
same_default : (p a : ℕ) (v : List ℕ) (x : Held) → x ≡ held_of (kind_at p) a v → restates p x.kept ≡ restates p (value (read_number v))
unfolding restates held_of defaults
same_default p a v x e = go (ltb p 11) refl
  where
    go : (b : Bool) → ltb p 11 ≡ b → (ltb p 11 && eqb x.kept (get_or defaults p 0)) ≡ (ltb p 11 && eqb (value (read_number v)) (get_or defaults p 0))
    go true f =
        let k : x ≡ holds (read_number v) = rw (number_kind p (ltb-true p 11 f)) at e in
        ap (λ y. ltb p 11 && eqb y (get_or defaults p 0)) (ap (λ (h : Held). h.kept) k ∙ kept_number (read_number v))
    go false f = rw f refl

-- a number saves no more than it has
saved_within : (k : Kind) (v : List ℕ) → saved_value k v ≤ length v
unfolding saved_value
saved_within number v = go (read_number v) refl
  where
    go : (o : Outcome Decoded) → read_number v ≡ o → saved o ≤ length v
    go (accepted a) e = omega (arith, read_within v a e)
    go (refused n) e = omega arith
saved_within flag v = omega arith
saved_within cid v = omega arith
saved_within token v = omega arith
saved_within address v = omega arith
saved_within versions v = omega arith
saved_within reserved v = omega arith

module _ (s : List ℕ) (at : ℕ) (p : Parameter) (h : at < length s) (q : accepted p ≡ located s at) (t : Sums) (a : Along s at t) where
  abbrev w : List ℕ
  w = take (p.end - at) (drop at s)

  abbrev v : List ℕ
  v = take (p.end - p.start) (drop p.start s)

  le : at ≤ length s
  le = omega arith

  o : Own w p.id v p.saved
  o = own s at p le q

  long : length w ≡ p.end - at
  long = let i = within s at p le q in length-take-le (p.end - at) (drop at s) (rw length-drop (omega (arith, i.end)))

  adds : count_of w ≡ count_as (fate_of p.id v) p.id v w
  unfolding count_of
  adds = rw (o.is) refl

  -- what the parameter adds, c, and what t becomes with it
  stepped : (c : Counts) (u : Sums) → count_of w ≡ c → u.skipped ≡ t.skipped + c.skipped → u.restated ≡ t.restated + c.restated → u.saved ≡ t.saved + c.saved
      → c.skipped + c.restated + c.saved ≤ p.end - at → Along s p.end u
  unfolding counts
  stepped c u e x y z m =
      let i = within s at p le q in
      let j = turn s at p le q in
      record {
        skipped = omega (arith, ap (λ (k : Counts). k.skipped) e, rw j at a.skipped);
        restated = omega (arith, ap (λ (k : Counts). k.restated) e, rw j at a.restated);
        saved = omega (arith, ap (λ (k : Counts). k.saved) e, rw j at a.saved);
        within = omega (arith, a.within, i.behind, i.start);
      }

  pub skip : places ≤ place_of p.id → (u : Sums) → u.skipped ≡ t.skipped + (p.end - at) → u.restated ≡ t.restated → u.saved ≡ t.saved → Along s p.end u
  skip k u x y z =
      let f : fate_of p.id v ≡ skipped = unfold fate_of in rw (le-ltb (place_of p.id) places k) refl in
      stepped _ u (subst (λ k. count_of w ≡ count_as k p.id v w) f adds) (omega (arith, long, x)) (omega (arith, y)) (omega (arith, z)) (omega (arith, long))

  -- a known one, of which x is kept
  module _ (m : Bool) (x : Held) (k : place_of p.id < places) (r : accepted x ≡ receive_value m (place_of p.id) p.start v) where
    held : x ≡ held_of (kind_at (place_of p.id)) p.start v
    held = (taken m (place_of p.id) p.start v x r).is

    fate : (b : Bool) → restates (place_of p.id) x.kept ≡ b → fate_of p.id v ≡ pick b restated kept
    unfolding fate_of
    fate b e = rw (lt-ltb (place_of p.id) places k, ← e) (ap (λ b. pick b restated kept) (sym (same_default (place_of p.id) p.start v x held)))

    pub restate : restates (place_of p.id) x.kept ≡ true → (u : Sums) → u.skipped ≡ t.skipped → u.restated ≡ t.restated + (p.end - at) → u.saved ≡ t.saved → Along s p.end u
    restate e u a b d =
        stepped _ u (subst (λ k. count_of w ≡ count_as k p.id v w) (fate true e) adds) (omega (arith, a)) (omega (arith, long, b)) (omega (arith, d)) (omega (arith, long))

    -- it saves no more than it has
    saved_all : p.saved + x.saved ≤ p.end - at
    saved_all =
        let i = within s at p le q in
        let n : x.saved ≡ saved_value (kind_at (place_of p.id)) v = saved_held (kind_at (place_of p.id)) p.start v x held in
        let l : length v ≡ p.end - p.start = length-take-le (p.end - p.start) (drop p.start s) (rw length-drop (omega (arith, i.end))) in
        omega (arith, n, saved_within (kind_at (place_of p.id)) v, l, i.saved, i.start, i.behind)

    pub kept_within : t.saved + (p.saved + x.saved) ≤ p.end
    kept_within =
        let i = within s at p le q in
        omega (arith, a.within, saved_all, i.behind, i.start)

    pub keep : restates (place_of p.id) x.kept ≡ false → (u : Sums) → u.skipped ≡ t.skipped → u.restated ≡ t.restated → u.saved ≡ t.saved + (p.saved + x.saved) → Along s p.end u
    keep e u a b d =
        let n : x.saved ≡ saved_value (kind_at (place_of p.id)) v = saved_held (kind_at (place_of p.id)) p.start v x held in
        stepped _ u (subst (λ k. count_of w ≡ count_as k p.id v w) (fate false e) adds) (omega (arith, a)) (omega (arith, b)) (omega (arith, o.head, n, d)) (omega (arith, o.head, n, saved_all))
