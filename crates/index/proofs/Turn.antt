-- Laws of one turn of the scan. Assumes nothing.
--     value_lent    the value of a parameter, lent with what is behind it
--     known         a place that is not the number of places is one of them
--     stop, cut_off, passed, faulty, taken     the end; a broken parameter; an unknown one; a value
--       refused; a value received
use Prim.Native.Nat.{ℕ, zero, suc, ◌-◌, ◌≤◌, ◌<◌}
use mathlib.Core.Path.{◌≡◌, refl, ap, sym, ◌∙◌, fun_ext}
use mathlib.Core.List.{List}
use mathlib.Core.Bool.{Bool, true, false}
use native.Mathlib.Omega.{arith}
use lib.ListN.{length, take}
use lib.Dec.{ltb}
use borrow.Author.Tests.{lt-ltb, le-ltb, ltb-true}
use Rattle.refusal.specs.Outcome.{Result, accepted, refused, pick, and_then}
use Rattle.marks.specs.Mark.{marked}
use Rattle.catalogue.specs.Catalogue.{places, place_of}
use Rattle.catalogue.proofs.Places.{place_within}
use Rattle.front.specs.declared.Fault.{Fault}
use Rattle.front.specs.Parameter.{located}
use Rattle.std.proofs.lemmas.List.{take_rest}
use Rattle.front.proofs.Position.{lent, within}
use Rattle.front.specs.declared.Parameter.{Parameter}
use Rattle.value.specs.declared.Held.{Held}
use Rattle.value.specs.Value.{receive_value}
use Rattle.index.specs.Index.{Found, keep, note, between, index_in, index_from}

-- more than enough is enough
fuel : (n m : ℕ) (s : List ℕ) (at : ℕ) (f : Found) → length s - at ≤ n → length s - at ≤ m → index_in n s at f ≡ index_in m s at f
fuel zero zero s at f hn hm = refl
fuel zero (suc m) s at f hn hm = rw (le-ltb at (length s) (omega arith))
fuel (suc n) zero s at f hn hm = rw (le-ltb at (length s) (omega arith))
fuel (suc n) (suc m) s at f hn hm = go (ltb at (length s)) refl (fuel n m)
  where
    go : (b : Bool) → ltb at (length s) ≡ b → ((s : List ℕ) (at : ℕ) (f : Found) → length s - at ≤ n → length s - at ≤ m → index_in n s at f ≡ index_in m s at f)
        → pick b (and_then (located s at) λ i. and_then (note f i.id i.start (between s i.start i.end)) λ g. index_in n s i.end g) (accepted f)
        ≡ pick b (and_then (located s at) λ i. and_then (note f i.id i.start (between s i.start i.end)) λ g. index_in m s i.end g) (accepted f)
    go false e ih = refl
    go true e ih = one (located s at) refl
      where
        one : (o : Result Fault Parameter) → located s at ≡ o
            → and_then o (λ i. and_then (note f i.id i.start (between s i.start i.end)) λ g. index_in n s i.end g)
            ≡ and_then o (λ i. and_then (note f i.id i.start (between s i.start i.end)) λ g. index_in m s i.end g)
        one (refused x) q = refl
        one (accepted i) q =
            let h = ltb-true at (length s) e in
            let w = within s at i (omega arith) (sym q) in
            ap (and_then (note f i.id i.start (between s i.start i.end))) (fun_ext λ g. ih s i.end g (omega (arith, w.behind, w.start)) (omega (arith, w.behind, w.start)))

-- a value at the front of what is lent
pub value_lent : (s : List ℕ) (p a e : ℕ) (b t : Bool) (o : Result Fault Held) → o ≡ receive_value b p a (take (e - a) (lent s a)) → b ≡ t → o ≡ receive_value t p a (between s a e)
value_lent s p a e b t o h q = h ∙ rw (take_rest s a, q)

pub known : (p id : ℕ) → p ≡ place_of id → (p ≡ places → ⊥) → p < places
known p id e n = omega (arith, place_within id)

module _ (s : List ℕ) (f : Found) (at : ℕ) where
  pub stop : length s ≤ at → index_from s at f ≡ accepted f
  unfolding index_from
  stop h = let e : length s - at ≡ 0 = omega arith in rw e

  opened : (k : ℕ) → length s - at ≡ suc k → index_from s at f ≡ and_then (located s at) (λ i. and_then (note f i.id i.start (between s i.start i.end)) λ g. index_in k s i.end g)
  unfolding index_from
  opened k e = rw (e, lt-ltb at (length s) (omega arith))

  pub cut_off : (x : Fault) → at < length s → refused x ≡ located s at → index_from s at f ≡ refused x
  cut_off x h e = opened (length s - at - 1) (omega arith) ∙ rw (← e)

  module _ (i : Parameter) (h : at < length s) (q : accepted i ≡ located s at) where
    pub turn : index_from s at f ≡ and_then (note f i.id i.start (between s i.start i.end)) (λ g. index_from s i.end g)
    unfolding index_from
    turn =
        let w = within s at i (omega arith) q in
        opened (length s - at - 1) (omega arith)
        ∙ rw (← q) (ap (and_then (note f i.id i.start (between s i.start i.end))) (fun_ext λ g. fuel (length s - at - 1) (length s - i.end) s i.end g (omega (arith, w.behind, w.start)) (omega arith)))

    pub passed : places ≤ place_of i.id → index_from s at f ≡ index_from s i.end f
    passed k = turn ∙ (unfold note in rw (le-ltb (place_of i.id) places k))

    module _ (p : ℕ) (j : p ≡ place_of i.id) (k : p < places) where
      received : (o : Result Fault Held) → o ≡ receive_value (marked f.0 p) p i.start (between s i.start i.end)
          → index_from s at f ≡ and_then (and_then o λ x. accepted (keep f p x.kept (length (between s i.start i.end)))) (λ g. index_from s i.end g)
      received o r = turn ∙ (unfold note in rw (← j, lt-ltb p places k, ← r))

      pub faulty : (x : Fault) → refused x ≡ receive_value (marked f.0 p) p i.start (between s i.start i.end) → index_from s at f ≡ refused x
      faulty x r = received (refused x) r

      pub taken : (x : Held) → accepted x ≡ receive_value (marked f.0 p) p i.start (between s i.start i.end)
          → index_from s at f ≡ index_from s i.end (keep f p x.kept (length (between s i.start i.end)))
      taken x r = received (accepted x) r
