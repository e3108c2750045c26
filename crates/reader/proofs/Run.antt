-- Laws of reading one parameter after another, for any catalogue: nothing here names a place.
-- Assumes nothing.
--     parse_nil        no bytes
--     parse_cut        bytes that start no whole parameter
--     parse_front      the parameter at the front, and then the rest
--     parse_whole      a whole parameter, whatever follows
--     step_unknown     an unknown parameter is skipped
--     step_copy        a second copy is refused, whatever its value
--     step_stored      a value that fits and is not illegal is stored at a place that is free
--     step_misfit      a value that neither fits nor is illegal is a misfit, at a place that is
--                      free
--     stepped          what a step that was accepted did
--     skipped          unknown whole parameters anywhere change nothing
--     upd_here, upd_there, upd_at    values with one place replaced: at that place, at another, as
--                                    a whole
use Prim.Native.Nat.{ℕ, zero, suc, ◌≤◌, ◌<◌}
use mathlib.Core.Path.{◌≡◌, refl, ap, sym, ◌∙◌, fun_ext}
use mathlib.Core.List.{List, [], ◌∷◌, ◌++◌}
use mathlib.Core.Option.{Option, some}
use mathlib.Core.Bool.{Bool, true, false}
use native.Mathlib.Omega.{arith}
use lib.ListN.{length}
use lib.Dec.{eqb, ltb}
use borrow.Author.Tests.{le-ltb, lt-ltb, ltb-true, ltb-false, eq-eqb, ne_eqb, eqb-true, eqb-false}
use Rattle.refusal.specs.Outcome.{Result, accepted, refused, pick, and_then}
use Rattle.catalogue.specs.Catalogue.{places, place_of, kind_at, fits, illegal}
use Rattle.record.specs.Values.{Values, is_some, upd}
use Rattle.front.specs.declared.Fault.{Fault}
use Rattle.front.specs.declared.Fault.TheVariants.{SecondCopy, Misfit, Illegal}
use Rattle.front.specs.Parameter.{read_parameter}
use Rattle.reader.specs.Reading.{receive, step, parse_in, parse}
use Rattle.front.specs.Whole.{Inserted, done, same, unknown, concat}
use Rattle.front.proofs.Front.{shorter, front_append}

fuel : (f g : ℕ) (l : Values) (bs : List ℕ) → length bs ≤ f → length bs ≤ g → parse_in f l bs ≡ parse_in g l bs
fuel zero zero l bs hf hg = refl
fuel zero (suc g) l [] hf hg = refl
fuel zero (suc g) l (b ∷ bs) hf hg = absurd (omega arith)
fuel (suc f) zero l [] hf hg = refl
fuel (suc f) zero l (b ∷ bs) hf hg = absurd (omega arith)
fuel (suc f) (suc g) l [] hf hg = refl
fuel (suc f) (suc g) l (b ∷ bs) hf hg = go (read_parameter (b ∷ bs)) refl (fuel f g)
  where
    go : (o : Result Fault (ℕ × List ℕ × List ℕ)) → read_parameter (b ∷ bs) ≡ o → ((l : Values) (bs : List ℕ) → length bs ≤ f → length bs ≤ g → parse_in f l bs ≡ parse_in g l bs)
        → and_then o (λ i. and_then (step l i.0 i.1) λ l'. parse_in f l' i.2) ≡ and_then o (λ i. and_then (step l i.0 i.1) λ l'. parse_in g l' i.2)
    go (refused e) p h = refl
    go (accepted i) p h = let s = shorter (b ∷ bs) i p in ap (and_then (step l i.0 i.1)) (fun_ext λ l'. h l' i.2 (omega arith) (omega arith))

pub parse_nil : (l : Values) → parse l [] ≡ accepted l
unfolding parse
parse_nil l = refl

pub parse_cut : (l : Values) (bs : List ℕ) (x : Fault) → 0 < length bs → read_parameter bs ≡ refused x → parse l bs ≡ refused x
unfolding parse
parse_cut l [] x h e = absurd (omega arith)
parse_cut l (b ∷ bs) x h e = rw e

-- the parameter at the front, and then the rest
pub parse_front : (l : Values) (bs : List ℕ) (i : ℕ × List ℕ × List ℕ) → read_parameter bs ≡ accepted i
    → parse l bs ≡ and_then (step l i.0 i.1) (λ l'. parse l' i.2)
unfolding parse
parse_front l [] i e = let s = shorter [] i e in absurd (omega arith)
parse_front l (b ∷ bs) i e =
    let s = shorter (b ∷ bs) i e in
    rw e (ap (and_then (step l i.0 i.1)) (fun_ext λ l'. fuel (length bs) (length i.2) l' i.2 (omega arith) (omega arith)))

-- a whole parameter, whatever follows
pub parse_whole : (l : Values) (w cs : List ℕ) (id : ℕ) (v : List ℕ) → read_parameter w ≡ accepted (id, v, []) → parse l (w ++ cs) ≡ and_then (step l id v) (λ l'. parse l' cs)
parse_whole l w cs id v e = parse_front l (w ++ cs) (id, v, cs) (front_append w cs (id, v, []) e)

pub step_unknown : (l : Values) (id : ℕ) (v : List ℕ) → places ≤ place_of id → step l id v ≡ accepted l
unfolding step
step_unknown l id v h = rw (le-ltb (place_of id) places h)

pub step_copy : (l : Values) (id : ℕ) (v : List ℕ) → place_of id < places → is_some (l (place_of id)) ≡ true → step l id v ≡ refused SecondCopy
unfolding step receive
step_copy l id v h m = rw (lt-ltb (place_of id) places h, m)

pub step_stored : (l : Values) (id : ℕ) (v : List ℕ) → place_of id < places → is_some (l (place_of id)) ≡ false → illegal (kind_at (place_of id)) v ≡ false
    → fits (kind_at (place_of id)) v ≡ true → step l id v ≡ accepted (upd l (place_of id) (some v))
unfolding step receive
step_stored l id v h m x y = rw (lt-ltb (place_of id) places h, m, x, y)

pub step_misfit : (l : Values) (id : ℕ) (v : List ℕ) → place_of id < places → is_some (l (place_of id)) ≡ false → illegal (kind_at (place_of id)) v ≡ false
    → fits (kind_at (place_of id)) v ≡ false → step l id v ≡ refused Misfit
unfolding step receive
step_misfit l id v h m x y = rw (lt-ltb (place_of id) places h, m, x, y)

-- an unknown parameter, or a value that fits, at a place that was free
pub stepped : {P : Type 0} (l k : Values) (id : ℕ) (v : List ℕ) → step l id v ≡ accepted k → (places ≤ place_of id → l ≡ k → P)
    → (place_of id < places → is_some (l (place_of id)) ≡ false → illegal (kind_at (place_of id)) v ≡ false → fits (kind_at (place_of id)) v ≡ true
    → upd l (place_of id) (some v) ≡ k → P) → P
unfolding step receive
stepped {P} l k id v e skip keep = go (ltb (place_of id) places) refl e
  where
    at : (a b c : Bool) → place_of id < places → is_some (l (place_of id)) ≡ a → illegal (kind_at (place_of id)) v ≡ b → fits (kind_at (place_of id)) v ≡ c
        → pick {A = Result Fault Values} a (refused SecondCopy) (pick b (refused Illegal) (pick c (accepted (upd l (place_of id) (some v))) (refused Misfit))) ≡ accepted k → P
    at false false true h x y z e = keep h x y z (cc)
    at false false false h x y z e = cc
    at false true c h x y z e = cc
    at true b c h x y z e = cc

    go : (b : Bool) → ltb (place_of id) places ≡ b → pick {A = Result Fault Values} b (receive l (place_of id) v) (accepted l) ≡ accepted k → P
    go true h e = at (is_some (l (place_of id))) (illegal (kind_at (place_of id)) v) (fits (kind_at (place_of id)) v) (ltb-true _ _ h) refl refl refl e
    go false h e = skip (ltb-false _ _ h) (cc)

-- unknown ones anywhere change nothing
pub skipped : {ws ws' : List (List ℕ)} → Inserted ws ws' → (l : Values) → parse l (concat ws') ≡ parse l (concat ws)
skipped done l = refl
skipped (same {w} {ws} {ws'} h i) l =
    let ih = skipped i in
    rw (parse_whole l w (concat ws) h.id h.v h.is, parse_whole l w (concat ws') h.id h.v h.is)
    (ap (and_then (step l h.id h.v)) (fun_ext ih))
skipped (unknown {w} {ws} {ws'} h k i) l =
    let ih = skipped i in
    rw (parse_whole l w (concat ws') h.id h.v h.is, step_unknown l h.id h.v k) (ih l)

-- one place replaced
pub upd_here : (l : Values) (p : ℕ) (x : Option (List ℕ)) → upd l p x p ≡ x
unfolding upd
upd_here l p x = rw (eq-eqb p p refl)

pub upd_there : (l : Values) (p q : ℕ) (x : Option (List ℕ)) → (q ≡ p → ⊥) → upd l p x q ≡ l q
unfolding upd
upd_there l p q x n = rw (ne_eqb q p n)

pub upd_at : (l m : Values) (p : ℕ) (x : Option (List ℕ)) → m p ≡ x → ((q : ℕ) → (q ≡ p → ⊥) → m q ≡ l q) → upd l p x ≡ m
unfolding upd
upd_at l m p x e f = fun_ext λ q. go q (eqb q p) refl
  where
    go : (q : ℕ) (b : Bool) → eqb q p ≡ b → pick b x (l q) ≡ m q
    go q true h = sym e ∙ ap m (sym (eqb-true q p h))
    go q false h = sym (f q (eqb-false q p h))
