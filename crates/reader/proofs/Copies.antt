-- A second copy of a known parameter (RFC 9000 section 7.4), over byte strings, for any catalogue:
-- nothing here names a place. Assumes nothing.
--     met_by           a place that is met in the end was met by one of the parameters
--     behind           what is behind whole parameters is read after them
--     copied           behind what is received without a fault it is a second copy, whatever its
--                      value, and whatever follows
--     copy_refused     so behind what a side accepts it is refused with 12
--     never_twice      what a side accepts has none
use Prim.Native.Nat.{ℕ, zero, suc, ◌<◌}
use mathlib.Core.Path.{◌≡◌, refl, ap, sym, ◌∙◌}
use mathlib.Core.List.{List, [], ◌∷◌, ◌++◌, append_assoc}
use mathlib.Core.Option.{some}
use mathlib.Core.Bool.{Bool, true, false}
use native.Mathlib.Omega.{arith}
use lib.ListN.{length}
use lib.Dec.{eqb}
use borrow.Author.Tests.{eq-eqb, eqb-true}
use Rattle.refusal.specs.Outcome.{Result, accepted, refused, pick, and_then}
use Rattle.refusal.proofs.Laws.{inverted}
use Rattle.catalogue.specs.Catalogue.{places, place_of}
use Rattle.record.specs.declared.TransportParameters.{TransportParameters}
use Rattle.record.specs.Values.{Values, no_values, is_some, upd}
use Rattle.rules.specs.declared.Side.{Side}
use Rattle.front.specs.declared.Fault.{Fault}
use Rattle.front.specs.declared.Fault.TheVariants.{SecondCopy}
use Rattle.front.specs.Parameter.{read_parameter}
use Rattle.front.specs.Whole.{Whole, concat, Wholes, Composed, Repeated}
use Rattle.reader.specs.Reading.{step, parse_in, parse, read}
use Rattle.reader.proofs.Run.{parse_whole, step_copy, stepped}
use Rattle.reader.proofs.Laws.{steps, parse_concat, parse_append, composed, accepts}

-- A PLACE THAT WAS MET stays met
step_kept : (l k : Values) (id : ℕ) (v : List ℕ) (q : ℕ) → step l id v ≡ accepted k → is_some (l q) ≡ true → is_some (k q) ≡ true
unfolding upd
step_kept l k id v q e m = stepped l k id v e (λ h i. rw (← i) m) λ h n x y i. rw (← i) (go (eqb q (place_of id)))
  where
    go : (b : Bool) → is_some (pick b (some v) (l q)) ≡ true
    go true = refl
    go false = m

parse_kept : (f : ℕ) (l k : Values) (bs : List ℕ) (q : ℕ) → parse_in f l bs ≡ accepted k → is_some (l q) ≡ true → is_some (k q) ≡ true
parse_kept zero l k [] q e m = let i : l ≡ k = cc in rw (← i) m
parse_kept zero l k (b ∷ bs) q e m = cc
parse_kept (suc f) l k [] q e m = let i : l ≡ k = cc in rw (← i) m
parse_kept (suc f) l k (b ∷ bs) q e m =
    let ih = parse_kept f in
    inverted (read_parameter (b ∷ bs)) _ k e λ i ie ef.
    inverted (step l i.0 i.1) _ k ef λ j je jf.
    ih j k i.2 q jf (step_kept l j i.0 i.1 q je m)

-- and a known parameter that was accepted is met
step_met : (l k : Values) (id : ℕ) (v : List ℕ) → place_of id < places → step l id v ≡ accepted k → is_some (k (place_of id)) ≡ true
unfolding upd
step_met l k id v h e = stepped l k id v e (λ n i. absurd (omega arith)) λ j n x y i. rw (← i, eq-eqb (place_of id) (place_of id) refl)

-- A PLACE THAT IS MET in the end, and was not before
pub record MetBy (e : List ℕ) (p : ℕ) : Type 0 where
  pub a : List ℕ
  pub w : List ℕ
  pub b : List ℕ
  pub are : a ++ (w ++ b) ≡ e
  pub before : Composed a
  pub first : Whole w
  pub between : Composed b
  pub at : place_of first.id ≡ p

step_filled : (l k : Values) (id : ℕ) (v : List ℕ) (p : ℕ) → step l id v ≡ accepted k → is_some (l p) ≡ false → is_some (k p) ≡ true → place_of id ≡ p
unfolding upd
step_filled l k id v p e h m = stepped l k id v e (λ n i. let q = rw (← i) at m in cc) λ n x y z i. go (eqb p (place_of id)) refl (rw (← i) at m)
  where
    go : (b : Bool) → eqb p (place_of id) ≡ b → is_some (pick (eqb p (place_of id)) (some v) (l p)) ≡ true → place_of id ≡ p
    go true q m = sym (eqb-true p (place_of id) q)
    go false q m = let r = rw q at m in cc

met_in : (ws : List (List ℕ)) (h : Wholes ws) (l m : Values) (p : ℕ) → steps ws h l ≡ accepted m → is_some (l p) ≡ false → is_some (m p) ≡ true → MetBy (concat ws) p
met_in [] h l m p e n k = cc
met_in (w ∷ ws) h l m p e n k =
    let ih = met_in ws h.1 in
    inverted (step l h.0.id h.0.v) _ m e λ j je jf. go j je jf ih (is_some (j p)) refl
  where
    go : (j : Values) → step l h.0.id h.0.v ≡ accepted j → steps ws h.1 j ≡ accepted m
        → ((l m : Values) (p : ℕ) → steps ws h.1 l ≡ accepted m → is_some (l p) ≡ false → is_some (m p) ≡ true → MetBy (concat ws) p)
        → (b : Bool) → is_some (j p) ≡ b → MetBy (w ++ concat ws) p
    go j je jf ih true q =
        record {
          a = [];
          w = w;
          b = concat ws;
          are = refl;
          before = record { ws = []; is = refl; each = tt };
          first = h.0;
          between = record { ws = ws; is = refl; each = h.1 };
          at = step_filled l j h.0.id h.0.v p je n q;
        }
    go j je jf ih false q =
        let d = ih j m p jf q k in
        record {
          a = w ++ d.a;
          w = d.w;
          b = d.b;
          are = append_assoc w d.a (d.w ++ d.b) ∙ ap (λ x. w ++ x) d.are;
          before = record { ws = w ∷ d.before.ws; is = ap (λ x. w ++ x) d.before.is; each = (h.0, d.before.each) };
          first = d.first;
          between = d.between;
          at = d.at;
        }

pub met_by : (l m : Values) (e : List ℕ) (p : ℕ) → parse l e ≡ accepted m → is_some (l p) ≡ false → is_some (m p) ≡ true → MetBy e p
met_by l m e p r n k =
    let c = composed l m e r in
    rw (← c.is) (met_in c.ws c.each l m p (sym (parse_concat c.ws c.each l) ∙ ap (parse l) c.is ∙ r) n k)

-- whole parameters, and what is behind them
pub behind : (a cs : List ℕ) → Composed a → (l : Values) → parse l (a ++ cs) ≡ and_then (parse l a) (λ m. parse m cs)
behind a cs c l = rw (← c.is) (parse_append c.ws c.each l cs)

-- THE SECOND COPY, whatever follows
module _ (a w b u more : List ℕ) (c : Repeated a w b u) where
  copy_stops : (l : Values) → is_some (l (place_of c.first.id)) ≡ true → parse l (u ++ more) ≡ refused SecondCopy
  copy_stops l m =
      parse_whole l u more c.second.id c.second.v c.second.is ∙ rw (c.same, step_copy l c.first.id c.second.v c.known m)

  from_b : (k : Values) → is_some (k (place_of c.first.id)) ≡ true → parse k (b ++ (u ++ more)) ≡ and_then (parse k b) (λ l. refused SecondCopy)
  unfolding parse
  from_b k m = behind b (u ++ more) c.between k ∙ go (parse k b) refl
    where
      go : (o : Result Fault Values) → parse k b ≡ o → and_then o (λ l. parse l (u ++ more)) ≡ and_then o (λ l. refused SecondCopy)
      go (accepted l) e = copy_stops l (parse_kept (length b) k l b (place_of c.first.id) e m)
      go (refused x) e = refl

  from_w : (m : Values) → parse m (w ++ (b ++ (u ++ more))) ≡ and_then (parse m (w ++ b)) (λ l. refused SecondCopy)
  from_w m = rw (at (b ++ (u ++ more)), at b) (go (step m c.first.id c.first.v) refl)
    where
      at : (cs : List ℕ) → parse m (w ++ cs) ≡ and_then (step m c.first.id c.first.v) (λ k. parse k cs)
      at cs = parse_whole m w cs c.first.id c.first.v c.first.is

      go : (o : Result Fault Values) → step m c.first.id c.first.v ≡ o
          → and_then o (λ k. parse k (b ++ (u ++ more))) ≡ and_then (and_then o (λ k. parse k b)) (λ l. refused SecondCopy)
      go (accepted k) e = from_b k (step_met m k c.first.id c.first.v c.known e)
      go (refused x) e = refl

  -- either a fault before it, or it
  pub copied : parse no_values (a ++ (w ++ (b ++ (u ++ more)))) ≡ and_then (parse no_values (a ++ (w ++ b))) (λ l. refused SecondCopy)
  copied = rw (behind a (w ++ (b ++ (u ++ more))) c.before no_values, behind a (w ++ b) c.before no_values) (go (parse no_values a))
    where
      go : (o : Result Fault Values)
          → and_then o (λ m. parse m (w ++ (b ++ (u ++ more)))) ≡ and_then (and_then o (λ m. parse m (w ++ b))) (λ l. refused SecondCopy)
      go (accepted m) = from_w m
      go (refused x) = refl

  pub copy_refused : (s : Side) (r : TransportParameters) → read s (a ++ (w ++ b)) ≡ accepted r → read s (a ++ (w ++ (b ++ (u ++ more)))) ≡ refused 12
  unfolding read
  copy_refused s r k = rw (copied, (accepts s (a ++ (w ++ b)) r k).was)

  pub never_twice : (s : Side) (r : TransportParameters) → read s (a ++ (w ++ (b ++ (u ++ more)))) ≡ accepted r → ⊥
  never_twice s r k =
      let e = accepts s (a ++ (w ++ (b ++ (u ++ more)))) r k in
      inverted (parse no_values (a ++ (w ++ b))) (λ l. refused SecondCopy) e.values (sym copied ∙ e.was)
      λ l f g. cc
