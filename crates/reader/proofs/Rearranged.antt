-- Whole parameters in another order, for any catalogue: nothing here names a place. Assumes
-- nothing.
--     rearranged      what a side accepts it accepts in every order of its whole parameters, with
--                     the same record
--     refused_too     and whole parameters that it refuses it refuses in every order
use Prim.Native.Nat.{ℕ}
use mathlib.Core.Path.{◌≡◌, refl, ap, sym, ◌∙◌, fun_ext}
use mathlib.Core.List
use mathlib.Core.List.Permᴰ
use mathlib.Core.List.{List, ◌++◌, Perm, Permᴰ}
use mathlib.Core.Option
use mathlib.Core.Option.{Option, some}
use mathlib.Core.Bool.{true, false}
use mathlib.Core.Logic.{∥∥₁_elim, ∥∥₁_map}
use mathlib.Core.HLevel.{Π_set, ⊥_prop}
use native.Mathlib.Nat.{ℕ_set}
use borrow.Author.Tests.{ne_eqb}
use Rattle.refusal.specs.Outcome.{Result, accepted, refused, Outcome, and_then}
use Rattle.refusal.proofs.Laws.{inverted}
use Rattle.catalogue.specs.Catalogue.{place_of}
use Rattle.record.specs.declared.TransportParameters.{TransportParameters}
use Rattle.record.specs.Values.{Values, no_values, is_some, upd}
use Rattle.rules.specs.declared.Side.{Side}
use Rattle.front.specs.declared.Fault.{Fault}
use Rattle.front.specs.Answer.{numbered}
use Rattle.front.specs.Whole.{Whole, concat, Wholes, Rearranged}
use Rattle.front.proofs.Rearranged.{still_whole}
use Rattle.reader.specs.Reading.{step, parse, judge, read}
use Rattle.reader.proofs.Run.{parse_whole, step_unknown, step_stored, stepped, upd_here, upd_there, upd_at}
use Rattle.reader.proofs.Laws.{then_assoc, accepts}

-- TWO STEPS
upd_comm : (l : Values) (p q : ℕ) (x y : Option (List ℕ)) → (q ≡ p → ⊥) → upd (upd l p x) q y ≡ upd (upd l q y) p x
unfolding upd
upd_comm l p q x y n = upd_at (upd l p x) (upd (upd l q y) p x) q y (upd_there (upd l q y) p q x n ∙ upd_here l q y) λ k d. rw (ne_eqb k q d)

-- a place that is free differs from one that was just filled
apart : (l : Values) (p q : ℕ) (v : List ℕ) → is_some (upd l p (some v) q) ≡ false → q ≡ p → ⊥
apart l p q v n s = let z : is_some (upd l p (some v) q) ≡ true = rw (s, upd_here l p (some v)) in cc

-- two parameters that were accepted may change places
exchanged : (l m : Values) (i j : ℕ) (v w : List ℕ) → and_then (step l i v) (λ k. step k j w) ≡ accepted m → and_then (step l j w) (λ k. step k i v) ≡ accepted m
exchanged l m i j v w e =
    inverted (step l i v) _ m e λ k ke kf.
    stepped l k i v ke (λ h q. let r : step l j w ≡ accepted m = rw q kf in rw (r, step_unknown m i v h)) λ h n x f q.
    stepped k m j w kf (λ h' q'. rw (step_unknown l j w h', ke, q')) λ h' n' x' f' q'.
    let d : place_of j ≡ place_of i → ⊥ = apart l (place_of i) (place_of j) v (rw (← q) at n') in
    let a : is_some (l (place_of j)) ≡ false = ap is_some (sym (upd_there l (place_of i) (place_of j) (some v) d)) ∙ ap (λ u. is_some (u (place_of j))) q ∙ n' in
    let b : is_some (upd l (place_of j) (some w) (place_of i)) ≡ false = ap is_some (upd_there l (place_of j) (place_of i) (some w) (λ s. d (sym s))) ∙ n in
    rw (step_stored l j w h' a x' f', step_stored (upd l (place_of j) (some w)) i v h b x f)
    (ap accepted (sym (upd_comm l (place_of i) (place_of j) (some v) (some w) d) ∙ ap (λ u. upd u (place_of j) (some w)) q ∙ q'))

-- WHOLE PARAMETERS
two : (l : Values) (w u cs : List ℕ) (h : Whole w) (g : Whole u)
    → parse l (w ++ (u ++ cs)) ≡ and_then (and_then (step l h.id h.v) (λ k. step k g.id g.v)) (λ k. parse k cs)
two l w u cs h g =
    parse_whole l w (u ++ cs) h.id h.v h.is
    ∙ ap (and_then (step l h.id h.v)) (fun_ext λ k. parse_whole k u cs g.id g.v g.is)
    ∙ then_assoc (step l h.id h.v) (λ k. step k g.id g.v) (λ k. parse k cs)

parsed : {ws us : List (List ℕ)} → Permᴰ ws us → Wholes ws → (l m : Values) → parse l (concat ws) ≡ accepted m → parse l (concat us) ≡ accepted m
parsed Permᴰ.nil h l m e = e
parsed (Permᴰ.cons {a} {b} {l₁} {l₂} p d) h l m e =
    let ih = parsed d h.1 in
    rw (← p)
    (inverted (step l h.0.id h.0.v) _ m (sym (parse_whole l a (concat l₁) h.0.id h.0.v h.0.is) ∙ e) λ k ke kf.
    parse_whole l a (concat l₂) h.0.id h.0.v h.0.is ∙ rw ke (ih k m kf))
parsed (Permᴰ.swap {a} {b} {a'} {b'} {l = t} p q) h l m e =
    let x = h.0 in
    let y = h.1.0 in
    rw (← q, ← p)
    (inverted (and_then (step l x.id x.v) (λ k. step k y.id y.v)) _ m (sym (two l a b (concat t) x y) ∙ e) λ k ke kf.
    two l b a (concat t) y x ∙ rw (exchanged l k x.id y.id x.v y.v ke) kf)
parsed (Permᴰ.trans d t) h l m e = parsed t (still_whole d h) l m (parsed d h l m e)

Values-set : IsSet Values
Values-set = Π_set λ p. Option.is_set (List.is_set ℕ_set)

-- `Perm` says that there is a way from one order to the other, not which: the outcome is the same
-- by every one
any_order : {ws us : List (List ℕ)} → Perm ws us → Wholes ws → (l m : Values) → parse l (concat ws) ≡ accepted m → parse l (concat us) ≡ accepted m
any_order {ws} {us} d h l m e = go (parse l (concat us)) (∥∥₁_map d (λ d. parsed d h l m e))
  where
    go : (o : Result Fault Values) → ∥ o ≡ accepted m ∥₁ → o ≡ accepted m
    go (accepted k) t = ap accepted (∥∥₁_elim t (Values-set k m) λ e. cc)
    go (refused f) t = absurd (∥∥₁_elim t ⊥_prop λ e. cc)

-- EXTENSIONS
pub rearranged : (s : Side) (e e' : List ℕ) (r : TransportParameters) → Rearranged e e' → read s e ≡ accepted r → read s e' ≡ accepted r
unfolding read
rearranged s e e' r i k =
    let a = accepts s e r k in
    let p : parse no_values e' ≡ accepted a.values = rw i.is' at (any_order i.moved i.composed.each no_values a.values (rw i.composed.is a.was)) in
    ap (λ o. numbered (and_then o (judge s))) (p ∙ sym a.was) ∙ k

pub refused_too : (s : Side) (e e' : List ℕ) (n : ℕ) → Rearranged e e' → read s e ≡ refused n → (n' : ℕ) × (read s e' ≡ refused n')
refused_too s e e' n i k = go (read s e') refl
  where
    back : Permᴰ i.composed.ws i.ws' → Rearranged e' e
    back d =
        record {
          composed = record { ws = i.ws'; is = i.is'; each = still_whole d i.composed.each };
          ws' = i.composed.ws;
          is' = i.composed.is;
          moved = ∣ Permᴰ.symm d ∣₁;
        }

    go : (o : Outcome TransportParameters) → read s e' ≡ o → (n' : ℕ) × (read s e' ≡ refused n')
    go (refused n') q = (n', q)
    go (accepted r) q =
        absurd (∥∥₁_elim i.moved ⊥_prop λ d.
        let x : read s e ≡ accepted r = rearranged s e' e r (back d) q in
        cc)
