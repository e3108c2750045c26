-- What the layers above need of reading. Assumes nothing.
--     parse_concat        whole parameters are received one after another
--     then_assoc          three operations one after another
--     parse_append        bytes behind whole parameters are read after them
--     accepts             what an accepted extension shows
--     accepted_legal      the record is legal for the side that read it, and has neither order nor
--                         reserved parameter
--     same_record         the record does not depend on the side
--     composed            what is received to its end is made of whole parameters
--     whole               so is what a side accepts
--     alone               the parameter at the front, cut out
--     once                in one way only
--     unknown_skipped     unknown whole parameters anywhere leave the outcome as it was
use Prim.Native.Nat.{ℕ, zero, suc}
use mathlib.Core.Path.{◌≡◌, refl, ap, ap₂, sym, ◌∙◌, fun_ext}
use mathlib.Core.List.{List, [], ◌∷◌, ◌++◌, append_assoc}
use mathlib.Core.Bool.{true}
use lib.ListN.{length}
use Rattle.refusal.specs.Outcome.{Result, accepted, refused, and_then, all}
use Rattle.refusal.proofs.Laws.{inverted, picked}
use Rattle.record.specs.declared.TransportParameters.{TransportParameters}
use Rattle.rules.specs.declared.Side.{Side}
use Rattle.record.specs.Values.{Bytes, Values, no_values, record_of}
use Rattle.rules.specs.Rules.{value_rules, legal}
use Rattle.record.specs.Record.{well_formed, family_rules, bare}
use Rattle.record.proofs.Records.{formed, families}
use Rattle.front.specs.declared.Fault.{Fault}
use Rattle.front.specs.declared.Fault.TheVariants.{Illegal}
use Rattle.front.specs.Answer.{numbered}
use Rattle.front.specs.Parameter.{read_parameter}
use Rattle.reader.specs.Reading.{step, parse_in, parse, judge, read}
use Rattle.front.specs.Whole.{concat, Wholes, Composed, Stuffed}
use Rattle.front.proofs.Front.{front_append}
use Rattle.front.proofs.Split.{cut_out_lem, same_front, not_empty}
use Rattle.reader.proofs.Run.{parse_nil, parse_whole, skipped}
use Rattle.reader.proofs.Grow.{grown}

-- WHOLE PARAMETERS
abbrev pub steps : (ws : List (List ℕ)) → Wholes ws → Values → Result Fault Values
steps [] h l = accepted l
steps (w ∷ ws) h l = and_then (step l h.0.id h.0.v) (steps ws h.1)

pub parse_concat : (ws : List (List ℕ)) (h : Wholes ws) (l : Values) → parse l (concat ws) ≡ steps ws h l
parse_concat [] h l = parse_nil l
parse_concat (w ∷ ws) h l =
    parse_whole l w (concat ws) h.0.id h.0.v h.0.is
    ∙ ap (and_then (step l h.0.id h.0.v)) (fun_ext (parse_concat ws h.1))

pub then_assoc : {E A B C : Type 0} (o : Result E A) (f : A → Result E B) (g : B → Result E C)
    → and_then o (λ a. and_then (f a) g) ≡ and_then (and_then o f) g
then_assoc (accepted a) f g = refl
then_assoc (refused e) f g = refl

pub parse_append : (ws : List (List ℕ)) (h : Wholes ws) (l : Values) (cs : List ℕ)
    → parse l (concat ws ++ cs) ≡ and_then (parse l (concat ws)) (λ m. parse m cs)
parse_append [] h l cs = rw (parse_nil l)
parse_append (w ∷ ws) h l cs =
    ap (parse l) (append_assoc w (concat ws) cs)
    ∙ parse_whole l w (concat ws ++ cs) h.0.id h.0.v h.0.is
    ∙ ap (and_then (step l h.0.id h.0.v)) (fun_ext (λ m. parse_append ws h.1 m cs))
    ∙ then_assoc (step l h.0.id h.0.v) (λ m. parse m (concat ws)) (λ m. parse m cs)
    ∙ ap (λ o. and_then o (λ m. parse m cs)) (sym (parse_whole l w (concat ws) h.0.id h.0.v h.0.is))

-- ACCEPTED
pub record Accepted (s : Side) (bs : List ℕ) (r : TransportParameters) : Type 0 where
  pub values : Values
  pub was : parse no_values bs ≡ accepted values
  pub is : record_of values ≡ r
  pub ruled : value_rules s r ≡ true

numbered_accepted : {A : Type 0} (o : Result Fault A) (a : A) → numbered o ≡ accepted a → o ≡ accepted a
numbered_accepted (accepted b) a e = cc
numbered_accepted (refused f) a e = cc

pub accepts : (s : Side) (bs : List ℕ) (r : TransportParameters) → read s bs ≡ accepted r → Accepted s bs r
unfolding read judge
accepts s bs r e =
    inverted (parse no_values bs) (judge s) r (numbered_accepted _ r e) λ l le lf.
    picked (value_rules s (record_of l)) (record_of l) r Illegal lf λ t q. record { values = l; was = le; is = q; ruled = rw q at t }

read_bare : (l : Values) → bare (record_of l) ≡ record_of l
unfolding bare record_of
read_bare l = refl

pub accepted_legal : (s : Side) (bs : List ℕ) (r : TransportParameters) → Bytes bs → read s bs ≡ accepted r → (legal s r ≡ true) × (bare r ≡ r)
unfolding legal all
accepted_legal s bs r hb e =
    let a = accepts s bs r e in
    let g = (grown a.values bs hb a.was).0 in
    let b : bare r ≡ r = rw (← a.is) (read_bare a.values) in
    let w : well_formed r ≡ true = rw (← a.is) (formed a.values g) in
    let f : family_rules r.preferred_address ≡ true = rw (← a.is) (families a.values g) in
    (rw (w, f, a.ruled), b)

pub same_record : (s s' : Side) (bs : List ℕ) (r r' : TransportParameters) → read s bs ≡ accepted r → read s' bs ≡ accepted r' → r ≡ r'
same_record s s' bs r r' e e' =
    let a = accepts s bs r e in
    let a' = accepts s' bs r' e' in
    let q : a.values ≡ a'.values = cc (a.was, a'.was) in
    cc (a.is, a'.is, q)

-- WHOLE PARAMETERS of what is accepted
parsed_whole : (f : ℕ) (l m : Values) (bs : List ℕ) → parse_in f l bs ≡ accepted m → Composed bs
parsed_whole zero l m [] e = record { ws = []; is = refl; each = tt }
parsed_whole zero l m (b ∷ bs) e = cc
parsed_whole (suc f) l m [] e = record { ws = []; is = refl; each = tt }
parsed_whole (suc f) l m (b ∷ bs) e =
    let ih = parsed_whole f in
    inverted (read_parameter (b ∷ bs)) _ m e λ i ie ef.
    inverted (step l i.0 i.1) _ m ef λ k ke kf.
    let c = cut_out_lem (b ∷ bs) i ie in
    let d = ih k m i.2 kf in
    record { ws = c.w ∷ d.ws; is = ap (λ x. c.w ++ x) d.is ∙ c.are; each = (c.whole, d.each) }

pub composed : (l m : Values) (e : List ℕ) → parse l e ≡ accepted m → Composed e
unfolding parse
composed l m e k = parsed_whole (length e) l m e k

pub whole : (s : Side) (e : List ℕ) (r : TransportParameters) → read s e ≡ accepted r → Composed e
whole s e r k = let a = accepts s e r k in composed no_values a.values e a.was

-- the parameter at the front, cut out, is the same one
pub alone : (bs : List ℕ) (i : ℕ × List ℕ × List ℕ) (e : read_parameter bs ≡ accepted i) → read_parameter (cut_out_lem bs i e).w ≡ accepted (i.0, i.1, [])
alone bs i e =
    let c = cut_out_lem bs i e in
    let a : read_parameter bs ≡ accepted (c.whole.id, c.whole.v, i.2) = rw c.are at (front_append c.w i.2 (c.whole.id, c.whole.v, []) c.whole.is) in
    let q : ◌≡◌ {A = ℕ × List ℕ × List ℕ} (c.whole.id, c.whole.v, i.2) i = cc (a, e) in
    c.whole.is ∙ ap (λ (j : ℕ × List ℕ × List ℕ). accepted (j.0, j.1, [])) q

pub once : (ws us : List (List ℕ)) → Wholes ws → Wholes us → concat ws ≡ concat us → ws ≡ us
once [] [] h g e = refl
once [] ([] ∷ us) h g e = absurd (not_empty g.0)
once [] ((b ∷ u) ∷ us) h g e = cc
once ([] ∷ ws) [] h g e = absurd (not_empty h.0)
once ((b ∷ w) ∷ ws) [] h g e = cc
once (w ∷ ws) (u ∷ us) h g e =
    let ih = once ws us h.1 g.1 in
    same_front w u (concat ws) (concat us) h.0 g.0 e λ p q. ap₂ ◌∷◌ p (ih q)

-- UNKNOWN ONES put in
pub unknown_skipped : (s : Side) (e e' : List ℕ) → Stuffed e e' → read s e' ≡ read s e
unfolding read
unknown_skipped s e e' i = rw (← i.is, ← i.is', skipped i.put no_values)
