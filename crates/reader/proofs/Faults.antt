-- Which of the faults it is and where it is found, for any catalogue: nothing here names a place.
-- Assumes nothing.
--     number         the number of a fault
--     refuses        a number that reading gives is 2, or that of a fault in a parameter
--     faulty         a fault in a parameter is what reading gives
--     declines       what a step that was refused found
--     stops          where a fault is found: behind what is received without one
--     stops_at       one that is no cut is found in the parameter there
--     cut_there      behind what is received, bytes that start no whole parameter are a cut
--     found_there    and the fault of the parameter there is found, whatever follows
--     fault_stays    a fault that is no cut stays, whatever follows
--     front_cut      in the front part of what a side accepts no other fault than a cut is found
--     uncut          whole parameters are not cut
use Prim.Native.Nat.{ℕ, zero, suc, ◌≤◌, ◌<◌}
use mathlib.Core.Path.{◌≡◌, refl, ap, sym, ◌∙◌}
use mathlib.Core.List.{List, [], ◌∷◌, ◌++◌, append_assoc}
use mathlib.Core.Option.{some}
use mathlib.Core.Bool.{Bool, true, false}
use native.Mathlib.Omega.{arith}
use lib.ListN.{length}
use lib.Dec.{ltb}
use borrow.Author.Tests.{ltb-true}
use Rattle.refusal.specs.Outcome.{Result, accepted, refused, pick, and_then}
use Rattle.refusal.specs.Number.{number_of}
use Rattle.refusal.proofs.Laws.{declined}
use Rattle.catalogue.specs.Catalogue.{places, place_of, kind_at, fits, illegal}
use Rattle.record.specs.declared.TransportParameters.{TransportParameters}
use Rattle.record.specs.Values.{Values, no_values, is_some, upd, record_of}
use Rattle.rules.specs.declared.Side.{Side}
use Rattle.rules.specs.Rules.{value_rules}
use Rattle.front.specs.declared.Fault.{Fault}
use Rattle.front.specs.declared.Fault.TheVariants.{Cut, SecondCopy, Misfit, Illegal}
use Rattle.front.specs.Answer.{refused_with, numbered}
use Rattle.front.specs.Parameter.{read_parameter}
use Rattle.front.specs.Whole.{Wholes, Composed}
use Rattle.front.proofs.Front.{front_append, shorter, only_cut}
use Rattle.front.proofs.Split.{cut_out_lem}
use Rattle.reader.specs.Reading.{receive, step, parse_in, parse, judge, read}
use Rattle.reader.proofs.Run.{parse_nil, parse_cut, parse_front, parse_whole}
use Rattle.reader.proofs.Laws.{steps, parse_concat, composed, alone, accepts}
use Rattle.reader.proofs.Copies.{behind}

-- NUMBERS
abbrev pub number : Fault → ℕ
number x = number_of (refused_with x)

by_rule : (n : ℕ) (t : Bool) (r : TransportParameters) → numbered (pick {A = Result Fault TransportParameters} t (accepted r) (refused Illegal)) ≡ refused n → n ≡ 2
by_rule n true r q = cc
by_rule n false r q = cc

pub refuses : {P : Type 0} (s : Side) (e : List ℕ) (n : ℕ) → read s e ≡ refused n → (n ≡ 2 → P)
    → ((x : Fault) → parse no_values e ≡ refused x → number x ≡ n → P) → P
unfolding read judge
refuses {P} s e n k rule fault = go (parse no_values e) refl k
  where
    go : (o : Result Fault Values) → parse no_values e ≡ o → numbered (and_then o (judge s)) ≡ refused n → P
    go (accepted l) p q = rule (by_rule n (value_rules s (record_of l)) (record_of l) q)
    go (refused x) p q = fault x p (cc)

pub faulty : (s : Side) (e : List ℕ) (x : Fault) → parse no_values e ≡ refused x → read s e ≡ refused (number x)
unfolding read
faulty s e x p = rw p

-- ONE PARAMETER that is refused
pub declines : {P : Type 0} (l : Values) (id : ℕ) (v : List ℕ) (x : Fault) → step l id v ≡ refused x
    → (place_of id < places → is_some (l (place_of id)) ≡ true → x ≡ SecondCopy → P) → (x ≡ Illegal → P)
    → (place_of id < places → is_some (l (place_of id)) ≡ false → illegal (kind_at (place_of id)) v ≡ false → fits (kind_at (place_of id)) v ≡ false
    → x ≡ Misfit → P) → P
unfolding step receive
declines {P} l id v x e copy rule misfit = go (ltb (place_of id) places) refl e
  where
    at : (a b c : Bool) → place_of id < places → is_some (l (place_of id)) ≡ a → illegal (kind_at (place_of id)) v ≡ b → fits (kind_at (place_of id)) v ≡ c
        → pick {A = Result Fault Values} a (refused SecondCopy) (pick b (refused Illegal) (pick c (accepted (upd l (place_of id) (some v))) (refused Misfit))) ≡ refused x → P
    at true b c h m y z e = copy h m (cc)
    at false true c h m y z e = rule (cc)
    at false false true h m y z e = cc
    at false false false h m y z e = misfit h m y z (cc)

    go : (b : Bool) → ltb (place_of id) places ≡ b → pick {A = Result Fault Values} b (receive l (place_of id) v) (accepted l) ≡ refused x → P
    go true h e = at (is_some (l (place_of id))) (illegal (kind_at (place_of id)) v) (fits (kind_at (place_of id)) v) (ltb-true _ _ h) refl refl refl e
    go false h e = cc

-- WHERE
-- what is received without a fault, and what is behind it
resumed : (l m : Values) (before rest : List ℕ) → parse l before ≡ accepted m → parse l (before ++ rest) ≡ parse m rest
resumed l m before rest r = behind before rest (composed l m before r) l ∙ rw r

stops_in : {P : Type 0} (f : ℕ) (l : Values) (bs : List ℕ) (x : Fault) → length bs ≤ f → parse_in f l bs ≡ refused x
    → ((before : List ℕ) (b : ℕ) (rest : List ℕ) (m : Values) → before ++ (b ∷ rest) ≡ bs → parse l before ≡ accepted m → read_parameter (b ∷ rest) ≡ refused x → P)
    → ((before rest : List ℕ) (m : Values) (i : ℕ × List ℕ × List ℕ) → before ++ rest ≡ bs → parse l before ≡ accepted m → read_parameter rest ≡ accepted i
    → step m i.0 i.1 ≡ refused x → P) → P
stops_in zero l [] x h e none at = cc
stops_in zero l (b ∷ bs) x h e none at = absurd (omega arith)
stops_in (suc f) l [] x h e none at = cc
stops_in {P} (suc f) l (b ∷ bs) x h e none at =
    let ih = stops_in {P = P} f in
    declined (read_parameter (b ∷ bs)) _ x e (λ r. none [] b bs l refl (parse_nil l) r) λ i ie ef.
    declined (step l i.0 i.1) _ x ef (λ r. at [] (b ∷ bs) l i refl (parse_nil l) ie r) λ k ke kf.
    let c = cut_out_lem (b ∷ bs) i ie in
    let s = shorter (b ∷ bs) i ie in
    let first = λ (before : List ℕ) (m : Values) (r : parse k before ≡ accepted m). parse_whole l c.w before i.0 i.1 (alone (b ∷ bs) i ie) ∙ rw (ke, r) in
    ih k i.2 x (omega arith) kf
    (λ before d rest m t r z. none (c.w ++ before) d rest m (append_assoc c.w before (d ∷ rest) ∙ ap (λ y. c.w ++ y) t ∙ c.are) (first before m r) z)
    (λ before rest m j t r z y. at (c.w ++ before) rest m j (append_assoc c.w before rest ∙ ap (λ y. c.w ++ y) t ∙ c.are) (first before m r) z y)

pub stops : {P : Type 0} (l : Values) (bs : List ℕ) (x : Fault) → parse l bs ≡ refused x
    → ((before : List ℕ) (b : ℕ) (rest : List ℕ) (m : Values) → before ++ (b ∷ rest) ≡ bs → parse l before ≡ accepted m → read_parameter (b ∷ rest) ≡ refused x → P)
    → ((before rest : List ℕ) (m : Values) (i : ℕ × List ℕ × List ℕ) → before ++ rest ≡ bs → parse l before ≡ accepted m → read_parameter rest ≡ accepted i
    → step m i.0 i.1 ≡ refused x → P) → P
unfolding parse
stops l bs x e none at = stops_in (length bs) l bs x (omega arith) e none at

pub stops_at : {P : Type 0} (l : Values) (bs : List ℕ) (x : Fault) → (Cut ≡ x → ⊥) → parse l bs ≡ refused x
    → ((before rest : List ℕ) (m : Values) (i : ℕ × List ℕ × List ℕ) → before ++ rest ≡ bs → parse l before ≡ accepted m → read_parameter rest ≡ accepted i
    → step m i.0 i.1 ≡ refused x → P) → P
stops_at l bs x n e at = stops l bs x e (λ before b rest m a r z. absurd (n (only_cut (b ∷ rest) x z))) at

pub cut_there : (l m : Values) (before : List ℕ) (b : ℕ) (rest : List ℕ) → parse l before ≡ accepted m → read_parameter (b ∷ rest) ≡ refused Cut
    → parse l (before ++ (b ∷ rest)) ≡ refused Cut
cut_there l m before b rest r z = resumed l m before (b ∷ rest) r ∙ parse_cut m (b ∷ rest) Cut (omega arith) z

pub found_there : (l m : Values) (before rest more : List ℕ) (i : ℕ × List ℕ × List ℕ) (x : Fault) → parse l before ≡ accepted m → read_parameter rest ≡ accepted i
    → step m i.0 i.1 ≡ refused x → parse l (before ++ (rest ++ more)) ≡ refused x
found_there l m before rest more i x r z y =
    resumed l m before (rest ++ more) r
    ∙ parse_front m (rest ++ more) (i.0, i.1, i.2 ++ more) (front_append rest more i z)
    ∙ rw y

-- WHAT FOLLOWS
pub fault_stays : (l : Values) (bs more : List ℕ) (x : Fault) → (Cut ≡ x → ⊥) → parse l bs ≡ refused x → parse l (bs ++ more) ≡ refused x
fault_stays l bs more x n e =
    stops_at l bs x n e λ before rest m i a r z y.
    rw (← a, append_assoc before rest more) (found_there l m before rest more i x r z y)

-- what a side accepts, cut off
module _ (s : Side) (e more : List ℕ) (r : TransportParameters) (k : read s (e ++ more) ≡ accepted r) where
  no_other : {P : Type 0} (x : Fault) → (Cut ≡ x → ⊥) → parse no_values e ≡ refused x → P
  no_other x n p =
      let a = (accepts s (e ++ more) r k).was in
      let b = fault_stays no_values e more x n p in
      cc

  pub front_cut : (x : Fault) → parse no_values e ≡ refused x → Cut ≡ x
  front_cut Cut p = refl
  front_cut SecondCopy p = no_other SecondCopy (λ i. cc) p
  front_cut Misfit p = no_other Misfit (λ i. cc) p
  front_cut Illegal p = no_other Illegal (λ i. cc) p

-- WHOLE PARAMETERS
steps_uncut : (ws : List (List ℕ)) (h : Wholes ws) (l : Values) → steps ws h l ≡ refused Cut → ⊥
steps_uncut [] h l e = cc
steps_uncut (w ∷ ws) h l e =
    let ih = steps_uncut ws h.1 in
    declined (step l h.0.id h.0.v) _ Cut e (λ d. declines l h.0.id h.0.v Cut d (λ k m i. cc) (λ i. cc) (λ k m y z i. cc)) λ m me mf. ih m mf

pub uncut : (e : List ℕ) → Composed e → (l : Values) → parse l e ≡ refused Cut → ⊥
uncut e c l p = steps_uncut c.ws c.each l (sym (parse_concat c.ws c.each l) ∙ rw c.is p)
