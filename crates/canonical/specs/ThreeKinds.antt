-- Malformed, in three kinds. Where quinn says Malformed, which would be 1, reading and tidying
-- refuse with 10 (the cut), 12 (a second copy) or 11 (a value that does not fit or fill its length,
-- or an ID of over 20 bytes), and nothing else differs. Where each is given. And what the kinds are
-- for: to tell a cut message from a wrong sender.
use Rattle.std.specs.Prelude.{ℕ, ◌<◌, ◌≡◌, List, ◌∷◌, ◌++◌, ◌↔◌, ◌⊎◌, Bool, true, false, ◌||◌, eqb}
use Rattle.refusal.specs.Outcome.{Result, Outcome, accepted, refused, pick, and_then}
use Rattle.record.specs.declared.TransportParameters.{TransportParameters}
use Rattle.catalogue.specs.Catalogue.{places, place_of, kind_at, fits, illegal}
use Rattle.record.specs.Values.{Values, no_values, is_some}
use Rattle.rules.specs.declared.Side.{Side}
use Rattle.front.specs.declared.Fault.{Fault}
use Rattle.front.specs.declared.Fault.TheVariants.{Cut, SecondCopy, Misfit, Illegal}
use Rattle.front.specs.Parameter.{read_parameter}
use Rattle.front.specs.Whole.{Composed, Repeated}
use Rattle.reader.specs.Reading.{parse, judge, read}
use Rattle.tidy.specs.Tidying.{tidy_from, tidy}

-- with the three kinds as one: the numbers, and reading and tidying with them
abbrev pub formerly : {A : Type 0} → Result Fault A → Outcome A
formerly (accepted a) = accepted a
formerly (refused Cut) = refused 1
formerly (refused SecondCopy) = refused 1
formerly (refused Misfit) = refused 1
formerly (refused Illegal) = refused 2

unfoldable pub former_read : Side → List ℕ → Outcome TransportParameters
former_read s e = formerly (and_then (parse no_values e) (judge s))

unfoldable pub former_tidy : Side → List ℕ → List ℕ → Outcome ℕ × List ℕ
former_tidy s e out = tidy_from (former_read s e) out

-- the same of an outcome: the three kinds are 1
abbrev pub is_kind : ℕ → Bool
is_kind n = eqb n 10 || (eqb n 12 || eqb n 11)

abbrev pub former : {A : Type 0} → Outcome A → Outcome A
former (accepted a) = accepted a
former (refused n) = refused (pick (is_kind n) 1 n)

-- where each is given: behind bytes in which nothing is at fault. What was received of them is l,
-- and the rest is still to come
pub record Reached (e rest : List ℕ) (l : Values) : Type 0 where
  pub before : List ℕ
  pub are : before ++ rest ≡ e
  pub received : parse no_values before ≡ accepted l

-- there are bytes to come, and no whole parameter at their front
pub record CutAt (e : List ℕ) : Type 0 where
  pub b : ℕ
  pub bs : List ℕ
  pub l : Values
  pub reached : Reached e (b ∷ bs) l
  pub none : (i : ℕ × List ℕ × List ℕ) → read_parameter (b ∷ bs) ≡ accepted i → ⊥

-- whole parameters a, w and b in which nothing is at fault, and behind them u, a second copy of w
pub record CopyAt (e : List ℕ) : Type 0 where
  pub a : List ℕ
  pub w : List ℕ
  pub b : List ℕ
  pub u : List ℕ
  pub more : List ℕ
  pub copy : Repeated a w b u
  pub l : Values
  pub reached : Reached e (u ++ more) l
  pub these : reached.before ≡ a ++ (w ++ b)

-- a known parameter of which there was none, whose value does not fit; nor is it an address with
-- neither family, which is 2
pub record MisfitAt (e : List ℕ) : Type 0 where
  pub rest : List ℕ
  pub l : Values
  pub id : ℕ
  pub v : List ℕ
  pub behind : List ℕ
  pub reached : Reached e rest l
  pub next : read_parameter rest ≡ accepted (id, v, behind)
  pub known : place_of id < places
  pub first : is_some (l (place_of id)) ≡ false
  pub legal : illegal (kind_at (place_of id)) v ≡ false
  pub misfit : fits (kind_at (place_of id)) v ≡ false

pub record ThreeKinds : Type 0 where
  -- taken so, reading and tidying give what they give with the kinds as one, for every input, and
  -- the buffer is the same
  pub reads : (s : Side) (e : List ℕ) → former (read s e) ≡ former_read s e
  pub tidies :
      (s : Side) (e out : List ℕ)
      → (former (tidy s e out).0, (tidy s e out).1) ≡ former_tidy s e out
  -- one of the three is given exactly where 1 would be
  pub exactly :
      (s : Side) (e : List ℕ)
      → ((n : ℕ) × ((read s e ≡ refused n) × (is_kind n ≡ true))) ↔ (former_read s e ≡ refused 1)
  -- and 1 is given nowhere
  pub not_one : (s : Side) (e : List ℕ) → read s e ≡ refused 1 → ⊥
  pub tidied_not_one : (s : Side) (e out o : List ℕ) → tidy s e out ≡ (refused 1, o) → ⊥
  -- each kind by itself, for either side: the cut; and, whatever follows, a second copy or a misfit
  pub cut : (s : Side) (e : List ℕ) → (read s e ≡ refused 10) ↔ CutAt e
  pub second_copy : (s : Side) (e : List ℕ) → (read s e ≡ refused 12) ↔ CopyAt e
  pub misfit : (s : Side) (e : List ℕ) → (read s e ≡ refused 11) ↔ MisfitAt e
  -- a wrong sender: 11 and 12 stay, whatever might have followed
  pub wrong_stays :
      (s : Side) (e more : List ℕ) (n : ℕ) → (n ≡ 11) ⊎ (n ≡ 12) → read s e ≡ refused n
      → read s (e ++ more) ≡ refused n
  -- a cut message: what a side would accept, cut off within a parameter, is 10;
  pub cut_within :
      (s : Side) (e more : List ℕ) (r : TransportParameters) → read s (e ++ more) ≡ accepted r
      → (Composed e → ⊥) → read s e ≡ refused 10
  -- cut off anywhere it is neither 11 nor 12: if it is refused, then with 10 or, where a value rule
  -- misses what was cut off, with 2;
  pub cut_anywhere :
      (s : Side) (e more : List ℕ) (r : TransportParameters) (n : ℕ)
      → read s (e ++ more) ≡ accepted r → read s e ≡ refused n → (n ≡ 10) ⊎ (n ≡ 2)
  -- and whole parameters are never a cut
  pub whole_uncut : (s : Side) (e : List ℕ) → Composed e → read s e ≡ refused 10 → ⊥
