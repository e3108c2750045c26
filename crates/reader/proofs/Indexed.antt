-- Reading, by what the index keeps: the record of what is kept is the record of the values, and the
-- value rules are the same. Assumes nothing.
--     read_indexed     reading gives the record of what is kept, or the number of the fault
use Prim.Native.Nat.{ℕ, suc, ◌+◌, ◌-◌, ◌≤◌, ◌<◌}
use mathlib.Core.Path.{◌≡◌, refl, ap, sym, ◌∙◌, subst}
use mathlib.Core.List.{List, [], ◌∷◌}
use mathlib.Core.Option.{Option, none, some}
use mathlib.Core.Bool.{Bool, true, false}
use native.Mathlib.Omega.{arith}
use lib.ListN.{length, get_or, take, drop}
use Rattle.refusal.specs.Outcome.{Result, accepted, refused, pick, and_then, all}
use Rattle.refusal.specs.Number.{number_of}
use Rattle.refusal.proofs.Laws.{inverted, picked}
use Rattle.words.specs.Words.{elements}
use Rattle.connection_id.specs.ConnectionId.{cid_of}
use Rattle.marks.specs.Mark.{marked}
use Rattle.catalogue.specs.Catalogue.{Kind, number, flag, cid, token, address, kinds, other_kinds, kind_at, defaults}
use Rattle.catalogue.proofs.Places.{number_kind}
use Rattle.std.specs.Prelude.{None, Some}
use Rattle.record.specs.declared.TransportParameters.{TransportParameters}
use Rattle.record.proofs.KindLaws.{Fits, IfSome}
use Rattle.record.specs.Values.{Bytes, Values, no_values, is_some, number_in, optional_in, cid_in, token_in, address_in, numbers_in, record_of}
use Rattle.record.specs.Record.{least}
use Rattle.rules.specs.declared.Side.{Side}
use Rattle.rules.specs.Rules.{value_rules}
use Rattle.front.specs.declared.Fault.{Fault}
use Rattle.front.specs.declared.Fault.TheVariants.{Illegal}
use Rattle.front.specs.Answer.{refused_with, numbered}
use Rattle.index.specs.Index.{Found, nothing, index_from, id_len, kept_rules, indexed, value_at, number_received, Sound}
use Rattle.index.proofs.Parts.{versions_no, address_place, id_there, id_none}
use Rattle.reader.specs.Reading.{parse, judge, read}
use Rattle.reader.specs.Kept.{record_kept, FitsIfAny}
use Rattle.reader.proofs.Built.{id_len_lem}
use Rattle.reader.proofs.Grow.{grown}
use Rattle.reader.proofs.Agree.{Agrees, Related, related}

-- kinds that are no numbers
pub no_number : (p : ℕ) (k : Kind) → kind_at p ≡ k → (k ≡ number → ⊥) → kind_at p ≡ number → ⊥
no_number p k e n q = n (sym e ∙ q)

pub flag_no : flag ≡ number → ⊥
flag_no e = cc

pub cid_no : cid ≡ number → ⊥
cid_no e = cc

pub token_no : token ≡ number → ⊥
token_no e = cc

pub address_no : address ≡ number → ⊥
address_no e = cc

-- the value at a place that holds no number fits
pub kept_fits : (k : Kind) (s : List ℕ) (f : Found) → Sound s f → (p : ℕ) → kind_at p ≡ k → (k ≡ number → ⊥) → FitsIfAny k (value_at s f p)
unfolding value_at
kept_fits k s f i p e n = go (marked f.0 p) refl
  where
    go : (b : Bool) → marked f.0 p ≡ b → FitsIfAny k (pick b (some (take (get_or f.2 p 0) (drop (get_or f.1 p 0) s))) none)
    go false m = tt
    go true m = rw e at (i.fit p (no_number p k e n) m)

-- OPTIONAL VALUES
optional_is : (o : Option (List ℕ)) (b : Bool) (x : ℕ) → is_some o ≡ b → x ≡ number_in 0 o → pick b (Some x) None ≡ optional_in o
unfolding number_in optional_in
optional_is none b x e f = rw (← e)
optional_is (some v) b x e f = rw (← e, f)

least_is : (o : Option (List ℕ)) (b : Bool) (x : ℕ) → is_some o ≡ b → x ≡ number_in 0 o → least (pick b (Some x) None) ≡ x
unfolding number_in
least_is none b x e f = rw (← e) (sym f)
least_is (some v) b x e f = rw (← e)

present_if : (b : Bool) (v : List ℕ) → ((cid_in (pick b (some v) none)).present ≡ b) × ((token_in (pick b (some v) none)).present ≡ b) × ((address_in (pick b (some v) none)).present ≡ b)
unfolding cid_in token_in address_in
present_if true v = (refl, refl, refl)
present_if false v = (refl, refl, refl)

numbers_from_lem : (ds kept : List ℕ) (l : Values) (k : ℕ) → ((p : ℕ) → k ≤ p → p < k + length ds → get_or kept p 0 ≡ number_in (get_or ds (p - k) 0) (l p))
    → elements (length ds) k kept ≡ numbers_in ds k l
unfolding elements
numbers_from_lem [] kept l k h = refl
numbers_from_lem (d ∷ ds) kept l k h =
    let ih = numbers_from_lem ds kept l (suc k) in
    let z : k - k ≡ 0 = omega arith in
    let a : get_or kept k 0 ≡ number_in d (l k) = h k (omega arith) (omega arith) ∙ rw z in
    rw (a, ih λ p x y. let e : p - k ≡ suc (p - suc k) = omega arith in h p (omega arith) (omega arith) ∙ rw e)

-- the length byte of an address's connection ID
id_is : (s : List ℕ) (f : Found) → Sound s f → id_len s f ≡ (address_in (value_at s f 15)).connection_id.len
id_is s f i = go (value_at s f 15) refl (kept_fits address s f i 15 address_place address_no)
  where
    go : (o : Option (List ℕ)) → value_at s f 15 ≡ o → FitsIfAny address o → id_len s f ≡ (address_in o).connection_id.len
    go none e t = sym (id_none s f i (sym e)) ∙ (unfold address_in cid_of in refl)
    go (some v) e t = sym (id_there s f i v (sym e)).1 ∙ sym (id_len_lem v t)

module _ (s : List ℕ) (f : Found) (l : Values) (i : Sound s f) (g : Agrees s f l) where
  optional_same : (p : ℕ) → kind_at p ≡ number → get_or defaults p 0 ≡ 0 → number_received f p ≡ optional_in (l p)
  optional_same p k d = optional_is (l p) (marked f.0 p) (get_or f.1 p 0) (g.met p) (g.number_at p k ∙ rw d)

  numbers_same : elements 11 0 f.1 ≡ numbers_in defaults 0 l
  numbers_same =
      let n : length defaults ≡ 11 = unfold defaults in refl in
      rw n at (numbers_from_lem defaults f.1 l 0 λ p x y. let e : p - 0 ≡ p = omega arith in g.number_at p (number_kind p (omega arith)) ∙ rw e)

  record_same : record_kept s f ≡ record_of l
  unfolding record_kept record_of kind_at kinds other_kinds
  record_same =
      rw (
        numbers_same,
        ← g.met 13,
        ← g.met 19,
        optional_same 14 refl (unfold defaults in refl),
        optional_same 20 refl (unfold defaults in refl),
        ← g.value_at 12 token_no,
        ← g.value_at 15 address_no,
        ← g.value_at 16 cid_no,
        ← g.value_at 17 cid_no,
        ← g.value_at 18 cid_no,
        ← g.value_at 21 versions_no,
      )

  rules_same : (side : Side) → kept_rules side s f ≡ value_rules side (record_kept s f)
  unfolding kept_rules value_rules record_kept value_at all
  rules_same side =
      let d : least (number_received f 20) ≡ get_or f.1 20 0
      = least_is (l 20) (marked f.0 20) (get_or f.1 20 0) (g.met 20) (g.number_at 20 (unfold kind_at kinds other_kinds in refl) ∙ (unfold defaults in refl)) in
      let v : ℕ → List ℕ = λ p. take (get_or f.2 p 0) (drop (get_or f.1 p 0) s) in
      rw (
        d,
        (present_if (marked f.0 16) (v 16)).0,
        (present_if (marked f.0 18) (v 18)).0,
        (present_if (marked f.0 12) (v 12)).1,
        (present_if (marked f.0 15) (v 15)).2,
        id_is s f i,
      )

-- READING
abbrev pub recorded : List ℕ → Result Fault Found → Result Fault TransportParameters
recorded s (accepted f) = accepted (record_kept s f)
recorded s (refused x) = refused x

pub read_indexed : (side : Side) (s : List ℕ) → read side s ≡ numbered (recorded s (indexed side s))
unfolding read indexed judge
read_indexed side s = go (index_from s 0 nothing) (parse no_values s) (related s)
  where
    one : (b : Bool) (r : TransportParameters) (f : Found) → record_kept s f ≡ r
        → numbered (pick b (accepted r) (refused Illegal)) ≡ numbered (recorded s (pick b (accepted f) (refused Illegal)))
    one true r f e = rw e
    one false r f e = refl

    go : (o : Result Fault Found) (q : Result Fault Values) → Related s o q
        → numbered (and_then q λ l. pick (value_rules side (record_of l)) (accepted (record_of l)) (refused Illegal))
        ≡ numbered (recorded s (and_then o λ f. pick (kept_rules side s f) (accepted f) (refused Illegal)))
    go (accepted f) (accepted l) r =
        let e = record_same s f l r.0 r.1 in
        rw (rules_same s f l r.0 r.1 side, ← e) (one (value_rules side (record_kept s f)) (record_kept s f) f refl)
    go (accepted f) (refused x) r = absurd r
    go (refused y) (accepted l) r = absurd r
    go (refused y) (refused x) r = rw r

pub read_stopped : (side : Side) (s : List ℕ) (x : Fault) → refused x ≡ indexed side s → refused (number_of (refused_with x)) ≡ read side s
read_stopped side s x h = rw (read_indexed side s, ← h)

-- what is kept stands in k, which is that extension
pub read_kept : (side : Side) (s k : List ℕ) (f : Found) (r : TransportParameters) → r ≡ record_kept k f → k ≡ s → accepted f ≡ indexed side s → accepted r ≡ read side s
read_kept side s k f r e l h = rw (e, l, read_indexed side s, ← h)

-- a part that was lent by its start and its length
pub lent : (a n : ℕ) (s : List ℕ) → take (a + n - a) (drop a s) ≡ take n (drop a s)
lent a n s = let e : a + n - a ≡ n = omega arith in rw e

-- each value that is kept is a good one
pub kept_good : (side : Side) (s : List ℕ) (f : Found) → Bytes s → indexed side s ≡ accepted f → (p : ℕ) → (kind_at p ≡ number → ⊥) → IfSome (Fits (kind_at p)) (value_at s f p)
unfolding indexed
kept_good side s f hb e p n =
    inverted (index_from s 0 nothing) _ f e λ g ge gf.
    picked (kept_rules side s g) g f Illegal gf λ t q.
    go (index_from s 0 nothing) (parse no_values s) (related s) (ge ∙ ap accepted q) refl
  where
    go : (o : Result Fault Found) (q : Result Fault Values) → Related s o q → o ≡ accepted f → parse no_values s ≡ q → IfSome (Fits (kind_at p)) (value_at s f p)
    go (accepted g) (accepted l) r h k =
        let z : g ≡ f = cc in
        let a : Agrees s f l = subst (λ (x : Found). Agrees s x l) z r.1 in
        subst (IfSome (Fits (kind_at p))) (a.value_at p n) ((grown l s hb k).0 p)
    go (accepted g) (refused x) r h k = absurd r
    go (refused y) (accepted l) r h k = absurd r
    go (refused y) (refused x) r h k = cc

pub read_recorded : (side : Side) (s : List ℕ) (f : Found) → indexed side s ≡ accepted f → read side s ≡ accepted (record_kept s f)
read_recorded side s f h = read_indexed side s ∙ rw h

pub read_faulty : (side : Side) (s : List ℕ) (x : Fault) → indexed side s ≡ refused x → read side s ≡ refused (number_of (refused_with x))
read_faulty side s x h = read_indexed side s ∙ rw h
