-- The laws of each kind of value but the address. Assumes nothing.
--     -back       what is sent is read back
--     -sent       what is sent is read without fault, and no longer than the kind's longest
--     -formed     what is read is well formed
--     -short      what is read is no longer when it is sent again
use Prim.Native.Nat.{ℕ, suc, ◌^◌, ◌≤◌, ◌<◌}
use mathlib.Core.Path.{◌≡◌, refl, ap, sym, ◌∙◌}
use mathlib.Core.List.{List, [], ◌∷◌, append-nil}
use mathlib.Core.Option.{Option, none, some}
use mathlib.Core.Bool.{Bool, true, false, ◌||◌}
use native.Mathlib.Omega.{arith}
use native.Mathlib.Nat.{le_of_eq}
use lib.ListN.{length, replicate, length-append}
use lib.Pow.{pow_mono}
use lib.Dec.{eqb}
use borrow.Author.Tests.{le-leb, leb-true, lt-ltb, ltb-true, eq-eqb, eqb-true}
use Rattle.refusal.specs.Outcome.{Outcome, accepted, refused, pick, all}
use Rattle.refusal.proofs.Laws.{all_at}
use Rattle.varint.specs.Number.{read_number, with_saved, number_bytes, tag_of}
use Rattle.varint.specs.declared.Decoded.{Decoded}
use Rattle.varint.proofs.Laws.{read_number_bytes, read_bounds}
use Rattle.varint.proofs.Bytes.{length_form, tag_le, tag_least, tag_cases, width_range}
use Rattle.connection_id.specs.declared.ConnectionId.{ConnectionId}
use Rattle.words.specs.Words.{zeros}
use Rattle.connection_id.specs.ConnectionId.{cid_of, cid_bytes, formed_cid}
use Rattle.connection_id.proofs.Laws.{Cid, cid_facts, cid_length_lem, cid_of_lem, cid_none, cid_read_lem, cid_same}
use Rattle.words.proofs.Laws.{zeros_are}
use Rattle.version_information.specs.declared.VersionInformation.{VersionInformation}
use Rattle.version_information.specs.VersionInformation.{no_versions, formed_versions, versions_bytes, versions_with}
use Rattle.version_information.proofs.Laws.{formed_facts, bytes_back, versions_same, read_formed, versions_long, versions_fit, absent_zero}
use Rattle.record.specs.Optional.{OptionalNumber}
use Rattle.std.specs.Prelude.{None, Some}
use Rattle.record.specs.Optional.{OptionalConnectionId}
use Rattle.record.specs.Optional.{OptionalResetToken}
use Rattle.catalogue.specs.Catalogue.{Kind, number, flag, cid, token, versions, fits, fills, illegal, parameter, parameter_if, widest}
use Rattle.record.specs.Values.{Bytes, is_some, value, number_in, number_out, optional_in, optional_out, flag_out, cid_in, cid_out, token_of, token_in, token_out, versions_in, versions_out}
use Rattle.record.specs.Record.{formed_optional, formed_optional_cid, formed_token, formed_optional_token}

-- a value of kind k that is read without fault
pub record Fits (k : Kind) (v : List ℕ) : Type 0 where
  pub legal : illegal k v ≡ false
  pub fit : fits k v ≡ true
  pub bytes : Bytes v

abbrev pub IfSome : (List ℕ → Type 0) → Option (List ℕ) → Type 0
IfSome P none = Unit {0}
IfSome P (some v) = P v

-- a value that is sent: it is read without fault, where F holds
pub record Sound (F : Type 0) (k : Kind) (v : List ℕ) : Type 0 where
  pub legal : F → illegal k v ≡ false
  pub fit : fits k v ≡ true
  pub small : length v ≤ widest k

-- o', read and sent again as o, is no longer
abbrev pub Shorter : Option (List ℕ) → Option (List ℕ) → Type 0
Shorter o o' = (id : ℕ) → length (parameter_if id o) ≤ length (parameter_if id o')

-- numbers
pub tag_mono : (a b : ℕ) → a ≤ b → tag_of a ≤ tag_of b
tag_mono a b h =
    tag_cases b (λ k. tag_of a ≤ k)
    (λ x. tag_least a 0 (omega arith) (omega arith))
    (λ x y. tag_least a 1 (omega arith) (omega arith))
    (λ x y. tag_least a 2 (omega arith) (omega arith))
    (λ _. tag_le a)

pub number_mono : (a b : ℕ) → a ≤ b → length (number_bytes a) ≤ length (number_bytes b)
number_mono a b h = rw (length_form (tag_of a) a (tag_le a), length_form (tag_of b) b (tag_le b)) (pow_mono (tag_mono a b h))

pub parameter_mono : (id : ℕ) (v w : List ℕ) → length v ≤ length w → length (parameter id v) ≤ length (parameter id w)
unfolding parameter
parameter_mono id v w h = simp length-append (omega (arith, number_mono (length v) (length w) h))

number_read_lem : (x : ℕ) → x < 2 ^ 62 → read_number (number_bytes x) ≡ accepted (with_saved x (length (number_bytes x)))
number_read_lem x h = rw append-nil at (read_number_bytes x [] h)

number_sound : {F : Type 0} (x : ℕ) → x < 2 ^ 62 → Sound F number (number_bytes x)
unfolding fits illegal widest
number_sound x h =
    record {
      legal = λ _. refl;
      fit = rw (number_read_lem x h) (eq-eqb (length (number_bytes x)) (length (number_bytes x)) refl);
      small = rw (length_form (tag_of x) x (tag_le x)) (omega (arith, width_range (tag_of x) (tag_le x)));
    }

-- a number that fits is below 2 ^ 62 and its bytes no fewer than the shortest
filled : (v : List ℕ) (o : Outcome Decoded) → read_number v ≡ o → Bytes v → fills (length v) o ≡ true
    → (value o < 2 ^ 62) × (length (number_bytes (value o)) ≤ length v)
filled v (accepted a) e hb f =
    let b = read_bounds v a hb e in
    let q : a.count ≡ length v = eqb-true a.count (length v) f in
    (b.0, omega arith)
filled v (refused n) e hb f = cc

number_fits : (v : List ℕ) → Fits number v
    → (value (read_number v) < 2 ^ 62) × (length (number_bytes (value (read_number v))) ≤ length v)
unfolding fits
number_fits v f = filled v (read_number v) refl f.bytes f.fit

pub number_back : (d x : ℕ) → x < 2 ^ 62 → number_in d (number_out d x) ≡ x
unfolding number_in number_out
number_back d x h = go (eqb x d) refl
  where
    go : (b : Bool) → eqb x d ≡ b → number_in d (pick b none (some (number_bytes x))) ≡ x
    go true e = sym (eqb-true x d e)
    go false e = rw (number_read_lem x h)

pub number_sent : (F : Type 0) (d x : ℕ) → x < 2 ^ 62 → IfSome (Sound F number) (number_out d x)
unfolding number_out
number_sent F d x h = go (eqb x d)
  where
    go : (b : Bool) → IfSome (Sound F number) (pick b none (some (number_bytes x)))
    go true = tt
    go false = number_sound x h

pub number_formed : (d : ℕ) (o : Option (List ℕ)) → d < 2 ^ 62 → IfSome (Fits number) o → number_in d o < 2 ^ 62
unfolding number_in
number_formed d none h f = h
number_formed d (some v) h f = (number_fits v f).0

pub number_short : (d : ℕ) (o : Option (List ℕ)) → IfSome (Fits number) o → Shorter (number_out d (number_in d o)) o
unfolding number_out number_in
number_short d none f id = rw (eq-eqb d d refl) (omega arith)
number_short d (some v) f id = go (eqb (value (read_number v)) d)
  where
    go : (b : Bool) → length (parameter_if id (pick b none (some (number_bytes (value (read_number v)))))) ≤ length (parameter id v)
    go true = omega arith
    go false = parameter_mono id _ v (number_fits v f).1

-- optional numbers
pub optional_back : (o : OptionalNumber) → formed_optional o ≡ true → optional_in (optional_out o) ≡ o
unfolding optional_in optional_out formed_optional
optional_back None h = refl
optional_back (Some x) h = rw (number_read_lem x (ltb-true _ _ h))

pub optional_sent : (F : Type 0) (o : OptionalNumber) → formed_optional o ≡ true → IfSome (Sound F number) (optional_out o)
unfolding optional_out formed_optional
optional_sent F None h = tt
optional_sent F (Some x) h = number_sound x (ltb-true _ _ h)

pub optional_formed : (o : Option (List ℕ)) → IfSome (Fits number) o → formed_optional (optional_in o) ≡ true
unfolding optional_in formed_optional
optional_formed none f = refl
optional_formed (some v) f = lt-ltb _ _ (number_fits v f).0

pub optional_short : (o : Option (List ℕ)) → IfSome (Fits number) o → Shorter (optional_out (optional_in o)) o
unfolding optional_in optional_out
optional_short none f id = omega arith
optional_short (some v) f id = parameter_mono id _ v (number_fits v f).1

-- flags
pub flag_back : (b : Bool) → is_some (flag_out b) ≡ b
unfolding flag_out
flag_back true = refl
flag_back false = refl

pub flag_sent : (F : Type 0) (b : Bool) → IfSome (Sound F flag) (flag_out b)
unfolding flag_out fits illegal widest
flag_sent F true = record { legal = λ _. refl; fit = refl; small = omega arith }
flag_sent F false = tt

pub flag_short : (o : Option (List ℕ)) → IfSome (Fits flag) o → Shorter (flag_out (is_some o)) o
unfolding flag_out fits
flag_short none f id = omega arith
flag_short (some []) f id = omega arith
flag_short (some (b ∷ v)) f id = let z : suc (length v) ≡ 0 = eqb-true (suc (length v)) 0 f.fit in absurd (omega arith)

-- connection IDs
pub cid_back : (o : OptionalConnectionId) → formed_optional_cid o ≡ true → cid_in (cid_out o) ≡ o
unfolding cid_in cid_out formed_optional_cid
cid_back o h = go o.present o.value (all_at _ h 0) (all_at _ h 1)
  where
    go : (b : Bool) (c : ConnectionId) → formed_cid c ≡ true → (b || eqb c.len 0) ≡ true → cid_in (pick b (some (cid_bytes c)) none) ≡ record { present = b; value = c }
    go true c k n = rw (cid_of_lem c k)
    go false c k n = rw (cid_none c k (eqb-true c.len 0 n))

pub cid_sent : (F : Type 0) (o : OptionalConnectionId) → formed_optional_cid o ≡ true → IfSome (Sound F cid) (cid_out o)
unfolding cid_out formed_optional_cid fits illegal widest
cid_sent F o h = go o.present (cid_facts o.value (all_at _ h 0))
  where
    go : (b : Bool) → Cid o.value → IfSome (Sound F cid) (pick b (some (cid_bytes o.value)) none)
    go true k = let e = cid_length_lem o.value k in record { legal = λ _. refl; fit = le-leb (length (cid_bytes o.value)) 20 (omega (arith, k.within)); small = omega (arith, k.within) }
    go false k = tt

pub cid_formed : (o : Option (List ℕ)) → IfSome (Fits cid) o → formed_optional_cid (cid_in o) ≡ true
unfolding cid_in formed_optional_cid fits all cid_of
cid_formed none f = rw (cid_read_lem [] (omega arith))
cid_formed (some v) f = rw (cid_read_lem v (leb-true _ _ f.fit))

pub cid_short : (o : Option (List ℕ)) → IfSome (Fits cid) o → Shorter (cid_out (cid_in o)) o
unfolding cid_in cid_out
cid_short none f id = omega arith
cid_short (some v) f id = rw (cid_same v) (omega arith)

-- version information
pub versions_back : (i : VersionInformation) → formed_versions i ≡ true → versions_in (versions_out i) ≡ i
unfolding versions_in versions_out
versions_back i h = go i.present refl
  where
    go : (b : Bool) → i.present ≡ b → versions_in (pick b (some (versions_bytes i)) none) ≡ i
    go true e = bytes_back i h e
    go false e = absent_zero i h e

pub versions_sent : (F : Type 0) (i : VersionInformation) → formed_versions i ≡ true → IfSome (Sound F versions) (versions_out i)
unfolding versions_out illegal widest
versions_sent F i h = go i.present
  where
    go : (b : Bool) → IfSome (Sound F versions) (pick b (some (versions_bytes i)) none)
    go true = record { legal = λ _. refl; fit = versions_fit i h; small = omega (arith, versions_long i h, (formed_facts i h).within) }
    go false = tt

pub versions_formed : (o : Option (List ℕ)) → IfSome (Fits versions) o → formed_versions (versions_in o) ≡ true
unfolding versions_in formed_versions no_versions all
versions_formed none f = refl
versions_formed (some v) f = read_formed v f.fit f.bytes

-- what was read is sent as it came
pub versions_kept : (o : Option (List ℕ)) → IfSome (Fits versions) o → versions_out (versions_in o) ≡ o
unfolding versions_in versions_out versions_with no_versions
versions_kept none f = refl
versions_kept (some v) f = ap some (versions_same v f.fit f.bytes)

pub versions_short : (o : Option (List ℕ)) → IfSome (Fits versions) o → Shorter (versions_out (versions_in o)) o
versions_short o f id = le_of_eq (ap (λ o. length (parameter_if id o)) (versions_kept o f))

-- tokens
pub token_back : (o : OptionalResetToken) → formed_optional_token o ≡ true → token_in (token_out o) ≡ o
unfolding token_in token_out formed_optional_token formed_token
token_back o h = go o.present o.value.bytes (eqb-true _ _ (all_at _ h 0)) (all_at _ h 1)
  where
    go : (b : Bool) (t : List ℕ) → length t ≡ 16 → (b || zeros t) ≡ true → token_in (pick b (some t) none) ≡ record { present = b; value = token_of t }
    go true t n z = refl
    go false t n z = let e : t ≡ replicate 16 0 = zeros_are t z ∙ rw n in rw e

pub token_sent : (F : Type 0) (o : OptionalResetToken) → formed_optional_token o ≡ true → IfSome (Sound F token) (token_out o)
unfolding token_out formed_optional_token formed_token fits illegal widest
token_sent F o h = go o.present (eqb-true _ _ (all_at _ h 0))
  where
    go : (b : Bool) → length o.value.bytes ≡ 16 → IfSome (Sound F token) (pick b (some o.value.bytes) none)
    go true n = record { legal = λ _. refl; fit = eq-eqb _ _ n; small = omega arith }
    go false n = tt

pub token_formed : (o : Option (List ℕ)) → IfSome (Fits token) o → formed_optional_token (token_in o) ≡ true
unfolding token_in formed_optional_token formed_token fits all
token_formed none f = refl
token_formed (some v) f = rw f.fit

pub token_short : (o : Option (List ℕ)) → IfSome (Fits token) o → Shorter (token_out (token_in o)) o
unfolding token_in token_out
token_short none f id = omega arith
token_short (some v) f id = omega arith
