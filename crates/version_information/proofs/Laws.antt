-- Laws of version information. Assumes nothing.
--     formed_facts       what it takes to be well formed
--     bytes_back         of a well-formed one the bytes are read back
--     whole              how long a value is
--     read_padded        a value is read the same with zeros behind it
--     all_with           those of all sixteen places too
--     versions_same      the bytes of what is read are those of the value
--     read_formed        what is read is well formed
--     versions_long      how many bytes a well-formed one has; and that they fit
--     all_long, versions_front    the bytes of all sixteen places: how many they are, and that they
--                                 begin with those
--     absent_zero        one that is absent is all zero
--     decoded            what decoding answers for a value
--     by_type            what is left of a well-formed one, given what its types say
use Prim.Native.Nat.{ℕ, suc, ◌+◌, ◌-◌, ◌*◌, ◌/◌, ◌%◌, ◌^◌, ◌≤◌, ◌<◌}
use mathlib.Core.Path.{◌≡◌, ap, ap₂, sym, ◌∙◌}
use mathlib.Core.List.{List, [], ◌∷◌, ◌++◌, append-nil}
use mathlib.Core.Bool.{Bool, true, false, ◌&&◌, ◌||◌, and-true}
use native.Mathlib.Omega.{arith}
use lib.ListN.{length, get_or, take, drop, replicate, length-drop, take-append-drop}
use lib.Seq.{take_at, length-take-le, take-append-le, drop-append-le}
use lib.Dec.{ltb, leb, eqb}
use borrow.Author.Tests.{le-leb, leb-true, lt-ltb, eq-eqb, eqb-true}
use Rattle.std.proofs.lemmas.Bool.{and_parts}
use Rattle.std.proofs.lemmas.List.{drop_all}
use Rattle.std.specs.Prelude.{Result as Answer, Ok, Err}
use Rattle.refusal.specs.Answer.{outcome_of}
use Rattle.refusal.specs.Number.{number_of}
use Rattle.refusal.specs.declared.Refusal.{Refusal}
use Rattle.refusal.specs.Outcome.{Outcome, accepted, refused, all}
use Rattle.refusal.proofs.Laws.{all_at}
use Rattle.words.specs.Words.{every, zeros, value_from, numbers_bytes, numbers_of}
use Rattle.words.proofs.Laws.{zeros_are, zeros_replicate, every_of, every_append}
use Rattle.words.proofs.Numbers.{numbers_size, numbers_append, numbers_one, numbers_back, numbers_behind, numbers_none, numbers_read, numbers_long, numbers_first, numbers_rest, numbers_small}
use Rattle.catalogue.specs.Catalogue.{versions, fits}
use Rattle.version_information.specs.declared.VersionInformation.{VersionInformation}
use Rattle.version_information.specs.VersionInformation.{no_versions, all_bytes, available_in, formed_versions, versions_bytes, versions_with, versions_of, read_versions}

pub record Formed (i : VersionInformation) : Type 0 where
  pub long : length i.available ≡ 16
  pub small : every (λ x. ltb x (2 ^ 32)) (i.chosen ∷ i.available) ≡ true
  pub within : i.available_len ≤ 16
  pub after : zeros (drop i.available_len i.available) ≡ true
  pub present : (i.present || (eqb i.chosen 0 && eqb i.available_len 0)) ≡ true

pub formed_facts : (i : VersionInformation) → formed_versions i ≡ true → Formed i
unfolding formed_versions
formed_facts i h =
    let a = all_at _ h in
    record { long = eqb-true _ _ (a 0); small = a 1; within = leb-true _ _ (a 2); after = a 3; present = a 4 }

-- the versions of a well-formed one, and zeros
module _ (i : VersionInformation) (h : formed_versions i ≡ true) where
  f : Formed i
  f = formed_facts i h

  count : length (available_in i) ≡ i.available_len
  count = length-take-le i.available_len i.available (omega (arith, f.long, f.within))

  padded : available_in i ++ replicate (16 - i.available_len) 0 ≡ i.available
  padded =
      let e : drop i.available_len i.available ≡ replicate (16 - i.available_len) 0
      = zeros_are (drop i.available_len i.available) f.after ∙ ap (λ n. replicate n 0) (length-drop i.available_len i.available ∙ ap (λ n. n - i.available_len) f.long) in
      rw (← e) (take-append-drop i.available_len i.available)

  small : every (λ x. ltb x (2 ^ 32)) (i.chosen ∷ available_in i) ≡ true
  small =
      let p = and_parts (ltb i.chosen (2 ^ 32)) (every (λ x. ltb x (2 ^ 32)) i.available) f.small in
      let q = and_parts (every (λ x. ltb x (2 ^ 32)) (available_in i)) (every (λ x. ltb x (2 ^ 32)) (drop i.available_len i.available))
      (sym (every_append (λ x. ltb x (2 ^ 32)) (available_in i) (drop i.available_len i.available)) ∙ ap (every (λ x. ltb x (2 ^ 32))) (take-append-drop i.available_len i.available) ∙ p.1) in
      rw (p.0, q.0)

  pub versions_long : length (versions_bytes i) ≡ 4 + 4 * i.available_len
  unfolding versions_bytes
  versions_long = numbers_size 4 (i.chosen ∷ available_in i) ∙ omega (arith, count)

  pub all_long : length (all_bytes i) ≡ 68
  unfolding all_bytes
  all_long = numbers_size 4 (i.chosen ∷ i.available) ∙ omega (arith, f.long)

  -- all sixteen places begin with those that are available
  pub versions_front : take (4 + 4 * i.available_len) (all_bytes i) ≡ versions_bytes i
  unfolding all_bytes versions_bytes
  versions_front =
      let vs : List ℕ = i.chosen ∷ available_in i in
      let e : numbers_bytes 4 (i.chosen ∷ i.available) ≡ numbers_bytes 4 vs ++ numbers_bytes 4 (drop i.available_len i.available)
      = ap (λ (l : List ℕ). numbers_bytes 4 (i.chosen ∷ l)) (sym (take-append-drop i.available_len i.available)) ∙ numbers_append 4 vs (drop i.available_len i.available) in
      ap (take (4 + 4 * i.available_len)) e ∙ take_at (numbers_bytes 4 vs) (numbers_bytes 4 (drop i.available_len i.available)) (4 + 4 * i.available_len) (numbers_size 4 vs ∙ omega (arith, count))

  pub versions_fit : fits versions (versions_bytes i) ≡ true
  unfolding fits all
  versions_fit =
      let l = versions_long in
      let a : 4 ≤ length (versions_bytes i) = omega arith in
      let b : length (versions_bytes i) ≤ 68 = omega (arith, f.within) in
      let c : length (versions_bytes i) % 4 ≡ 0 = omega arith in
      rw (le-leb _ _ a, le-leb _ _ b, eq-eqb _ _ c)

  -- seventeen numbers of the bytes
  all_back : value_from 0 (take 4 (versions_bytes i)) ∷ numbers_of 4 16 (drop 4 (versions_bytes i)) ≡ i.chosen ∷ i.available
  unfolding versions_bytes
  all_back =
      let n : 17 - length (i.chosen ∷ available_in i) ≡ 16 - i.available_len = omega (arith, count) in
      sym (numbers_one 4 16 (numbers_bytes 4 (i.chosen ∷ available_in i)))
      ∙ rw append-nil at (numbers_back 4 17 (i.chosen ∷ available_in i) [] small (omega (arith, count, f.within)))
      ∙ rw (n, numbers_none 4) (ap (λ l. i.chosen ∷ l) padded)

  -- and of all sixteen places
  pub all_with : versions_with i.present i.available_len (all_bytes i) ≡ i
  unfolding versions_with all_bytes
  all_with =
      let vs : List ℕ = i.chosen ∷ i.available in
      let n : 17 - length vs ≡ 0 = omega (arith, f.long) in
      let e : numbers_of 4 17 (numbers_bytes 4 vs) ≡ vs = rw append-nil at (numbers_back 4 17 vs [] f.small (omega (arith, f.long))) ∙ rw (n, numbers_none 4) (append-nil vs) in
      ap (λ (l : List ℕ). record { present = i.present; available_len = i.available_len; chosen = get_or l 0 0; available = drop 1 l })
      (sym (numbers_one 4 16 (numbers_bytes 4 vs)) ∙ e)

  pub bytes_back : i.present ≡ true → versions_of (versions_bytes i) ≡ i
  unfolding versions_with
  bytes_back e =
      let n : length (versions_bytes i) / 4 - 1 ≡ i.available_len = omega (arith, versions_long) in
      rw (n, ← e) (ap (λ (l : List ℕ). record { present = i.present; available_len = i.available_len; chosen = get_or l 0 0; available = drop 1 l }) all_back)

-- what is read
module _ (v : List ℕ) (h : fits versions v ≡ true) where
  pub whole : (4 ≤ length v) × (length v ≤ 68) × (length v ≡ (length v / 4 - 1) * 4 + 4)
  unfolding fits
  whole =
      let a : 4 ≤ length v = leb-true _ _ (all_at _ h 0) in
      let b : length v ≤ 68 = leb-true _ _ (all_at _ h 1) in
      let c : length v % 4 ≡ 0 = eqb-true _ _ (all_at _ h 2) in
      (a, b, omega arith)

  abbrev n : ℕ
  n = length v / 4 - 1

  few : n ≤ 16
  few = let w = whole in omega (arith, w.1, w.2)

  rest : length (drop 4 v) ≡ n * 4
  rest = let w = whole in length-drop 4 v ∙ omega (arith, w.2)

  -- in an array of 68 bytes, with zeros behind it
  pub read_padded : (k : ℕ) → versions_with true (length v / 4 - 1) (v ++ replicate k 0) ≡ versions_of v
  unfolding versions_with
  read_padded k =
      let w = whole in
      rw (take-append-le 4 v (replicate k 0) w.0, drop-append-le 4 v (replicate k 0) w.0, numbers_behind 4 n 16 k (drop 4 v) rest)

  pub versions_same : ((i : ℕ) → get_or v i 0 < 256) → versions_bytes (versions_of v) ≡ v
  unfolding versions_bytes versions_with
  versions_same b =
      let l : length v ≡ suc n * 4 = let w = whole in omega (arith, w.2) in
      ap (λ (xs : List ℕ). numbers_bytes 4 (value_from 0 (take 4 v) ∷ xs)) (numbers_first 4 n 16 (drop 4 v) few)
      ∙ ap (numbers_bytes 4) (sym (numbers_one 4 n v))
      ∙ numbers_read 4 (suc n) v l b

  pub read_formed : ((i : ℕ) → get_or v i 0 < 256) → formed_versions (versions_of v) ≡ true
  unfolding formed_versions versions_with all
  read_formed b =
      let s : every (λ x. ltb x (2 ^ 32)) (value_from 0 (take 4 v) ∷ numbers_of 4 16 (drop 4 v)) ≡ true
      = ap (every (λ x. ltb x (2 ^ 32))) (sym (numbers_one 4 16 v)) ∙ numbers_small 4 17 v b in
      let z : drop n (numbers_of 4 16 (drop 4 v)) ≡ replicate (16 - n) 0
      = numbers_rest 4 n 16 (drop 4 v) few ∙ ap (numbers_of 4 (16 - n)) (drop_all (n * 4) (drop 4 v) (omega (arith, rest))) ∙ numbers_none 4 (16 - n) in
      rw (numbers_long 4 16 (drop 4 v), s, le-leb n 16 few, z, zeros_replicate (16 - n))

-- what is left of a well-formed one, given what its types say
pub by_type : (i : VersionInformation) → length i.available ≡ 16 → i.chosen < 2 ^ 32 → ((k : ℕ) → get_or i.available k 0 < 2 ^ 32)
    → formed_versions i ≡ (leb i.available_len 16 && (zeros (drop i.available_len i.available) && (i.present || (eqb i.chosen 0 && eqb i.available_len 0))))
unfolding formed_versions all
by_type i l c a = rw (l, lt-ltb _ _ c, every_of (λ x. ltb x (2 ^ 32)) i.available (λ k h. lt-ltb _ _ (a k)), and-true)

pub value_within : (v : List ℕ) → true ≡ fits versions v → (4 ≤ length v) × (length v ≤ 68)
value_within v h = let w = whole v (sym h) in (w.0, w.1)

-- one that is absent is all zero
pub absent_zero : (i : VersionInformation) → formed_versions i ≡ true → i.present ≡ false → no_versions ≡ i
unfolding no_versions
absent_zero i h e =
    let f = formed_facts i h in
    let p = and_parts (eqb i.chosen 0) (eqb i.available_len 0) (rw e at f.present) in
    let c : i.chosen ≡ 0 = eqb-true _ _ p.0 in
    let n : i.available_len ≡ 0 = eqb-true _ _ p.1 in
    let a : i.available ≡ replicate 16 0 = zeros_are i.available (rw n at f.after) ∙ ap (λ k. replicate k 0) f.long in
    sym (ap₂ (λ b x. record { present = b; available_len = i.available_len; chosen = x; available = i.available }) e c
    ∙ ap₂ (λ (l : List ℕ) k. record { present = false; available_len = k; chosen = 0; available = l }) a n)

-- what decoding answers for a value
pub decoded : (r : Answer VersionInformation Refusal) (v : List ℕ) → outcome_of r ≡ read_versions v → fits versions v ≡ true → r ≡ Ok (versions_of v)
unfolding read_versions
decoded (Ok i) v e h =
    let x : ◌≡◌ {A = Outcome VersionInformation} (accepted i) (accepted (versions_of v)) = e ∙ rw h in
    let y : i ≡ versions_of v = cc in
    ap Ok y
decoded (Err f) v e h = let x : ◌≡◌ {A = Outcome VersionInformation} (refused (number_of f)) (accepted (versions_of v)) = e ∙ rw h in cc
