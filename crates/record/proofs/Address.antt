-- The laws of a preferred address, named as in KindLaws.antt. Assumes nothing.
--     families_formed      an address that is read offers a family, and offers none that is all
--                          zero with port 0
use Prim.Native.Nat.{ℕ, ◌+◌, ◌≤◌, ◌<◌}
use mathlib.Core.Path.{◌≡◌, refl, ap, sym, ◌∙◌}
use mathlib.Core.List.{List, [], ◌∷◌, ◌++◌, append_assoc}
use mathlib.Core.Option.{Option, none, some}
use mathlib.Core.Bool.{Bool, true, false, ◌&&◌, ◌||◌, not, and-true, not-or_self}
use native.Mathlib.Omega.{arith}
use native.Mathlib.Nat.{le_of_eq}
use lib.ListN.{length, get_or, take, drop, replicate, length-append, length-drop, take-append-drop}
use lib.Seq.{length-take-le, take_at, drop_at, get_or_at, drop-drop, drop-cons, take-add}
use lib.Dec.{eqb}
use borrow.Author.Tests.{le-leb, leb-true, lt-ltb, ltb-true, eq-eqb, eqb-true}
use Rattle.std.proofs.lemmas.Bool.Decides.{nat_tests}
use Rattle.refusal.specs.Outcome.{pick, all}
use Rattle.refusal.proofs.Laws.{all_at}
use Rattle.words.proofs.Big.{length_bytes_of, value_bytes_of, bytes_value, value_lt}
use Rattle.words.specs.Words.{zeros, value_from, bytes_of}
use Rattle.connection_id.specs.ConnectionId.{cid_of, cid_bytes, formed_cid}
use Rattle.words.proofs.Laws.{zeros_are, zeros_append}
use Rattle.connection_id.proofs.Laws.{cid_facts, cid_length_lem, cid_of_lem, cid_none, cid_read_lem, cid_same}
use Rattle.record.specs.declared.PreferredAddress.{PreferredAddress}
use Rattle.catalogue.specs.Catalogue.{address, fits, illegal, id_length, parameter_if, widest}
use Rattle.record.specs.Values.{Bytes, Family, family_in, family_out, to_v4, to_v6, of_v4, of_v6, token_of, address_in, address_out}
use Rattle.record.specs.Record.{unspecified, formed_family, formed_address, formed_token, family_rules}
use Rattle.record.proofs.Bytes.{bytes_drop, bytes_take}
use Rattle.record.proofs.KindLaws.{Fits, IfSome, Sound, Shorter}

-- two bytes of a port
two_back : (p : ℕ) → p < 65536 → value_from 0 (bytes_of 2 p) ≡ p
two_back p h = value_bytes_of 2 0 p ∙ omega arith

two_same : (t : List ℕ) → length t ≡ 2 → Bytes t → bytes_of 2 (value_from 0 t) ≡ t
two_same t h b = rw h at (bytes_value t 0 b)

two_lt : (t : List ℕ) → length t ≡ 2 → Bytes t → value_from 0 t < 65536
two_lt t h b = let l = rw h at (value_lt t 0 1 b (omega arith)) in omega arith

two_zeros : (p : ℕ) → p < 65536 → zeros (bytes_of 2 p) ≡ eqb p 0
two_zeros p h = grind (arith, nat_tests)

-- a family: n bytes of address and a port
fam_zeros : (f : Family) → f.2 < 65536 → zeros (family_out f) ≡ unspecified f
unfolding family_out
fam_zeros f h = zeros_append f.1 (bytes_of 2 f.2) ∙ rw (two_zeros f.2 h)

marks : (b z : Bool) → (b || z) ≡ true → (not b || not z) ≡ true → not z ≡ b
marks b z h k = grind (arith, nat_tests)

filled : (b z : Bool) → (b || z) ≡ true → not b ≡ true → z ≡ true
filled b z h k = grind (arith, nat_tests)

-- as it is read
module _ (n : ℕ) (x : List ℕ) (e : length x ≡ n + 2) (b : Bytes x) where
  port_two : length (drop n x) ≡ 2
  port_two = length-drop n x ∙ omega arith

  fam_lt : value_from 0 (drop n x) < 65536
  fam_lt = two_lt (drop n x) port_two (bytes_drop n x b)

  fam_same : family_out (family_in n x) ≡ x
  unfolding family_out family_in
  fam_same = rw (two_same (drop n x) port_two (bytes_drop n x b), take-append-drop)

  fam_empty : zeros x ≡ unspecified (family_in n x)
  unfolding family_in
  fam_empty = sym (ap zeros fam_same) ∙ fam_zeros (family_in n x) fam_lt

  fam_formed : formed_family n (family_in n x) ≡ true
  unfolding formed_family family_in all
  fam_formed = rw (fam_empty, eq-eqb _ _ (length-take-le n x (omega arith)), lt-ltb _ _ fam_lt, not-or_self)

-- as a record has it
module _ (n : ℕ) (f : Family) (h : formed_family n f ≡ true) where
  ip_length : length f.1 ≡ n
  unfolding formed_family
  ip_length = eqb-true _ _ (all_at _ h 0)

  port_lt : f.2 < 65536
  unfolding formed_family
  port_lt = ltb-true _ _ (all_at _ h 1)

  fam_length : length (family_out f) ≡ n + 2
  unfolding family_out
  fam_length = simp (length-append, length_bytes_of, ip_length)

  fam_port : value_from 0 (drop n (family_out f)) ≡ f.2
  unfolding family_out
  fam_port = rw (drop_at f.1 (bytes_of 2 f.2) n ip_length) (two_back f.2 port_lt)

  fam_ip : take n (family_out f) ≡ f.1
  unfolding family_out
  fam_ip = take_at f.1 (bytes_of 2 f.2) n ip_length

  fam_back : (not f.0 || not (unspecified f)) ≡ true → family_in n (family_out f) ≡ f
  unfolding family_in formed_family
  fam_back k = rw (fam_zeros f port_lt, marks f.0 _ (all_at _ h 2) k, fam_ip, fam_port)

  fam_absent : not f.0 ≡ true → family_in n (replicate (n + 2) 0) ≡ f
  unfolding formed_family
  fam_absent k =
      let e : family_out f ≡ replicate (n + 2) 0 = zeros_are (family_out f) (fam_zeros f port_lt ∙ filled f.0 _ (all_at _ h 2) k) ∙ rw fam_length in
      rw (← e) (fam_back (rw k))

-- a value put together, and its parts
abbrev whole : List ℕ → List ℕ → ℕ → List ℕ → List ℕ → List ℕ
whole x y n c t = x ++ (y ++ (n ∷ (c ++ t)))

record Parts (v x y : List ℕ) (n : ℕ) (c t : List ℕ) : Type 0 where
  len : length v ≡ 41 + n
  first : take 6 v ≡ x
  second : take 18 (drop 6 v) ≡ y
  count : id_length v ≡ n
  id : take n (drop 25 v) ≡ c
  last : drop (25 + n) v ≡ t
  both : take 24 v ≡ x ++ y

parts : (x y : List ℕ) (n : ℕ) (c t : List ℕ) → length x ≡ 6 → length y ≡ 18 → length c ≡ n → length t ≡ 16 → Parts (whole x y n c t) x y n c t
parts x y n c t hx hy hc ht =
    let e : whole x y n c t ≡ (x ++ y) ++ (n ∷ (c ++ t)) = sym (append_assoc x y (n ∷ (c ++ t))) in
    let f : whole x y n c t ≡ ((x ++ y) ++ (n ∷ [])) ++ (c ++ t) = e ∙ sym (append_assoc (x ++ y) (n ∷ []) (c ++ t)) in
    let g : whole x y n c t ≡ (((x ++ y) ++ (n ∷ [])) ++ c) ++ t = f ∙ sym (append_assoc ((x ++ y) ++ (n ∷ [])) c t) in
    let d : drop 25 (whole x y n c t) ≡ c ++ t = ap (drop 25) f ∙ drop_at ((x ++ y) ++ (n ∷ [])) (c ++ t) 25 (simp length-append (omega arith)) in
    let s : drop 6 (whole x y n c t) ≡ y ++ (n ∷ (c ++ t)) = drop_at x (y ++ (n ∷ (c ++ t))) 6 hx in
    record {
      len = simp length-append (omega arith);
      first = take_at x (y ++ (n ∷ (c ++ t))) 6 hx;
      second = ap (take 18) s ∙ take_at y (n ∷ (c ++ t)) 18 hy;
      count = ap (λ v. get_or v 24 0) e ∙ get_or_at (x ++ y) n (c ++ t) 0 24 (simp length-append (omega arith));
      id = ap (take n) d ∙ take_at c t n hc;
      last = ap (drop (25 + n)) g ∙ drop_at (((x ++ y) ++ (n ∷ [])) ++ c) t (25 + n) (simp length-append (omega arith));
      both = ap (take 24) e ∙ take_at (x ++ y) (n ∷ (c ++ t)) 24 (simp length-append (omega arith));
    }

-- the value that holds an address
built : List ℕ → List ℕ → List ℕ → List ℕ → PreferredAddress
built x y c t =
    record {
      present = true;
      address_v4 = to_v4 (family_in 4 x);
      address_v6 = to_v6 (family_in 16 y);
      connection_id = cid_of c;
      stateless_reset_token = token_of t;
    }

address_of_lem : (v x y : List ℕ) (n : ℕ) (c t : List ℕ) → Parts v x y n c t → address_in (some v) ≡ built x y c t
unfolding address_in built
address_of_lem v x y n c t p = rw (p.count, p.first, p.second, p.id, p.last)

abbrev pub value_of : PreferredAddress → List ℕ
value_of a = whole (family_out (of_v4 a.address_v4)) (family_out (of_v6 a.address_v6)) a.connection_id.len (cid_bytes a.connection_id) a.stateless_reset_token.bytes

sent_parts : (a : PreferredAddress) → formed_address a ≡ true
    → Parts (value_of a) (family_out (of_v4 a.address_v4)) (family_out (of_v6 a.address_v6)) a.connection_id.len (cid_bytes a.connection_id) a.stateless_reset_token.bytes
unfolding formed_address formed_token
sent_parts a h =
    parts (family_out (of_v4 a.address_v4)) (family_out (of_v6 a.address_v6)) a.connection_id.len (cid_bytes a.connection_id) a.stateless_reset_token.bytes
    (fam_length 4 (of_v4 a.address_v4) (all_at _ h 0)) (fam_length 16 (of_v6 a.address_v6) (all_at _ h 1)) (cid_length_lem a.connection_id (cid_facts a.connection_id (all_at _ h 2))) (eqb-true _ _ (all_at _ h 3))

pub address_length_lem : (a : PreferredAddress) → formed_address a ≡ true → length (value_of a) ≡ 41 + a.connection_id.len
address_length_lem a h = (sent_parts a h).len

pub address_back : (a : PreferredAddress) → formed_address a ≡ true → family_rules a ≡ true → address_in (address_out a) ≡ a
unfolding address_out formed_address family_rules built formed_token address_in
address_back a h k = go a.present refl
  where
    go : (b : Bool) → a.present ≡ b → address_in (pick b (some (value_of a)) none) ≡ a
    go true e =
        address_of_lem (value_of a) _ _ _ _ _ (sent_parts a h)
        ∙ rw (fam_back 4 (of_v4 a.address_v4) (all_at _ h 0) (all_at _ k 0), fam_back 16 (of_v6 a.address_v6) (all_at _ h 1) (all_at _ k 1), cid_of_lem a.connection_id (all_at _ h 2), ← e)
    go false e =
        let z = all_at _ (rw e at (all_at _ h 4)) in
        let n : a.connection_id.len ≡ 0 = eqb-true _ _ (z 2) in
        let m : length a.stateless_reset_token.bytes ≡ 16 = eqb-true _ _ (all_at _ h 3) in
        let t : a.stateless_reset_token.bytes ≡ replicate 16 0 = zeros_are a.stateless_reset_token.bytes (z 3) ∙ rw m in
        rw (fam_absent 4 (of_v4 a.address_v4) (all_at _ h 0) (z 0), fam_absent 16 (of_v6 a.address_v6) (all_at _ h 1) (z 1), cid_none a.connection_id (all_at _ h 2) n, ← t, ← e)

one_family : (a b : Bool) → (not a || not b) ≡ true → (a && b) ≡ false
one_family a b h = grind (arith, nat_tests)

address_sound : (v x y : List ℕ) (n : ℕ) (c t : List ℕ) → Parts v x y n c t → n ≤ 20 → {F : Type 0} → (F → (not (zeros x) || not (zeros y)) ≡ true) → Sound F address v
unfolding illegal fits all widest
address_sound v x y n c t p h k =
    let i : 25 ≤ length v = omega (arith, p.len) in
    let j : 41 ≤ length v = omega (arith, p.len) in
    let m : 41 + n ≤ length v = omega (arith, p.len) in
    record {
      legal = λ b. rw (p.count, le-leb _ _ i, le-leb _ _ h, le-leb _ _ m, p.both, zeros_append x y, one_family (zeros x) (zeros y) (k b));
      fit = rw (p.count, le-leb _ _ j, le-leb _ _ h, eq-eqb _ _ p.len);
      small = omega (arith, p.len);
    }

pub address_sent : (a : PreferredAddress) → formed_address a ≡ true → IfSome (Sound (family_rules a ≡ true) address) (address_out a)
unfolding address_out formed_address family_rules family_in
address_sent a h = go a.present refl
  where
    go : (b : Bool) → a.present ≡ b → IfSome (Sound (family_rules a ≡ true) address) (pick b (some (value_of a)) none)
    go true e =
        address_sound (value_of a) _ _ _ _ _ (sent_parts a h) (cid_facts a.connection_id (all_at _ h 2)).within λ k.
        let p : not (zeros (family_out (of_v4 a.address_v4))) ≡ a.address_v4.present = ap (λ (x : Family). x.0) (fam_back 4 (of_v4 a.address_v4) (all_at _ h 0) (all_at _ k 0)) in
        let q : not (zeros (family_out (of_v6 a.address_v6))) ≡ a.address_v6.present = ap (λ (x : Family). x.0) (fam_back 16 (of_v6 a.address_v6) (all_at _ h 1) (all_at _ k 1)) in
        let z : (not a.present || (a.address_v4.present || a.address_v6.present)) ≡ true = all_at _ k 2 in
        rw (p, q) (rw e at z)
    go false e = tt

-- the parts of a value that fits
record Read (v x y : List ℕ) (n : ℕ) (c t : List ℕ) : Type 0 where
  is : v ≡ whole x y n c t
  hx : length x ≡ 6
  hy : length y ≡ 18
  hc : length c ≡ n
  ht : length t ≡ 16
  within : n ≤ 20
  bx : Bytes x
  by : Bytes y
  family : (zeros x && zeros y) ≡ false

fits_facts : (v : List ℕ) → Fits address v → (41 ≤ length v) × (id_length v ≤ 20) × (length v ≡ 41 + id_length v)
unfolding fits
fits_facts v f = (leb-true _ _ (all_at _ f.fit 0), leb-true _ _ (all_at _ f.fit 1), eqb-true _ _ (all_at _ f.fit 2))

not_zeros : (v : List ℕ) → Fits address v → zeros (take 24 v) ≡ false
unfolding illegal all
not_zeros v f =
    let k = fits_facts v f in
    let i : 25 ≤ length v = omega arith in
    let m : 41 + id_length v ≤ length v = omega arith in
    sym (and-true (zeros (take 24 v))) ∙ rw (le-leb 25 (length v) i, le-leb (id_length v) 20 k.1, le-leb (41 + id_length v) (length v) m) at f.legal

joined_value : (v : List ℕ) (n : ℕ) → 24 < length v → v ≡ whole (take 6 v) (take 18 (drop 6 v)) (id_length v) (take n (drop 25 v)) (drop (25 + n) v)
joined_value v n h =
    sym (take-append-drop 6 v)
    ∙ ap (λ l. take 6 v ++ l) (
    sym (take-append-drop 18 (drop 6 v))
    ∙ ap (λ l. take 18 (drop 6 v) ++ l) (
    drop-drop 18 6 v ∙ drop-cons v 24 0 h ∙ ap (λ l. id_length v ∷ l) (sym (take-append-drop n (drop 25 v)) ∙ ap (λ l. take n (drop 25 v) ++ l) (drop-drop n 25 v))
    )
    )

read_parts : {P : Type 0} (v : List ℕ) → Fits address v → ((x y : List ℕ) (n : ℕ) (c t : List ℕ) → Read v x y n c t → P) → P
read_parts v f k =
    let h = fits_facts v f in
    k (take 6 v) (take 18 (drop 6 v)) (id_length v) (take (id_length v) (drop 25 v)) (drop (25 + id_length v) v)
    (record {
      is = joined_value v (id_length v) (omega arith);
      hx = length-take-le 6 v (omega arith);
      hy = length-take-le 18 (drop 6 v) (simp length-drop (omega arith));
      hc = length-take-le (id_length v) (drop 25 v) (simp length-drop (omega arith));
      ht = simp length-drop (omega arith);
      within = h.1;
      bx = bytes_take 6 v f.bytes;
      by = bytes_take 18 (drop 6 v) (bytes_drop 6 v f.bytes);
      family = sym (zeros_append (take 6 v) (take 18 (drop 6 v))) ∙ ap zeros (sym (take-add 6 18 v)) ∙ not_zeros v f;
    })

read_address : (v x y : List ℕ) (n : ℕ) (c t : List ℕ) → Read v x y n c t → address_in (some v) ≡ built x y c t
read_address v x y n c t p = rw p.is (address_of_lem (whole x y n c t) x y n c t (parts x y n c t p.hx p.hy p.hc p.ht))

built_formed : (v x y : List ℕ) (n : ℕ) (c t : List ℕ) → Read v x y n c t → formed_address (built x y c t) ≡ true
unfolding formed_address built all formed_token
built_formed v x y n c t p =
    let m : length c ≤ 20 = omega (arith, p.hc, p.within) in
    rw (fam_formed 4 x p.hx p.bx, fam_formed 16 y p.hy p.by, cid_read_lem c m, eq-eqb _ _ p.ht)

pub address_formed : (o : Option (List ℕ)) → IfSome (Fits address) o → formed_address (address_in o) ≡ true
unfolding formed_address address_in all formed_family family_in formed_cid cid_of formed_token
address_formed none f = refl
address_formed (some v) f = read_parts v f λ x y n c t p. ap formed_address (read_address v x y n c t p) ∙ built_formed v x y n c t p

built_family : (v x y : List ℕ) (n : ℕ) (c t : List ℕ) → Read v x y n c t → family_rules (built x y c t) ≡ true
unfolding family_rules built all family_in
built_family v x y n c t p =
    rw (← fam_empty 4 x p.hx p.bx, ← fam_empty 16 y p.hy p.by, not-or_self (not (zeros x)), not-or_self (not (zeros y))) (some_family (zeros x) (zeros y) p.family)
  where
    some_family : (a b : Bool) → (a && b) ≡ false → ((not a || not b) && true) ≡ true
    some_family a b h = grind (arith, nat_tests)

pub families_formed : (o : Option (List ℕ)) → IfSome (Fits address) o → family_rules (address_in o) ≡ true
unfolding family_rules address_in all family_in
families_formed none f = refl
families_formed (some v) f = read_parts v f λ x y n c t p. ap family_rules (read_address v x y n c t p) ∙ built_family v x y n c t p

built_sent : (v x y : List ℕ) (n : ℕ) (c t : List ℕ) → Read v x y n c t → address_out (built x y c t) ≡ some v
unfolding address_out built cid_of
built_sent v x y n c t p =
    rw (fam_same 4 x p.hx p.bx, fam_same 16 y p.hy p.by, cid_same c, p.hc, p.is)

-- an address that was read is sent as it came
pub address_kept : (o : Option (List ℕ)) → IfSome (Fits address) o → address_out (address_in o) ≡ o
unfolding address_out address_in
address_kept none f = refl
address_kept (some v) f = read_parts v f λ x y n c t p. ap address_out (read_address v x y n c t p) ∙ built_sent v x y n c t p

pub address_short : (o : Option (List ℕ)) → IfSome (Fits address) o → Shorter (address_out (address_in o)) o
address_short o f id = le_of_eq (ap (λ o. length (parameter_if id o)) (address_kept o f))
