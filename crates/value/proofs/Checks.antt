-- What the tests of the code mean for the definitions: a value of each kind, the kind of a place, a
-- second copy. Assumes nothing.
use Prim.Native.Nat.{ℕ, ◌+◌, ◌*◌, ◌^◌, ◌≤◌, ◌<◌}
use mathlib.Core.Path.{◌≡◌, refl, ap, sym, ◌∙◌}
use mathlib.Core.List.{List, [], ◌∷◌}
use mathlib.Core.Bool.{Bool, true, false, ◌&&◌, not}
use native.Mathlib.Omega.{arith}
use native.Mathlib.Nat.{div-eq_of_lt, lt_of_lt_of_le}
use lib.Pow.{pow_mono}
use lib.ListN.{length, get_or, take, get_or-eq_default}
use lib.Seq.{take_all, length-take-le}
use lib.Dec.{eqb, leb, ltb, leb-zero}
use borrow.Author.Tests.{le-leb, lt-leb, eq-eqb, ne_eqb, eqb-true, eqb-false, leb-true, leb-false, ltb-true, ltb-false}
use mir.Val.{bool_byte}
use Rattle.refusal.specs.Outcome.{Result, accepted, refused, Outcome, pick, all}
use Rattle.refusal.proofs.Laws.{all_at}
use Rattle.varint.specs.Number.{read_number, read_wide}
use Rattle.varint.specs.declared.Decoded.{Decoded}
use Rattle.varint.proofs.Laws.{read_take}
use Rattle.marks.specs.Mark.{marked}
use Rattle.words.specs.Words.{zeros}
use Rattle.catalogue.specs.Catalogue.{Kind, number, flag, cid, token, address, versions, reserved, other_kinds, kinds, kind_at, fills, fits, illegal, id_length}
use Rattle.std.proofs.lemmas.Bool.{agree_below_at}
use Rattle.front.specs.declared.Fault.{Fault}
use Rattle.front.specs.declared.Fault.TheVariants.{SecondCopy, Misfit, Illegal}
use Rattle.record.specs.Values.{value}
use Rattle.value.specs.Answer.{judged}
use Rattle.value.specs.declared.Held.{Held}
use Rattle.value.specs.Value.{is_simple, stands, holds, held_of, check_kind, check_value, receive_value}

-- A VALUE OF A KIND. Numbers
module _ (a : ℕ) (v : List ℕ) where
  pub number_unread : (e : ℕ) → read_number v ≡ refused e → refused Misfit ≡ check_kind number a v
  unfolding check_kind illegal fits
  number_unread e k = rw k

  pub number_read_lem : (x : Decoded) → read_number v ≡ accepted x → judged (eqb x.count (length v)) (record { kept = x.value; saved = x.saved }) ≡ check_kind number a v
  unfolding check_kind illegal fits held_of
  number_read_lem x k = rw k

  -- flags, IDs and the token
  pub by_length : (k : Kind) (t : Bool) → illegal k v ≡ false → held_of k a v ≡ stands a → t ≡ fits k v → judged t (stands a) ≡ check_kind k a v
  unfolding check_kind
  by_length k t i n e = rw (i, n, e)

  pub versions_fit : fits versions v ≡ true → accepted (stands a) ≡ check_kind versions a v
  unfolding illegal held_of
  versions_fit h = by_length versions true refl refl (sym h)

  -- addresses
  address_open : check_kind address a v
      ≡ pick (all (leb 25 (length v) ∷ leb (id_length v) 20 ∷ leb (41 + id_length v) (length v) ∷ zeros (take 24 v) ∷ [])) (refused Illegal)
      (pick (all (leb 41 (length v) ∷ leb (id_length v) 20 ∷ eqb (length v) (41 + id_length v) ∷ [])) (accepted (stands a)) (refused Misfit))
  unfolding check_kind illegal fits held_of
  address_open = refl

  pub address_none : length v < 25 → refused Misfit ≡ check_kind address a v
  unfolding all
  address_none h = let k : length v < 41 = omega arith in rw (address_open, lt-leb 25 _ h, lt-leb 41 _ k)

  module _ (some : 25 ≤ length v) where
    pub address_id : 20 < id_length v → refused Misfit ≡ check_kind address a v
    unfolding all
    address_id h = rw (address_open, le-leb 25 _ some, lt-leb _ 20 h) (go (leb 41 (length v)))
      where
        go : (t : Bool) → refused Misfit ≡ pick {A = Result Fault Held} (t && false) (accepted (stands a)) (refused Misfit)
        go true = refl
        go false = refl

    module _ (small : id_length v ≤ 20) where
      pub address_short : length v < 41 + id_length v → refused Misfit ≡ check_kind address a v
      unfolding all
      address_short h =
          rw (address_open, le-leb 25 _ some, le-leb _ 20 small, lt-leb (41 + id_length v) _ h, ne_eqb (length v) (41 + id_length v) (omega arith)) (go (leb 41 (length v)))
        where
          go : (t : Bool) → refused Misfit ≡ pick {A = Result Fault Held} (t && false) (accepted (stands a)) (refused Misfit)
          go true = refl
          go false = refl

      module _ (long : 41 + id_length v ≤ length v) where
        pub address_illegal : zeros (take 24 v) ≡ true → refused Illegal ≡ check_kind address a v
        unfolding all
        address_illegal z = rw (address_open, le-leb 25 _ some, le-leb _ 20 small, le-leb (41 + id_length v) _ long, z)

        pub address_judged : zeros (take 24 v) ≡ false → pick (eqb (length v) (41 + id_length v)) (accepted (stands a)) (refused Misfit) ≡ check_kind address a v
        unfolding all
        address_judged z =
            let full : 41 ≤ length v = omega arith in
            rw (address_open, le-leb 25 _ some, le-leb _ 20 small, le-leb (41 + id_length v) _ long, z, le-leb 41 _ full)
            (go (eqb (length v) (41 + id_length v)))
          where
            go : (t : Bool) → pick {A = Result Fault Held} t (accepted (stands a)) (refused Misfit) ≡ pick (t && true) (accepted (stands a)) (refused Misfit)
            go true = refl
            go false = refl

-- THE KIND OF A PLACE, by the code's tests. Kinds by number
abbrev code : Kind → ℕ
code number = 0
code flag = 1
code cid = 2
code token = 3
code address = 4
code versions = 5
code reserved = 6

coded : (k : Kind) → get_or (number ∷ flag ∷ cid ∷ token ∷ address ∷ versions ∷ reserved ∷ []) (code k) reserved ≡ k
coded number = refl
coded flag = refl
coded cid = refl
coded token = refl
coded address = refl
coded versions = refl
coded reserved = refl

-- whether a kind is another
abbrev is : Kind → Kind → Bool
is j k = eqb (code j) (code k)

is_it : (j k : Kind) → is j k ≡ true → k ≡ j
is_it j k e = sym (coded k) ∙ ap (λ n. get_or (number ∷ flag ∷ cid ∷ token ∷ address ∷ versions ∷ reserved ∷ []) n reserved) (sym (eqb-true (code j) (code k) e)) ∙ coded j

above : (m p : ℕ) → m < 2 ^ 22 → 22 ≤ p → marked m p ≡ false
unfolding marked
above m p h k = rw (div-eq_of_lt (lt_of_lt_of_le h (pow_mono k)))

-- two tests agree
abbrev same : Bool → Bool → Bool
same true b = b
same false b = not b

same_is : (a b : Bool) → same a b ≡ true → a ≡ b
same_is true b e = sym e
same_is false true e = e
same_is false false e = refl

-- the tests of a place agree with those of its kind
abbrev tests : ℕ → Kind → List Bool
tests p k =
    same (marked 0x1047ff p) (is number k)
    ∷ same (marked 0x70000 p) (is cid k)
    ∷ same (marked 0x82000 p) (is flag k)
    ∷ same (eqb p 12) (is token k)
    ∷ same (eqb p 15) (is address k)
    ∷ same (marked 0x1f77ff p) (is_simple k)
    ∷ same (eqb p 21) (is versions k)
    ∷ []

agree : (p : ℕ) → all (tests p (kind_at p)) ≡ true
unfolding all kind_at kinds other_kinds
agree p = go (ltb p 22) refl
  where
    go : (b : Bool) → ltb p 22 ≡ b → all (tests p (kind_at p)) ≡ true
    go true e = unfold marked in agree_below_at (λ p. all (tests p (kind_at p))) (λ p. true) 22 p refl (ltb-true p 22 e)
    go false e =
        let h = ltb-false p 22 e in
        let k : kind_at p ≡ reserved = get_or-eq_default kinds reserved {n = p} h in
        rw (k, above 0x1047ff p (omega arith) h, above 0x70000 p (omega arith) h, above 0x82000 p (omega arith) h, ne_eqb p 12 (omega arith), ne_eqb p 15 (omega arith), above 0x1f77ff p (omega arith) h, ne_eqb p 21 (omega arith))

module _ (p : ℕ) where
  number_told : marked 0x1047ff p ≡ is number (kind_at p)
  number_told = same_is _ _ (all_at (tests p (kind_at p)) (agree p) 0)

  cid_told : marked 0x70000 p ≡ is cid (kind_at p)
  cid_told = same_is _ _ (all_at (tests p (kind_at p)) (agree p) 1)

  flag_told : marked 0x82000 p ≡ is flag (kind_at p)
  flag_told = same_is _ _ (all_at (tests p (kind_at p)) (agree p) 2)

  token_told : eqb p 12 ≡ is token (kind_at p)
  token_told = same_is _ _ (all_at (tests p (kind_at p)) (agree p) 3)

  address_told : eqb p 15 ≡ is address (kind_at p)
  address_told = same_is _ _ (all_at (tests p (kind_at p)) (agree p) 4)

  pub simple_told : marked 0x1f77ff p ≡ is_simple (kind_at p)
  simple_told = same_is _ _ (all_at (tests p (kind_at p)) (agree p) 5)

  versions_told : eqb p 21 ≡ is versions (kind_at p)
  versions_told = same_is _ _ (all_at (tests p (kind_at p)) (agree p) 6)

  pub number_at_lem : marked 0x1047ff p ≡ true → kind_at p ≡ number
  number_at_lem a = is_it number (kind_at p) (sym number_told ∙ a)

  pub not_number_at : marked 0x1047ff p ≡ false → kind_at p ≡ number → ⊥
  not_number_at a e =
      let t : is number (kind_at p) ≡ true = rw e refl in
      let f : false ≡ true = sym a ∙ number_told ∙ t in
      cc

  pub cid_at_lem : marked 0x70000 p ≡ true → kind_at p ≡ cid
  cid_at_lem a = is_it cid (kind_at p) (sym cid_told ∙ a)

  pub flag_at : marked 0x82000 p ≡ true → kind_at p ≡ flag
  flag_at a = is_it flag (kind_at p) (sym flag_told ∙ a)

  pub token_at : p ≡ 12 → kind_at p ≡ token
  token_at a = is_it token (kind_at p) (sym token_told ∙ eq-eqb p 12 a)

  pub address_at_lem : p ≡ 15 → kind_at p ≡ address
  address_at_lem a = is_it address (kind_at p) (sym address_told ∙ eq-eqb p 15 a)

  pub versions_at_lem : p ≡ 21 → kind_at p ≡ versions
  versions_at_lem a = is_it versions (kind_at p) (sym versions_told ∙ eq-eqb p 21 a)

  pub none_at : marked 0x1047ff p ≡ false → marked 0x70000 p ≡ false → marked 0x82000 p ≡ false → (p ≡ 12 → ⊥) → (p ≡ 15 → ⊥) → (p ≡ 21 → ⊥) → kind_at p ≡ reserved
  none_at a b c d e f = go (kind_at p) (sym number_told ∙ a) (sym cid_told ∙ b) (sym flag_told ∙ c) (sym token_told ∙ ne_eqb p 12 d) (sym address_told ∙ ne_eqb p 15 e) (sym versions_told ∙ ne_eqb p 21 f)
    where
      go : (k : Kind) → is number k ≡ false → is cid k ≡ false → is flag k ≡ false → is token k ≡ false → is address k ≡ false → is versions k ≡ false → k ≡ reserved
      go number a b c d e f = cc
      go cid a b c d e f = cc
      go flag a b c d e f = cc
      go token a b c d e f = cc
      go address a b c d e f = cc
      go versions a b c d e f = cc
      go reserved a b c d e f = refl

-- A VALUE TOLD BY ITS LENGTH: between the least and the greatest, of which a number's are its own
exactly : (n l : ℕ) → (leb n l && leb l (n + 0)) ≡ eqb l n
exactly n l = go (leb n l) refl (leb l (n + 0)) refl
  where
    go : (s : Bool) → leb n l ≡ s → (t : Bool) → leb l (n + 0) ≡ t → (s && t) ≡ eqb l n
    go true e true f = sym (eq-eqb l n (omega (arith, leb-true n l e, leb-true l (n + 0) f)))
    go true e false f = sym (ne_eqb l n (omega (arith, leb-false l (n + 0) f)))
    go false e t f = sym (ne_eqb l n (omega (arith, leb-false n l e)))

module _ (a len : ℕ) (x : Decoded) (rest : List ℕ) (room : 8 ≤ length rest) (within : len ≤ length rest) (e : accepted x ≡ read_wide rest) where
  long : length (take len rest) ≡ len
  long = length-take-le len rest within

  read : read_number rest ≡ accepted x
  read = sym (rw (le-leb 8 (length rest) room) at e)

  number_wide : judged (leb x.count len && leb len (x.count + 0)) (record { kept = x.value; saved = x.saved }) ≡ check_kind number a (take len rest)
  unfolding check_kind illegal fits held_of
  number_wide = rw (read_take len rest x read, long, exactly x.count len) (go (leb x.count len) refl (eqb len x.count) refl)
    where
      go : (s : Bool) → leb x.count len ≡ s → (t : Bool) → eqb len x.count ≡ t
          → judged t (record { kept = x.value; saved = x.saved }) ≡ pick {A = Result Fault Held} (fills len (pick s (accepted x) (refused 3))) (accepted (holds (pick s (accepted x) (refused 3)))) (refused Misfit)
      go true p true q = rw (eq-eqb x.count len (sym (eqb-true len x.count q)))
      go true p false q = rw (ne_eqb x.count len (λ k. eqb-false len x.count q (sym k)))
      go false p true q = absurd (omega (arith, leb-false x.count len p, eqb-true len x.count q))
      go false p false q = refl

  wide_at : (p i j t : ℕ) (b : Bool) (o : Result Fault Held) → is_simple (kind_at p) ≡ true → i ≡ bool_byte (marked 0x1047ff p) → j ≡ bool_byte (marked 0x70000 p) → t ≡ bool_byte (eqb p 12)
      → b ≡ (leb (get_or (16 * t ∷ x.count ∷ []) i 0) len && leb len (get_or (16 * t ∷ x.count ∷ []) i 0 + 20 * j))
      → o ≡ judged b (record { kept = get_or (a ∷ x.value ∷ []) i 0; saved = get_or (0 ∷ x.saved ∷ []) i 0 }) → o ≡ check_value p a (take len rest)
  unfolding illegal fits held_of
  wide_at p i j t b o s ei ej et eb eo = eo ∙ rw (eb, ei, ej, et, number_told p, cid_told p, token_told p) (go (kind_at p) s)
    where
      go : (k : Kind) → is_simple k ≡ true
          → judged (leb (get_or (16 * bool_byte (is token k) ∷ x.count ∷ []) (bool_byte (is number k)) 0) len && leb len (get_or (16 * bool_byte (is token k) ∷ x.count ∷ []) (bool_byte (is number k)) 0 + 20 * bool_byte (is cid k)))
          (record { kept = get_or (a ∷ x.value ∷ []) (bool_byte (is number k)) 0; saved = get_or (0 ∷ x.saved ∷ []) (bool_byte (is number k)) 0 }) ≡ check_kind k a (take len rest)
      go number s = number_wide
      go flag s = by_length a (take len rest) flag (leb 0 len && leb len 0) refl refl (exactly 0 len ∙ rw long)
      go cid s = by_length a (take len rest) cid (leb 0 len && leb len 20) refl refl (rw (long, leb-zero len))
      go token s = by_length a (take len rest) token (leb 16 len && leb len 16) refl refl (exactly 16 len ∙ rw long)
      go address s = cc
      go versions s = cc
      go reserved s = cc

  -- of two numbers, the one that the test takes
  one_of : (m : Bool) (i u v w : ℕ) → i ≡ bool_byte m → (i ≡ 1 → w ≡ v) → (i ≡ 0 → w ≡ u) → w ≡ get_or (u ∷ v ∷ []) i 0
  one_of true i u v w e one zero = rw e (one e)
  one_of false i u v w e one zero = rw e (zero e)

  -- whatever the code makes of them
  pub wide : (p i j t least kept saved : ℕ) (b : Bool) (o : Result Fault Held) → is_simple (kind_at p) ≡ true → i ≡ bool_byte (marked 0x1047ff p) → j ≡ bool_byte (marked 0x70000 p) → t ≡ bool_byte (eqb p 12)
      → b ≡ (leb least len && leb len (least + 20 * j)) → o ≡ judged b (record { kept = kept; saved = saved })
      → (i ≡ 1 → (least ≡ x.count) × (kept ≡ x.value) × (saved ≡ x.saved)) → (i ≡ 0 → (least ≡ 16 * t) × (kept ≡ a) × (saved ≡ 0)) → o ≡ check_value p a (take len rest)
  wide p i j t least kept saved b o s ei ej et eb eo one zero =
      let m = marked 0x1047ff p in
      let l = one_of m i (16 * t) x.count least ei (λ e. (one e).0) (λ e. (zero e).0) in
      let k = one_of m i a x.value kept ei (λ e. (one e).1) (λ e. (zero e).1) in
      let d = one_of m i 0 x.saved saved ei (λ e. (one e).2) (λ e. (zero e).2) in
      wide_at p i j t b o s ei ej et (eb ∙ ap (λ n. leb n len && leb len (n + 20 * j)) l) (eo ∙ ap (λ n. judged b (record { kept = n; saved = saved })) k ∙ ap (λ n. judged b (record { kept = get_or (a ∷ x.value ∷ []) i 0; saved = n })) d)

-- A VALUE FOR A PLACE
pub for_place : (p : ℕ) (k : Kind) (a : ℕ) (v : List ℕ) (o : Result Fault Held) → kind_at p ≡ k → o ≡ check_kind k a v → o ≡ check_value p a v
for_place p k a v o e h = rw e h

-- no more than there is
pub all_there : (p a n : ℕ) (v : List ℕ) → length v < n → check_value p a (take n v) ≡ check_value p a v
all_there p a n v h = ap (check_value p a) (take_all n v (omega arith))

-- WHAT A VALUE THAT WAS RECEIVED IS
pub record Taken (p a : ℕ) (v : List ℕ) (x : Held) : Type 0 where
  pub fit : fits (kind_at p) v ≡ true
  pub is : x ≡ held_of (kind_at p) a v

pub taken : (met : Bool) (p a : ℕ) (v : List ℕ) (x : Held) → accepted x ≡ receive_value met p a v → Taken p a v x
unfolding receive_value check_kind
taken met p a v x e = go met (illegal (kind_at p) v) (fits (kind_at p) v) refl e
  where
    go : (s i f : Bool) → fits (kind_at p) v ≡ f
        → accepted x ≡ pick {A = Result Fault Held} s (refused SecondCopy) (pick i (refused Illegal) (pick f (accepted (held_of (kind_at p) a v)) (refused Misfit)))
        → Taken p a v x
    go false false true h e = record { fit = h; is = cc }
    go false false false h e = cc
    go false true f h e = cc
    go true i f h e = cc

-- the number that was read of it
pub kept_number : (o : Outcome Decoded) → (holds o).kept ≡ value o
kept_number (accepted a) = refl
kept_number (refused e) = refl

-- no other value that fits is longer than 68 bytes
pub short : (k : Kind) (v : List ℕ) → (k ≡ number → ⊥) → fits k v ≡ true → length v ≤ 68
unfolding fits
short number v n f = absurd (n refl)
short flag v n f = omega (arith, eqb-true (length v) 0 f)
short cid v n f = omega (arith, leb-true (length v) 20 f)
short token v n f = omega (arith, eqb-true (length v) 16 f)
short address v n f = omega (arith, leb-true (id_length v) 20 (all_at _ f 1), eqb-true (length v) (41 + id_length v) (all_at _ f 2))
short versions v n f = leb-true (length v) 68 (all_at _ f 1)
short reserved v n f = cc
