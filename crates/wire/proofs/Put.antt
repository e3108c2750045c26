-- Laws of `put`, and of the parameters that are due. Assumes nothing.
--     put_whole, put_none, put_nil    with room, without, and of no bytes
--     put_copied                bytes copied
--     put_wrote, stored         with room for the most there can be, a writer leaves what is due
--     put_within, put_behind    never more than the buffer holds
--     encoded, declined         what writing a number gives
--     not_due, is_due, number_not_due, number_is_due    a parameter that is due or not
--     value_off, number_off     of one that is not, nothing is stored
--     short_none, short_whole, short_put, number_none, number_few, number_declined, number_whole
--       identifiers and lengths of one byte
--     too_high, kept_low, kept_part, kept_within    a number that was declined, and one that was
--       stored
--     head_first, head_room, head_second, head_count, head_whole, long_nothing, long_none,
--       long_whole    and of any
use Prim.Native.Nat.{ℕ, ◌+◌, ◌≤◌, ◌<◌}
use mathlib.Core.List.{List, [], ◌∷◌, ◌++◌, append_assoc}
use mathlib.Core.Option.{none, some}
use mathlib.Core.Path.{◌≡◌, refl, ap, ap₂, sym, ◌∙◌}
use mathlib.Core.Bool.{Bool, true, false, ◌&&◌, and-false, and-true}
use native.Mathlib.Omega.{arith}
use native.Mathlib.Nat.{zero-add, div-one}
use lib.ListN.{length, take, drop, set, length-append, length-take}
use lib.Seq.{take-append_seam, paste}
use lib.Dec.{ltb, leb}
use borrow.Author.Tests.{lt-ltb, le-ltb, le-leb, lt-leb, ltb-true, ltb-false, leb-true, leb-false}
use Rattle.refusal.specs.Outcome.{Outcome, accepted, refused, pick, front, store}
use Rattle.varint.specs.Number.{bound, form, tag_of, number_bytes, write_number}
use Rattle.varint.proofs.Bytes.{tag_0, tag_le, length_form, width_range}
use Rattle.catalogue.specs.Catalogue.{parameter, parameter_if}
use Rattle.wire.specs.Wire.{put, head_of, Headed, due_value, due_number}
use Rattle.wire.specs.Stored.{Wrote}
use Rattle.wire.proofs.Stored.{lent, back, whole, back_same, length_lent, front_nil, front_paste, front_then, front_two, length_front, behind}

-- STORING
pub put_whole : (n : ℕ) (bs out m : List ℕ) → length bs ≤ length out → n ≡ length bs → m ≡ front bs out → (n, m) ≡ put bs out
unfolding put
put_whole n bs out m h e f = rw (le-leb _ _ h) (ap₂ (λ (k : ℕ) (l : List ℕ). (k, l)) e f)

pub put_none : (bs out : List ℕ) → length out < length bs → (0, out) ≡ put bs out
unfolding put
put_none bs out h = rw (lt-leb _ _ h)

pub put_nil : (out : List ℕ) → (0, out) ≡ put [] out
put_nil out = put_whole 0 [] out out (omega arith) refl (sym (front_nil out))

-- copied to the front
pub put_copied : (bs out m : List ℕ) (i : ℕ) → length bs ≤ length out → i ≡ length bs → m ≡ paste out 0 bs i → (length bs, m) ≡ put bs out
put_copied bs out m i h k e = put_whole (length bs) bs out m h refl (e ∙ front_paste bs out i k)

pub put_wrote : (most n : ℕ) (bs out m : List ℕ) → length bs ≤ most → most ≤ length out → (n, m) ≡ put bs out → Wrote most bs out n m
put_wrote most n bs out m h k e =
    let q : ◌≡◌ {A = ℕ × List ℕ} (n, m) (length bs, front bs out) = e ∙ sym (put_whole (length bs) bs out (front bs out) (omega arith) refl refl) in
    let c : n ≡ length bs = ap (λ (p : ℕ × List ℕ). p.0) q in
    record { count = c; few = omega arith; bytes = ap (λ (p : ℕ × List ℕ). p.1) q }

pub put_within : (bs out : List ℕ) → ((put bs out).0 ≤ length out) × (length (put bs out).1 ≡ length out)
unfolding put
put_within bs out = go (leb (length bs) (length out)) refl
  where
    answer : Bool → ℕ × List ℕ
    answer t = pick t (length bs, front bs out) (0, out)

    go : (t : Bool) → leb (length bs) (length out) ≡ t → ((answer t).0 ≤ length out) × (length (answer t).1 ≡ length out)
    go true l = let k = leb-true (length bs) (length out) l in (k, length_front bs out k)
    go false l = (omega arith, refl)

-- in the part lent from a place on
pub record Behind (at n : ℕ) (out m : List ℕ) : Type 0 where
  pub within : at + n ≤ length (back at out m)
  pub same : length (back at out m) ≡ length out

pub put_behind : (at n : ℕ) (bs out m : List ℕ) → at ≤ length out → (n, m) ≡ put bs (lent at out) → Behind at n out m
put_behind at n bs out m h e =
    let w = put_within bs (lent at out) in
    let p : n ≡ (put bs (lent at out)).0 = ap (λ (q : ℕ × List ℕ). q.0) e in
    let q : length m ≡ length (put bs (lent at out)).1 = ap (λ (q : ℕ × List ℕ). length q.1) e in
    let l = length_lent at out in
    let z : length (back at out m) ≡ length out = rw (whole at out m, length-append, length-take) (omega arith) in
    record { within = omega arith; same = z }

-- NUMBERS
pub number_size_lem : (x : ℕ) → (1 ≤ length (number_bytes x)) × (length (number_bytes x) ≤ 8)
number_size_lem x = rw (length_form (tag_of x) x (tag_le x)) (width_range (tag_of x) (tag_le x))

pub number_fits : (x n : ℕ) → n ≡ length (number_bytes x) → n ≤ 8
number_fits x n e = omega (arith, number_size_lem x)

-- what writing a number gives: its bytes, or nothing
pub record Encoded (x : ℕ) (out : List ℕ) (n : ℕ) (m : List ℕ) : Type 0 where
  pub low : x < bound
  pub fits : length (number_bytes x) ≤ length out
  pub count : n ≡ length (number_bytes x)
  pub bytes : m ≡ front (number_bytes x) out

pub record Declined (x : ℕ) (out m : List ℕ) : Type 0 where
  pub same : m ≡ out
  pub why : x < bound → length out < length (number_bytes x)

module _ (x : ℕ) (out : List ℕ) where
  abbrev pub Gives : Outcome ℕ → List ℕ → Type 0
  Gives o m = ◌≡◌ {A = Outcome ℕ × List ℕ} (o, m) (write_number x out)

  abbrev answer : Bool → Bool → Outcome ℕ × List ℕ
  answer s t = pick s (pick t (accepted (length (number_bytes x)), front (number_bytes x) out) (refused 5, out)) (refused 4, out)

  pub encoded : (n : ℕ) (m : List ℕ) → Gives (accepted n) m → Encoded x out n m
  unfolding write_number store
  encoded n m w = go (ltb x bound) refl (leb (length (number_bytes x)) (length out)) refl (ap (λ (a : Outcome ℕ × List ℕ). a.0) w) (ap (λ (a : Outcome ℕ × List ℕ). a.1) w)
    where
      go : (s : Bool) → ltb x bound ≡ s → (t : Bool) → leb (length (number_bytes x)) (length out) ≡ t → accepted n ≡ (answer s t).0 → m ≡ (answer s t).1 → Encoded x out n m
      go true p true q f g = record { low = ltb-true _ _ p; fits = leb-true _ _ q; count = cc; bytes = g }
      go true p false q f g = cc
      go false p t q f g = cc

  pub declined : (r : ℕ) (m : List ℕ) → Gives (refused r) m → Declined x out m
  unfolding write_number store
  declined r m w = go (ltb x bound) refl (leb (length (number_bytes x)) (length out)) refl (ap (λ (a : Outcome ℕ × List ℕ). a.0) w) (ap (λ (a : Outcome ℕ × List ℕ). a.1) w)
    where
      go : (s : Bool) → ltb x bound ≡ s → (t : Bool) → leb (length (number_bytes x)) (length out) ≡ t → refused r ≡ (answer s t).0 → m ≡ (answer s t).1 → Declined x out m
      go true p true q f g = cc
      go true p false q f g = record { same = g; why = λ h. leb-false _ _ q }
      go false p t q f g = record { same = g; why = λ h. absurd (omega (arith, ltb-false x bound p)) }

-- one byte for the identifier, and one for the length
pub one_byte : (x : ℕ) → x < 64 → number_bytes x ≡ x ∷ []
unfolding form
one_byte x h = rw (tag_0 x h, div-one, zero-add)

pub short_form : (id : ℕ) (v : List ℕ) → id < 64 → length v < 64 → parameter id v ≡ id ∷ length v ∷ v
unfolding parameter
short_form id v h k = rw (one_byte id h, one_byte (length v) k)

-- WHAT IS DUE
pub not_due : (id : ℕ) (v : List ℕ) (due : Bool) → due ≡ false → due_value due id v ≡ []
unfolding due_value
not_due id v due e = rw e

pub is_due : (id : ℕ) (v : List ℕ) (due : Bool) → id < bound → length v < bound → due_value due id v ≡ parameter_if id (pick due (some v) none)
unfolding due_value
is_due id v due h k = go due
  where
    go : (b : Bool) → pick (b && (ltb id bound && ltb (length v) bound)) (parameter id v) [] ≡ parameter_if id (pick b (some v) none)
    go true = rw (lt-ltb _ _ h, lt-ltb _ _ k)
    go false = refl

pub number_not_due : (id x : ℕ) (due : Bool) → due ≡ false → due_number due id x ≡ []
unfolding due_number due_value
number_not_due id x due e = rw e

-- so nothing is stored
pub value_off : (due : Bool) (id : ℕ) (v out : List ℕ) → due ≡ false → (0, out) ≡ put (due_value due id v) out
value_off due id v out e = rw (not_due id v due e) (put_nil out)

pub number_off : (due : Bool) (id x : ℕ) (out : List ℕ) → due ≡ false → (0, out) ≡ put (due_number due id x) out
number_off due id x out e = rw (number_not_due id x due e) (put_nil out)

pub number_high : (id x : ℕ) → bound ≤ x → due_number true id x ≡ []
unfolding due_number due_value
number_high id x h = rw (le-ltb _ _ h)

pub number_low : (id x : ℕ) → x < bound → due_number true id x ≡ due_value true id (number_bytes x)
unfolding due_number
number_low id x h = rw (lt-ltb _ _ h)

pub number_is_due : (id x : ℕ) (due : Bool) → id < bound → x < bound → due_number due id x ≡ parameter_if id (pick due (some (number_bytes x)) none)
unfolding due_number
number_is_due id x due h k = rw (lt-ltb _ _ k, and-true due) (is_due id (number_bytes x) due h (omega (arith, number_size_lem x)))

-- one byte for the identifier, and one for the length
pub due_short : (id : ℕ) (v : List ℕ) → id < 64 → length v < 64 → due_value true id v ≡ parameter id v
due_short id v h k = is_due id v true (omega arith) (omega arith)

-- what is stored where there is room
pub stored : (n : ℕ) (bs out m : List ℕ) → length bs ≤ length out → (n, m) ≡ put bs out → m ≡ front bs out
stored n bs out m h e = (put_wrote (length out) n bs out m h (omega arith) e).bytes

module _ (id : ℕ) (v out : List ℕ) (h : id < 64) (k : length v < 64) where
  pub short_none : length out < length v + 2 → (0, out) ≡ put (parameter id v) out
  short_none l = rw (short_form id v h k) (put_none (id ∷ length v ∷ v) out (omega arith))

  pub short_whole : (n : ℕ) (ys : List ℕ) → length v + 2 ≤ length out → n ≡ length v → ys ≡ front v (lent 2 out)
      → (n + 2, set (set (back 2 out ys) 0 id) 1 n) ≡ put (parameter id v) out
  short_whole n ys l e f =
      rw (short_form id v h k)
      (put_whole (n + 2) (id ∷ length v ∷ v) out _ (omega arith) (omega arith) (rw e (front_two id (length v) v out ys (omega arith) f)))

  pub short_put : (n : ℕ) (ys : List ℕ) → length v + 2 ≤ length out → (n, ys) ≡ put v (lent 2 out)
      → (length v + 2, set (set (back 2 out ys) 0 id) 1 (length v)) ≡ put (parameter id v) out
  short_put n ys l e = short_whole (length v) ys l refl (stored n v (lent 2 out) ys (behind (length v) 2 out (omega arith)) e)

module _ (id x : ℕ) (out : List ℕ) (h : id < 64) where
  short_number : x < bound → due_number true id x ≡ parameter id (number_bytes x)
  short_number k = number_low id x k ∙ due_short id (number_bytes x) h (omega (arith, number_size_lem x))

  pub number_none : length out < length (number_bytes x) + 2 → (0, out) ≡ put (due_number true id x) out
  number_none l = go (ltb x bound) refl
    where
      go : (b : Bool) → ltb x bound ≡ b → (0, out) ≡ put (due_number true id x) out
      go true e = rw (short_number (ltb-true _ _ e)) (short_none id (number_bytes x) out h (omega (arith, number_size_lem x)) l)
      go false e = rw (number_high id x (ltb-false _ _ e)) (put_nil out)

  pub number_few : length out < 2 → (0, out) ≡ put (due_number true id x) out
  number_few l = number_none (omega arith)

  pub number_declined : (r : ℕ) (ys : List ℕ) → 2 ≤ length out → ◌≡◌ {A = Outcome ℕ × List ℕ} (refused r, ys) (write_number x (lent 2 out))
      → (0, back 2 out ys) ≡ put (due_number true id x) out
  number_declined r ys l w = go (ltb x bound) refl
    where
      d : Declined x (lent 2 out) ys
      d = declined x (lent 2 out) r ys w

      same : back 2 out ys ≡ out
      same = rw d.same (back_same 2 out)

      go : (b : Bool) → ltb x bound ≡ b → (0, back 2 out ys) ≡ put (due_number true id x) out
      go true e = rw same (number_none (omega (arith, d.why (ltb-true x bound e), length_lent 2 out)))
      go false e = rw (same, number_high id x (ltb-false _ _ e)) (put_nil out)

  pub number_whole : (n : ℕ) (ys : List ℕ) → 2 ≤ length out → ◌≡◌ {A = Outcome ℕ × List ℕ} (accepted n, ys) (write_number x (lent 2 out))
      → (n + 2, set (set (back 2 out ys) 0 id) 1 n) ≡ put (due_number true id x) out
  number_whole n ys l w =
      let e = encoded x (lent 2 out) n ys w in
      rw (short_number e.low)
      (short_whole id (number_bytes x) out h (omega (arith, number_size_lem x)) n ys (omega (arith, e.fits, length_lent 2 out)) e.count e.bytes)

-- ANY IDENTIFIER AND LENGTH
no_head : (id n : ℕ) → (ltb id bound && ltb n bound) ≡ false → head_of id n ≡ []
unfolding head_of
no_head id n e = rw e

high_first : (id n : ℕ) → bound ≤ id → head_of id n ≡ []
high_first id n h = no_head id n (rw (le-ltb _ _ h))

high_second : (id n : ℕ) → bound ≤ n → head_of id n ≡ []
high_second id n h = no_head id n (rw (le-ltb _ _ h) (and-false (ltb id bound)))

-- with room for any number, one that is declined is too large
pub too_high : (x r : ℕ) (out m : List ℕ) → 8 ≤ length out → Gives x out (refused r) m → bound ≤ x
too_high x r out m h w = go (ltb x bound) refl
  where
    go : (b : Bool) → ltb x bound ≡ b → bound ≤ x
    go true e = absurd (omega (arith, (declined x out r m w).why (ltb-true x bound e), number_size_lem x))
    go false e = ltb-false _ _ e

-- one that is stored is the first n bytes
module _ (x n : ℕ) (out m : List ℕ) (w : Gives x out (accepted n) m) where
  kept : Encoded x out n m
  kept = encoded x out n m w

  pub kept_low : x < bound
  kept_low = kept.low

  pub kept_part : take n m ≡ number_bytes x
  unfolding front
  kept_part = let e = kept in rw (e.bytes, e.count) (take-append_seam (number_bytes x) (drop (length (number_bytes x)) out))

  pub kept_within : (n ≤ length m) × (n ≡ length (take n m))
  kept_within = (omega (arith, length-take n m, ap length kept_part, kept.count), kept.count ∙ ap length (sym kept_part))

module _ (id n : ℕ) (out : List ℕ) (h : 16 ≤ length out) where
  pub head_first : (r : ℕ) (m : List ℕ) → Gives id out (refused r) m → head_of id n ≡ []
  head_first r m w = high_first id n (too_high id r out m (omega arith) w)

  module _ (a : ℕ) (m : List ℕ) (w : Gives id out (accepted a) m) where
    first : Encoded id out a m
    first = encoded id out a m w

    pub head_room : (a ≤ 8) × (length m ≡ length out)
    head_room = let e = first in (omega (arith, e.count, number_size_lem id), ap length e.bytes ∙ length_front (number_bytes id) out e.fits)

    pub head_second : (r : ℕ) (ys : List ℕ) → Gives n (lent a m) (refused r) ys → head_of id n ≡ []
    head_second r ys v = high_second id n (too_high n r (lent a m) ys (behind 8 a m (omega (arith, head_room.0, head_room.1))) v)

    pub head_count : (b : ℕ) (ys : List ℕ) → Gives n (lent a m) (accepted b) ys → a + b ≤ 16
    head_count b ys v = omega (arith, head_room.0, number_fits n b (encoded n (lent a m) b ys v).count)

    pub head_whole : (b : ℕ) (ys : List ℕ) → Gives n (lent a m) (accepted b) ys → Headed id n (a + b) (back a m ys)
    unfolding head_of front
    head_whole b ys v =
        let e = first in
        let f = encoded n (lent a m) b ys v in
        let bs : List ℕ = number_bytes id ++ number_bytes n in
        let l : a + b ≡ length bs = rw (length-append (number_bytes id) (number_bytes n)) (omega (arith, e.count, f.count)) in
        let r : length (number_bytes id) + length (number_bytes n) ≤ length out = omega (arith, number_size_lem id, number_size_lem n) in
        let t : back a m ys ≡ front bs out = front_then (number_bytes id) (number_bytes n) out m ys a e.count r e.bytes f.bytes in
        let w : head_of id n ≡ bs = rw (lt-ltb _ _ e.low, lt-ltb _ _ f.low) in
        record {
          some = omega (arith, e.count, number_size_lem id);
          count = l ∙ ap length (sym w);
          bytes = rw (w, t, l) (take-append_seam bs (drop (length bs) out));
        }

module _ (id : ℕ) (v : List ℕ) where
  -- a head is there, or nothing is due
  head_or : (P : Type 0) → (head_of id (length v) ≡ [] → due_value true id v ≡ [] → P)
      → (1 ≤ length (head_of id (length v)) → due_value true id v ≡ head_of id (length v) ++ v → P) → P
  unfolding head_of due_value parameter
  head_or P f g = go (ltb id bound && ltb (length v) bound) refl
    where
      bs : List ℕ
      bs = number_bytes id ++ number_bytes (length v)

      long : 1 ≤ length bs
      long = rw (length-append (number_bytes id) (number_bytes (length v))) (omega (arith, number_size_lem id))

      go : (b : Bool) → (ltb id bound && ltb (length v) bound) ≡ b → P
      go true e = g (rw e long) (rw e (sym (append_assoc (number_bytes id) (number_bytes (length v)) v)))
      go false e = f (rw e) (rw e)

  pub long_nothing : (out : List ℕ) → head_of id (length v) ≡ [] → (0, out) ≡ put (due_value true id v) out
  long_nothing out e = head_or _ (λ _ d. rw d (put_nil out)) (λ l _. absurd (omega (arith, ap length e)))

  module _ (n : ℕ) (out head : List ℕ) (e : Headed id (length v) n head) where
    long_due : due_value true id v ≡ head_of id (length v) ++ v
    long_due = head_or _ (λ h _. absurd (omega (arith, e.some, e.count, ap length h))) (λ _ d. d)

    pub long_none : length out < n + length v → (0, out) ≡ put (due_value true id v) out
    long_none l = rw long_due (put_none _ out (rw (length-append (head_of id (length v)) v) (omega (arith, e.count))))

    pub long_whole : (k j : ℕ) (m ys : List ℕ) → n + length v ≤ length out → (k, m) ≡ put (take n head) out → (j, ys) ≡ put v (lent n m)
        → (n + length v, back n m ys) ≡ put (due_value true id v) out
    long_whole k j m ys l p q =
        let bs : List ℕ = take n head in
        let b = e.bytes in
        let c : length bs ≡ n = ap length b ∙ sym e.count in
        let f : m ≡ front bs out = stored k bs out m (omega arith) p in
        let i : length m ≡ length out = ap length f ∙ length_front bs out (omega arith) in
        let g : ys ≡ front v (lent n m) = stored j v (lent n m) ys (behind (length v) n m (omega arith)) q in
        rw (long_due, ← b)
        (put_whole (n + length v) (bs ++ v) out (back n m ys) (rw (length-append bs v) (omega arith)) (rw (length-append bs v) (omega arith))
        (front_then bs v out m ys n (sym c) (omega arith) f g))
