-- The parameters in an order, from parts in catalogue order. Assumes nothing.
--     front_is       bytes at the front, and nothing behind their room
--     front_more     and others behind them
--     part_room      the part of the next place has room
--     ordered_more   one more place
--     ordered_all    all places
--     part_is        each part is what is due at its place
--     ordered        so that together they are the extension in that order
--     in_order       each place has its part
use Prim.Native.Nat.{ℕ, zero, suc, ◌+◌, ◌-◌, ◌≤◌, ◌<◌}
use mathlib.Core.List.{List, [], ◌∷◌, ◌++◌, append_assoc, append-nil}
use mathlib.Core.Path.{◌≡◌, refl, ap, ap₂, sym, ◌∙◌}
use mathlib.Core.Bool.{Bool, true, false}
use native.Mathlib.Omega.{arith}
use native.Mathlib.Nat.{add-zero, zero-add}
use native.Mathlib.Numerals.{add-one}
use lib.ListN.{length, get_or, take, drop, set, replicate, length-append, length-take, length-drop, take-append-drop, get_or-append}
use lib.Seq.{length-take-le, take_all, take-suc, take_at, take-append-add, take-take, take-add, drop-drop, split_at, take-append_seam, drop-append-add, get_or_at, sets, sets-eq, paste}
use borrow.Author.Tests.{eqb-true, eqb-false}
use lib.Dec.{eqb}
use Rattle.std.proofs.lemmas.List.{take_rest}
use Rattle.refusal.specs.Outcome.{front}
use Rattle.refusal.proofs.Laws.{all_at}
use Rattle.record.specs.declared.TransportParameters.{TransportParameters}
use Rattle.catalogue.specs.Catalogue.{places}
use Rattle.writer.specs.Writing.{concat_of, parameter_at, extension, max_extension}
use Rattle.order.specs.Order.{distinct, permutation}
use Rattle.wire.specs.Stored.{Wrote, joined, each}
use Rattle.writer.specs.Laid.{ends_from, part_at, InOrder, Fit, Front}
use Rattle.order.proofs.Orders.{first}
use Rattle.wire.proofs.Stored.{lent, back, whole, length_lent, wrote_length, joined_append, length_each}
use Rattle.writer.proofs.Laid.{Whole, length_ends}

-- AN ORDER, PLACE BY PLACE
concat_append : (f : ℕ → List ℕ) (xs ys : List ℕ) → concat_of f (xs ++ ys) ≡ concat_of f xs ++ concat_of f ys
concat_append f [] ys = refl
concat_append f (x ∷ xs) ys = ap (λ (l : List ℕ). f x ++ l) (concat_append f xs ys) ∙ sym (append_assoc (f x) (concat_of f xs) (concat_of f ys))

module _ (f : ℕ → List ℕ) (os : List ℕ) (k : ℕ) (h : k < length os) where
  concat_more : concat_of f (take (k + 1) os) ≡ concat_of f (take k os) ++ f (get_or os k 0)
  concat_more =
      ap (λ (n : ℕ). concat_of f (take n os)) (add-one k)
      ∙ ap (concat_of f) (take-suc os k 0 h)
      ∙ concat_append f (take k os) (get_or os k 0 ∷ [])
      ∙ ap (λ (l : List ℕ). concat_of f (take k os) ++ l) (append-nil (f (get_or os k 0)))

  pub concat_le : length (concat_of f (take k os)) + length (f (get_or os k 0)) ≤ length (concat_of f os)
  concat_le =
      let e : concat_of f os ≡ concat_of f (take k os) ++ (f (get_or os k 0) ++ concat_of f (drop (suc k) os)) = ap (concat_of f) (split_at os k 0 h) ∙ concat_append f (take k os) (get_or os k 0 ∷ drop (suc k) os) in
      let l = simp length-append at (ap length e) in
      omega arith

-- THE FRONT OF A BUFFER, AND NOTHING BEHIND THE ROOM
-- bytes stored whole
pub front_is : (j room : ℕ) (bs l ys : List ℕ) → j ≤ length bs → j ≤ room → room ≤ length l → ys ≡ front (take j bs) l → Front j room bs l ys
unfolding front
front_is j room bs l ys h r k e =
    let n : length (take j bs) ≡ j = length-take-le j bs h in
    let z : j + (room - j) ≡ room = omega arith in
    let d : drop room (take j bs ++ drop j l) ≡ drop room l =
    rw (n, z) at (drop-append-add (take j bs) (drop j l) (room - j)) ∙ drop-drop (room - j) j l ∙ ap (λ (q : ℕ). drop q l) z in
    let q : ys ≡ take j bs ++ drop j l = rw n at e in
    record { bytes = rw q (take_at (take j bs) (drop j l) j n); rest = rw q d; same = rw q (simp (length-append, length-drop) (omega arith)) }

-- others behind them
module _ (i j room : ℕ) (a bs out m ys : List ℕ) (t : take i m ≡ a) (d : drop room m ≡ drop room out) (n : length m ≡ length out) (h : i ≤ room) (k : room ≤ length out)
    (f : Front j (room - i) bs (lent i m) ys) where
  long : length (take i m) ≡ i
  long = length-take-le i m (omega arith)

  pub front_more : Front (i + j) room (a ++ take j bs) out (back i m ys)
  front_more =
      let z : i + (room - i) ≡ room = omega arith in
      let b : take (i + j) (take i m ++ ys) ≡ a ++ take j bs = rw (← t, ← f.bytes) (rw long at (take-append-add (take i m) ys j)) in
      let e : drop room (take i m ++ ys) ≡ drop (room - i) ys = rw z at (rw long at (drop-append-add (take i m) ys (room - i))) in
      let g : drop (room - i) (lent i m) ≡ drop room m = rw (take_rest m i, drop-drop, z) in
      let y : length ys ≡ length m - i = f.same ∙ length_lent i m in
      record {
        bytes = rw (whole i m ys, b) (sym (take_all (i + j) (a ++ take j bs) (short (i + j) (take i m ++ ys) (a ++ take j bs) b)));
        rest = rw (whole i m ys) (e ∙ f.rest ∙ g ∙ d);
        same = rw (whole i m ys, length-append) (omega (arith, long));
      }
    where
      short : (q : ℕ) (u v : List ℕ) → take q u ≡ v → length v ≤ q
      short q u v e = omega (arith, ap length e, length-take q u)

-- a part, given its end
pub slice_front : (from len : ℕ) (parts out ys : List ℕ) → ys ≡ front (take (from + len - from) (drop from parts)) out → ys ≡ front (take len (drop from parts)) out
slice_front from len parts out ys e =
    let z : from + len - from ≡ len = omega arith in
    rw z at e

-- one more block, and no more than asked for
pub block_more : (i room : ℕ) (part out m ys : List ℕ) → Front i room part out m → i + 16 ≤ room → room ≤ length out → i + 16 ≤ length part
    → ys ≡ front (take 16 (drop i part)) (lent i m) → Front (i + 16) room part out (back i m ys)
block_more i room part out m ys w h k l e =
    let r : room - i ≤ length (lent i m) = rw (length_lent i m, w.same) (omega arith) in
    let f = front_is 16 (room - i) (drop i part) (lent i m) ys (omega (arith, length-drop i part)) (omega arith) r e in
    let g = front_more i 16 room (take i part) (drop i part) out m ys w.bytes w.rest w.same (omega arith) k f in
    let q : take i part ++ take 16 (drop i part) ≡ take (i + 16) part = sym (take-add i 16 part) in
    record { bytes = g.bytes ∙ ap (take (i + 16)) q ∙ take-take (i + 16) (i + 16) part (omega arith); rest = g.rest; same = g.same }

pub front_less : (len i room : ℕ) (bs out m : List ℕ) → len ≤ i → Front i room bs out m → Front len room bs out m
front_less len i room bs out m h w =
    record { bytes = sym (take-take len i m h) ∙ ap (take len) w.bytes ∙ take-take len i bs h; rest = w.rest; same = w.same }

-- one more place
module _ (f : ℕ → List ℕ) (os : List ℕ) (k : ℕ) (h : k < length os) where
  pub ordered_more : (p at len room : ℕ) (bs out m ys : List ℕ) → room ≤ length out → at ≡ length (concat_of f (take k os)) → Front at room (concat_of f (take k os)) out m
      → at + len ≤ room → p ≡ get_or os k 0 → f p ≡ take len bs → len ≤ length bs → Front len (room - at) bs (lent at m) ys
      → (at + len ≡ length (concat_of f (take (k + 1) os))) × Front (at + len) room (concat_of f (take (k + 1) os)) out (back at m ys)
  ordered_more p at len room bs out m ys l c w r i q b g =
      let t : take at m ≡ concat_of f (take k os) = w.bytes ∙ take_all at (concat_of f (take k os)) (omega arith) in
      let e : concat_of f (take k os) ++ take len bs ≡ concat_of f (take (k + 1) os) = rw (← q, i) (sym (concat_more f os k h)) in
      let n : length (take len bs) ≡ len = length-take-le len bs b in
      (rw (← e, length-append) (omega arith), rw (← e) (front_more at len room (concat_of f (take k os)) bs out m ys t w.rest w.same (omega arith) l g))

-- all of them
pub ordered_all : (n k : ℕ) (bs out m : List ℕ) → n ≡ length bs → n ≤ length out → k ≡ n → Front k n bs out m → Wrote (length out) bs out k m
unfolding front
ordered_all n k bs out m e h z w =
    let t : take n m ≡ bs = rw z at w.bytes ∙ take_all n bs (omega arith) in
    record { count = z ∙ e; few = omega arith; bytes = sym (take-append-drop n m) ∙ rw (t, w.rest, e) }

-- the part of a place
pub record Part (starts parts : List ℕ) (n p at : ℕ) : Type 0 where
  pub place : p < places
  pub forward : get_or starts p 0 ≤ get_or starts (p + 1) 0
  pub within : get_or starts (p + 1) 0 + 16 ≤ length parts
  pub room : at + (get_or starts (p + 1) 0 - get_or starts p 0) ≤ n

pub part_room : (starts parts os : List ℕ) (n k p at : ℕ) → InOrder os starts parts → n ≡ length (concat_of (part_at starts parts) os) → k < places → at ≡ length (concat_of (part_at starts parts) (take k os))
    → p ≡ get_or os k 0 → Part starts parts n p at
unfolding part_at
part_room starts parts os n k p at o r h c e =
    let i : p < places = rw e (o.each_place k h) in
    let t = o.each_part p i in
    let l : length (part_at starts parts p) ≡ get_or starts (p + 1) 0 - get_or starts p 0 = length-take-le (get_or starts (p + 1) 0 - get_or starts p 0) (drop (get_or starts p 0) parts) (omega (arith, length-drop (get_or starts p 0) parts)) in
    let g : length (concat_of (part_at starts parts) (take k os)) + length (part_at starts parts p) ≤ length (concat_of (part_at starts parts) os) = rw e (concat_le (part_at starts parts) os k (omega (arith, o.long))) in
    record { place = i; forward = t.0; within = t.1; room = omega arith }

pub part_long : (starts parts : List ℕ) (n p at : ℕ) → Part starts parts n p at → get_or starts (p + 1) 0 - get_or starts p 0 ≤ length (drop (get_or starts p 0) parts)
part_long starts parts n p at x = omega (arith, x.forward, x.within, length-drop (get_or starts p 0) parts)

-- what is lent of z bytes from one on is all there
pub part_rest : (parts : List ℕ) (z from : ℕ) → length parts ≡ z → take (z - from) (drop from parts) ≡ drop from parts
part_rest parts z from e = take_all (z - from) (drop from parts) (omega (arith, length-drop from parts))

-- a part and its room
pub fit : (starts parts m : List ℕ) (n p at : ℕ) → n ≤ length m → Part starts parts n p at
    → Fit (get_or starts (p + 1) 0 - get_or starts p 0) (n - at) (drop (get_or starts p 0) parts) (lent at m)
fit starts parts m n p at h x =
    record { there = omega (arith, x.forward, x.within, length-drop (get_or starts p 0) parts); small = omega (arith, x.room); within = rw (length_lent at m) (omega arith) }

-- WHERE THE PARTS ARE
starts_at : (b : ℕ) (ss : List (List ℕ)) (p : ℕ) → p ≤ length ss → get_or (b ∷ ends_from b ss) p 0 ≡ b + length (joined (take p ss))
unfolding joined ends_from
starts_at b ss zero h = sym (add-zero b)
starts_at b [] (suc p) h = absurd (omega arith)
starts_at b (s ∷ ss) (suc p) h = starts_at (b + length s) ss p (omega arith) ∙ rw (length-append s (joined (take p ss))) (omega arith)

part_in : (ss : List (List ℕ)) (tail : List ℕ) (p : ℕ) → p < length ss → take (length (get_or ss p [])) (drop (length (joined (take p ss))) (joined ss ++ tail)) ≡ get_or ss p []
unfolding joined
part_in [] tail p h = absurd (omega arith)
part_in (s ∷ ss) tail zero h = rw (append_assoc s (joined ss) tail) (take-append_seam s (joined ss ++ tail))
part_in (s ∷ ss) tail (suc p) h =
    rw (append_assoc s (joined ss) tail, length-append s (joined (take p ss)), drop-append-add s (joined ss ++ tail) (length (joined (take p ss))))
    (part_in ss tail p (omega arith))

-- the places up to p, and p
ends_more : (ss : List (List ℕ)) (p : ℕ) → p < length ss → length (joined (take (p + 1) ss)) ≡ length (joined (take p ss)) + length (get_or ss p [])
unfolding joined
ends_more ss p h = rw (add-one, take-suc ss p [] h, joined_append, append-nil (get_or ss p [])) (length-append (joined (take p ss)) (get_or ss p []))

prefix_le : (ss : List (List ℕ)) (p : ℕ) → length (joined (take p ss)) ≤ length (joined ss)
prefix_le ss p =
    let e : joined ss ≡ joined (take p ss) ++ joined (drop p ss) = ap joined (sym (take-append-drop p ss)) ∙ joined_append (take p ss) (drop p ss) in
    let l = simp length-append at (ap length e) in
    omega arith

each_at : (f : ℕ → List ℕ) (n p : ℕ) → p < n → get_or (each f n) p [] ≡ f p
unfolding each
each_at f zero p h = absurd (omega arith)
each_at f (suc n) p h = go (eqb p n) refl (each_at f n p)
  where
    go : (b : Bool) → eqb p n ≡ b → (p < n → get_or (each f n) p [] ≡ f p) → get_or (each f n ++ (f n ∷ [])) p [] ≡ f p
    go true e ih = let q = eqb-true p n e in rw q (get_or_at (each f n) (f n) [] [] n (length_each f n))
    go false e ih =
        let q = eqb-false p n e in
        let i : p < n = omega arith in
        get_or-append (each f n) (f n ∷ []) [] p (omega (arith, length_each f n)) ∙ ih i

-- the places noted, from none
noted_from : (ss : List (List ℕ)) → length ss ≡ places → sets (replicate (places + 1) 0) 1 (ends_from 0 ss) ≡ 0 ∷ ends_from 0 ss
noted_from ss h =
    let e : length (ends_from 0 ss) ≡ places = length_ends 0 ss ∙ h in
    sets-eq (ends_from 0 ss) (replicate (places + 1) 0) 1 (omega arith) ∙ rw (e, append-nil (0 ∷ ends_from 0 ss))

-- a part is what is due at its place
record Due (f : ℕ → List ℕ) (starts parts : List ℕ) (p : ℕ) : Type 0 where
  pub forward : get_or starts p 0 ≤ get_or starts (p + 1) 0
  pub within : get_or starts (p + 1) 0 + 16 ≤ length parts
  pub same : part_at starts parts p ≡ f p

part_is : (f : ℕ → List ℕ) (n : ℕ) (out m st : List ℕ) → max_extension + 16 ≤ length out → Whole (each f places) out (replicate (places + 1) 0) n m st → (p : ℕ) → p < places
    → Due f st m p
unfolding part_at front
part_is f n out m st h x p k =
    let ss = each f places in
    let l : length ss ≡ places = length_each f places in
    let e : st ≡ 0 ∷ ends_from 0 ss = x.noted ∙ noted_from ss l in
    let a : get_or st p 0 ≡ length (joined (take p ss)) = rw e (starts_at 0 ss p (omega arith) ∙ zero-add _) in
    let b : get_or st (p + 1) 0 ≡ length (joined (take (p + 1) ss)) = rw e (starts_at 0 ss (p + 1) (omega arith) ∙ zero-add _) in
    let d = ends_more ss p (omega arith) in
    let g = prefix_le ss (p + 1) in
    let c = x.wrote.count in
    let w = wrote_length max_extension n (joined ss) out m (omega arith) x.wrote in
    let i : get_or st (p + 1) 0 - get_or st p 0 ≡ length (get_or ss p []) = omega arith in
    record {
      forward = omega arith;
      within = omega (arith, x.wrote.few);
      same = rw (i, a, x.wrote.bytes) (part_in ss (drop (length (joined ss)) out) p (omega arith)) ∙ each_at f places p k;
    }

concat_same : (f g : ℕ → List ℕ) (os : List ℕ) → ((k : ℕ) → k < length os → f (get_or os k 0) ≡ g (get_or os k 0)) → concat_of f os ≡ concat_of g os
concat_same f g [] h = refl
concat_same f g (p ∷ os) h = ap₂ ◌++◌ (h 0 (omega arith)) (concat_same f g os (λ k i. h (suc k) (omega arith)))

distinct_places : (os : List ℕ) → distinct os ≡ true → (k : ℕ) → k < length os → get_or os k 0 < places
distinct_places [] d k h = absurd (omega arith)
distinct_places (p ∷ os) d zero h = (first p os d).below
distinct_places (p ∷ os) d (suc k) h = distinct_places os (first p os d).more k (omega arith)

ordered_length : (os : List ℕ) → permutation os ≡ true → length os ≡ places
unfolding permutation
ordered_length os h = eqb-true _ _ (all_at _ h 0)

ordered_place : (os : List ℕ) → permutation os ≡ true → (k : ℕ) → k < places → get_or os k 0 < places
unfolding permutation
ordered_place os h k i = distinct_places os (all_at _ h 1) k (rw (ordered_length os h) i)

pub ordered : (r : TransportParameters) (os : List ℕ) (n : ℕ) (out m st : List ℕ) → permutation os ≡ true → max_extension + 16 ≤ length out
    → Whole (each (parameter_at r) places) out (replicate (places + 1) 0) n m st → concat_of (part_at st m) os ≡ extension r os
unfolding extension
ordered r os n out m st h l x =
    concat_same (part_at st m) (parameter_at r) os (λ k i. (part_is (parameter_at r) n out m st l x (get_or os k 0) (ordered_place os h k (rw (ordered_length os h) at i))).same)

pub in_order : (r : TransportParameters) (os : List ℕ) (n : ℕ) (out m st : List ℕ) → permutation os ≡ true → max_extension + 16 ≤ length out
    → Whole (each (parameter_at r) places) out (replicate (places + 1) 0) n m st → InOrder os st m
in_order r os n out m st h l x =
    record {
      long = ordered_length os h;
      each_place = ordered_place os h;
      each_part = λ p i. let d = part_is (parameter_at r) n out m st l x p i in (d.forward, d.within);
    }
