-- Laws of parameters laid one after another. Assumes nothing.
--     laid_next      one more, by the writer that was lent the rest
--     laid_then      some, then others
--     laid_within    never beyond the buffer
--     laid_room      with room for all: where they stand, and where each ends
use Prim.Native.Nat.{ℕ, zero, suc, ◌+◌, ◌-◌, ◌^◌, ◌≤◌, ◌<◌}
use mir.Val.{Fits}
use mir.Syntax.{w64}
use mathlib.Core.List.{List, [], ◌∷◌, ◌++◌, append_assoc, append-nil}
use mathlib.Core.Path.{◌≡◌, refl, ap, ap₂, sym, ◌∙◌, subst}
use mathlib.Core.Bool.{true}
use native.Mathlib.Omega.{arith}
use native.Mathlib.Nat.{add-zero, le_refl}
use native.Mathlib.Numerals.{add-one}
use lib.ListN.{length, take, drop, set, length-append, length-take, length-drop, length-set, take-append-drop}
use lib.Seq.{sets, take_at, drop_at, drop-drop, drop-append-add, drop-append_seam, length-take-le}
use Rattle.std.proofs.lemmas.List.{take_rest}
use Rattle.refusal.specs.Outcome.{front}
use Rattle.catalogue.specs.Catalogue.{places}
use Rattle.wire.specs.Wire.{put}
use Rattle.wire.specs.Stored.{Wrote, joined, each}
use Rattle.wire.proofs.Stored.{lent, back, whole, length_lent, length_front, length_each, joined_append}
use Rattle.wire.proofs.Put.{Behind, put_whole, put_within, put_behind}
use Rattle.writer.specs.Writing.{max_extension}
use Rattle.words.specs.Words.{zeros}
use Rattle.laying.proofs.Wide.{zeros_dropped}
use Rattle.writer.specs.Laid.{laid, ends_from, Room, Next}

pub laid_next : (s : List ℕ) (ss : List (List ℕ)) (k at n : ℕ) (out ys st : List ℕ) → (n, ys) ≡ put s (lent at out)
    → laid (s ∷ ss) k at out st ≡ laid ss (suc k) (at + n) (back at out ys) (set st k (at + n))
unfolding laid
laid_next s ss k at n out ys st e =
    let p : put s (drop at out) ≡ (n, ys) = sym (e ∙ ap (put s) (take_rest out at)) in
    rw (p, whole at out ys)

-- how far a writer goes is a number of the machine
pub fits_behind : {at n : ℕ} {o m : List ℕ} {l : ℕ} → Behind at n o m → length o ≡ l → l < 2 ^ 64 → Fits w64 (at + n)
fits_behind {at} {n} {o} {m} h e k = record { fits = omega (arith, h.within, h.same) }

abbrev pub Laid : Type 0
Laid = ℕ × List ℕ × List ℕ

abbrev on : List (List ℕ) → ℕ → Laid → Laid
on ss k t = laid ss k t.0 t.1 t.2

laid_append : (ss ts : List (List ℕ)) (k at : ℕ) (out st : List ℕ) → laid (ss ++ ts) k at out st ≡ on ts (k + length ss) (laid ss k at out st)
unfolding laid
laid_append [] ts k at out st = rw (add-zero k)
laid_append (s ∷ ss) ts k at out st =
    let e : suc k + length ss ≡ k + suc (length ss) = omega arith in
    laid_append ss ts (suc k) _ _ _ ∙ rw e

pub laid_then : (ss ts : List (List ℕ)) (k i at a : ℕ) (out st o s : List ℕ) → i ≡ k + length ss → (a, o, s) ≡ laid ss k at out st
    → laid ts i a o s ≡ laid (ss ++ ts) k at out st
laid_then ss ts k i at a out st o s h e = rw h (ap (on ts (k + length ss)) e) ∙ sym (laid_append ss ts k at out st)

-- one, by the writer that was lent the rest
pub laid_one : (s : List ℕ) (k at n : ℕ) (out ys st : List ℕ) → (n, ys) ≡ put s (lent at out) → (at + n, back at out ys, set st k (at + n)) ≡ laid (s ∷ []) k at out st
unfolding laid
laid_one s k at n out ys st e = sym (laid_next s [] k at n out ys st e)

-- one more behind the first i
pub laid_more : (f : ℕ → List ℕ) (i k b at n : ℕ) (out st o s o₁ s₁ : List ℕ) → (at, o, s) ≡ laid (each f i) k b out st → (n, o₁, s₁) ≡ laid (f i ∷ []) (k + i) at o s
    → (n, o₁, s₁) ≡ laid (each f (i + 1)) k b out st
unfolding each
laid_more f i k b at n out st o s o₁ s₁ e w =
    let q : k + i ≡ k + length (each f i) = rw (length_each f i) in
    w ∙ laid_then (each f i) (f i ∷ []) k (k + i) b at out st o s q e ∙ rw (add-one i)

-- never beyond the buffer
abbrev pub Within : ℕ → List ℕ → List ℕ → Laid → Type 0
Within at out st t = (t.0 ≤ length t.1) × (length t.1 ≡ length out) × (length t.2 ≡ length st)

within : (ss : List (List ℕ)) (k at : ℕ) (out st : List ℕ) → at ≤ length out → Within at out st (laid ss k at out st)
unfolding laid
within [] k at out st h = (h, refl, refl)
within (s ∷ ss) k at out st h =
    let w = put_within s (drop at out) in
    let d = length-drop at out in
    let p = put s (drop at out) in
    let l : length (take at out ++ p.1) ≡ length out = rw (length-append, length-take) (omega arith) in
    let r = within ss (suc k) (at + p.0) (take at out ++ p.1) (set st k (at + p.0)) (omega arith) in
    (r.0, r.1 ∙ l, r.2 ∙ length-set st k (at + p.0))

pub laid_within : (ss : List (List ℕ)) (k at a : ℕ) (out st o s : List ℕ) → at ≤ length out → (a, o, s) ≡ laid ss k at out st → Within at out st (a, o, s)
laid_within ss k at a out st o s h e = subst (λ (t : Laid). Within at out st t) (sym e) (within ss k at out st h)

-- with room for all
pub laid_room : (ss : List (List ℕ)) (k at : ℕ) (out st : List ℕ) → at + length (joined ss) ≤ length out
    → laid ss k at out st ≡ (at + length (joined ss), take at out ++ front (joined ss) (drop at out), sets st k (ends_from at ss))
unfolding laid joined ends_from front
laid_room [] k at out st h = rw (add-zero at, take-append-drop at out)
laid_room (s ∷ ss) k at out st h =
    let l = length-append s (joined ss) in
    let d = length-drop at out in
    let f = front s (drop at out) in
    let p : put s (drop at out) ≡ (length s, f) = sym (put_whole (length s) s (drop at out) f (omega arith) refl refl) in
    let n : length (take at out) ≡ at = length-take-le at out (omega arith) in
    let m : take at out ++ f ≡ take at out ++ s ++ drop (length s) (drop at out) = sym (append_assoc (take at out) s (drop (length s) (drop at out))) in
    let i : length (take at out ++ s) ≡ at + length s = rw (length-append (take at out) s) (omega arith) in
    let t : take (at + length s) (take at out ++ f) ≡ take at out ++ s = ap (take (at + length s)) m ∙ take_at (take at out ++ s) (drop (length s) (drop at out)) (at + length s) i in
    let u : drop (at + length s) (take at out ++ f) ≡ drop (length s) (drop at out) = ap (drop (at + length s)) m ∙ drop_at (take at out ++ s) (drop (length s) (drop at out)) (at + length s) i in
    let z : length (take at out ++ f) ≡ length out = rw (length-append (take at out) f, length_front s (drop at out) (omega arith)) (omega arith) in
    rw p
    (laid_room ss (suc k) (at + length s) (take at out ++ f) (set st k (at + length s)) (omega arith)
    ∙ ap₂ (λ (j : ℕ) (o : List ℕ). (j, o, sets st k (ends_from at (s ∷ ss)))) (omega arith)
    (rw (t, u, append_assoc, append_assoc, length-append s (joined ss), drop-drop)))

-- all of them, in a buffer that has room for any extension
pub record Whole (ss : List (List ℕ)) (out st : List ℕ) (n : ℕ) (m st₁ : List ℕ) : Type 0 where
  pub wrote : Wrote max_extension (joined ss) out n m
  pub noted : st₁ ≡ sets st 1 (ends_from 0 ss)

pub whole_laid : (ss : List (List ℕ)) (n : ℕ) (out st m st₁ : List ℕ) → length (joined ss) ≤ max_extension → max_extension ≤ length out
    → (n, m, st₁) ≡ laid ss 1 0 out st → Whole ss out st n m st₁
whole_laid ss n out st m st₁ h k e =
    let q : ◌≡◌ {A = Laid} (n, m, st₁) (0 + length (joined ss), front (joined ss) out, sets st 1 (ends_from 0 ss)) = e ∙ laid_room ss 1 0 out st (omega arith) in
    let c : n ≡ 0 + length (joined ss) = ap (λ (t : Laid). t.0) q in
    record { wrote = record { count = omega arith; few = omega arith; bytes = ap (λ (t : Laid). t.1) q }; noted = ap (λ (t : Laid). t.2) q }

-- room for what is still to be laid
pub room_then : (ss ts : List (List ℕ)) (k at a : ℕ) (out st o s : List ℕ) → Room (ss ++ ts) at st out → (a, o, s) ≡ laid ss k at out st → Room ts a s o
unfolding front
room_then ss ts k at a out st o s r e =
    let j : length (joined (ss ++ ts)) ≡ length (joined ss) + length (joined ts) = ap length (joined_append ss ts) ∙ length-append (joined ss) (joined ts) in
    let h : at + length (joined ss) ≤ length out = omega (arith, r.within, r.long) in
    let w = laid_within ss k at a out st o s (omega arith) e in
    let q : ◌≡◌ {A = Laid} (a, o, s) (at + length (joined ss), take at out ++ front (joined ss) (drop at out), sets st k (ends_from at ss)) = e ∙ laid_room ss k at out st h in
    let c : a ≡ at + length (joined ss) = ap (λ (t : Laid). t.0) q in
    let m : o ≡ take at out ++ front (joined ss) (drop at out) = ap (λ (t : Laid). t.1) q in
    let l : length (take at out) ≡ at = length-take-le at out (omega arith) in
    let d : drop a o ≡ drop (length (joined ss)) (drop at out) = rw (c, m) (drop_behind at (take at out) (joined ss) _ l) in
    record { noted = w.2 ∙ r.noted; within = omega (arith, r.within); long = omega (arith, w.1, r.long); clear = rw d (zeros_dropped (length (joined ss)) (drop at out) r.clear) }
  where
    drop_behind : (i : ℕ) (x y z : List ℕ) → length x ≡ i → drop (i + length y) (x ++ (y ++ z)) ≡ z
    drop_behind i x y z h = rw (← h, drop-append-add x (y ++ z) (length y)) (drop-append_seam y z)

pub room_front : (ss ts : List (List ℕ)) (at : ℕ) (st out : List ℕ) → Room (ss ++ ts) at st out → Room ss at st out
room_front ss ts at st out r =
    let j : length (joined (ss ++ ts)) ≡ length (joined ss) + length (joined ts) = ap length (joined_append ss ts) ∙ length-append (joined ss) (joined ts) in
    record { noted = r.noted; within = omega (arith, r.within); long = r.long; clear = r.clear }

-- before the next, after the one before it, and one behind the other
pub room_next : {s : List ℕ} {ss : List (List ℕ)} {at : ℕ} {st out : List ℕ} → Room (s ∷ ss) at st out → (p : ℕ) → p < places → Next p at st out
unfolding joined
room_next r p h = record { place = h; room = record { noted = r.noted; within = omega (arith, r.within); long = r.long; clear = r.clear } }

pub room_step : {s : List ℕ} {ss : List (List ℕ)} (k : ℕ) {at a : ℕ} {out st o t : List ℕ} → Room (s ∷ ss) at st out → (a, o, t) ≡ laid (s ∷ []) k at out st → Room ss a t o
room_step {s} {ss} k {at} {a} {out} {st} {o} {t} r e = room_then (s ∷ []) ss k at a out st o t r e

pub laid_step : (s : List ℕ) (ss : List (List ℕ)) (k at : ℕ) (out st : List ℕ) {a : ℕ} {o t : List ℕ} {x : Laid} → (a, o, t) ≡ laid (s ∷ []) k at out st → x ≡ laid ss (k + 1) a o t → x ≡ laid (s ∷ ss) k at out st
laid_step s ss k at out st {a} {o} {t} {x} e f = f ∙ laid_then (s ∷ []) ss k (k + 1) at a out st o t refl e

-- in the middle of some
prefix : (f : ℕ → List ℕ) (p d : ℕ) → length (joined (each f p)) ≤ length (joined (each f (p + d)))
unfolding each
prefix f p zero = rw (add-zero p) (le_refl _)
prefix f p (suc d) =
    let q : length (joined (each f (p + d) ++ (f (p + d) ∷ []))) ≡ length (joined (each f (p + d))) + length (joined (f (p + d) ∷ [])) = ap length (joined_append (each f (p + d)) (f (p + d) ∷ [])) ∙ length-append (joined (each f (p + d))) _ in
    let e : p + suc d ≡ suc (p + d) = omega arith in
    rw e (omega (arith, prefix f p d))

pub room_among : (f : ℕ → List ℕ) (p n b at : ℕ) (out st o s : List ℕ) → p < n → n ≤ places → Room (each f n) b st out → (at, o, s) ≡ laid (each f p) 1 b out st → Next p at s o
room_among f p n b at out st o s h k r e =
    let q : p + (n - p) ≡ n = omega arith in
    let w : length (joined (each f p)) ≤ length (joined (each f n)) = rw q at (prefix f p (n - p)) in
    let x : Room (each f p ++ []) b st out = rw (append-nil (each f p)) record { noted = r.noted; within = omega (arith, r.within); long = r.long; clear = r.clear } in
    record { place = omega arith; room = room_then (each f p) [] 1 b at out st o s x e }

-- what the writers are lent
pub next_lent : {p at : ℕ} {st out : List ℕ} → Next p at st out → (32 ≤ length (lent at out)) × (zeros (lent at out) ≡ true)
unfolding joined
next_lent {p} {at} {st} {out} n = let r = n.room in (rw (length_lent at out) (omega (arith, r.within, r.long)), rw (take_rest out at) r.clear)

pub next_within : {p at : ℕ} {st out : List ℕ} → Next p at st out → at ≤ length out
next_within n = omega (arith, n.room.within, n.room.long)

pub end_fits : {p at : ℕ} {st out : List ℕ} → Next p at st out → length out < 2 ^ 64 → (n : ℕ) (s ys : List ℕ) → (n, ys) ≡ put s (lent at out) → Fits w64 (at + n)
end_fits {p} {at} {st} {out} x h n s ys e = fits_behind (put_behind at n s out ys (next_within x) e) refl h

pub length_ends : (b : ℕ) (ss : List (List ℕ)) → length (ends_from b ss) ≡ length ss
unfolding ends_from
length_ends b [] = refl
length_ends b (s ∷ ss) = ap suc (length_ends (b + length s) ss)
