-- The bytes of one whole parameter. Assumes nothing.
--     account     the four counts of a parameter make its length
use Prim.Native.Nat.{ℕ, ◌+◌, ◌-◌, ◌/◌, ◌^◌, ◌≤◌, ◌<◌}
use mathlib.Core.Path.{◌≡◌, refl, ap, sym, ◌∙◌}
use mathlib.Core.List.{List, [], ◌∷◌}
use mathlib.Core.Bool.{Bool, true, false}
use native.Mathlib.Omega.{arith}
use lib.ListN.{length, drop, length-append, length-drop}
use lib.Seq.{length-take-le}
use lib.Dec.{ltb}
use borrow.Author.Tests.{ltb-true, eqb-true}
use Rattle.refusal.specs.Outcome.{Outcome, accepted, refused, pick}
use Rattle.refusal.proofs.Laws.{picked}
use Rattle.varint.specs.Number.{read_number, number_bytes}
use Rattle.varint.specs.declared.Decoded.{Decoded}
use Rattle.varint.proofs.Laws.{read_bounds, read_count}
use Rattle.varint.proofs.Bytes.{size_1, width_range}
use Rattle.catalogue.specs.Catalogue.{Kind, number, flag, cid, token, address, versions, reserved, places, place_of, kind_at, fits, fills, parameter}
use Rattle.record.specs.Values.{Bytes, value}
use Rattle.record.proofs.Bytes.{bytes_drop}
use Rattle.record.proofs.KindLaws.{Fits}
use Rattle.front.specs.Parameter.{saved, saved_head}
use Rattle.front.specs.Whole.{Whole}
use Rattle.front.proofs.Front.{Front, at_front}
use Rattle.tally.specs.declared.Counts.{Counts}
use Rattle.tally.specs.Tally.{restates, skipped, restated, kept, fate_of, shortest, saved_value, count_as, count_of}

at_most_8 : (v : List ℕ) (a : Decoded) → Bytes v → read_number v ≡ accepted a → a.count ≤ 8
unfolding read_number
at_most_8 [] a hb e = cc
at_most_8 (b ∷ v) a hb e =
    picked _ _ a 3 e λ t q.
    let j : 2 ^ (b / 64) ≡ a.count = ap (λ r. r.count) q in
    omega (arith, width_range (b / 64) (omega (arith, hb 0)))

-- s takes the place of a value v, and saves n bytes
record Shortened (s v : List ℕ) (n : ℕ) : Type 0 where
  head : length (number_bytes (length s)) ≡ length (number_bytes (length v))
  value : length s + n ≡ length v

number_account : (v : List ℕ) (o : Outcome Decoded) → read_number v ≡ o → Bytes v → fills (length v) o ≡ true → Shortened (number_bytes (value o)) v (saved o)
number_account v (accepted a) e hb f =
    let b = read_count v a hb e in
    let c = at_most_8 v a hb e in
    let q : a.count ≡ length v = eqb-true a.count (length v) f in
    record { head = size_1 (length (number_bytes a.value)) (omega arith) ∙ sym (size_1 (length v) (omega arith)); value = omega arith }
number_account v (refused n) e hb f = cc

value_account : (k : Kind) (v : List ℕ) → Fits k v → Shortened (shortest k v) v (saved_value k v)
unfolding shortest saved_value fits
value_account number v f = number_account v (read_number v) refl f.bytes f.fit
value_account flag v f = record { head = refl; value = omega arith }
value_account cid v f = record { head = refl; value = omega arith }
value_account token v f = record { head = refl; value = omega arith }
value_account address v f = record { head = refl; value = omega arith }
value_account versions v f = record { head = refl; value = omega arith }
value_account reserved v f = record { head = refl; value = omega arith }

-- a parameter that is sent again, in its shortest form, and what that saves
kept_account : (k : Kind) (w : List ℕ) (id : ℕ) (v : List ℕ) → Bytes w → Fits k v → Front w id v [] → length (parameter id (shortest k v)) + (saved_head w + saved_value k v) ≡ length w
unfolding parameter saved_head
kept_account k w id v hb hf f =
    let n = f.i.count in
    let m = f.l.count in
    let p = read_count w f.i hb f.first in
    let q = read_count (drop n w) f.l (bytes_drop n w hb) f.second in
    let b = read_bounds w f.i hb f.first in
    let b2 = read_bounds (drop n w) f.l (bytes_drop n w hb) f.second in
    let c = value_account k v hf in
    let lv : length v ≡ f.l.value = rw f.val (length-take-le _ _ f.room) in
    let r : f.l.value ≤ length w - n - m = simp length-drop at f.room in
    let z : 0 ≡ length w - n - m - f.l.value = simp length-drop at (ap length f.behind) in
    let u : m ≤ length w - n = simp length-drop at b2.1 in
    let i : length (number_bytes id) + f.i.saved ≡ n = rw (← f.is) (sym p) in
    let l : length (number_bytes (length v)) + f.l.saved ≡ m = rw lv (sym q) in
    rw (f.first, f.second) (simp length-append (omega (arith, c.head, c.value, b.1)))

abbrev pub total : Counts → ℕ
total c = c.tidied + c.skipped + c.restated + c.saved

pub account : (w : List ℕ) (h : Whole w) → Bytes w → (place_of h.id < places → Fits (kind_at (place_of h.id)) h.v)
    → total (count_of w) ≡ length w
unfolding count_of fate_of
account w h hb hf = rw h.is (go (ltb (place_of h.id) places) (restates (place_of h.id) (value (read_number h.v))) refl)
  where
    go : (b c : Bool) → ltb (place_of h.id) places ≡ b → total (count_as (pick b (pick c restated kept) skipped) h.id h.v w) ≡ length w
    go false c e = omega arith
    go true true e = omega arith
    go true false e =
        let k = kept_account (kind_at (place_of h.id)) w h.id h.v hb (hf (ltb-true _ _ e)) (at_front w (h.id, h.v, []) h.is) in
        omega arith
