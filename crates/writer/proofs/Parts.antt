-- The parts of a record that are handed to the writers are fields with a value in front. Assumes
-- nothing.
--     field_laid     what is laid of a field is its value
--     due_or_none    a number that is there if it is due
--     number_due, field_due, added_fits, added    one more parameter
use Prim.Native.Nat.{ℕ, ◌+◌, ◌-◌, ◌^◌, ◌≤◌, ◌<◌}
use mir.Val.{Fits}
use mir.Syntax.{w64}
use mathlib.Core.List.{List, [], ◌∷◌, ◌++◌}
use mathlib.Core.Path.{◌≡◌, refl, ◌∙◌}
use mathlib.Core.Bool.{Bool, true, false}
use native.Mathlib.Omega.{arith}
use lib.ListN.{length, take, drop, set, drop_of_length-le}
use borrow.Author.Tests.{eqb-true, leb-true, le-leb, lt-ltb}
use Rattle.words.specs.Words.{zeros}
use Rattle.refusal.proofs.Laws.{all_at}
use Rattle.connection_id.proofs.Laws.{cid_facts}
use Rattle.record.specs.Optional.{OptionalConnectionId}
use Rattle.record.specs.declared.ReservedTransportParameter.{ReservedTransportParameter}
use Rattle.std.specs.Bool.{then_some}
use Rattle.record.specs.Record.{is_present, least, formed_optional_cid, formed_reserved}
use Rattle.wire.specs.Wire.{put, due_value, due_number}
use Rattle.wire.proofs.Put.{put_nil}
use Rattle.laying.specs.Laying.{laid_number, laid_field}
use Rattle.laying.proofs.Wide.{is_field, field_clear, number_clear}
use Rattle.writer.specs.Laid.{laid, Field, Next}
use Rattle.writer.proofs.Laid.{laid_one, next_lent, end_fits}

pub field_laid : (due : Bool) (id n : ℕ) (v out : List ℕ) → Field n v → 32 ≤ length out → zeros out ≡ true → laid_field due id n v out ≡ put (due_value due id (take n v)) out
field_laid due id n v out f h z =
    let w : is_field n v ≡ true = rw (le-leb _ _ f.long, lt-ltb (length v) 64 (omega (arith, f.short)), le-leb _ _ f.within) in
    field_clear due id n v out w (omega (arith, f.short)) z f.clear

pub cid_field : (n : ℕ) (o : OptionalConnectionId) → formed_optional_cid o ≡ true → n ≡ o.value.len → Field n o.value.bytes
unfolding formed_optional_cid
cid_field n o f e =
    let k = cid_facts o.value (all_at _ f 0) in
    rw e record { long = omega (arith, k.long); short = omega (arith, k.long); within = omega (arith, k.long, k.within); clear = k.after }

pub reserved_field : (n : ℕ) (x : ReservedTransportParameter) → formed_reserved x ≡ true → n ≡ x.payload_len → Field n x.payload
unfolding formed_reserved
reserved_field n x f e =
    let l = eqb-true (length x.payload) 16 (all_at _ f 0) in
    let m = leb-true x.payload_len 16 (all_at _ f 2) in
    rw e record { long = omega arith; short = omega arith; within = omega arith; clear = all_at _ f 3 }

pub token_field : (v : List ℕ) → length v ≡ 16 → Field 16 v
token_field v l =
    let d : drop 16 v ≡ [] = drop_of_length-le v {i = 16} (omega arith) in
    record { long = omega arith; short = omega arith; within = omega arith; clear = rw d refl }

-- a number that is there if it is due
pub due_or_none : (due : Bool) (id x : ℕ) → due_number (is_present (then_some due x)) id (least (then_some due x)) ≡ due_number due id x
unfolding due_number due_value
due_or_none true id x = refl
due_or_none false id x = refl

-- ONE MORE PARAMETER, of a buffer that is z bytes long
module _ {p at : ℕ} {st out : List ℕ} (x : Next p at st out) (z : ℕ) (e : length out ≡ z) where
  pub number_due : (due : Bool) (id y n : ℕ) (ys : List ℕ) → (n, ys) ≡ laid_number due id y (take (z - at) (drop at out)) → (n, ys) ≡ put (due_number due id y) (take (z - at) (drop at out))
  number_due due id y n ys w = let l = next_lent x in w ∙ rw (← e) (number_clear due id y _ (omega (arith, l.0)) l.1)

  pub field_due : (due : Bool) (id m n : ℕ) (v ys : List ℕ) → Field m v → (n, ys) ≡ laid_field due id m v (take (z - at) (drop at out)) → (n, ys) ≡ put (due_value due id (take m v)) (take (z - at) (drop at out))
  field_due due id m n v ys f w = let l = next_lent x in w ∙ rw (← e) (field_laid due id m v _ f l.0 l.1)

  module _ (s : List ℕ) (n : ℕ) (ys : List ℕ) (w : (n, ys) ≡ put s (take (z - at) (drop at out))) where
    pub added_fits : z < 2 ^ 64 → Fits w64 (at + n)
    added_fits h = end_fits x (omega arith) n s ys (rw (← e) at w)

    pub added : (k : ℕ) → (at + n, take at out ++ (ys ++ drop (z - at) (drop at out)), set st k (at + n)) ≡ laid (s ∷ []) k at out st
    added k = rw (← e) (laid_one s k at n out ys st (rw (← e) at w))

-- version information that is absent
pub versions_none : (present : Bool) (id : ℕ) (v out : List ℕ) → present ≡ false → (0, out) ≡ put (due_value present id v) out
unfolding due_value
versions_none present id v out e = rw e (put_nil out)
