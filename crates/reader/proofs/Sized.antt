-- What the parameter at the front takes is at least its shortest form. Assumes nothing.
use Prim.Native.Nat.{ℕ, ◌+◌, ◌-◌, ◌^◌, ◌≤◌, ◌<◌}
use mathlib.Core.Path.{◌≡◌}
use mathlib.Core.List.{List}
use native.Mathlib.Omega.{arith}
use lib.ListN.{length, drop, length-append, length-drop}
use lib.Seq.{length-take-le}
use Rattle.refusal.specs.Outcome.{accepted}
use Rattle.varint.proofs.Laws.{read_bounds}
use Rattle.catalogue.specs.Catalogue.{parameter}
use Rattle.record.specs.Values.{Bytes}
use Rattle.record.proofs.Bytes.{bytes_drop, bytes_take}
use Rattle.front.specs.Parameter.{read_parameter}
use Rattle.front.proofs.Front.{Front, at_front}

pub record Sized (bs : List ℕ) (id : ℕ) (v rest : List ℕ) : Type 0 where
  pub id_lt : id < 2 ^ 62
  pub value_bytes : Bytes v
  pub rest_bytes : Bytes rest
  pub long : length (parameter id v) + length rest ≤ length bs

pub sized : (bs : List ℕ) (i : ℕ × List ℕ × List ℕ) → Bytes bs → read_parameter bs ≡ accepted i → Sized bs i.0 i.1 i.2
unfolding parameter
sized bs i hb e = go i.0 i.1 i.2 (at_front bs i e)
  where
    go : (id : ℕ) (v rest : List ℕ) → Front bs id v rest → Sized bs id v rest
    go id v rest f =
        let n = f.i.count in
        let m = f.l.count in
        let hd = bytes_drop n bs hb in
        let hd2 = bytes_drop m (drop n bs) hd in
        let w = read_bounds bs f.i hb f.first in
        let w2 = read_bounds (drop n bs) f.l hd f.second in
        let r2 : f.l.value ≤ length bs - n - m = simp length-drop at f.room in
        let w3 : m ≤ length bs - n = simp length-drop at w2.1 in
        let lv : length v ≡ f.l.value = rw f.val (length-take-le _ _ f.room) in
        record {
          id_lt = rw f.is at w.0;
          value_bytes = rw f.val (bytes_take f.l.value _ hd2);
          rest_bytes = rw f.behind (bytes_drop f.l.value _ hd2);
          long = rw (← f.is, f.behind) (simp (length-append, length-drop, lv) (omega (arith, w, w2)));
        }
