-- `varint::VarInt::decode` meets its contract. Assumes nothing.
use Rattle.refusal.specs.Outcome.{accepted}
use Prim.Native.Nat.{◌/◌, ◌%◌, ◌<◌}
use lib.ListN.{length, get_or}
use mathlib.Core.Path.{◌≡◌, refl, ap, sym, ◌∙◌}
use Rattle.varint.specs.Number.{with_saved}
use Rattle.varint.proofs.Bytes.{read_whole, one_saved}
use native.Mathlib.Omega.{arith}
use borrow.Author.Rules.{rules}
use Rattle.varint.proofs.VarInt.decode.Goals as goal

pub returns-then-tag-eq0 : goal.returns-then-tag-eq0
returns-then-tag-eq0 c =
    let s = c.args.src.now in
    let h : 0 < length s = search rules in
    let e : 0 ≡ get_or s 0 0 / 64 = omega arith in
    let v : c.from.result ≡ get_or s 0 0 % 64 = c.from.ensures ∙ omega arith in
    ap accepted (sym (one_saved c.from.result (omega arith))) ∙ ap (λ x. accepted (with_saved x 1)) v ∙ sym (read_whole s 0 h e h 0 refl)
