-- `varint::wide_of` meets its contract: the tag says how many bits count. Assumes nothing.
use Prim.Native.Nat.{◌/◌, ◌^◌, ◌<◌}
use native.Mathlib.Omega.{arith}
use Rattle.varint.proofs.Word.{bits_range, read_word}
use Rattle.varint.proofs.wide_of.Goals as goal

pub returns : goal.returns
returns c =
    let w = c.args.word in
    let h : w < 2 ^ 64 = omega arith in
    rw (c.with_saved.ensures, c.untagged.ensures) (read_word w h, (bits_range (w / 2 ^ 62) (omega arith)).2)
