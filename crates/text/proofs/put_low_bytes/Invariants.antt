-- `put_low_bytes`: the last `k` bytes are stored, and `rest` is the number without them. Assumes
-- nothing.
use Prim.Native.Nat.{◌+◌, ◌-◌, ◌/◌, ◌^◌}
use lib.Seq.{sets}
use mathlib.Core.Path.{◌≡◌}
use Rattle.words.specs.Words.{bytes_of}
use Rattle.text.proofs.put_low_bytes.Given as goal

abbrev pub invariant-loop-k : goal.invariant-loop-k
invariant-loop-k l = (l.rest ≡ l.x / 256 ^ l.k) × (l.out ≡ sets l.initial.out (l.at + (l.n - l.k)) (bytes_of l.k l.x))
