-- Parts of bytes are bytes. Assumes nothing.
use Prim.Native.Nat.{ℕ, ◌+◌}
use mathlib.Core.List.{List}
use lib.ListN.{drop}
use lib.Seq.{get_or-drop}
use Rattle.record.specs.Values.{Bytes}
pub use Rattle.words.proofs.Laws.{bytes_take}

pub bytes_drop : (n : ℕ) (bs : List ℕ) → Bytes bs → Bytes (drop n bs)
bytes_drop n bs h i = rw (get_or-drop n bs i 0) (h (n + i))
