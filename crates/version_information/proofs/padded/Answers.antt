-- `version_information::padded` meets its contract. Assumes nothing.
use Prim.Native.Nat.{ℕ}
use mathlib.Core.Path.{ap₂}
use mathlib.Core.List.{List, ◌++◌}
use lib.ListN.{length}
use Rattle.std.proofs.lemmas.List.{drop-replicate}
use Rattle.version_information.proofs.padded.Goals as goal

pub returns : goal.returns
returns c = let v = c.args.v.now in ap₂ (λ (a b : List ℕ). a ++ b) c.copy_from_slice.ensures.after (drop-replicate (length v) 68 0)
