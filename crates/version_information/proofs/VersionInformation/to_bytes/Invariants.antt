-- `version_information::VersionInformation::to_bytes` meets its contract. The invariant: the chosen
-- version and the first `i` others are stored. Assumes nothing.
use mathlib.Core.Path.{◌≡◌}
use mathlib.Core.List.{◌∷◌}
use lib.ListN.{take, replicate}
use lib.Seq.{sets}
use Rattle.words.specs.Words.{numbers_bytes}
use Rattle.version_information.proofs.VersionInformation.to_bytes.Given as goal

abbrev pub invariant-loop-i : goal.invariant-loop-i
invariant-loop-i l = l.out ≡ sets (replicate 68 0) 0 (numbers_bytes 4 (l.self.chosen ∷ take l.i l.self.available))
