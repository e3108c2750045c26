-- `version_information::VersionInformation::from_bytes` meets its contract. Assumes nothing.
use borrow.Author.Rules.{rules}
use mathlib.Core.Path.{◌≡◌}
use lib.ListN.{take, drop}
use Rattle.words.specs.Words.{value_from, numbers_of}
use Rattle.version_information.specs.VersionInformation.{versions_with}
use Rattle.version_information.proofs.VersionInformation.from_bytes.Goals as goal

pub returns : goal.returns
unfolding versions_with
returns c =
    let v = c.args.bytes.now in
    let a : c.from_be_bytes.result ≡ value_from 0 (take 4 v) = search rules in
    let b : c.available_of.result ≡ numbers_of 4 16 (drop 4 v) = c.available_of.ensures in
    rw (a, b)
