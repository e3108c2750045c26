-- `index::Kept::are_versions_allowed` meets its contract. Assumes nothing.
use mathlib.Core.Path.{sym, ◌∙◌}
use Rattle.version_information.specs.VersionInformation.{no_versions}
use Rattle.rules.specs.Rules.{version_rules}
use Rattle.record.specs.Values.{versions_in}
use Rattle.index.specs.Index.{value_at}
use Rattle.index.proofs.Kept.are_versions_allowed.Goals as goal

pub returns-then-not-is_met : goal.returns-then-not-is_met
unfolding value_at versions_in no_versions version_rules
returns-then-not-is_met c = rw (sym c.is_met.ensures ∙ c.if-not-is_met.true)
