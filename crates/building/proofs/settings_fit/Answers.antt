-- `building::settings_fit` meets its contract. Assumes nothing.
use Rattle.std.proofs.Common.{rules, ◌≡◌, leb}
use Rattle.std.specs.List.{list_all}
use Rattle.std.proofs.lemmas.Iterator.{YieldsList-from_slice}
use Rattle.std.proofs.lemmas.Iterator.Search.{all_from_yields_List}
use Rattle.record.proofs.Tests.{at_most}
use Rattle.building.specs.Building.{settings_fit, sent_settings}
use Rattle.building.proofs.settings_fit.Goals as goal

pub returns : goal.returns
unfolding settings_fit sent_settings
returns c =
    let all_fit : c.all.result ≡ list_all (λ x. leb x 4611686018427387903) (sent_settings c.args.s.now) =
    all_from_yields_List (λ x. leb x 4611686018427387903) _ _ c.all.result c.all.ensures.ran (YieldsList-from_slice (sent_settings c.args.s.now) (cc)) (λ x b q k. search rules) in
    simp (all_fit, at_most)
