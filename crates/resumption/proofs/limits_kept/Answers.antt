-- `resumption::limits_kept` meets its contract, in whatever order the limits are gone through.
-- Assumes nothing.
use mathlib.Core.Path.{refl, ◌∙◌}
use native.Mathlib.Omega.{arith}
use Rattle.std.proofs.Common.{rules, leb, get_or}
use Rattle.std.proofs.lemmas.Iterator.{YieldsList-from_slice}
use Rattle.std.proofs.lemmas.Iterator.Search.{all_from_yields_List}
use Rattle.resumption.specs.Resumption.{limits_kept, remembered}
use Rattle.resumption.proofs.limits_kept.Goals as goal

pub returns : goal.returns
unfolding limits_kept remembered
returns c =
    let a = c.args in
    let kept = all_from_yields_List (λ p. leb (get_or a.cached.now p 0) (get_or a.new.now p 0)) _ _ c.all.result c.all.ensures.ran (YieldsList-from_slice _ refl) (λ x b q k. search rules) in
    kept ∙ grind arith
