-- `index::Kept::versions` meets its contract. Assumes nothing.
use mathlib.Core.Path.{◌≡◌, refl, ap, sym, ◌∙◌}
use mathlib.Core.Option.{some}
use native.Mathlib.Omega.{arith}
use Rattle.std.specs.Prelude.{true, Ok}
use Rattle.catalogue.specs.Catalogue.{versions, fits}
use Rattle.version_information.proofs.Laws.{decoded}
use Rattle.record.specs.Values.{versions_in}
use Rattle.record.proofs.Defaults.{versions_absent}
use Rattle.index.specs.Index.{value_at}
use Rattle.index.specs.Answer.{found_of}
use Rattle.index.proofs.Parts.{of_bytes, versions_no, versions_fit}
use Rattle.index.proofs.Kept.versions.Goals.{After-decode}
use Rattle.index.proofs.Kept.versions.Goals as goal

-- the value that was received, and that it fits
there : (c : After-decode) → some c.in-Some.v.now ≡ value_at c.args.self.now.src.now (found_of c.args.self.now.entries) 21
there c = c.in-Some.ensures ∙ of_bytes _ _ 21 (omega arith) versions_no

fitting : (c : After-decode) → fits versions c.in-Some.v.now ≡ true
fitting c = versions_fit _ _ c.args.self.now.sound _ (there c)

pub unwrap-requires : goal.unwrap-requires
unwrap-requires c = rw (decoded c.decode.result c.in-Some.v.now c.decode.ensures (fitting c)) refl

pub returns-in-Some : goal.returns-in-Some
unfolding versions_in
returns-in-Some c =
    let d = (goal.at.returns-in-Some c).After-decode in
    let e : Ok c.unwrap.result ≡ Ok _ = sym c.unwrap.ensures ∙ decoded c.decode.result c.in-Some.v.now c.decode.ensures (fitting d) in
    (cc) ∙ ap versions_in (there d)

pub returns-in-None : goal.returns-in-None
returns-in-None c =
    let x = c.default.ensures in
    versions_absent c.default.result x.0 x.1.0 x.1.1.0 x.1.1.1 ∙ ap versions_in (c.in-None.ensures ∙ of_bytes _ _ 21 (omega arith) versions_no)
