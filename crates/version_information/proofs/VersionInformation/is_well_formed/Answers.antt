-- `version_information::VersionInformation::is_well_formed` meets its contract. Assumes nothing.
use Prim.Native.Nat.{ℕ, ◌^◌, ◌-◌, ◌<◌}
use borrow.Author.Rules.{rules}
use native.Mathlib.Omega.{arith}
use mathlib.Core.Path.{◌≡◌, ap, ◌∙◌}
use lib.ListN.{length, get_or, drop, length-drop}
use lib.Seq.{take_all}
use Rattle.std.proofs.lemmas.Bool.Decides.{nat_tests}
use Rattle.words.specs.Words.{zeros}
use Rattle.version_information.proofs.Laws.{by_type}
use Rattle.version_information.proofs.VersionInformation.is_well_formed.Goals as goal

pub returns : goal.returns
returns c =
    let i = c.args.self.now in
    let l : length i.available ≡ 16 = search rules in
    let k : i.chosen < 2 ^ 32 = search rules in
    let a : (k : ℕ) → get_or i.available k 0 < 2 ^ 32 = λ k. search rules in
    let n = c.from-n.ensures in
    let z : c.all_zero.result ≡ zeros (drop i.available_len i.available)
    = c.all_zero.ensures ∙ ap zeros (take_all (16 - c.from-n.result) (drop c.from-n.result i.available) (rw length-drop (omega arith))) ∙ ap (λ m. zeros (drop m i.available)) n in
    let q = by_type i l k a in
    grind (arith, nat_tests, q, z, n, c.if-n-gt-MAX_AVAILABLE.false)
