-- `version_information::VersionInformation::to_bytes` meets its contract. Assumes nothing.
use Prim.Native.Nat.{ℕ, suc, ◌+◌, ◌*◌}
use borrow.Author.Rules.{rules}
use native.Mathlib.Omega.{arith}
use mathlib.Core.Path.{◌≡◌, refl, ap, ◌∙◌}
use mathlib.Core.List.{List, ◌∷◌, ◌++◌, append-nil}
use lib.ListN.{length, get_or, take, drop, replicate}
use lib.Seq.{sets, take_all}
use Rattle.refusal.specs.Outcome.{front}
use Rattle.varint.proofs.Bytes.{stored}
use Rattle.words.specs.Words.{bytes_of, numbers_bytes}
use Rattle.words.proofs.Numbers.{numbers_size, numbers_more}
use Rattle.version_information.specs.VersionInformation.{all_bytes}
use Rattle.version_information.proofs.VersionInformation.to_bytes.Goals as goal

pub loop-i-init : goal.loop-i-init
unfolding numbers_bytes
loop-i-init c = c.put_version.ensures

pub loop-i-preserved : goal.loop-i-preserved
loop-i-preserved c =
    let l = c.loop-i in
    let v : List ℕ = c.args.self.now.chosen ∷ c.args.self.now.available in
    let z : List ℕ = replicate 68 0 in
    let n : length c.args.self.now.available ≡ 16 = search rules in
    let e : suc l.i + 1 ≡ suc (l.i + 1) = omega arith in
    numbers_more 4 z v l.out _ (bytes_of 4 (get_or c.args.self.now.available l.i 0)) (suc l.i) (4 + 4 * l.i) (omega (arith, n, c.loop-i-test.true)) (omega arith) l.invariant refl
    c.put_version-in-loop-i.ensures
    ∙ ap (λ k. sets z 0 (numbers_bytes 4 (take k v))) e

pub returns : goal.returns
unfolding all_bytes front
returns c =
    let l = c.loop-i in
    let i = c.args.self.now in
    let z : List ℕ = replicate 68 0 in
    let n : length i.available ≡ 16 = search rules in
    let e : numbers_bytes 4 (i.chosen ∷ take l.i i.available) ≡ numbers_bytes 4 (i.chosen ∷ i.available)
    = ap (λ (vs : List ℕ). numbers_bytes 4 (i.chosen ∷ vs)) (take_all l.i i.available (omega (arith, n, c.loop-i-test.false))) in
    let s : length (numbers_bytes 4 (i.chosen ∷ i.available)) ≡ 68 = numbers_size 4 (i.chosen ∷ i.available) ∙ omega (arith, n) in
    l.invariant
    ∙ ap (sets z 0) e
    ∙ stored (numbers_bytes 4 (i.chosen ∷ i.available)) z (omega (arith, s))
    ∙ ap (λ k. numbers_bytes 4 (i.chosen ∷ i.available) ++ drop k z) s
    ∙ append-nil (numbers_bytes 4 (i.chosen ∷ i.available))
