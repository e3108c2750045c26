-- `words::few_zero_from` meets its contract: the bytes make the words, and the zeros behind them
-- change nothing. Assumes nothing.
use Prim.Native.Nat.{ℕ, ◌-◌}
use mathlib.Core.Path.{◌≡◌, ap, ◌∙◌}
use mathlib.Core.List.{List, ◌++◌}
use native.Mathlib.Omega.{arith}
use lib.ListN.{length, drop, replicate, length-append, length-drop, length-replicate}
use Rattle.std.proofs.lemmas.List.{drop-replicate}
use Rattle.words.specs.Words.{zeros}
use Rattle.words.proofs.Laws.{zero_24, zeros_behind}
use Rattle.words.proofs.few_zero_from.Goals as goal

pub returns : goal.returns
returns g c =
    let a = c.copy_from_slice.new.self in
    let e : a ≡ c.args.b.now = c.copy_from_slice.ensures.after in
    let k : length a ≡ g.row.N = ap length e ∙ c.told-b in
    let l : length (a ++ drop g.row.N (replicate 24 0)) ≡ 24 = simp (length-append, length-drop, length-replicate) (omega arith) in
    zero_24 c.args.n _ _ _ _ (a ++ drop g.row.N (replicate 24 0)) l c.word_at-u.ensures c.word_at-v.ensures c.word_at-w.ensures c.words_zero_from.ensures
    ∙ ap (λ (z : List ℕ). zeros (drop c.args.n (a ++ z))) (drop-replicate g.row.N 24 0)
    ∙ zeros_behind c.args.n a (24 - g.row.N)
    ∙ ap (λ (z : List ℕ). zeros (drop c.args.n z)) e
