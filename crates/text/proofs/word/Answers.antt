-- `word` meets its contract. Assumes nothing.
use Rattle.std.proofs.Common.{◌≡◌, refl, ℕ, zero, suc, List, [], ◌∷◌, get_or, Option, Some, None, Bor}
use Rattle.std.specs.Prelude.{slice_get, unwrap_or}
use Rattle.std.specs.Option.{option_map}
use Rattle.std.proofs.lemmas.Iterator.Consumers.{nth_from_yields_List, YieldsList-from_first}
use Rattle.text.specs.Text.{words_in}
use Rattle.text.proofs.Splits.{nth_word}
use Rattle.text.proofs.word.Goals as goal

-- a text of a list, or nothing
word_given : (r : Option (Bor (List ℕ))) (d : Bor (List ℕ)) (all : List (List ℕ)) (k : ℕ) → option_map (λ x. x.now) r ≡ slice_get all k → (unwrap_or r d).now ≡ get_or all k d.now
word_given None d [] k e = refl
word_given (Some x) d [] k e = cc
word_given None d (y ∷ all) zero e = cc
word_given (Some x) d (y ∷ all) zero e = cc
word_given r d (y ∷ all) (suc k) e = word_given r d all k e

pub returns : goal.returns
returns c =
    let e = nth_from_yields_List c.nth.result c.nth.new.self c.args.k c.nth.ensures.ran (YieldsList-from_first (λ x. x.now) (λ words. words_in words.sep words.rest.now) _ refl) in
    rw (c.unwrap_or.ensures, word_given c.nth.result _ _ c.args.k e, c.words_of.ensures.0, c.words_of.ensures.1) (nth_word c.args.sep c.args.k c.args.text.now)
