-- What a word says, of an ID. Assumes nothing.
use Prim.Native.Nat.{ℕ}
use mathlib.Core.Path.{◌≡◌, refl, ap, sym, ◌∙◌}
use mathlib.Core.List.{List, [], ◌∷◌}
use mathlib.Core.Bool.{false, ◌&&◌}
use lib.ListN.{replicate, set}
use lib.Dec.{eqb}
use lib.Pointwise.{pointwise}
use Rattle.std.proofs.Common.{nat_eq}
use Rattle.std.specs.Prelude.{Result, Ok, Err}
use Rattle.words.specs.Words.{same_bytes}
use Rattle.text.specs.declared.HexError.{HexError}
use Rattle.text.specs.Text.{hex_stored}
use Rattle.form.specs.declared.Complaint.{Complaint}
use Rattle.form.specs.Ids.{empty_word, count_of, counted, of_hex, cid_said}

-- a word is compared byte by byte
same_word : (a b : List ℕ) → pointwise nat_eq a b ≡ same_bytes a b
same_word [] [] = refl
same_word [] (y ∷ b) = refl
same_word (x ∷ a) [] = refl
same_word (x ∷ a) (y ∷ b) = ap (λ t. eqb x y && t) (same_word a b)

hex : (digits l : List ℕ) (w : Result ℕ HexError × List ℕ) → false ≡ pointwise nat_eq digits l → l ≡ empty_word
    → w ≡ hex_stored digits 1 20 (replicate 21 0) → of_hex w ≡ cid_said digits
unfolding cid_said
hex digits l w t e h =
    let f : same_bytes digits empty_word ≡ false = sym (same_word digits empty_word) ∙ sym (t ∙ ap (pointwise nat_eq digits) e) in
    rw f (ap of_hex h)

pub said : (digits l : List ℕ) (w : Result ℕ HexError × List ℕ) (c : Result ℕ Complaint) (n : ℕ) → false ≡ pointwise nat_eq digits l → l ≡ empty_word
    → w ≡ hex_stored digits 1 20 (replicate 21 0) → c ≡ count_of w.0 → c ≡ Ok n → Ok (set w.1 0 n) ≡ cid_said digits
said digits l w c n t e h k i = ap (λ c. counted c w.1) (sym i ∙ k) ∙ hex digits l w t e h

pub not_said : (digits l : List ℕ) (w : Result ℕ HexError × List ℕ) (c : Result ℕ Complaint) (f : Complaint) → false ≡ pointwise nat_eq digits l → l ≡ empty_word
    → w ≡ hex_stored digits 1 20 (replicate 21 0) → c ≡ count_of w.0 → c ≡ Err f → ◌≡◌ {A = Result (List ℕ) Complaint} (Err f) (cid_said digits)
not_said digits l w c f t e h k i = ap (λ c. counted c w.1) (sym i ∙ k) ∙ hex digits l w t e h
