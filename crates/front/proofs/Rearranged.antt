-- Whole parameters in another order. Assumes nothing.
--     still_whole     they are whole
--     same_length     and have the same length
use Prim.Native.Nat.{ℕ}
use mathlib.Core.Path.{◌≡◌, refl, ap, sym, ◌∙◌, subst}
use mathlib.Core.List.{List, Permᴰ}
use mathlib.Core.Logic.{∥∥₁_elim}
use native.Mathlib.Nat.{ℕ_set}
use native.Mathlib.Omega.{arith}
use lib.ListN.{length, length-append}
use Rattle.front.specs.Whole.{Whole, concat, Wholes, Rearranged}

pub still_whole : {ws us : List (List ℕ)} → Permᴰ ws us → Wholes ws → Wholes us
still_whole Permᴰ.nil h = h
still_whole (Permᴰ.cons p d) h = (subst Whole p h.0, still_whole d h.1)
still_whole (Permᴰ.swap p q) h = (subst Whole q h.1.0, (subst Whole p h.0, h.1.1))
still_whole (Permᴰ.trans d t) h = still_whole t (still_whole d h)

lengths : {ws us : List (List ℕ)} → Permᴰ ws us → length (concat us) ≡ length (concat ws)
lengths Permᴰ.nil = refl
lengths (Permᴰ.cons p d) = let ih = lengths d in rw p (simp length-append (omega arith))
lengths (Permᴰ.swap p q) = rw (p, q) (simp length-append (omega arith))
lengths (Permᴰ.trans d t) = lengths t ∙ lengths d

pub same_length : (e e' : List ℕ) → Rearranged e e' → length e' ≡ length e
same_length e e' i = ap length (sym i.is') ∙ ∥∥₁_elim i.moved (ℕ_set _ _) lengths ∙ ap length i.composed.is
