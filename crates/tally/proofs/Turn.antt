-- A parameter of an extension, cut out of the bytes that it stands in, and the counts from it on.
-- Assumes nothing.
--     head_at      what shorter forms of its identifier and length would have saved
--     own          a parameter, cut out of the bytes that it stands in
--     turn         the counts from it on are what it adds, and the counts behind it
use Prim.Native.Nat.{ℕ, ◌+◌, ◌-◌, ◌≤◌}
use mathlib.Core.Path.{◌≡◌, refl, ap, sym, ◌∙◌}
use mathlib.Core.List.{List, [], ◌∷◌, ◌++◌}
use native.Mathlib.Omega.{arith}
use lib.ListN.{length, take, drop, length-append, length-drop}
use lib.Seq.{drop-drop, take_at, drop-append-le}
use Rattle.refusal.specs.Outcome.{Result, accepted}
use Rattle.refusal.proofs.Laws.{inverted, picked}
use Rattle.varint.specs.Number.{read_number}
use Rattle.varint.proofs.Laws.{read_within, number_append}
use Rattle.front.specs.declared.Fault.{Fault}
use Rattle.front.specs.declared.Fault.TheVariants.{Cut}
use Rattle.front.specs.declared.Parameter.{Parameter}
use Rattle.front.specs.Parameter.{or_cut, saved_head, read_parameter, located}
use Rattle.front.specs.Whole.{Whole, parameters}
use Rattle.front.proofs.Front.{not_cut, at_front, front_append}
use Rattle.front.proofs.Split.{CutOut, cut_out_lem}
use Rattle.front.proofs.Parts.{parameters_front}
use Rattle.front.proofs.Position.{cut_out, located_front, within}

-- bytes that are a parameter: identifier and value, and what shorter forms of identifier and length
-- would have saved
pub record Own (w : List ℕ) (id : ℕ) (v : List ℕ) (n : ℕ) : Type 0 where
  pub is : read_parameter w ≡ accepted (id, v, [])
  pub head : saved_head w ≡ n

-- what shorter forms would have saved, as it is located; and whatever stands behind
pub head_at : (s : List ℕ) (at : ℕ) (p : Parameter) → accepted p ≡ located s at → saved_head (drop at s) ≡ p.saved
unfolding located saved_head
head_at s at p q =
    inverted (or_cut (read_number (drop at s))) _ p (sym q) λ i ic ie.
    inverted (or_cut (read_number (drop (at + i.count) s))) _ p ie λ l lc lf.
    picked _ _ p Cut lf λ t e.
    rw (not_cut _ i ic, drop-drop i.count at s, not_cut _ l lc) (ap (λ (p : Parameter). p.saved) e)

head_append : (w cs : List ℕ) → Whole w → saved_head (w ++ cs) ≡ saved_head w
unfolding saved_head
head_append w cs h =
    let f = at_front w (h.id, h.v, []) h.is in
    let d : drop f.i.count (w ++ cs) ≡ drop f.i.count w ++ cs = drop-append-le f.i.count w cs (read_within w f.i f.first).1 in
    rw (f.first, number_append w cs f.i f.first, d, f.second, number_append (drop f.i.count w) cs f.l f.second)

-- cut out of any bytes
own_cut : (bs rest v : List ℕ) (id n k : ℕ) → read_parameter bs ≡ accepted (id, v, rest) → saved_head bs ≡ n → k + length rest ≡ length bs → CutOut bs rest → Own (take k bs) id v n
own_cut bs rest v id n k r m l c =
    let h = c.whole in
    let z : length c.w ≡ k = let y : length c.w + length rest ≡ length bs = sym (length-append c.w rest) ∙ ap length c.are in omega arith in
    let t : take k bs ≡ c.w = ap (take k) (sym c.are) ∙ take_at c.w rest k z in
    let j : read_parameter bs ≡ accepted (h.id, h.v, rest) = rw c.are at (front_append c.w rest (h.id, h.v, []) h.is) in
    let e : ◌≡◌ {A = Result Fault (ℕ × List ℕ × List ℕ)} (accepted (h.id, h.v, rest)) (accepted (id, v, rest)) = sym j ∙ r in
    let u : ◌≡◌ {A = ℕ × List ℕ × List ℕ} (h.id, h.v, rest) (id, v, rest) = cc in
    let g : saved_head c.w ≡ n = sym (head_append c.w rest h) ∙ ap saved_head c.are ∙ m in
    rw t (record { is = h.is ∙ ap (λ (j : ℕ × List ℕ × List ℕ). accepted (j.0, j.1, [])) u; head = g })

pub own : (s : List ℕ) (at : ℕ) (p : Parameter) → at ≤ length s → accepted p ≡ located s at
    → Own (take (p.end - at) (drop at s)) p.id (take (p.end - p.start) (drop p.start s)) p.saved
own s at p h q =
    let i = within s at p h q in
    let r : read_parameter (drop at s) ≡ accepted (p.id, take (p.end - p.start) (drop p.start s), drop p.end s) = located_front s at ∙ ap (cut_out s) (sym q) in
    let l : p.end - at + length (drop p.end s) ≡ length (drop at s) = simp length-drop (omega (arith, i.end, i.start, i.behind)) in
    own_cut (drop at s) (drop p.end s) _ p.id p.saved (p.end - at) r (head_at s at p q) l (cut_out_lem (drop at s) _ r)

-- the parameters from its position on
pub turn : (s : List ℕ) (at : ℕ) (p : Parameter) → at ≤ length s → accepted p ≡ located s at → parameters (drop at s) ≡ take (p.end - at) (drop at s) ∷ parameters (drop p.end s)
turn s at p h q =
    let w = within s at p h q in
    let e : length (drop at s) - length (drop p.end s) ≡ p.end - at = simp length-drop (omega (arith, w.end, w.start, w.behind)) in
    parameters_front (drop at s) _ (located_front s at ∙ ap (cut_out s) (sym q)) ∙ rw e refl
