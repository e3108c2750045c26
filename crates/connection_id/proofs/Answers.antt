-- What the code answers at each `return`, as the definitions have it. Assumes nothing.
use Prim.Native.Nat.{ℕ, ◌+◌, ◌-◌, ◌≤◌, ◌<◌}
use mathlib.Core.Path.{◌≡◌, refl, ap, ◌∙◌}
use mathlib.Core.List.{List, [], ◌∷◌, ◌++◌}
use mathlib.Core.Bool.{true, false}
use native.Mathlib.Omega.{arith}
use native.Mathlib.Numerals.{add-one}
use lib.ListN.{length, get_or, take, drop, set}
use borrow.Author.Tests.{le-leb, lt-leb}
use Rattle.std.specs.Prelude.{Result as Answer, Ok, Err}
use Rattle.refusal.specs.Answer.{outcome_of}
use Rattle.refusal.specs.Outcome.{Outcome, accepted, refused, front, store}
use Rattle.refusal.specs.Number.{number_of}
use Rattle.refusal.specs.declared.Refusal.{Refusal}
use Rattle.connection_id.specs.declared.ConnectionId.{ConnectionId}
use Rattle.connection_id.specs.ConnectionId.{cid_of, cid_bytes, formed_cid, make_cid, read_cid, cid_wire, write_cid}
use Rattle.connection_id.proofs.Laws.{cid_facts, cid_length_lem}

-- made of at most 20 bytes
pub made : (r : Answer ConnectionId Refusal) (v : List ℕ) → outcome_of r ≡ make_cid v → length v ≤ 20 → r ≡ Ok (cid_of v)
unfolding make_cid
made (Ok c) v e h =
    let x : ◌≡◌ {A = Outcome ConnectionId} (accepted c) (accepted (cid_of v)) = e ∙ rw (le-leb _ _ h) in
    let y : c ≡ cid_of v = cc in
    ap Ok y
made (Err f) v e h =
    let x : ◌≡◌ {A = Outcome ConnectionId} (refused (number_of f)) (accepted (cid_of v)) = e ∙ rw (le-leb _ _ h) in
    cc

-- reading
pub read_none : (s : List ℕ) → length s ≡ 0 → refused 1 ≡ read_cid s
unfolding read_cid
read_none [] h = refl
read_none (n ∷ bs) h = absurd (omega arith)

pub read_long : (s : List ℕ) → 0 < length s → 20 < get_or s 0 0 → refused 1 ≡ read_cid s
unfolding read_cid
read_long [] p h = absurd (omega arith)
read_long (n ∷ bs) p h = rw (lt-leb n 20 h)

pub read_short : (s : List ℕ) → 0 < length s → get_or s 0 0 ≤ 20 → length s < get_or s 0 0 + 1 → refused 1 ≡ read_cid s
unfolding read_cid
read_short [] p h k = absurd (omega arith)
read_short (n ∷ bs) p h k = rw (le-leb n 20 h, lt-leb n (length bs) (omega arith))

pub read_whole : (c : ConnectionId) (s : List ℕ) → c ≡ cid_of (take (get_or s 0 0 + 1 - 1) (drop 1 s)) → 0 < length s → get_or s 0 0 ≤ 20
    → get_or s 0 0 + 1 ≤ length s → ◌≡◌ {A = Outcome (ConnectionId × ℕ)} (accepted (c, get_or s 0 0 + 1)) (read_cid s)
unfolding read_cid
read_whole c [] q p h k = absurd (omega arith)
read_whole c (n ∷ bs) q p h k =
    let e : n + 1 - 1 ≡ n = omega arith in
    let d : c ≡ cid_of (take n bs) = q ∙ ap (λ m. cid_of (take m bs)) e in
    rw (d, le-leb n 20 h, le-leb n (length bs) (omega arith))

-- writing
pub write_ill : (c : ConnectionId) (out : List ℕ) → formed_cid c ≡ false → write_cid c out ≡ (refused 7, out)
unfolding write_cid
write_ill c out h = rw h

pub write_short : (c : ConnectionId) (out : List ℕ) → formed_cid c ≡ true → length out < c.len + 1 → write_cid c out ≡ (refused 5, out)
unfolding write_cid store
write_short c out h k =
    let e : length (cid_wire c) ≡ c.len + 1 = omega (arith, cid_length_lem c (cid_facts c h)) in
    let l : length out < length (cid_wire c) = omega arith in
    rw (h, lt-leb _ _ l)

pub write_whole : (c : ConnectionId) (out id : List ℕ) (n : ℕ) → n ≡ c.len → formed_cid c ≡ true → n + 1 ≤ length out → id ≡ take n c.bytes
    → (accepted (n + 1), take 1 (set out 0 c.len) ++ (id ++ drop (n + 1 - 1) (drop 1 (set out 0 c.len)))) ≡ write_cid c out
unfolding write_cid store front
write_whole c [] id n a h k e = absurd (omega arith)
write_whole c (b ∷ out) id n a h k e =
    let w = cid_length_lem c (cid_facts c h) in
    let m : length (cid_wire c) ≡ n + 1 = omega arith in
    let l : length (cid_wire c) ≤ length (b ∷ out) = omega arith in
    let d : n + 1 - 1 ≡ length (cid_bytes c) = omega arith in
    let f : id ≡ cid_bytes c = e ∙ ap (λ (i : ℕ). take i c.bytes) a in
    let j : length (cid_bytes c) ≡ n = omega arith in
    let g : drop (length (cid_bytes c)) out ≡ drop (n + 1) (b ∷ out) = rw (j, add-one n) in
    rw (h, le-leb _ _ l, m, d, f) (ap (λ (t : List ℕ). (accepted (n + 1), c.len ∷ (cid_bytes c ++ t))) g)
