-- Laws of connection IDs. Assumes nothing.
--     cid_facts         what it takes to be well formed
--     formed_within     and its length, as the code knows it
--     cid_length_lem    a well-formed ID has as many bytes as it says
--     cid_of_lem        a well-formed ID is that of its bytes
--     cid_none          the one of length 0 is the empty ID
--     cid_read_lem      the ID of at most 20 bytes is well formed
--     cid_same          the bytes of the ID of some bytes are these
--     same_exactly      two IDs are the same exactly if they are equal, well formed or not
--     same_told         well-formed ones exactly if their bytes are
--     cid_back          a written ID reads back, with any bytes behind it
--     cid_sound         an accepted ID is well formed, its count within the input, and its bytes
--                       the only form of it
use Prim.Native.Nat.{ℕ, ◌+◌, ◌-◌, ◌≤◌}
use mathlib.Core.Path.{◌≡◌, refl, ap, ap₂, sym, ◌∙◌}
use mathlib.Core.Logic.{◌↔◌}
use mathlib.Core.List.{List, [], ◌∷◌, ◌++◌}
use mathlib.Core.Bool.{true}
use native.Mathlib.Omega.{arith}
use native.Mathlib.Numerals.{add-one}
use lib.ListN.{length, take, drop, replicate, length-append, length-replicate, length-drop, take-append-drop}
use lib.Seq.{length-take-le, take-append_seam, drop-append_seam, take_at}
use lib.Dec.{leb}
use borrow.Author.Tests.{le-leb, leb-true, eq-eqb, eqb-true}
use Rattle.refusal.specs.Outcome.{accepted, all}
use Rattle.std.proofs.lemmas.Bool.{and_parts}
use Rattle.refusal.proofs.Laws.{picked, all_at}
use Rattle.words.specs.Words.{zeros}
use Rattle.words.proofs.Laws.{same_itself, same_are, zeros_are, zeros_replicate}
use Rattle.connection_id.specs.declared.ConnectionId.{ConnectionId}
use Rattle.words.specs.Words.{zeros}
use Rattle.connection_id.specs.ConnectionId.{cid_of, cid_bytes, formed_cid, same_cid, read_cid, cid_wire}

pub record Cid (c : ConnectionId) : Type 0 where
  pub long : length c.bytes ≡ 20
  pub within : c.len ≤ 20
  pub after : zeros (drop c.len c.bytes) ≡ true

pub cid_facts : (c : ConnectionId) → formed_cid c ≡ true → Cid c
unfolding formed_cid
cid_facts c h = let a = all_at _ h in record { long = eqb-true _ _ (a 0); within = leb-true _ _ (a 1); after = a 2 }

pub formed_within : (c : ConnectionId) → true ≡ formed_cid c → c.len ≤ 20
formed_within c h = (cid_facts c (sym h)).within

pub cid_length_lem : (c : ConnectionId) → Cid c → length (cid_bytes c) ≡ c.len
cid_length_lem c k = length-take-le c.len c.bytes (omega (arith, k.long, k.within))

pub cid_of_lem : (c : ConnectionId) → formed_cid c ≡ true → cid_of (cid_bytes c) ≡ c
unfolding cid_of
cid_of_lem c h = go c.len c.bytes (cid_facts c h)
  where
    go : (n : ℕ) (bs : List ℕ) → Cid (record { len = n; bytes = bs }) → cid_of (take n bs) ≡ record { len = n; bytes = bs }
    go n bs k =
        let e = cid_length_lem (record { len = n; bytes = bs }) k in
        let d : drop n bs ≡ replicate (20 - n) 0 = zeros_are (drop n bs) k.after ∙ ap (λ m. replicate m 0) (length-drop n bs ∙ ap (λ m. m - n) k.long) in
        rw (e, ← d, take-append-drop)

pub cid_none : (c : ConnectionId) → formed_cid c ≡ true → c.len ≡ 0 → cid_of [] ≡ c
cid_none c h e = ap (λ m. cid_of (take m c.bytes)) (sym e) ∙ cid_of_lem c h

pub cid_read_lem : (v : List ℕ) → length v ≤ 20 → formed_cid (cid_of v) ≡ true
unfolding formed_cid cid_of all
cid_read_lem v h =
    let n : length (v ++ replicate (20 - length v) 0) ≡ 20 = simp (length-append, length-replicate) (omega arith) in
    rw (eq-eqb _ _ n, le-leb _ _ h, drop-append_seam v, zeros_replicate)

pub cid_same : (v : List ℕ) → cid_bytes (cid_of v) ≡ v
unfolding cid_of
cid_same v = take-append_seam v _

same : (c d : ConnectionId) → same_cid c d ≡ true → c ≡ d
unfolding same_cid
same c d h = let p = and_parts _ _ h in ap₂ (λ n b. record { len = n; bytes = b }) (eqb-true _ _ p.0) (same_are _ _ p.1)

itself : (c : ConnectionId) → same_cid c c ≡ true
unfolding same_cid
itself c = rw (eq-eqb c.len c.len refl, same_itself c.bytes)

pub same_exactly : (c d : ConnectionId) → (same_cid c d ≡ true) ↔ (c ≡ d)
same_exactly c d = (same c d, λ e. ap (same_cid c) (sym e) ∙ itself c)

pub same_told : (c d : ConnectionId) → formed_cid c ≡ true → formed_cid d ≡ true → (same_cid c d ≡ true) ↔ (cid_bytes c ≡ cid_bytes d)
same_told c d f g =
    let s = same_exactly c d in
    (λ h. ap cid_bytes (s.0 h), λ e. s.1 (sym (cid_of_lem c f) ∙ ap cid_of e ∙ cid_of_lem d g))

pub cid_back : (c : ConnectionId) (rest : List ℕ) → formed_cid c ≡ true → read_cid (cid_wire c ++ rest) ≡ accepted (c, c.len + 1)
unfolding read_cid
cid_back c rest h =
    let k = cid_facts c h in
    let e = cid_length_lem c k in
    let l : c.len ≤ length (cid_bytes c ++ rest) = simp length-append (omega arith) in
    rw (le-leb _ _ k.within, le-leb _ _ l, take_at (cid_bytes c) rest c.len e, cid_of_lem c h)

-- what an accepted ID shows
pub record Sound (bs : List ℕ) (c : ConnectionId) (n : ℕ) : Type 0 where
  pub formed : formed_cid c ≡ true
  pub fit : n ≤ length bs
  pub count : n ≡ c.len + 1
  pub shortest : n ≡ length (cid_wire c)
  pub same : take n bs ≡ cid_wire c

pub cid_sound : (bs : List ℕ) (c : ConnectionId) (n : ℕ) → read_cid bs ≡ accepted (c, n) → Sound bs c n
unfolding read_cid cid_of
cid_sound [] c n e = cc
cid_sound (m ∷ bs) c n e = picked _ _ _ _ e (λ t a. go (and_parts _ _ t) a)
  where
    go : (leb m 20 ≡ true) × (leb m (length bs) ≡ true) → ◌≡◌ {A = ConnectionId × ℕ} (cid_of (take m bs), m + 1) (c, n) → Sound (m ∷ bs) c n
    go t a =
        let h = length-take-le m bs (leb-true _ _ t.1) in
        let s : cid_of (take m bs) ≡ c = ap (λ (p : ConnectionId × ℕ). p.0) a in
        let q : m + 1 ≡ n = ap (λ (p : ConnectionId × ℕ). p.1) a in
        let f : formed_cid c ≡ true = ap formed_cid (sym s) ∙ cid_read_lem (take m bs) (omega (arith, leb-true m 20 t.0)) in
        let l : length (take m bs) ≡ c.len = ap (λ (d : ConnectionId). d.len) s in
        let w = cid_length_lem c (cid_facts c f) in
        let e : m ≡ c.len = omega arith in
        record {
          formed = f;
          fit = omega (arith, leb-true m (length bs) t.1);
          count = omega arith;
          shortest = omega arith;
          same = rw (← q, add-one) (ap₂ ◌∷◌ e (sym (cid_same (take m bs)) ∙ ap cid_bytes s));
        }
