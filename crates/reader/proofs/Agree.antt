-- What the index keeps agrees with the values that reading collects. Assumes nothing.
--     Agrees       by place: met, the number, the value
--     simulate     going through an extension and reading it stop at the same fault, or agree
use Prim.Native.Nat.{ℕ, zero, suc, ◌-◌, ◌%◌, ◌≤◌, ◌<◌}
use mathlib.Core.Path.{◌≡◌, refl, ap, sym, ◌∙◌}
use mathlib.Core.List.{List}
use mathlib.Core.Option.{some}
use mathlib.Core.Bool.{Bool, true, false}
use native.Mathlib.Omega.{arith}
use lib.ListN.{length, get_or, drop, set, length-drop, drop_of_length-le}
use lib.Seq.{get_or-set_same, get_or-set_other}
use lib.Dec.{eqb, ltb}
use borrow.Author.Tests.{eqb-true, eqb-false, ltb-true, ltb-false}
use Rattle.refusal.specs.Outcome.{Result, accepted, refused, pick, and_then}
use Rattle.marks.specs.Mark.{marked, mark}
use Rattle.marks.proofs.Laws.{marked_same, marked_other, unmarked}
use Rattle.catalogue.specs.Catalogue.{number, places, place_of, kind_at, defaults, fits, illegal}
use Rattle.record.specs.Values.{Values, no_values, is_some, upd, number_in}
use Rattle.front.specs.declared.Fault.{Fault}
use Rattle.front.specs.declared.Fault.TheVariants.{SecondCopy, Misfit, Illegal}
use Rattle.front.specs.declared.Parameter.{Parameter}
use Rattle.front.specs.Parameter.{located}
use Rattle.front.proofs.Position.{within, cut_out, located_front}
use Rattle.varint.specs.Number.{read_number}
use Rattle.value.specs.declared.Held.{Held}
use Rattle.value.specs.Value.{held_of, check_kind, receive_value}
use Rattle.value.proofs.Checks.{taken, kept_number}
use Rattle.index.specs.Index.{Found, nothing, keep, note, between, index_in, index_from, value_at, Sound}
use Rattle.index.proofs.Sound.{initial_at, start_sound, keep_sound, start_kept, length_kept}
use Rattle.reader.specs.Reading.{receive, step, parse}
use Rattle.reader.proofs.Run.{parse_cut, parse_nil, parse_front, upd_here, upd_there}

pub record Agrees (s : List ℕ) (f : Found) (l : Values) : Type 0 where
  pub met : (p : ℕ) → is_some (l p) ≡ marked f.0 p
  pub number_at : (p : ℕ) → kind_at p ≡ number → get_or f.1 p 0 ≡ number_in (get_or defaults p 0) (l p)
  pub value_at : (p : ℕ) → (kind_at p ≡ number → ⊥) → l p ≡ value_at s f p

start_agrees : (s : List ℕ) → Agrees s nothing no_values
unfolding nothing no_values number_in value_at
start_agrees s =
    record {
      met = λ p. rw (unmarked p);
      number_at = λ p k. initial_at p;
      value_at = λ p n. rw (unmarked p);
    }

-- a value more
module _ (s : List ℕ) (a e : ℕ) (ae : a ≤ e) (el : e ≤ length s) (f : Found) (i : Sound s f) (p : ℕ) (x : Held) (b : Bool) (h : p < places)
    (r : accepted x ≡ receive_value b p a (between s a e)) (l : Values) (g : Agrees s f l) where
  hk : p < length f.1
  hk = rw i.long h

  hl : p < length f.2
  hl = rw i.long_lens h

  same_number : kind_at p ≡ number → x.kept ≡ number_in (get_or defaults p 0) (some (between s a e))
  unfolding number_in
  same_number k = ap (λ (h : Held). h.kept) (taken b p a (between s a e) x r).is ∙ (unfold held_of in rw k (kept_number (read_number (between s a e))))

  pub keep_agrees : Agrees s (keep f p x.kept (length (between s a e))) (upd l p (some (between s a e)))
  unfolding keep value_at
  keep_agrees =
      record { met = λ q. met_at q (eqb q p) refl; number_at = λ q k. number_there q k (eqb q p) refl; value_at = λ q n. value_there q n (eqb q p) refl }
    where
      met_at : (q : ℕ) (c : Bool) → eqb q p ≡ c → is_some (upd l p (some (between s a e)) q) ≡ marked (mark f.0 p) q
      met_at q true d = rw (eqb-true q p d, upd_here l p (some (between s a e)), marked_same f.0 p)
      met_at q false d = let n = eqb-false q p d in rw (upd_there l p q (some (between s a e)) n, marked_other f.0 p q n) (g.met q)

      number_there : (q : ℕ) → kind_at q ≡ number → (c : Bool) → eqb q p ≡ c
          → get_or (set f.1 p x.kept) q 0 ≡ number_in (get_or defaults q 0) (upd l p (some (between s a e)) q)
      number_there q k true d =
          let z : q ≡ p = eqb-true q p d in
          let kp : kind_at p ≡ number = rw z at k in
          rw (z, get_or-set_same f.1 p x.kept 0 hk, upd_here l p (some (between s a e))) (same_number kp)
      number_there q k false d =
          let n = eqb-false q p d in
          rw (get_or-set_other f.1 p q x.kept 0 n, upd_there l p q (some (between s a e)) n) (g.number_at q k)

      value_there : (q : ℕ) → (kind_at q ≡ number → ⊥) → (c : Bool) → eqb q p ≡ c
          → upd l p (some (between s a e)) q ≡ value_at s (mark f.0 p, set f.1 p x.kept, set f.2 p (length (between s a e) % 256)) q
      value_there q n true d =
          let z : q ≡ p = eqb-true q p d in
          let n' : kind_at p ≡ number → ⊥ = λ k. n (rw z k) in
          rw (
            z,
            upd_here l p (some (between s a e)),
            marked_same f.0 p,
            get_or-set_same f.1 p x.kept 0 hk,
            get_or-set_same f.2 p (length (between s a e) % 256) 0 hl,
            start_kept s a e ae el f i p x b h r n',
            length_kept s a e ae el f i p x b h r n',
          )
      value_there q n false d =
          let m = eqb-false q p d in
          rw (
            upd_there l p q (some (between s a e)) m,
            marked_other f.0 p q m,
            get_or-set_other f.1 p q x.kept 0 m,
            get_or-set_other f.2 p q (length (between s a e) % 256) 0 m,
          )
          (g.value_at q n)

-- receiving a value, by what is kept of it
receive_open : (l : Values) (p a : ℕ) (v : List ℕ) → receive l p v ≡ and_then (receive_value (is_some (l p)) p a v) (λ x. accepted (upd l p (some v)))
unfolding receive receive_value check_kind
receive_open l p a v = go (is_some (l p)) (illegal (kind_at p) v) (fits (kind_at p) v)
  where
    go : (t i c : Bool)
        → pick {A = Result Fault Values} t (refused SecondCopy) (pick i (refused Illegal) (pick c (accepted (upd l p (some v))) (refused Misfit)))
        ≡ and_then (pick {A = Result Fault Held} t (refused SecondCopy) (pick i (refused Illegal) (pick c (accepted (held_of (kind_at p) a v)) (refused Misfit)))) (λ x. accepted (upd l p (some v)))
    go true i c = refl
    go false true c = refl
    go false false true = refl
    go false false false = refl

-- THE SAME OUTCOME
abbrev pub Related : List ℕ → Result Fault Found → Result Fault Values → Type 0
Related s (accepted f) (accepted l) = Sound s f × Agrees s f l
Related s (accepted f) (refused x) = ⊥
Related s (refused y) (accepted l) = ⊥
Related s (refused y) (refused x) = y ≡ x

Simulates : ℕ → Type 0
Simulates n = (s : List ℕ) (at : ℕ) (f : Found) (l : Values) → at ≤ length s → length s - at ≤ n → Sound s f → Agrees s f l
    → Related s (index_in n s at f) (parse l (drop at s))

at_end : (s : List ℕ) (at : ℕ) (f : Found) (l : Values) → length s ≤ at → Sound s f → Agrees s f l → Related s (accepted f) (parse l (drop at s))
at_end s at f l h i g = rw (drop_of_length-le s h, parse_nil l) (i, g)

-- one parameter, and then the rest
module _ (n : ℕ) (ih : Simulates n) (s : List ℕ) (at : ℕ) (f : Found) (l : Values) (hl : at < length s) (hn : length s - at ≤ suc n) (i : Sound s f) (g : Agrees s f l) where
  module _ (j : Parameter) (q : located s at ≡ accepted j) where
    front : parse l (drop at s) ≡ and_then (step l j.id (between s j.start j.end)) (λ m. parse m (drop j.end s))
    front = parse_front l (drop at s) (j.id, between s j.start j.end, drop j.end s) (located_front s at ∙ ap (cut_out s) q)

    rest : (f' : Found) (l' : Values) → Sound s f' → Agrees s f' l' → Related s (index_in n s j.end f') (parse l' (drop j.end s))
    unfolding Simulates
    rest f' l' i' g' =
        let w = within s at j (omega arith) (sym q) in
        ih s j.end f' l' w.end (omega (arith, w.behind, w.start)) i' g'

    known : (p : ℕ) → p < places → (o : Result Fault Held) → receive_value (marked f.0 p) p j.start (between s j.start j.end) ≡ o
        → Related s (and_then (and_then o λ x. accepted (keep f p x.kept (length (between s j.start j.end)))) (λ k. index_in n s j.end k))
        (and_then (and_then o λ x. accepted (upd l p (some (between s j.start j.end)))) (λ m. parse m (drop j.end s)))
    known p h (refused x) r = refl
    known p h (accepted x) r =
        let w = within s at j (omega arith) (sym q) in
        rest _ _ (keep_sound s j.start j.end w.start w.end f i p x _ h (sym r)) (keep_agrees s j.start j.end w.start w.end f i p x _ h (sym r) l g)

    turned : (c : Bool) → ltb (place_of j.id) places ≡ c
        → Related s (and_then (pick c (and_then (receive_value (marked f.0 (place_of j.id)) (place_of j.id) j.start (between s j.start j.end)) λ x. accepted (keep f (place_of j.id) x.kept (length (between s j.start j.end)))) (accepted f)) (λ k. index_in n s j.end k))
        (and_then (pick c (receive l (place_of j.id) (between s j.start j.end)) (accepted l)) (λ m. parse m (drop j.end s)))
    turned false d = rest f l i g
    turned true d =
        rw (receive_open l (place_of j.id) j.start (between s j.start j.end), g.met (place_of j.id))
        (known (place_of j.id) (ltb-true _ _ d) (receive_value (marked f.0 (place_of j.id)) (place_of j.id) j.start (between s j.start j.end)) refl)

  one : (o : Result Fault Parameter) → located s at ≡ o
      → Related s (and_then o λ i. and_then (note f i.id i.start (between s i.start i.end)) λ k. index_in n s i.end k) (parse l (drop at s))
  one (refused x) q =
      rw (parse_cut l (drop at s) x (simp length-drop (omega arith)) (located_front s at ∙ ap (cut_out s) q)) refl
  one (accepted j) q =
      rw (front j q) (unfold note step in turned j q (ltb (place_of j.id) places) refl)

simulate : (n : ℕ) → Simulates n
unfolding Simulates
simulate zero s at f l h k i g = at_end s at f l (omega arith) i g
simulate (suc n) s at f l h k i g = go (ltb at (length s)) refl (simulate n)
  where
    go : (c : Bool) → ltb at (length s) ≡ c → Simulates n
        → Related s (pick c (and_then (located s at) λ i. and_then (note f i.id i.start (between s i.start i.end)) λ k. index_in n s i.end k) (accepted f)) (parse l (drop at s))
    go false d ih = at_end s at f l (ltb-false at (length s) d) i g
    go true d ih = one n ih s at f l (ltb-true at (length s) d) k i g (located s at) refl

pub related : (s : List ℕ) → Related s (index_from s 0 nothing) (parse no_values s)
unfolding index_from Simulates
related s = simulate (length s - 0) s 0 nothing no_values (omega arith) (omega arith) (start_sound s) (start_agrees s)
