-- What is kept lies within the extension, and fits. Assumes nothing.
--     sound            of an extension that is indexed
use Prim.Native.Nat.{ℕ, zero, suc, ◌+◌, ◌-◌, ◌%◌, ◌≤◌, ◌<◌}
use mathlib.Core.Path.{◌≡◌, refl, ap, sym, ◌∙◌, subst}
use mathlib.Core.List.{List, [], ◌∷◌, ◌++◌}
use mathlib.Core.Bool.{Bool, true, false}
use native.Mathlib.Omega.{arith}
use lib.ListN.{length, get_or, take, drop, set, replicate, length-set, length-drop, length-replicate, get_or-replicate, get_or-eq_default}
use lib.Seq.{get_or-set_same, get_or-set_other, length-take-le}
use lib.Dec.{eqb, ltb}
use borrow.Author.Tests.{eqb-true, eqb-false, ltb-true, ltb-false}
use Rattle.refusal.specs.Outcome.{Result, accepted, pick, and_then}
use Rattle.refusal.proofs.Laws.{inverted, picked}
use Rattle.marks.specs.Mark.{marked, mark}
use Rattle.marks.proofs.Laws.{marked_other, unmarked, mark_below}
use Rattle.catalogue.specs.Catalogue.{Kind, number, flag, cid, token, address, versions, reserved, places, place_of, kind_at, defaults, fits}
use Rattle.catalogue.proofs.Places.{number_kind}
use Rattle.rules.specs.declared.Side.{Side}
use Rattle.front.specs.declared.Fault.{Fault}
use Rattle.front.specs.declared.Fault.TheVariants.{Illegal}
use Rattle.front.specs.Parameter.{located}
use Rattle.front.proofs.Position.{within}
use Rattle.value.specs.declared.Held.{Held}
use Rattle.value.specs.Value.{held_of, receive_value}
use Rattle.value.proofs.Checks.{Taken, taken, short}
use Rattle.index.specs.Index.{Found, initial_kept, nothing, keep, note, between, index_in, index_from, kept_rules, indexed, Sound}

-- a value that is no number is kept by its position
kept_start : (k : Kind) (a : ℕ) (v : List ℕ) → (k ≡ number → ⊥) → (held_of k a v).kept ≡ a
unfolding held_of
kept_start number a v n = absurd (n refl)
kept_start flag a v n = refl
kept_start cid a v n = refl
kept_start token a v n = refl
kept_start address a v n = refl
kept_start versions a v n = refl
kept_start reserved a v n = refl

module _ (s : List ℕ) (a e : ℕ) (ae : a ≤ e) (el : e ≤ length s) where
  pub between_length : length (between s a e) ≡ e - a
  between_length = length-take-le (e - a) (drop a s) (rw length-drop (omega arith))

  module _ (f : Found) (i : Sound s f) (p : ℕ) (x : Held) (met : Bool) (h : p < places) (r : accepted x ≡ receive_value met p a (between s a e)) where
    t : Taken p a (between s a e) x
    t = taken met p a (between s a e) x r

    -- at the place itself
    module _ (n : kind_at p ≡ number → ⊥) where
      pub start_kept : x.kept ≡ a
      start_kept = ap (λ (h : Held). h.kept) t.is ∙ kept_start (kind_at p) a (between s a e) n

      pub length_kept : length (between s a e) % 256 ≡ e - a
      length_kept = let k = short (kind_at p) (between s a e) n t.fit in omega (arith, between_length)

    pub keep_sound : Sound s (keep f p x.kept (length (between s a e)))
    unfolding keep
    keep_sound =
        record {
          marks = mark_below places f.0 p i.marks h;
          long = length-set f.1 p x.kept ∙ i.long;
          long_lens = length-set f.2 p _ ∙ i.long_lens;
          within = λ q n. at q n (eqb q p) refl;
          fit = λ q n m. fits_at q n m (eqb q p) refl;
        }
      where
        hk : p < length f.1
        hk = rw i.long h

        hl : p < length f.2
        hl = rw i.long_lens h

        at : (q : ℕ) → (kind_at q ≡ number → ⊥) → (b : Bool) → eqb q p ≡ b
            → get_or (set f.1 p x.kept) q 0 + get_or (set f.2 p (length (between s a e) % 256)) q 0 ≤ length s
        at q n true c =
            let n' : kind_at p ≡ number → ⊥ = λ k. n (rw (eqb-true q p c) k) in
            rw (eqb-true q p c, get_or-set_same f.1 p x.kept 0 hk, get_or-set_same f.2 p (length (between s a e) % 256) 0 hl, start_kept n', length_kept n') (omega arith)
        at q n false c =
            let d = eqb-false q p c in
            rw (get_or-set_other f.1 p q x.kept 0 d, get_or-set_other f.2 p q (length (between s a e) % 256) 0 d) (i.within q n)

        fits_at : (q : ℕ) → (kind_at q ≡ number → ⊥) → marked (mark f.0 p) q ≡ true → (b : Bool) → eqb q p ≡ b
            → fits (kind_at q) (take (get_or (set f.2 p (length (between s a e) % 256)) q 0) (drop (get_or (set f.1 p x.kept) q 0) s)) ≡ true
        fits_at q n m true c =
            let n' : kind_at p ≡ number → ⊥ = λ k. n (rw (eqb-true q p c) k) in
            rw (eqb-true q p c, get_or-set_same f.1 p x.kept 0 hk, get_or-set_same f.2 p (length (between s a e) % 256) 0 hl, start_kept n', length_kept n') t.fit
        fits_at q n m false c =
            let d = eqb-false q p c in
            rw (get_or-set_other f.1 p q x.kept 0 d, get_or-set_other f.2 p q (length (between s a e) % 256) 0 d) (i.fit q n (rw (marked_other f.0 p q d) at m))

-- zeros everywhere
zero_at : (n p : ℕ) → ◌≡◌ {A = ℕ} (get_or (replicate n 0) p 0) 0
zero_at n p = go (ltb p n) refl
  where
    go : (b : Bool) → ltb p n ≡ b → ◌≡◌ {A = ℕ} (get_or (replicate n 0) p 0) 0
    go true e = get_or-replicate n p 0 0 (ltb-true p n e)
    go false e = get_or-eq_default (replicate n 0) 0 (rw (length-replicate {A = ℕ} n 0) (ltb-false p n e))

appended : (ds : List ℕ) (n p : ℕ) → get_or (ds ++ replicate n 0) p 0 ≡ get_or ds p 0
appended [] n p = zero_at n p
appended (d ∷ ds) n zero = refl
appended (d ∷ ds) n (suc p) = appended ds n p

pub initial_at : (p : ℕ) → get_or initial_kept p 0 ≡ get_or defaults p 0
unfolding initial_kept
initial_at p = appended defaults (places - length defaults) p

-- only numbers have defaults
no_default : (p : ℕ) → (kind_at p ≡ number → ⊥) → get_or defaults p 0 ≡ 0
unfolding defaults
no_default p n = go (ltb p 11) refl
  where
    go : (b : Bool) → ltb p 11 ≡ b → get_or defaults p 0 ≡ 0
    go true e = absurd (n (number_kind p (ltb-true p 11 e)))
    go false e = get_or-eq_default defaults 0 {n = p} (ltb-false p 11 e)

pub start_sound : (s : List ℕ) → Sound s nothing
unfolding nothing
start_sound s =
    record {
      marks = omega arith;
      long = unfold initial_kept defaults in refl;
      long_lens = refl;
      within = λ p n. rw (initial_at p, no_default p n, zero_at places p) (omega arith);
      fit = λ p n m. absurd (let z : true ≡ false = sym m ∙ unmarked p in cc);
    }

sound_in : (n : ℕ) (s : List ℕ) (at : ℕ) (f g : Found) → at ≤ length s → Sound s f → index_in n s at f ≡ accepted g → Sound s g
sound_in zero s at f g h i e = let q : f ≡ g = cc in subst (Sound s) q i
sound_in (suc n) s at f g h i e = go (ltb at (length s)) e (sound_in n)
  where
    go : (b : Bool) → pick b (and_then (located s at) λ i. and_then (note f i.id i.start (between s i.start i.end)) λ g. index_in n s i.end g) (accepted f) ≡ accepted g
        → ((s : List ℕ) (at : ℕ) (f g : Found) → at ≤ length s → Sound s f → index_in n s at f ≡ accepted g → Sound s g) → Sound s g
    go false e ih = let q : f ≡ g = cc in subst (Sound s) q i
    go true e ih =
        inverted (located s at) _ g e λ j je jf.
        inverted (note f j.id j.start (between s j.start j.end)) _ g jf λ k ke kf.
        let w = within s at j h (sym je) in
        ih s j.end k g w.end (noted j.id j.start j.end w.start w.end k (ltb (place_of j.id) places) refl (unfold note in ke)) kf
      where
        noted : (id a e : ℕ) → a ≤ e → e ≤ length s → (k : Found) (b : Bool) → ltb (place_of id) places ≡ b
            → pick {A = Result Fault Found} b (and_then (receive_value (marked f.0 (place_of id)) (place_of id) a (between s a e)) λ x. accepted (keep f (place_of id) x.kept (length (between s a e)))) (accepted f) ≡ accepted k
            → Sound s k
        noted id a e ae el k false d q = let r : f ≡ k = cc in subst (Sound s) r i
        noted id a e ae el k true d q =
            inverted (receive_value (marked f.0 (place_of id)) (place_of id) a (between s a e)) _ k q λ x xe xf.
            let r : keep f (place_of id) x.kept (length (between s a e)) ≡ k = cc in
            subst (Sound s) r (keep_sound s a e ae el f i (place_of id) x _ (ltb-true _ _ d) (sym xe))

pub scan_sound : (s : List ℕ) (f : Found) → accepted f ≡ index_from s 0 nothing → Sound s f
unfolding index_from
scan_sound s f e = sound_in (length s - 0) s 0 nothing f (omega arith) (start_sound s) (sym e)

pub sound : (side : Side) (s : List ℕ) (f : Found) → accepted f ≡ indexed side s → Sound s f
unfolding indexed
sound side s f e =
    inverted (index_from s 0 nothing) _ f (sym e) λ g ge gf.
    picked (kept_rules side s g) g f Illegal gf λ t q. subst (Sound s) q (scan_sound s g (sym ge))
