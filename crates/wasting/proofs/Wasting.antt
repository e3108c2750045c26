-- What one parameter adds to the counts, by the parameter that the code finds at the front of its
-- bytes. Assumes nothing.
--     none_adds                        bytes that are no parameter
--     unknown_adds, default_adds       one that is skipped, or that restates a default
--     number_adds, other_adds          one that is sent again
use Prim.Native.Nat.{ℕ, ◌+◌, ◌-◌, ◌<◌}
use mathlib.Core.Path.{◌≡◌, refl, ap, sym, ◌∙◌, subst}
use mathlib.Core.List.{List}
use mathlib.Core.Bool.{Bool, true, false}
use native.Mathlib.Omega.{arith}
use lib.ListN.{length, take, drop}
use borrow.Author.Tests.{lt-ltb}
use Rattle.refusal.specs.Outcome.{accepted, refused, pick}
use Rattle.varint.specs.Number.{read_number}
use Rattle.catalogue.specs.Catalogue.{Kind, number, flag, cid, token, address, reserved, versions, places, place_of, kind_at}
use Rattle.catalogue.proofs.Places.{place_within}
use Rattle.marks.specs.Mark.{marked}
use Rattle.record.specs.Values.{value}
use Rattle.front.specs.declared.Fault.{Fault}
use Rattle.front.specs.declared.Parameter.{Parameter}
use Rattle.front.specs.Parameter.{saved, saved_head, read_parameter, located}
use Rattle.front.proofs.Position.{cut_out, located_front}
use Rattle.value.proofs.Checks.{number_at_lem, not_number_at}
use Rattle.tally.proofs.Turn.{head_at}
use Rattle.tally.specs.Tally.{restates, Fate, skipped, restated, kept, fate_of, saved_value, count_as, count_of, dropped}

pub none_adds : (w : List ℕ) (f : Fault) → refused f ≡ located w 0 → record { skipped = 0; restated = 0; saved = 0 } ≡ dropped (count_of w)
unfolding count_of
none_adds w f q =
    let e : read_parameter w ≡ refused f = located_front w 0 ∙ ap (cut_out w) (sym q) in
    rw e refl

-- a kind whose values hold no number saves nothing
no_number : (k : Kind) (v : List ℕ) → (k ≡ number → ⊥) → saved_value k v ≡ 0
unfolding saved_value
no_number number v n = absurd (n refl)
no_number flag v n = refl
no_number cid v n = refl
no_number token v n = refl
no_number address v n = refl
no_number reserved v n = refl
no_number versions v n = refl

module _ (w : List ℕ) (p : Parameter) (q : accepted p ≡ located w 0) where
  abbrev v : List ℕ
  v = take (p.end - p.start) (drop p.start w)

  is : read_parameter w ≡ accepted (p.id, v, drop p.end w)
  is = located_front w 0 ∙ ap (cut_out w) (sym q)

  head : saved_head w ≡ p.saved
  head = head_at w 0 p q

  adds : count_of w ≡ count_as (fate_of p.id v) p.id v w
  unfolding count_of
  adds = rw is refl

  becomes : (f : Fate) → fate_of p.id v ≡ f → dropped (count_as f p.id v w) ≡ dropped (count_of w)
  becomes f e = ap dropped (sym (subst (λ k. count_of w ≡ count_as k p.id v w) e adds))

  pub unknown_adds : place_of p.id ≡ places → record { skipped = length w; restated = 0; saved = 0 } ≡ dropped (count_of w)
  unknown_adds e = let f : fate_of p.id v ≡ skipped = unfold fate_of in rw e refl in becomes skipped f

  module _ (known : (place_of p.id ≡ places → ⊥)) where
    fate : (b : Bool) → restates (place_of p.id) (value (read_number v)) ≡ b → fate_of p.id v ≡ pick b restated kept
    unfolding fate_of
    fate b e =
        let l : place_of p.id < places = omega (arith, place_within p.id, known) in
        rw (lt-ltb (place_of p.id) places l, e) refl

    pub default_adds : restates (place_of p.id) (value (read_number v)) ≡ true → record { skipped = 0; restated = length w; saved = 0 } ≡ dropped (count_of w)
    default_adds e = becomes restated (fate true e)

    module _ (needed : restates (place_of p.id) (value (read_number v)) ≡ false) where
      pub number_adds : marked 0x1047ff (place_of p.id) ≡ true → record { skipped = 0; restated = 0; saved = p.saved + saved (read_number v) } ≡ dropped (count_of w)
      unfolding saved_value
      number_adds m =
          let k = number_at_lem (place_of p.id) m in
          let n : saved_value (kind_at (place_of p.id)) v ≡ saved (read_number v) = rw k refl in
          rw (← head, ← n) (becomes kept (fate false needed))

      pub other_adds : marked 0x1047ff (place_of p.id) ≡ false → record { skipped = 0; restated = 0; saved = p.saved } ≡ dropped (count_of w)
      other_adds m =
          let n : saved_value (kind_at (place_of p.id)) v ≡ 0 = no_number (kind_at (place_of p.id)) v (not_number_at (place_of p.id) m) in
          let t : saved_head w + 0 ≡ p.saved = omega (arith, head) in
          let a : record { skipped = 0; restated = 0; saved = saved_head w + saved_value (kind_at (place_of p.id)) v } ≡ dropped (count_of w) = becomes kept (fate false needed) in
          rw (n, t) at a
