-- What is counted of an extension that a side accepts, and that one pass counts it. Assumes
-- nothing.
--     counted_whole     its parameters are those that it is made of
--     complete          the four counts make its length
--     places_named      the known ones are the places that have a value
--     marks_named       which are the marks set
--     is_report         so that the pass gives the report
use Prim.Native.Nat.{ℕ, ◌+◌, ◌≤◌, ◌<◌}
use mathlib.Core.Path.{◌≡◌, refl, ap, sym, ◌∙◌, subst}
use mathlib.Core.List.{List, [], ◌∷◌, ◌++◌}
use mathlib.Core.Bool.{Bool, true, false}
use native.Mathlib.Omega.{arith}
use lib.ListN.{length, length-append}
use lib.Seq.{take-append_seam, drop-append_seam}
use lib.Dec.{ltb}
use lib.Count.{ones}
use Rattle.refusal.specs.Outcome.{Result, accepted, refused, pick}
use Rattle.refusal.specs.Number.{number_of}
use Rattle.refusal.proofs.Laws.{inverted, declined, picked}
use Rattle.marks.specs.Mark.{marked}
use Rattle.catalogue.specs.Catalogue.{places, place_of, kind_at}
use Rattle.catalogue.proofs.Sums.{sum_eq}
use Rattle.record.specs.declared.TransportParameters.{TransportParameters}
use Rattle.record.specs.Values.{Bytes, Values, no_values, is_some}
use Rattle.record.proofs.Bytes.{bytes_drop, bytes_take}
use Rattle.record.proofs.KindLaws.{Fits}
use Rattle.rules.specs.declared.Side.{Side}
use Rattle.front.specs.declared.Fault.{Fault}
use Rattle.front.specs.declared.Fault.TheVariants.{Illegal}
use Rattle.front.specs.Answer.{refused_with}
use Rattle.front.specs.Whole.{Whole, Wholes, Composed, concat, parameters}
use Rattle.front.proofs.Parts.{parameters_concat}
use Rattle.tally.specs.declared.Sums.{Sums}
use Rattle.varint.specs.Number.{read_number}
use Rattle.record.specs.Values.{value}
use Rattle.tally.specs.Tally.{restates, skipped, restated, kept, count_as, count_of, fate_of, counts, dropped}
use Rattle.index.specs.Index.{Found, nothing, index_from, kept_rules, indexed, counted, Sound}
use Rattle.reader.specs.Reading.{step, parse, read}
use Rattle.reader.specs.Kept.{record_kept}
use Rattle.reader.proofs.Agree.{Agrees, Related, related}
use Rattle.reader.proofs.Indexed.{read_recorded, read_faulty}
use Rattle.reader.proofs.Laws.{accepts, whole}
use Rattle.reader.proofs.Run.{parse_whole, stepped}
use Rattle.reader.proofs.Sized.{sized}
use Rattle.report.specs.Report.{report}
use Rattle.report.specs.Accounts.{named}
use Rattle.report.proofs.One.{total, account}
use Rattle.report.proofs.Gains.{gain, read_gains}
use Rattle.report.proofs.Marked.{ones_marked}

-- ITS PARAMETERS
pub these : (e : List ℕ) (d : Composed e) → parameters e ≡ d.ws
these e d = rw (← d.is) (parameters_concat d.ws d.each)

pub counted_whole : (s : Side) (e : List ℕ) (r : TransportParameters) → read s e ≡ accepted r → Wholes (parameters e) × (concat (parameters e) ≡ e)
counted_whole s e r k =
    let d = whole s e r k in
    let q = these e d in
    (subst Wholes (sym q) d.each, ap concat q ∙ d.is)

-- TOGETHER THEY MAKE ITS LENGTH
bytes_front : (w cs : List ℕ) → Bytes (w ++ cs) → Bytes w
bytes_front w cs h = rw (take-append_seam w cs) at (bytes_take (length w) (w ++ cs) h)

bytes_behind : (w cs : List ℕ) → Bytes (w ++ cs) → Bytes cs
bytes_behind w cs h = rw (drop-append_seam w cs) at (bytes_drop (length w) (w ++ cs) h)

stepped_fits : (l k : Values) (id : ℕ) (v : List ℕ) → Bytes v → step l id v ≡ accepted k → place_of id < places → Fits (kind_at (place_of id)) v
stepped_fits l k id v hb e h = stepped l k id v e (λ n q. absurd (omega arith)) λ p n x f q. record { legal = x; fit = f; bytes = hb }

add_up : (ws : List (List ℕ)) (h : Wholes ws) → Bytes (concat ws) → (l m : Values) → parse l (concat ws) ≡ accepted m → total (counts ws) ≡ length (concat ws)
unfolding counts
add_up [] h hb l m e = refl
add_up (w ∷ ws) h hb l m e =
    let ih = add_up ws h.1 (bytes_behind w (concat ws) hb) in
    let b = bytes_front w (concat ws) hb in
    let v = sized w (h.0.id, h.0.v, []) b h.0.is in
    inverted (step l h.0.id h.0.v) _ m (sym (parse_whole l w (concat ws) h.0.id h.0.v h.0.is) ∙ e) λ n ne nf.
    simp length-append (omega (arith, ih n m nf, account w h.0 b (stepped_fits l n h.0.id h.0.v v.value_bytes ne)))

pub complete : (s : Side) (e : List ℕ) (r : TransportParameters) → Bytes e → read s e ≡ accepted r → total (counts (parameters e)) ≡ length e
complete s e r hb k =
    let a = accepts s e r k in
    let w = counted_whole s e r k in
    add_up (parameters e) w.0 (subst Bytes (sym w.1) hb) no_values a.values (ap (parse no_values) w.1 ∙ a.was) ∙ ap length w.1

-- THE PLACES NAMED
known_gain : (w : List ℕ) (h : Whole w) → (count_of w).named ≡ gain (λ p o. pick (is_some o) 1 0) h.id h.v
unfolding count_of gain fate_of
known_gain w h = rw h.is (go (ltb (place_of h.id) places) (restates (place_of h.id) (value (read_number h.v))))
  where
    go : (b c : Bool) → (count_as (pick b (pick c restated kept) skipped) h.id h.v w).named ≡ pick b 1 0
    go false c = refl
    go true true = refl
    go true false = refl

pub places_named : (s : Side) (e : List ℕ) (r : TransportParameters) (l : Values) → read s e ≡ accepted r → parse no_values e ≡ accepted l → (counts (parameters e)).named ≡ named l
unfolding counts named
places_named s e r l k p =
    let w = counted_whole s e r k in
    read_gains (λ p o. pick (is_some o) 1 0) (λ p. refl) (λ w. (count_of w).named) known_gain (parameters e) w.0 l (ap (parse no_values) w.1 ∙ p)

-- THE PASS
met_named : (s : List ℕ) (f : Found) (l : Values) → Sound s f → Agrees s f l → ones f.0 ≡ named l
unfolding named
met_named s f l i g =
    ones_marked places f.0 i.marks
    ∙ sum_eq places (λ p. pick (marked f.0 p) 1 0) (λ p. pick (is_some (l p)) 1 0) (λ p h. rw (g.met p))

pub marks_named : (s : Side) (e : List ℕ) (f : Found) → indexed s e ≡ accepted f → ones f.0 ≡ (counts (parameters e)).named
unfolding indexed
marks_named s e f h =
    inverted (index_from e 0 nothing) _ f h λ g ge gf.
    picked (kept_rules s e g) g f Illegal gf λ t q.
    go (index_from e 0 nothing) (parse no_values e) (related e) (ge ∙ ap accepted q) refl
  where
    go : (o : Result Fault Found) (q : Result Fault Values) → Related e o q → o ≡ accepted f → parse no_values e ≡ q → ones f.0 ≡ (counts (parameters e)).named
    go (accepted g) (accepted l) r h' k =
        let z : g ≡ f = cc in
        rw (← z) (met_named e g l r.0 r.1) ∙ sym (places_named s e (record_kept e f) l (read_recorded s e f h) k)
    go (accepted g) (refused x) r h' k = absurd r
    go (refused y) (accepted l) r h' k = absurd r
    go (refused y) (refused x) r h' k = cc

module _ (s : Side) (e : List ℕ) where
  pub refused_report : (x : Fault) → refused x ≡ counted s e → refused (number_of (refused_with x)) ≡ report s e
  unfolding counted report
  refused_report x h = declined (indexed s e) _ x (sym h) (λ r. rw (read_faulty s e x r)) λ f fe ff. cc

  module _ (hb : Bytes e) (m : ℕ) (d : Sums) (h : accepted (m, d) ≡ counted s e) where
    pub record Passed : Type 0 where
      pub found : Found
      pub was : indexed s e ≡ accepted found
      pub marks : found.0 ≡ m
      pub sums : dropped (counts (parameters e)) ≡ d

    pub passed : Passed
    unfolding counted
    passed = inverted (indexed s e) _ (m, d) (sym h) λ f fe ff.
        let q : ◌≡◌ {A = ℕ × Sums} (f.0, dropped (counts (parameters e))) (m, d) = cc in
        record { found = f; was = fe; marks = ap (λ (j : ℕ × Sums). j.0) q; sums = ap (λ (j : ℕ × Sums). j.1) q }

    pub taken : d.skipped + d.restated + d.saved ≤ length e
    taken = let p = passed in rw (← p.sums) (omega (arith, complete s e (record_kept e p.found) hb (read_recorded s e p.found p.was)))

    -- whatever the code makes of them: what is left of the length, and the ones of the mask
    pub is_report : (t a b v n : ℕ) → t + (d.skipped + d.restated + d.saved) ≡ length e → a ≡ d.skipped → b ≡ d.restated → v ≡ d.saved → n ≡ ones m
        → accepted (record { tidied = t; skipped = a; restated = b; saved = v; named = n }) ≡ report s e
    unfolding report
    is_report t a b v n x ea eb ev y =
        let p = passed in
        let k = read_recorded s e p.found p.was in
        let c = complete s e (record_kept e p.found) hb k in
        let z : t + ((counts (parameters e)).skipped + (counts (parameters e)).restated + (counts (parameters e)).saved) ≡ length e = rw (← p.sums) at x in
        let l : t ≡ (counts (parameters e)).tidied = omega (arith, c, z) in
        let o : n ≡ (counts (parameters e)).named = y ∙ rw (← p.marks) (marks_named s e p.found p.was) in
        rw (ea, eb, ev, k, l, o, ← p.sums) refl
