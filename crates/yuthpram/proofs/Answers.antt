-- What the code answers at each `return`, as the definitions have it. Assumes nothing.
--     count_kept     the count that an answer leaves
--     other_count    so many settings as building doesn't take
--     built          building, on an ill-formed ID in place of none
use Prim.Native.Nat.{ℕ}
use mathlib.Core.Path.{◌≡◌, refl}
use mathlib.Core.List.{List}
use mathlib.Core.Bool.{Bool, true, false}
use lib.ListN.{length}
use lib.Dec.{eqb}
use borrow.Author.Tests.{eq-eqb, ne_eqb}
use Rattle.refusal.specs.Answer.{value_or}
use Rattle.refusal.specs.Outcome.{Outcome, accepted, refused, pick, all}
use Rattle.refusal.proofs.Laws.{pick_cases}
use Rattle.connection_id.specs.declared.ConnectionId.{ConnectionId}
use Rattle.connection_id.specs.ConnectionId.{formed_cid}
use Rattle.building.specs.declared.Settings.{Settings}
use Rattle.building.specs.Building.{settings_fit, build}
use Rattle.image.specs.Image.{cid_from}
use Rattle.yuthpram.specs.Interface.{count_in, settings_from, build_from, id_or, new_record}

-- THE COUNT
pub count_kept : (o : Outcome ℕ) (n : ℕ) → value_or n o ≡ count_in o n
count_kept (accepted k) n = refl
count_kept (refused e) n = refl

-- BUILDING
twice : {A : Type 0} (t : Bool) (a b : A) → pick t a b ≡ pick t (pick t a b) b
twice true a b = refl
twice false a b = refl

build_or : (s : Settings) (cid : List ℕ) (draw : ℕ) (payload order : List ℕ)
    → build s (id_or (cid_from cid)) draw payload order ≡ build_from s (cid_from cid) draw payload order
unfolding build build_from cid_from formed_cid all
build_or s cid draw payload order =
    pick_cases (λ (o : Outcome ConnectionId). build s (id_or o) draw payload order ≡ build_from s o draw payload order) (eqb (length cid) 21) _ _
    (λ h. twice (settings_fit s) _ _) (λ h. refl)

pub other_count : (settings cid : List ℕ) (draw : ℕ) (payload order : List ℕ) → (length settings ≡ 12 → ⊥)
    → new_record settings cid draw payload order ≡ refused 7
unfolding new_record
other_count settings cid draw payload order h = rw (ne_eqb (length settings) 12 h)

-- what is built of the settings and the ID that the code made of its input
pub built : (settings cid : List ℕ) (draw : ℕ) (payload order : List ℕ) → length settings ≡ 12 → (s : Settings) (c : ConnectionId)
    → s ≡ settings_from settings → c ≡ id_or (cid_from cid) → build s c draw payload order ≡ new_record settings cid draw payload order
unfolding new_record
built settings cid draw payload order l s c es ec =
    rw (eq-eqb (length settings) 12 l, es, ec) (build_or (settings_from settings) cid draw payload order)
