-- Writing a record that was built. Assumes nothing.
--     built_written    it stores its parameters in the order handed in, or the buffer is too short
--     built_accepted   so it refuses by no other number than 5
use Prim.Native.Nat.{ℕ}
use mathlib.Core.Path.{◌≡◌, ap, sym, ◌∙◌}
use mathlib.Core.List.{List}
use mathlib.Core.Bool.{Bool, true, false}
use lib.ListN.{length}
use lib.Dec.{leb}
use Rattle.refusal.specs.Outcome.{Outcome, accepted, refused, pick, front, store}
use Rattle.connection_id.specs.declared.ConnectionId.{ConnectionId}
use Rattle.record.specs.declared.TransportParameters.{TransportParameters}
use Rattle.writer.specs.Writing.{order_of, extension, write}
use Rattle.building.specs.declared.Settings.{Settings}
use Rattle.building.specs.Building.{drawn_order, build}
use Rattle.building.specs.BuildingLaws.{Sound}
use Rattle.building.proofs.Theorems.{built_sound}

module _ (s : Settings) (cid : ConnectionId) (draw : ℕ) (payload order : List ℕ) (r : TransportParameters) (h : build s cid draw payload order ≡ accepted r) where
  is_sound : Sound order r
  is_sound = built_sound s cid draw payload order r h

  in_its_order : order_of r.write_order ≡ order
  unfolding order_of drawn_order
  in_its_order = rw is_sound.order_kept

  pub built_written : (out : List ℕ) → write r out ≡ store (extension r order) out
  unfolding write
  built_written out = rw (is_sound.formed, in_its_order, is_sound.ordered)

  pub built_accepted : (out : List ℕ) (n : ℕ) → (write r out).0 ≡ refused n → n ≡ 5
  unfolding store
  built_accepted out n e = go (leb (length (extension r order)) (length out)) (sym (ap (λ (w : Outcome ℕ × List ℕ). w.0) (built_written out)) ∙ e)
    where
      go : (t : Bool) → (pick {A = Outcome ℕ × List ℕ} t (accepted (length (extension r order)), front (extension r order) out) (refused 5, out)).0 ≡ refused n → n ≡ 5
      go true k = cc
      go false k = cc
