-- `writer::put_versions` meets its contract. Assumes nothing.
use Prim.Native.Nat.{ℕ, ◌+◌, ◌*◌, ◌≤◌}
use native.Mathlib.Omega.{arith}
use mathlib.Core.Path.{◌≡◌, ap, sym, ◌∙◌}
use mathlib.Core.Bool.{Bool}
use lib.ListN.{length, take}
use lib.Seq.{length-take-le}
use Rattle.catalogue.specs.Catalogue.{ids, id_at}
use Rattle.version_information.specs.VersionInformation.{versions_bytes}
use Rattle.version_information.proofs.Laws.{formed_facts, all_long, versions_front}
use Rattle.wire.specs.Wire.{put, due_value}
use Rattle.writer.proofs.put_versions.Goals.{After-size}
use Rattle.writer.proofs.put_versions.Goals as goal

-- the value is the front of the bytes
room : (c : After-size) → c.size.result ≤ length c.to_bytes-bytes.result
room c = rw c.to_bytes-bytes.ensures (omega (arith, all_long c.args.v.now c.requires, (formed_facts c.args.v.now c.requires).within, c.size.ensures))

value : (c : After-size) → take c.size.result c.to_bytes-bytes.result ≡ versions_bytes c.args.v.now
value c = rw (c.to_bytes-bytes.ensures, c.size.ensures) (versions_front c.args.v.now c.requires)

pub slice_bounds-bytes-end : goal.slice_bounds-bytes-end
slice_bounds-bytes-end c = room (goal.at.slice_bounds-bytes-end c).After-size

pub slice_bounds-put_value-end : goal.slice_bounds-put_value-end
slice_bounds-put_value-end c = sym (length-take-le _ _ (room (goal.at.slice_bounds-put_value-end c).After-size))

pub returns : goal.returns
unfolding id_at ids
returns c =
    let p = rw (value (goal.at.returns c).After-size) at c.put_value.ensures in
    p ∙ ap (λ (b : Bool). put (due_value b (id_at 21) (versions_bytes c.args.v.now)) c.args.out.now) (sym c.if-not-v.false)
