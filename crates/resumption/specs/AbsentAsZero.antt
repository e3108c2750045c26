-- For resumption a max_datagram_frame_size that is absent and one of 0 are the same (RFC 9221
-- section 3): on either side, everything else equal. They stay two records.
use Rattle.std.specs.Prelude.{ℕ, ◌≡◌}
use Rattle.refusal.specs.Outcome.{accepted}
use Rattle.record.specs.declared.TransportParameters.{TransportParameters}
use Rattle.record.specs.Optional.{OptionalNumber}
use Rattle.std.specs.Prelude.{None, Some}
use Rattle.record.specs.Record.{having, bare}
use Rattle.resumption.specs.Resumption.{resume}

-- a record with this datagram size, and all else as it is
unfoldable pub sized : OptionalNumber → TransportParameters → TransportParameters
sized size r = having size r.grease_transport_parameter r.write_order r

pub record AbsentAsZero : Type 0 where
  -- the answer is the same, a refusal too
  pub as_new :
      (new cached : TransportParameters)
      → resume (sized None new) cached ≡ resume (sized (Some 0) new) cached
  pub as_cached :
      (new cached : TransportParameters)
      → resume new (sized None cached) ≡ resume new (sized (Some 0) cached)
  -- and no more than that: from a positive size an absent one is not resumed to
  pub only_from_zero :
      (new cached : TransportParameters) (x : ℕ)
      → resume (sized None new) (sized (Some x) cached) ≡ accepted tt → x ≡ 0
  -- record equality tells them apart
  pub apart : (r s : TransportParameters) → bare (sized None r) ≡ bare (sized (Some 0) s) → ⊥
