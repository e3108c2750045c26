-- What may be missing. Of a number 0 is not the same as absent; the rest is marked by a flag.
use Rattle.std.specs.Prelude.{ℕ, Option}
use Rattle.connection_id.specs.declared.ConnectionId.{ConnectionId}
use Rattle.record.specs.declared.Optional.{Optional}
use Rattle.record.specs.declared.ResetToken.{ResetToken}
use Rattle.record.specs.declared.SocketAddr.{SocketAddr}

abbrev pub OptionalNumber : Type 0
OptionalNumber = Option ℕ

abbrev pub OptionalConnectionId : Type 0
OptionalConnectionId = Optional ConnectionId

abbrev pub OptionalResetToken : Type 0
OptionalResetToken = Optional ResetToken

-- the addresses of the two families
abbrev pub SocketAddrV4 : Type 0
SocketAddrV4 = SocketAddr 4

abbrev pub SocketAddrV6 : Type 0
SocketAddrV6 = SocketAddr 16
