-- The worked examples (a) to (n), some lengths, second copies, other orders, faults of an order,
-- datagram sizes, kinds of fault, the handshakes of RFC 9000 section 7.3, some reports and version
-- information: for each a side, an operation, its input and the outcome. The definitions are those
-- that the contracts of reading, tidying, writing, the length, the report, the first fault of an
-- order, resumption and the connection ID check cite.
use Rattle.std.specs.Prelude.{ℕ, ◌+◌, ◌-◌, ◌≡◌, List, [], ◌∷◌, ◌++◌, Bool, true, false, length, replicate, take}
use Rattle.std.proofs.Math.Option.{Option, none, some}
use Rattle.refusal.specs.Outcome.{Outcome, accepted, refused, and_then}
use Rattle.varint.specs.Number.{bound}
use Rattle.connection_id.specs.declared.ConnectionId.{ConnectionId}
use Rattle.connection_id.specs.ConnectionId.{cid_of}
use Rattle.version_information.specs.declared.VersionInformation.{VersionInformation}
use Rattle.version_information.specs.VersionInformation.{no_versions}
use Rattle.record.specs.declared.TransportParameters.{TransportParameters}
use Rattle.record.specs.Optional.{OptionalNumber, OptionalConnectionId}
use Rattle.std.specs.Prelude.{None, Some}
use Rattle.record.specs.declared.WriteOrder.{WriteOrder}
use Rattle.rules.specs.declared.Side.{Side}
use Rattle.rules.specs.declared.Side.TheVariants.{Client, Server}
use Rattle.record.specs.Values.{no_reserved, no_order, token_of, to_v4, to_v6}
use Rattle.record.specs.Record.{default_record}
use Rattle.reader.specs.Reading.{read}
use Rattle.writer.specs.Writing.{write, length_of}
use Rattle.order.specs.Order.{order_fault}
use Rattle.tidy.specs.Tidying.{tidy}
use Rattle.tally.specs.declared.Counts.{Counts}
use Rattle.report.specs.Report.{report}
use Rattle.resumption.specs.Resumption.{resume}
use Rattle.resumption.specs.AbsentAsZero.{sized}
use Rattle.authentication.specs.declared.SeenConnectionIds.{SeenConnectionIds}
use Rattle.authentication.specs.Authentication.{authenticate_cids}

pub data Example : Type 0 where
  -- an extension that a side reads
  reading : Side → List ℕ → Outcome TransportParameters → Example
  -- an extension that a side tidies, and the bytes stored
  tidying : Side → List ℕ → List ℕ → Example
  -- a record that is written, and the bytes stored
  writing : TransportParameters → List ℕ → Example
  -- the length of a record
  measuring : TransportParameters → Outcome ℕ → Example
  -- an order, and the position of its first fault
  ordering : List ℕ → Option ℕ → Example
  -- a record that is resumed to, and the one remembered
  resuming : TransportParameters → TransportParameters → Outcome (Unit {0}) → Example
  -- an extension that a side reports on
  reporting : Side → List ℕ → Outcome Counts → Example
  -- an extension that a side reads, and the IDs that packets carried
  authenticating : Side → List ℕ → SeenConnectionIds → Outcome (Unit {0}) → Example

-- what an example states. The buffers of tidying and writing are exactly long enough
abbrev pub Holds : Example → Type 0
Holds (reading s e o) = read s e ≡ o
Holds (tidying s e t) = tidy s e (replicate (length t) 0) ≡ (accepted (length t), t)
Holds (writing r t) = write r (replicate (length t) 0) ≡ (accepted (length t), t)
Holds (measuring r o) = length_of r ≡ o
Holds (ordering os o) = order_fault os ≡ o
Holds (resuming new cached o) = resume new cached ≡ o
Holds (reporting s e o) = report s e ≡ o
Holds (authenticating s e seen o) = and_then (read s e) (λ r. authenticate_cids s r seen) ≡ o

abbrev pub Each : List Example → Type 0
Each [] = Unit {0}
Each (x ∷ xs) = Holds x × Each xs

-- the counts of a report: tidied, unknown, restated, saved, and parameters named
abbrev pub goes : ℕ → ℕ → ℕ → ℕ → ℕ → Counts
goes a b c d n = record { tidied = a; skipped = b; restated = c; saved = d; named = n }

-- a record with these numbers, original_dst_cid empty or absent, grease_quic_bit, min_ack_delay,
-- version information and order, and nothing else
unfoldable pub with :
    List ℕ → Bool → Bool → OptionalNumber → VersionInformation → WriteOrder → TransportParameters
with numbers original grease delay versions order =
    record {
      numbers = numbers;
      disable_active_migration = false;
      max_datagram_frame_size = None;
      initial_src_cid = record { present = false; value = cid_of [] };
      grease_quic_bit = grease;
      min_ack_delay = delay;
      original_dst_cid = record { present = original; value = cid_of [] };
      retry_src_cid = record { present = false; value = cid_of [] };
      stateless_reset_token = record { present = false; value = token_of (replicate 16 0) };
      preferred_address =
          record {
            present = false;
            address_v4 = to_v4 (false, replicate 4 0, 0);
            address_v6 = to_v6 (false, replicate 16 0, 0);
            connection_id = cid_of [];
            stateless_reset_token = token_of (replicate 16 0);
          };
      version_information = versions;
      grease_transport_parameter = no_reserved;
      write_order = order;
    }

-- idle timeout, payload size and ack delay; the other numbers at their defaults
abbrev pub numbers : ℕ → ℕ → ℕ → List ℕ
numbers idle payload delay = idle ∷ payload ∷ 0 ∷ 0 ∷ 0 ∷ 0 ∷ 0 ∷ 0 ∷ 3 ∷ delay ∷ 2 ∷ []

abbrev pub plain : List ℕ → TransportParameters
plain ns = with ns false false None no_versions no_order

-- the default record with a datagram size
abbrev pub datagrams : OptionalNumber → TransportParameters
datagrams size = sized size default_record

abbrev pub reversed : WriteOrder
reversed =
    record {
      present = true;
      places =
          21 ∷ 20 ∷ 19 ∷ 18 ∷ 17 ∷ 16 ∷ 15 ∷ 14 ∷ 13 ∷ 12 ∷ 11 ∷ 10 ∷ 9 ∷ 8 ∷ 7 ∷ 6 ∷ 5 ∷ 4 ∷ 3
          ∷ 2 ∷ 1 ∷ 0 ∷ [];
    }

-- every place the first
abbrev pub nowhere : WriteOrder
nowhere = record { present = true; places = replicate 22 0 }

-- min_ack_delay of a byte; a preferred address, with families of this byte, an ID of n bytes and so
-- many left over
abbrev pub delayed : ℕ → List ℕ
delayed x = 0xc0 ∷ 0x00 ∷ 0x00 ∷ 0x00 ∷ 0xff ∷ 0x04 ∷ 0xde ∷ 0x1b ∷ 0x01 ∷ x ∷ []

abbrev pub addressed : ℕ → ℕ → ℕ → List ℕ
addressed x n left =
    0x0d ∷ (41 + n + left) ∷ (replicate 24 x ++ (n ∷ replicate (n + 16 + left) 0xbb))

-- the parameter of (b), an unknown one whose identifier and length are longer than needed, and
-- grease_quic_bit
abbrev pub idle : List ℕ
idle = 0x01 ∷ 0x04 ∷ 0x80 ∷ 0x00 ∷ 0x75 ∷ 0x30 ∷ []

abbrev pub unknown : List ℕ
unknown = 0x40 ∷ 0x1b ∷ 0x40 ∷ 0x01 ∷ 0xaa ∷ []

abbrev pub grease : List ℕ
grease = 0x6a ∷ 0xb2 ∷ 0x00 ∷ []

-- the IDs of RFC 9000 section 7.3: C1 of the client, S1 its choice for the server, S2 of the Retry,
-- S3 of the server
abbrev pub c1 : List ℕ
c1 = replicate 8 0xc1

abbrev pub s1 : List ℕ
s1 = replicate 8 0xd1

abbrev pub s2 : List ℕ
s2 = replicate 8 0xd2

abbrev pub s3 : List ℕ
s3 = replicate 8 0xd3

-- a parameter of an ID: original_dst_cid is 0x00, initial_src_cid 0x0f, retry_src_cid 0x10
abbrev pub says : ℕ → List ℕ → List ℕ
says id v = id ∷ length v ∷ v

-- versions on the wire, and version information with a chosen version and available ones:
-- version_information is 0x11
abbrev pub v1 : List ℕ
v1 = 0x00 ∷ 0x00 ∷ 0x00 ∷ 0x01 ∷ []

abbrev pub v2 : List ℕ
v2 = 0x6b ∷ 0x33 ∷ 0x43 ∷ 0xcf ∷ []

abbrev pub reserved_version : List ℕ
reserved_version = 0xba ∷ 0xda ∷ 0x7a ∷ 0xba ∷ []

abbrev pub zero_version : List ℕ
zero_version = replicate 4 0x00

abbrev pub offering : ℕ → List ℕ → VersionInformation
offering chosen available =
    record {
      present = true;
      available_len = length available;
      chosen = chosen;
      available = available ++ replicate (16 - length available) 0;
    }

abbrev pub informed : VersionInformation → TransportParameters
informed versions = with (numbers 0 65527 25) false false None versions no_order

abbrev pub no_retry : OptionalConnectionId
no_retry = record { present = false; value = cid_of [] }

abbrev pub retry : List ℕ → OptionalConnectionId
retry v = record { present = true; value = cid_of v }

abbrev pub seen : List ℕ → List ℕ → OptionalConnectionId → SeenConnectionIds
seen initial original retried =
    record {
      initial_src_cid = cid_of initial;
      original_dst_cid = cid_of original;
      retry_src_cid = retried;
    }

abbrev pub too_long : ConnectionId
too_long = record { len = 21; bytes = replicate 20 0 }

-- with an ID of 21 bytes
abbrev pub over_long : SeenConnectionIds
over_long =
    record {
      initial_src_cid = cid_of c1;
      original_dst_cid = too_long;
      retry_src_cid = no_retry;
    }

-- sixteen versions, and a count
abbrev pub counted : ℕ → VersionInformation
counted n = record { present = true; available_len = n; chosen = 1; available = replicate 16 1 }

unfoldable pub examples : List Example
examples =
    -- (a) nothing: the default record
    reading Client [] (accepted default_record)
    ∷  -- (b) a max_idle_timeout of 30 seconds
    reading Client (0x01 ∷ 0x04 ∷ 0x80 ∷ 0x00 ∷ 0x75 ∷ 0x30 ∷ [])
    (accepted (plain (numbers 30000 65527 25)))
    ∷  -- (c) the largest max_ack_delay, 2 ^ 14 - 1 milliseconds
    reading Client (0x0b ∷ 0x02 ∷ 0x7f ∷ 0xff ∷ []) (accepted (plain (numbers 0 65527 16383)))
    ∷  -- (d) one of 2 ^ 14
    reading Client (0x0b ∷ 0x04 ∷ 0x80 ∷ 0x00 ∷ 0x40 ∷ 0x00 ∷ []) (refused 2)
    ∷  -- (e) an active_connection_id_limit of 2, the default
    tidying Client (0x0e ∷ 0x01 ∷ 0x02 ∷ []) []
    ∷  -- (f) one of 1
    reading Client (0x0e ∷ 0x01 ∷ 0x01 ∷ []) (refused 2)
    ∷  -- (g) the least max_udp_payload_size, 1200
    reading Client (0x03 ∷ 0x02 ∷ 0x44 ∷ 0xb0 ∷ []) (accepted (plain (numbers 0 1200 25)))
    ∷  -- (h) one of 1199
    reading Client (0x03 ∷ 0x02 ∷ 0x44 ∷ 0xaf ∷ []) (refused 2)
    ∷  -- (i) a second copy
    reading Client (0x01 ∷ 0x01 ∷ 0x05 ∷ 0x01 ∷ 0x01 ∷ 0x05 ∷ []) (refused 12)
    ∷  -- (j) a byte left over
    reading Client (0x01 ∷ 0x02 ∷ 0x05 ∷ 0x00 ∷ []) (refused 11)
    ∷  -- (k) an unknown parameter
    reading Client (0x1b ∷ 0x03 ∷ 0xaa ∷ 0xbb ∷ 0xcc ∷ []) (accepted default_record)
    ∷  -- (l) an empty original_dst_cid, for either side
    reading Client (0x00 ∷ 0x00 ∷ [])
    (accepted (with (numbers 0 65527 25) true false None no_versions no_order))
    ∷ reading Server (0x00 ∷ 0x00 ∷ []) (refused 2)
    ∷  -- (m) a min_ack_delay of 25 milliseconds, which is max_ack_delay; one of a microsecond more
    reading Client
    (0xc0 ∷ 0x00 ∷ 0x00 ∷ 0x00 ∷ 0xff ∷ 0x04 ∷ 0xde ∷ 0x1b ∷ 0x04 ∷ 0x80 ∷ 0x00 ∷ 0x61 ∷ 0xa8 ∷ [])
    (accepted (with (numbers 0 65527 25) false false (Some 25000) no_versions no_order))
    ∷ reading Client
    (0xc0 ∷ 0x00 ∷ 0x00 ∷ 0x00 ∷ 0xff ∷ 0x04 ∷ 0xde ∷ 0x1b ∷ 0x04 ∷ 0x80 ∷ 0x00 ∷ 0x61 ∷ 0xa9 ∷ [])
    (refused 2)
    ∷  -- (n) grease_quic_bit and max_idle_timeout, written in an order of their own
    writing (with (numbers 30000 65527 25) false true None no_versions reversed)
    (0x6a ∷ 0xb2 ∷ 0x00 ∷ 0x01 ∷ 0x04 ∷ 0x80 ∷ 0x00 ∷ 0x75 ∷ 0x30 ∷ [])
    ∷  -- and its length, in that order, before one is drawn and with one that is no permutation; a
    -- default; a number of 2 ^ 62
    measuring (with (numbers 30000 65527 25) false true None no_versions reversed) (accepted 9)
    ∷ measuring (with (numbers 30000 65527 25) false true None no_versions no_order) (accepted 9)
    ∷ measuring (with (numbers 30000 65527 25) false true None no_versions nowhere) (accepted 9)
    ∷ measuring default_record (accepted 0)
    ∷ measuring (plain (numbers bound 65527 25)) (refused 7)
    ∷  -- second copies: grease_quic_bit, min_ack_delay, and a preferred address that would be 2 by
    -- itself; unknown ones are skipped
    reading Client (grease ++ grease) (refused 12)
    ∷ reading Client (delayed 5 ++ delayed 6) (refused 12)
    ∷ reading Client (addressed 1 1 0 ++ addressed 0 1 0) (refused 12)
    ∷ reading Client (addressed 0 1 0) (refused 2)
    ∷ reading Client (0x1b ∷ 0x00 ∷ 0x1b ∷ 0x00 ∷ []) (accepted default_record)
    ∷  -- other orders: (b), an unknown parameter in a longer form and grease_quic_bit
    reading Client (idle ++ (unknown ++ grease))
    (accepted (with (numbers 30000 65527 25) false true None no_versions no_order))
    ∷ reading Client (grease ++ (idle ++ unknown))
    (accepted (with (numbers 30000 65527 25) false true None no_versions no_order))
    ∷  -- faults of an order: a repeat; an entry out of range before one; nothing there; an entry
    -- missing; none; one too many
    ordering (3 ∷ 1 ∷ 4 ∷ 1 ∷ 5 ∷ []) (some 3)
    ∷ ordering (7 ∷ 22 ∷ 7 ∷ []) (some 1)
    ∷ ordering [] (some 0)
    ∷ ordering (take 21 reversed.places) (some 21)
    ∷ ordering reversed.places none
    ∷ ordering (reversed.places ++ (0 ∷ [])) (some 22)
    ∷  -- datagram sizes: for resumption absent is 0, and less than 1; reading and writing tell it
    -- from 0
    resuming (datagrams None) (datagrams (Some 0)) (accepted tt)
    ∷ resuming (datagrams (Some 0)) (datagrams None) (accepted tt)
    ∷ resuming (datagrams None) (datagrams (Some 1)) (refused 8)
    ∷ reading Client (0x20 ∷ 0x01 ∷ 0x00 ∷ []) (accepted (datagrams (Some 0)))
    ∷ writing (datagrams (Some 0)) (0x20 ∷ 0x01 ∷ 0x00 ∷ [])
    ∷ writing (datagrams None) []
    ∷  -- kinds of fault. The cut: an identifier and a length that can't be read, a length one
    -- beyond what is left, that of a second copy too; behind a value that a rule forbids
    reading Client (0x40 ∷ []) (refused 10)
    ∷ reading Client (0x01 ∷ 0x40 ∷ []) (refused 10)
    ∷ reading Client (0x01 ∷ 0x02 ∷ 0x05 ∷ []) (refused 10)
    ∷ reading Client (0x01 ∷ 0x01 ∷ 0x05 ∷ 0x01 ∷ 0x02 ∷ 0x05 ∷ []) (refused 10)
    ∷ reading Client (0x0a ∷ 0x01 ∷ 0x15 ∷ 0x01 ∷ []) (refused 10)
    ∷  -- a second copy whose value does not fit
    reading Client (0x01 ∷ 0x01 ∷ 0x05 ∷ 0x01 ∷ 0x02 ∷ 0x05 ∷ 0x00 ∷ []) (refused 12)
    ∷  -- IDs of 21 bytes; an address with a byte left over, and one that has no family besides
    reading Client (0x0f ∷ 0x15 ∷ replicate 21 0xaa) (refused 11)
    ∷ reading Client (addressed 1 21 0) (refused 11)
    ∷ reading Client (addressed 1 1 1) (refused 11)
    ∷ reading Client (addressed 0 1 1) (refused 2)
    ∷  -- who is at the other end. The handshakes of figures 7 and 8, without Retry and with one:
    -- either side accepts the other
    authenticating Server (says 0x0f c1) (seen c1 s1 no_retry) (accepted tt)
    ∷ authenticating Client (says 0x00 s1 ++ says 0x0f s3) (seen s3 s1 no_retry) (accepted tt)
    ∷ authenticating Server (says 0x0f c1) (seen c1 s1 (retry s2)) (accepted tt)
    ∷ authenticating Client (says 0x00 s1 ++ (says 0x0f s3 ++ says 0x10 s2)) (seen s3 s1 (retry s2))
    (accepted tt)
    ∷  -- a Retry that the server does not know of; none, and the server knows of one; another Retry
    -- than the server's
    authenticating Client (says 0x00 s1 ++ says 0x0f s3) (seen s3 s1 (retry s2)) (refused 13)
    ∷ authenticating Client (says 0x00 s1 ++ (says 0x0f s3 ++ says 0x10 s2)) (seen s3 s1 no_retry)
    (refused 14)
    ∷ authenticating Client (says 0x00 s1 ++ (says 0x0f s3 ++ says 0x10 s2)) (seen s3 s1 (retry s3))
    (refused 14)
    ∷  -- another peer; another first packet; no ID at all, which reading accepts; an absence before
    -- a mismatch; IDs of equal bytes and zeros
    authenticating Server (says 0x0f c1) (seen s2 s1 no_retry) (refused 14)
    ∷ authenticating Client (says 0x00 s2 ++ says 0x0f s3) (seen s3 s1 no_retry) (refused 14)
    ∷ authenticating Server [] (seen c1 s1 no_retry) (refused 13)
    ∷ authenticating Client (says 0x0f s2) (seen s3 s1 no_retry) (refused 13)
    ∷ authenticating Server (says 0x0f (7 ∷ 0 ∷ [])) (seen (7 ∷ []) s1 no_retry) (refused 14)
    ∷  -- an ID of over 20 bytes that a server does not look at
    authenticating Server (says 0x0f c1) over_long (refused 7)
    ∷  -- where the bytes go: nothing; an unknown parameter; a default; an identifier, a length and
    -- a number in two bytes each; such a default, which is counted whole; an unknown one behind
    -- (b); a second copy
    reporting Client [] (accepted (goes 0 0 0 0 0))
    ∷ reporting Client (0x1b ∷ 0x03 ∷ 0xaa ∷ 0xbb ∷ 0xcc ∷ []) (accepted (goes 0 5 0 0 0))
    ∷ reporting Client (0x0e ∷ 0x01 ∷ 0x02 ∷ []) (accepted (goes 0 0 3 0 1))
    ∷ reporting Client (0x40 ∷ 0x01 ∷ 0x40 ∷ 0x02 ∷ 0x40 ∷ 0x05 ∷ []) (accepted (goes 3 0 0 3 1))
    ∷ reporting Client (0x40 ∷ 0x0a ∷ 0x40 ∷ 0x02 ∷ 0x40 ∷ 0x03 ∷ []) (accepted (goes 0 0 6 0 1))
    ∷ reporting Client (idle ++ (unknown ++ grease)) (accepted (goes 9 (length unknown) 0 0 2))
    ∷ reporting Client (0x01 ∷ 0x01 ∷ 0x05 ∷ 0x01 ∷ 0x01 ∷ 0x05 ∷ []) (refused 12)
    ∷  -- version information: what Chromium sends; a chosen version that is not available, which a
    -- client takes; no available ones
    reading Server (says 0x11 (v1 ++ (v1 ++ reserved_version)))
    (accepted (informed (offering 1 (1 ∷ 0xbada7aba ∷ []))))
    ∷ reading Server (says 0x11 (v1 ++ v2)) (refused 2)
    ∷ reading Client (says 0x11 (v1 ++ v2)) (accepted (informed (offering 1 (0x6b3343cf ∷ []))))
    ∷ reading Server (says 0x11 v1) (refused 2)
    ∷ reading Client (says 0x11 v1) (accepted (informed (offering 1 [])))
    ∷  -- a version of 0, chosen or available; the same before a cut, which is found first
    reading Client (says 0x11 zero_version) (refused 2)
    ∷ reading Client (says 0x11 (v1 ++ zero_version)) (refused 2)
    ∷ reading Client (says 0x11 zero_version ++ (0x01 ∷ [])) (refused 10)
    ∷  -- no version; a byte too many; 17 available ones; two copies
    reading Client (says 0x11 []) (refused 11)
    ∷ reading Client (says 0x11 (v1 ++ (0x00 ∷ []))) (refused 11)
    ∷ reading Client (0x11 ∷ 0x40 ∷ 0x48 ∷ replicate 72 0xaa) (refused 11)
    ∷ reading Client (says 0x11 v1 ++ says 0x11 v1) (refused 12)
    ∷  -- 16 available ones: 68 bytes behind a length of two; 15: 64 bytes; 14: 60, and a length of
    -- one
    reading Client (0x11 ∷ 0x40 ∷ 0x44 ∷ replicate 68 0x01)
    (accepted (informed (offering 0x01010101 (replicate 16 0x01010101))))
    ∷ writing (informed (offering 0x01010101 (replicate 16 0x01010101)))
    (0x11 ∷ 0x40 ∷ 0x44 ∷ replicate 68 0x01)
    ∷ measuring (informed (offering 1 (replicate 15 1))) (accepted 67)
    ∷ measuring (informed (offering 1 (replicate 14 1))) (accepted 62)
    ∷  -- a count of 17; a version in an entry that is not used
    measuring (informed (counted 17)) (refused 7)
    ∷ measuring (informed (counted 15)) (refused 7)
    ∷  -- in longer forms, tidied; and where the bytes go
    tidying Client (0x40 ∷ 0x11 ∷ 0x40 ∷ 0x04 ∷ v1) (says 0x11 v1)
    ∷ reporting Client (0x40 ∷ 0x11 ∷ 0x40 ∷ 0x04 ∷ v1) (accepted (goes 6 0 0 2 1))
    ∷ []
