-- What the functions of the C interface answer and leave behind their pointers, by the definitions
-- of the operations. A code is 0 or the number of a refusal, and a refused call leaves everything
-- as it was.
use Rattle.std.specs.Prelude.{ℕ, List, not, length, get_or, replicate, eqb}
use Rattle.std.proofs.Math.Option.{Option, none, some}
use Rattle.refusal.specs.Outcome.{Outcome, accepted, refused, pick, and_then, store}
use Rattle.refusal.specs.Answer.{value_or}
use Rattle.varint.specs.Number.{size_number, read_number, write_number}
use Rattle.varint.specs.declared.Decoded.{Decoded}
use Rattle.connection_id.specs.declared.ConnectionId.{ConnectionId}
use Rattle.connection_id.specs.ConnectionId.{read_cid, write_cid}
use Rattle.record.specs.declared.TransportParameters.{TransportParameters}
use Rattle.std.specs.Prelude.{None, Some}
use Rattle.rules.specs.declared.Side.{Side}
use Rattle.rules.specs.declared.Side.TheVariants.{Client, Server}
use Rattle.record.specs.Record.{default_record}
use Rattle.order.specs.Order.{permutation, order_fault}
use Rattle.tidy.specs.Tidying.{tidy}
use Rattle.tally.specs.declared.Counts.{Counts}
use Rattle.report.specs.Report.{report}
use Rattle.building.specs.declared.Settings.{Settings}
use Rattle.building.specs.Building.{settings_fit, build}
use Rattle.resumption.specs.Resumption.{issue_limit}
use Rattle.image.specs.Image.{record_from, cid_image, cid_from}
use Rattle.by_image.specs.ByImage.{given, record_store, image_read, image_check, image_write, image_length, image_resume, seen_from, image_authenticate}

-- 0 is a client, anything else a server
abbrev pub side_of : ℕ → Side
side_of n = pick (eqb n 0) Client Server

abbrev pub code : {A : Type 0} → Outcome A → ℕ
code (accepted a) = 0
code (refused e) = e

-- the code and the buffer
abbrev pub coded : Outcome ℕ × List ℕ → ℕ × List ℕ
coded w = (code w.0, w.1)

-- a count as it stands afterwards
abbrev pub count_in : Outcome ℕ → ℕ → ℕ
count_in (accepted k) n = k
count_in (refused e) n = n

-- the code and the count
abbrev pub count_code : Outcome ℕ → ℕ → ℕ × ℕ
count_code o n = (code o, count_in o n)

-- the code, the buffer and the count
abbrev pub counted : Outcome ℕ × List ℕ → ℕ → ℕ × List ℕ × ℕ
counted w n = (code w.0, w.1, count_in w.0 n)

-- a stored result that counts k
abbrev pub counting : ℕ → Outcome ℕ → Outcome ℕ
counting k (accepted n) = accepted k
counting k (refused e) = refused e

-- NUMBERS
abbrev pub number_size : ℕ → ℕ → ℕ × ℕ
number_size v n = count_code (size_number v) n

abbrev pub number_into : Outcome Decoded → ℕ → ℕ → ℕ → ℕ × ℕ × ℕ × ℕ
number_into (accepted a) v n k = (0, a.value, a.count, a.saved)
number_into (refused e) v n k = (e, v, n, k)

abbrev pub number_read : List ℕ → ℕ → ℕ → ℕ → ℕ × ℕ × ℕ × ℕ
number_read src v n k = number_into (read_number src) v n k

abbrev pub number_write : ℕ → List ℕ → ℕ → ℕ × List ℕ × ℕ
number_write v out n = counted (write_number v out) n

-- CONNECTION IDs. The image of an ID, and the byte count of what was read
abbrev pub cid_store : ConnectionId × ℕ → List ℕ → Outcome ℕ × List ℕ
cid_store a out = (counting a.1 (store (cid_image a.0) out).0, (store (cid_image a.0) out).1)

abbrev pub cid_read : List ℕ → List ℕ → ℕ → ℕ × List ℕ × ℕ
cid_read src cid n = counted (given (read_cid src) cid_store cid) n

abbrev pub cid_write : List ℕ → List ℕ → ℕ → ℕ × List ℕ × ℕ
cid_write cid out n = counted (given (cid_from cid) write_cid out) n

-- RECORDS
abbrev pub record_default : List ℕ → ℕ × List ℕ
record_default image = coded (record_store default_record image)

abbrev pub record_check : List ℕ → ℕ → ℕ
record_check image side = code (image_check image (side_of side))

abbrev pub record_read : ℕ → List ℕ → List ℕ → ℕ × List ℕ
record_read side src image = coded (image_read (side_of side) src image)

abbrev pub order_check : List ℕ → ℕ
order_check order = pick (permutation order) 0 6

-- 6 and the position of the first fault; 0, and the position as it was, if nothing is wrong
abbrev pub position_into : Option ℕ → ℕ → ℕ × ℕ
position_into (some k) n = (6, k)
position_into none n = (0, n)

abbrev pub order_position : List ℕ → ℕ → ℕ × ℕ
order_position order position = position_into (order_fault order) position

abbrev pub record_write : List ℕ → List ℕ → ℕ → ℕ × List ℕ × ℕ
record_write image out n = counted (image_write image out) n

abbrev pub record_length : List ℕ → ℕ → ℕ × ℕ
record_length image n = count_code (image_length image) n

abbrev pub tidied : ℕ → List ℕ → List ℕ → ℕ → ℕ × List ℕ × ℕ
tidied side src out n = counted (tidy (side_of side) src out) n

-- the code, and the five counts
abbrev pub reported : ℕ → List ℕ → Counts → ℕ × Counts
reported side src c = (code (report (side_of side) src), value_or c (report (side_of side) src))

-- BUILDING. The settings in the order of the header: an idle timeout of 0 is none, and so is a
-- buffer size without its flag
abbrev pub settings_from : List ℕ → Settings
settings_from s =
    record {
      max_concurrent_bidi_streams = get_or s 0 0;
      max_concurrent_uni_streams = get_or s 1 0;
      receive_window = get_or s 2 0;
      stream_receive_window = get_or s 3 0;
      max_idle_timeout = pick (eqb (get_or s 4 0) 0) None (Some (get_or s 4 0));
      max_udp_payload_size = get_or s 5 0;
      grease_quic_bit = not (eqb (get_or s 6 0) 0);
      datagram_receive_buffer_size = pick (eqb (get_or s 7 0) 0) None (Some (get_or s 8 0));
      cid_len = get_or s 9 0;
      side = side_of (get_or s 10 0);
      migration = not (eqb (get_or s 11 0) 0);
    }

-- 4 for a setting comes before 7 for the image of the connection ID
unfoldable pub build_from : Settings → Outcome ConnectionId → ℕ → List ℕ → List ℕ → Outcome TransportParameters
build_from s o draw payload order = pick (settings_fit s) (and_then o λ c. build s c draw payload order) (refused 4)

-- the ID, or an ill-formed one
abbrev pub id_or : Outcome ConnectionId → ConnectionId
id_or (accepted c) = c
id_or (refused e) = record { len = 21; bytes = replicate 20 0 }

unfoldable pub new_record : List ℕ → List ℕ → ℕ → List ℕ → List ℕ → Outcome TransportParameters
new_record settings cid draw payload order =
    pick (eqb (length settings) 12) (build_from (settings_from settings) (cid_from cid) draw payload order) (refused 7)

abbrev pub record_new : List ℕ → List ℕ → ℕ → List ℕ → List ℕ → List ℕ → ℕ × List ℕ
record_new settings cid draw payload order image = coded (given (new_record settings cid draw payload order) record_store image)

-- RESUMPTION
abbrev pub resume_check : List ℕ → List ℕ → ℕ
resume_check image cached = code (image_resume image cached)

abbrev pub limit_into : Outcome TransportParameters → ℕ → ℕ × ℕ
limit_into (accepted r) n = (0, issue_limit r)
limit_into (refused e) n = (e, n)

abbrev pub limit_read : List ℕ → ℕ → ℕ × ℕ
limit_read image limit = limit_into (record_from image) limit

-- WHO IS AT THE OTHER END. 0 is no Retry, anything else one
abbrev pub ids_check : ℕ → List ℕ → List ℕ → List ℕ → ℕ → List ℕ → ℕ
ids_check side image initial original retry_seen retry =
    code (image_authenticate (side_of side) image (seen_from initial original (not (eqb retry_seen 0)) retry))
