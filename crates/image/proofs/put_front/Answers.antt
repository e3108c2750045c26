-- `image::put_front` meets its contract. Assumes nothing.
use native.Mathlib.Omega.{arith}
use Rattle.image.specs.Image.{optional_parts, front_parts}
use Rattle.image.proofs.Stores.{byte, put, group, last, laid, flag_stored}
use Rattle.image.proofs.put_front.Goals as goal

pub returns : goal.returns
unfolding front_parts
returns c =
    let r = c.args.r.now in
    laid c.args.out.now 0 (front_parts r)
    (put {k = 88} c.put_numbers.ensures.stored (omega arith)
    (byte (flag_stored r.disable_active_migration c.from.ensures)
    (byte (flag_stored r.grease_quic_bit c.from-2.ensures)
    (group {k = 99} (optional_parts r.max_datagram_frame_size) c.put_optional.ensures.stored (omega arith)
    (last {ps = optional_parts r.min_ack_delay} c.put_optional-2.ensures.stored)))))
