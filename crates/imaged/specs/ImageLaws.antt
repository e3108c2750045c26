-- Laws of images: what was stored as one is read back from it.
use Rattle.std.specs.Prelude.{◌≡◌, true, length}
use Rattle.refusal.specs.Outcome.{accepted}
use Rattle.connection_id.specs.declared.ConnectionId.{ConnectionId}
use Rattle.record.specs.declared.TransportParameters.{TransportParameters}
use Rattle.record.specs.Record.{well_formed}
use Rattle.image.specs.Image.{image_of, record_from, cid_image, cid_from}

pub record ImageLaws : Type 0 where
  -- a well-formed record's image has 374 bytes, and gives it back
  pub size : (r : TransportParameters) → well_formed r ≡ true → length (image_of r) ≡ 374
  pub back :
      (r : TransportParameters) → well_formed r ≡ true → record_from (image_of r) ≡ accepted r
  -- so does that of a connection ID, well formed or not
  pub cid_from_image :
      (c : ConnectionId) → length c.bytes ≡ 20 → cid_from (cid_image c) ≡ accepted c
