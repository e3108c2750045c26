-- `image::image_to` meets its contract. Assumes nothing.
use borrow.Author.Rules.{rules}
use Rattle.image.specs.Image.{Sized}
use Rattle.image.proofs.Stores.{image_size, record_stored, room_front}
use Rattle.image.proofs.image_to.Goals as goal

pub returns : goal.returns
returns c =
    let sized : Sized c.args.r.now = search rules in
    let chunk = c.in-Some.ensures.cases in
    room_front _ _ _ 374 (image_size c.args.r.now sized) chunk.enough
    (rw chunk.same at (record_stored c.args.r.now sized _ _ _ _ _ _ c.put_front.ensures c.put_ids.ensures c.put_address.ensures c.put_rest.ensures c.put_versions.ensures))
