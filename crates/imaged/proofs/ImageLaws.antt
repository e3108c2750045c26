-- Laws of images, proved. Assumes nothing.
use Rattle.imaged.specs.ImageLaws.{ImageLaws}
use Rattle.imaged.proofs.Back.{size, back, cid_from_image}

pub image_laws : ImageLaws
image_laws = record { size = size; back = back; cid_from_image = cid_from_image }
