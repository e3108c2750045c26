-- `writer::Draft::places_11_to_15` meets its contract: one place after another. Assumes nothing.
use native.Mathlib.Omega.{arith}
use Rattle.catalogue.specs.Catalogue.{ids, id_at}
use Rattle.writer.proofs.Laid.{room_step, room_next, laid_step}
use Rattle.writer.proofs.Places.{formed, room_11, laid_11}
use Rattle.writer.proofs.Draft.places_11_to_15.Goals as goal

pub reserved-a-requires : goal.reserved-a-requires
reserved-a-requires c = ((formed _ c.requires.0).reserved, room_next (room_11 _ c.requires.0 _ _ _ c.requires.1) 11 (omega arith))

pub token-b-requires : goal.token-b-requires
token-b-requires c = room_next (room_step 12 (room_11 _ c.requires.0 _ _ _ c.requires.1) c.reserved-a.ensures) 12 (omega arith)

pub flag-c-requires : goal.flag-c-requires
unfolding id_at ids
flag-c-requires c = room_next (room_step 13 (room_step 12 (room_11 _ c.requires.0 _ _ _ c.requires.1) c.reserved-a.ensures) c.token-b.ensures) 13 (omega arith)

pub number-d-requires : goal.number-d-requires
unfolding id_at ids
number-d-requires c = room_next (room_step 14 (room_step 13 (room_step 12 (room_11 _ c.requires.0 _ _ _ c.requires.1) c.reserved-a.ensures) c.token-b.ensures) c.flag-c.ensures) 14 (omega arith)

pub preferred-requires : goal.preferred-requires
unfolding id_at ids
preferred-requires c = ((formed _ c.requires.0).address, room_next (room_step 15 (room_step 14 (room_step 13 (room_step 12 (room_11 _ c.requires.0 _ _ _ c.requires.1) c.reserved-a.ensures) c.token-b.ensures) c.flag-c.ensures) c.number-d.ensures) 15 (omega arith))

pub returns : goal.returns
unfolding id_at ids
returns c = laid_11 _ c.requires.0 12 _ _ _ (laid_step _ _ 12 _ _ _ c.reserved-a.ensures (laid_step _ _ 13 _ _ _ c.token-b.ensures (laid_step _ _ 14 _ _ _ c.flag-c.ensures (laid_step _ _ 15 _ _ _ c.number-d.ensures c.preferred.ensures))))
