-- `writer::Draft::places_16_to_20` meets its contract: one place after another. Assumes nothing.
use borrow.Author.Rules.{rules}
use native.Mathlib.Omega.{arith}
use Rattle.catalogue.specs.Catalogue.{ids, id_at}
use Rattle.writer.proofs.Laid.{room_step, room_next, laid_step}
use Rattle.writer.proofs.Places.{formed, room_16, laid_16}
use Rattle.writer.proofs.Draft.places_16_to_20.Goals as goal

pub cid-a-requires : goal.cid-a-requires
cid-a-requires c = let k = formed _ c.requires.0 in (search rules, room_next (room_16 _ c.requires.0 _ _ _ c.requires.1) 16 (omega arith))

pub cid-b-requires : goal.cid-b-requires
unfolding id_at ids
cid-b-requires c = let k = formed _ c.requires.0 in (search rules, room_next (room_step 17 (room_16 _ c.requires.0 _ _ _ c.requires.1) c.cid-a.ensures) 17 (omega arith))

pub cid-c-requires : goal.cid-c-requires
unfolding id_at ids
cid-c-requires c = let k = formed _ c.requires.0 in (search rules, room_next (room_step 18 (room_step 17 (room_16 _ c.requires.0 _ _ _ c.requires.1) c.cid-a.ensures) c.cid-b.ensures) 18 (omega arith))

pub flag-d-requires : goal.flag-d-requires
unfolding id_at ids
flag-d-requires c = room_next (room_step 19 (room_step 18 (room_step 17 (room_16 _ c.requires.0 _ _ _ c.requires.1) c.cid-a.ensures) c.cid-b.ensures) c.cid-c.ensures) 19 (omega arith)

pub number-requires : goal.number-requires
unfolding id_at ids
number-requires c = room_next (room_step 20 (room_step 19 (room_step 18 (room_step 17 (room_16 _ c.requires.0 _ _ _ c.requires.1) c.cid-a.ensures) c.cid-b.ensures) c.cid-c.ensures) c.flag-d.ensures) 20 (omega arith)

pub returns : goal.returns
unfolding id_at ids
returns c = laid_16 _ c.requires.0 17 _ _ _ (laid_step _ _ 17 _ _ _ c.cid-a.ensures (laid_step _ _ 18 _ _ _ c.cid-b.ensures (laid_step _ _ 19 _ _ _ c.cid-c.ensures (laid_step _ _ 20 _ _ _ c.flag-d.ensures c.number.ensures))))
