-- `writer::Draft::catalogue` meets its contract: one part after another. Assumes nothing.
use native.Mathlib.Omega.{arith}
use Rattle.writer.proofs.Laid.{room_front, room_then, room_next}
use Rattle.writer.proofs.Places.{formed, room_all, room_21, laid_21, whole_catalogue}
use Rattle.writer.proofs.Draft.catalogue.Goals as goal

pub numbers-a-requires : goal.numbers-a-requires
numbers-a-requires c =
    let l = c.args.self.now in
    room_front _ _ _ _ _ (room_all _ c.requires.0 0 l.starts l.parts c.requires.1)

pub places_11_to_15-b-requires : goal.places_11_to_15-b-requires
places_11_to_15-b-requires c =
    let l = c.args.self.now in
    (c.requires.0, room_front _ _ _ _ _ (room_then _ _ 1 0 _ l.parts l.starts _ _ (room_all _ c.requires.0 0 l.starts l.parts c.requires.1) c.numbers-a.ensures))

pub places_16_to_20-c-requires : goal.places_16_to_20-c-requires
places_16_to_20-c-requires c =
    let l = c.args.self.now in
    let b = room_then _ _ 1 0 _ l.parts l.starts _ _ (room_all _ c.requires.0 0 l.starts l.parts c.requires.1) c.numbers-a.ensures in
    (c.requires.0, room_front _ _ _ _ _ (room_then _ _ 12 _ _ _ _ _ _ b c.places_11_to_15-b.ensures))

pub versions-requires : goal.versions-requires
versions-requires c =
    let l = c.args.self.now in
    let b = room_then _ _ 1 0 _ l.parts l.starts _ _ (room_all _ c.requires.0 0 l.starts l.parts c.requires.1) c.numbers-a.ensures in
    let d = room_then _ _ 17 _ _ _ _ _ _ (room_then _ _ 12 _ _ _ _ _ _ b c.places_11_to_15-b.ensures) c.places_16_to_20-c.ensures in
    ((formed _ c.requires.0).versions, room_next (room_21 _ c.requires.0 _ _ _ d) 21 (omega arith))

pub returns : goal.returns
returns c =
    let l = c.args.self.now in
    whole_catalogue c.args.r.now c.requires.0 _ _ _ _ 0 l.parts l.starts _ _ _ _ _ _ _ _ c.numbers-a.ensures c.places_11_to_15-b.ensures c.places_16_to_20-c.ensures
    (laid_21 _ c.requires.0 22 _ _ _ c.versions.ensures)
