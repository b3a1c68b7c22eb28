-- `maps_forward::write_coordinates` meets its contract: each call asks what the theory of the trace gives, and together they leave what the definition gives.
-- Assumes nothing.
use Rattle.std.proofs.Common.{arith}
use Rattle.maps_forward.specs.LoopLaws.{all_readable, all_around, corner_in, asks_accumulate, asks_propagate, asks_thirds, all_written}
use Rattle.maps_forward.proofs.write_coordinates.Goals as goal

pub accumulate_all-requires : goal.accumulate_all-requires
accumulate_all-requires c =
    let p = c.requires in
    asks_accumulate p.0.2 _ p.1 p.2 c.args.coordinates.now p.3 _ c.clear.ensures
    (omega (arith, c.clear.auto))

pub place_corners-requires : goal.place_corners-requires
place_corners-requires c =
    let p = c.requires in
    let i = corner_in p.0.2 _ p.1 p.2 c.args.coordinates.now p.3 in
    (omega (arith, p.3, i.0, c.origin-v0.ensures.is), omega (arith, p.3, i.1, c.origin-v1.ensures.is))

pub propagate_all-requires : goal.propagate_all-requires
propagate_all-requires c =
    let p = c.requires in let bs = c.args.coordinates.now in (
      all_readable p.0.2 _ p.1 p.2 bs p.3,
      omega (arith, p.3),
      all_around p.0.2 _ p.1 p.2 bs p.3,
      asks_propagate p.0.2 _ p.1 p.2 bs p.3 _ c.clear.ensures _ _ _ _ c.origin-v0.ensures.is c.origin-v1.ensures.is
          c.accumulate_all.ensures c.place_corners.ensures,
    )

pub write_thirds-requires : goal.write_thirds-requires
write_thirds-requires c =
    let p = c.requires in
    asks_thirds p.0.2 _ p.1 p.2 c.args.coordinates.now p.3 _ c.clear.ensures _ _ _ _ c.origin-v0.ensures.is
    c.origin-v1.ensures.is c.accumulate_all.ensures c.place_corners.ensures _ c.propagate_all.ensures

pub returns : goal.returns
returns c = search all_written
