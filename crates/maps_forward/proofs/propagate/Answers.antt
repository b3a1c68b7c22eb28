-- `maps_forward::propagate` meets its contract, from that of `add`. Assumes nothing.
use Rattle.std.proofs.Common.{arith}
use Rattle.maps_forward.specs.LoopLaws.{tip-word, tip_in, right_in, b1_room, b0_room, propagate-made}
use Rattle.maps_forward.proofs.propagate.Goals as goal

pub tip-l-requires : goal.tip-l-requires
tip-l-requires c =
    let P = c.requires in
    tip-word P.0.1 P.0.3 _ c.left_dart-left.ensures.is

pub add-requires : goal.add-requires
add-requires c =
    let P = c.requires in
    let l = tip_in P.0.1 P.0.3 _ c.left_dart-left.ensures.is _ c.tip-l.ensures.is in
    (omega (arith, P.0.2), omega (arith, P.0.2), search b1_room)

pub add-requires-2 : goal.add-requires-2
add-requires-2 c =
    let P = c.requires in
    let r = right_in P.0.1 P.0.3 _ _ c.right_dart-right.ensures.is c.origin-r.ensures.is in
    (omega (arith, P.0.2), omega (arith, P.0.2), search b0_room)

pub returns : goal.returns
returns c = search propagate-made
