-- `maps_forward::accumulate` meets its contract, from those of `keep_and_store` and `hand_on`. Assumes nothing.
use Rattle.std.proofs.Common.{arith}
use Rattle.maps_forward.specs.LoopLaws.{prev-word, prev_in, right_in, left_room, right_room, accumulate-made}
use Rattle.maps_forward.proofs.accumulate.Goals as goal

pub origin-u-requires : goal.origin-u-requires
origin-u-requires c =
    let P = c.requires in
    prev-word P.0.1.readable P.0.2 _ c.left_dart-left.ensures.is _ c.prev_dart.ensures

pub hand_on-requires : goal.hand_on-requires
hand_on-requires c =
    let P = c.requires in
    let el = c.left_dart-left.ensures.is in let er = c.right_dart-right.ensures.is in let eq = c.prev_dart.ensures in
    let eu = c.origin-u.ensures.is in let eo = c.origin-r.ensures.is in let e₁ = c.keep_and_store.ensures in
    let u = prev_in P.0.1.readable P.0.2 _ el _ _ eq eu in
    let r = right_in P.0.1.readable P.0.2 _ _ er eo in (
      omega arith,
      omega arith,
      omega arith,
      left_room _ _ _ _ _ _ _ _ el er eq eu eo _ _ e₁ P.1,
      right_room _ _ _ _ _ _ _ _ el er eq eu eo _ _ e₁ P.1,
    )

pub returns : goal.returns
returns c = search accumulate-made
