-- `maps_forward::store_weight` meets its contract. Assumes nothing.
use Rattle.std.proofs.Common.{arith, rules}
use Rattle.maps_forward.specs.LoopLaws.{fan-word, fan_in, weight_in_lem, store_weight_is}
use Rattle.maps_forward.proofs.store_weight.Goals as goal

pub origin-u-requires : goal.origin-u-requires
origin-u-requires c = let P = c.requires in fan-word P.0.1.readable P.0.2 _ P.1

pub overflow_sub-w : goal.overflow_sub-w
overflow_sub-w c = omega (arith, weight_in_lem c.requires.0.2)

pub bounds-coordinates-u : goal.bounds-coordinates-u
bounds-coordinates-u c =
    let P = c.requires in
    omega (arith, fan_in P.0.1.readable P.0.2 _ P.1 _ c.origin-u.ensures.is, P.0.1.coordinates)

pub returns : goal.returns
returns c = search (rules, store_weight_is)
